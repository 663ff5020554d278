-- `filings::fitted_question` meets its contract.
use mathlib.Core.Path.{ap, ap₂, ◌∙◌}
use mathlib.Core.List.{List}
use Prim.Native.Nat.{ℕ}
use Rattle.text.specs.Ascii.{ascii}
use Rattle.words.specs.Words.{number_of}
use Rattle.fitted.specs.Filing.{outcome}
use Rattle.questions.specs.Questions.{bytes_at, number_at}
use Rattle.questions.proofs.Asking.{bytes_at_lem, complains, answers}
use Rattle.filings.specs.Filings.{fitted_line, fitted_reply}
use Rattle.filings.proofs.fitted_question.Goals as goal

-- what fitted answers to the words of the line
abbrev answered : List ℕ → List ℕ
answered l = fitted_line (outcome (bytes_at l 1) (number_at l 2))

pub returns-in-Err : goal.returns-in-Err
unfolding fitted_reply
returns-in-Err c =
    let l = c.args.line.now in
    complains (ascii "bn") l (answered l) c.in-Err.wrong c.in-Err.ensures c.complaint_line.ensures

pub returns : goal.returns
unfolding fitted_reply
returns c =
    let l = c.args.line.now in
    let sheet = bytes_at_lem l 1 c.decode-n.ensures c.word.ensures.word in
    let room = c.number-room.ensures ∙ ap number_of c.word-2.ensures.word in
    answers (ascii "bn") l (answered l) c.in_default.ensures
    (ap fitted_line (ap₂ outcome sheet room))
    c.fitted_with.ensures
