-- `findings::findat_question` meets its contract.
use Prim.Native.Nat.{ℕ}
use mathlib.Core.Path.{ap, ap₂, ◌∙◌}
use mathlib.Core.List.{List}
use Rattle.text.specs.Ascii.{ascii}
use Rattle.words.specs.Words.{number_of}
use Rattle.find_at.specs.FindAt.{outcome_at}
use Rattle.questions.specs.Questions.{bytes_at, number_at}
use Rattle.questions.proofs.Asking.{bytes_at_lem, complains, answers}
use Rattle.findings.specs.Findings.{find_line, findat_reply}
use Rattle.findings.proofs.findat_question.Goals as goal

-- the answer to the line where its words are not wrong
abbrev answered : List ℕ → List ℕ
answered l = find_line (outcome_at (bytes_at l 1) (bytes_at l 2) (number_at l 3) (number_at l 4))

pub returns-in-Err : goal.returns-in-Err
unfolding findat_reply
returns-in-Err c =
    let l = c.args.line.now in
    complains (ascii "bbnn") l (answered l) c.in-Err.wrong c.in-Err.ensures c.complaint_line.ensures

pub returns : goal.returns
unfolding findat_reply
returns c =
    let l = c.args.line.now in
    let s = bytes_at_lem l 1 c.decode-n.ensures c.word.ensures.word in
    let z = bytes_at_lem l 2 c.decode-m.ensures c.word-2.ensures.word in
    let codes = c.number-codes.ensures ∙ ap number_of c.word-3.ensures.word in
    let tables = c.number-tables.ensures ∙ ap number_of c.word-4.ensures.word in
    answers (ascii "bbnn") l (answered l) c.in_default.ensures
    (ap find_line
    (ap₂ (λ (x y : List ℕ). outcome_at x y c.number-codes.result c.number-tables.result) s z
    ∙ ap₂ (outcome_at (bytes_at l 1) (bytes_at l 2)) codes tables))
    c.findat_with.ensures
