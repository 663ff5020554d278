-- `sizings::sizes_question` meets its contract.
use Prim.Native.Nat.{ℕ}
use mathlib.Core.Path.{ap, ap₂, ◌∙◌}
use mathlib.Core.List.{List}
use Rattle.text.specs.Ascii.{ascii}
use Rattle.words.specs.Words.{number_of}
use Rattle.sizes.specs.Sizing.{outcome}
use Rattle.questions.specs.Questions.{bytes_at, number_at}
use Rattle.questions.proofs.Asking.{bytes_at_lem, complains, answers}
use Rattle.sizings.specs.Sizings.{sizes_line, sizes_reply}
use Rattle.sizings.proofs.sizes_question.Goals as goal

-- the answer to the line where its words are not wrong
abbrev answered : List ℕ → List ℕ
answered l = sizes_line (outcome (bytes_at l 1) (number_at l 2))

pub returns-in-Err : goal.returns-in-Err
unfolding sizes_reply
returns-in-Err c =
    let l = c.args.line.now in
    complains (ascii "bn") l (answered l) c.in-Err.wrong c.in-Err.ensures c.complaint_line.ensures

pub returns : goal.returns
unfolding sizes_reply
returns c =
    let l = c.args.line.now in
    let s = bytes_at_lem l 1 c.decode-n.ensures c.word.ensures.word in
    let room = c.number-room.ensures ∙ ap number_of c.word-2.ensures.word in
    answers (ascii "bn") l (answered l) c.in_default.ensures
    (ap sizes_line (ap₂ outcome s room))
    c.sizes_with.ensures
