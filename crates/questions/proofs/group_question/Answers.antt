-- `questions::group_question` meets its contract.
use mathlib.Core.List.{List}
use Prim.Native.Nat.{ℕ}
use mathlib.Core.Path.{ap, ◌∙◌}
use Rattle.words.specs.Words.{number_of}
use Rattle.group.specs.Grouping.{grouping}
use Rattle.lines.specs.Lines.{grouping_line}
use Rattle.text.specs.Ascii.{ascii}
use Rattle.questions.specs.Questions.{group_reply, bytes_at, number_at}
use Rattle.questions.proofs.Asking.{bytes_at_lem, complains, answers}
use Rattle.questions.proofs.group_question.Goals as goal

pub returns-in-Err : goal.returns-in-Err
unfolding group_reply
returns-in-Err c =
    let l = c.args.line.now in
    complains (ascii "bn") l (grouping_line (grouping (bytes_at l 1) (number_at l 2))) c.in-Err.wrong c.in-Err.ensures
    c.complaint_line.ensures

pub returns : goal.returns
unfolding group_reply
returns c =
    let l = c.args.line.now in
    let s = bytes_at_lem l 1 c.decode-n.ensures c.word.ensures.word in
    let e = c.number-e.ensures ∙ ap number_of c.word-2.ensures.word in
    answers (ascii "bn") l (grouping_line (grouping (bytes_at l 1) (number_at l 2))) c.in_default.ensures
    (ap grouping_line (c.group.ensures ∙ ap (λ (x : List ℕ). grouping x c.number-e.result) s ∙ ap (grouping (bytes_at l 1)) e))
    c.grouping_line.ensures
