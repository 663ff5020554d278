-- `questions::read_question` meets its contract.
use mathlib.Core.List.{List}
use Prim.Native.Nat.{ℕ}
use mathlib.Core.Path.{ap, ◌∙◌}
use Rattle.layout.specs.Layout.{reading}
use Rattle.sheet.specs.Verdict.{verdict}
use Rattle.lines.specs.Lines.{verdict_line}
use Rattle.text.specs.Ascii.{ascii}
use Rattle.questions.specs.Questions.{read_reply, bytes_at}
use Rattle.questions.proofs.Asking.{bytes_at_lem, complains, answers}
use Rattle.questions.proofs.read_question.Goals as goal

pub returns-in-Err : goal.returns-in-Err
unfolding read_reply
returns-in-Err c = complains (ascii "b") c.args.line.now (verdict_line (verdict (reading (bytes_at c.args.line.now 1)))) c.in-Err.wrong c.in-Err.ensures c.complaint_line.ensures

pub returns : goal.returns
unfolding read_reply
returns c = let l = c.args.line.now in
    let s = bytes_at_lem l 1 c.decode-n.ensures c.word.ensures.word in
    answers (ascii "b") c.args.line.now (verdict_line (verdict (reading (bytes_at c.args.line.now 1)))) c.in_default.ensures
    (ap verdict_line (c.read.ensures ∙ ap (λ (x : List ℕ). verdict (reading x)) s))
    c.verdict_line.ensures
