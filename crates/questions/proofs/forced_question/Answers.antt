-- `questions::forced_question` meets its contract.
use mathlib.Core.List.{List}
use Prim.Native.Nat.{ℕ}
use mathlib.Core.Path.{ap, ap₂, ◌∙◌}
use Rattle.words.specs.Words.{number_of}
use Rattle.forced.specs.Forcing.{forcing}
use Rattle.lines.specs.Lines.{forcing_line}
use Rattle.text.specs.Ascii.{ascii}
use Rattle.questions.specs.Questions.{forced_reply, bytes_at, number_at}
use Rattle.questions.proofs.Asking.{bytes_at_lem, complains, answers}
use Rattle.questions.proofs.forced_question.Goals as goal

pub returns-in-Err : goal.returns-in-Err
unfolding forced_reply
returns-in-Err c = complains (ascii "bnn") c.args.line.now (forcing_line (forcing (bytes_at c.args.line.now 1) (number_at c.args.line.now 2) (number_at c.args.line.now 3))) c.in-Err.wrong c.in-Err.ensures c.complaint_line.ensures

pub returns : goal.returns
unfolding forced_reply
returns c = let l = c.args.line.now in
    let s = bytes_at_lem l 1 c.decode-n.ensures c.word.ensures.word in
    let a = c.number-a.ensures ∙ ap number_of c.word-2.ensures.word in
    let b = c.number-b.ensures ∙ ap number_of c.word-3.ensures.word in
    answers (ascii "bnn") c.args.line.now (forcing_line (forcing (bytes_at c.args.line.now 1) (number_at c.args.line.now 2) (number_at c.args.line.now 3))) c.in_default.ensures
    (ap forcing_line (c.forced.ensures ∙ ap (λ (x : List ℕ). forcing x c.number-a.result c.number-b.result) s ∙ ap₂ (forcing (bytes_at l 1)) a b))
    c.forcing_line.ensures
