-- `questions::table_question` meets its contract.
use mathlib.Core.List.{List}
use Prim.Native.Nat.{ℕ}
use mathlib.Core.Path.{ap, ap₂, ◌∙◌}
use Rattle.words.specs.Words.{number_of}
use Rattle.judge.specs.Judge.{table_of}
use Rattle.text.specs.Ascii.{ascii}
use Rattle.questions.specs.Questions.{table_reply, bytes_at, number_at, stretch_reply}
use Rattle.questions.proofs.Asking.{bytes_at_lem, complains, answers, stretch_shown}
use Rattle.questions.proofs.table_question.Goals as goal

pub returns-in-Err : goal.returns-in-Err
unfolding table_reply
returns-in-Err c = complains (ascii "bbn") c.args.line.now (stretch_reply (table_of (bytes_at c.args.line.now 1) (bytes_at c.args.line.now 2) (number_at c.args.line.now 3))) c.in-Err.wrong c.in-Err.ensures c.complaint_line.ensures

pub returns : goal.returns
unfolding table_reply
returns c = let l = c.args.line.now in
    let s = bytes_at_lem l 1 c.decode-n.ensures c.word.ensures.word in
    let t = bytes_at_lem l 2 c.decode-m.ensures c.word-2.ensures.word in
    let a = c.number-name.ensures ∙ ap number_of c.word-3.ensures.word in
    answers (ascii "bbn") c.args.line.now (stretch_reply (table_of (bytes_at c.args.line.now 1) (bytes_at c.args.line.now 2) (number_at c.args.line.now 3))) c.in_default.ensures
    (stretch_shown c.table_span-span.result.start c.table_span-span.result.end _ _ c.table_span-span.ensures.0 (ap₂ (λ (x y : List ℕ). table_of x y c.number-name.result) s t ∙ ap (table_of (bytes_at l 1) (bytes_at l 2)) a))
    c.stretch_line.ensures
