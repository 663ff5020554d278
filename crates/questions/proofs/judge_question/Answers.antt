-- `questions::judge_question` meets its contract.
use mathlib.Core.Path.{ap, ap₂, ◌∙◌}
use Rattle.judge.specs.Judge.{judgement}
use Rattle.lines.specs.Lines.{judgement_line}
use Rattle.text.specs.Ascii.{ascii}
use Rattle.questions.specs.Questions.{judge_reply, bytes_at}
use Rattle.questions.proofs.Asking.{bytes_at_lem, complains, answers}
use Rattle.questions.proofs.judge_question.Goals as goal

pub returns-in-Err : goal.returns-in-Err
unfolding judge_reply
returns-in-Err c = complains (ascii "bb") c.args.line.now (judgement_line (judgement (bytes_at c.args.line.now 1) (bytes_at c.args.line.now 2))) c.in-Err.wrong c.in-Err.ensures c.complaint_line.ensures

pub returns : goal.returns
unfolding judge_reply
returns c = let l = c.args.line.now in
    let s = bytes_at_lem l 1 c.decode-n.ensures c.word.ensures.word in
    let t = bytes_at_lem l 2 c.decode-m.ensures c.word-2.ensures.word in
    answers (ascii "bb") c.args.line.now (judgement_line (judgement (bytes_at c.args.line.now 1) (bytes_at c.args.line.now 2))) c.in_default.ensures
    (ap judgement_line (c.judge.ensures ∙ ap₂ judgement s t))
    c.judgement_line.ensures
