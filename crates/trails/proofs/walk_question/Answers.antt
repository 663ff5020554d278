-- `trails::walk_question` meets its contract.
use Prim.Native.Nat.{ℕ}
use mathlib.Core.Path.{ap}
use mathlib.Core.List.{List}
use Rattle.text.specs.Ascii.{ascii}
use Rattle.walk.specs.Walk.{outcome}
use Rattle.questions.specs.Questions.{bytes_at, number_at}
use Rattle.trails.specs.Trails.{walk_line, walk_reply}
use Rattle.questions.proofs.Asking.{bytes_at_lem, complains, answers}
use Rattle.trails.proofs.Trail.{asked_outcome}
use Rattle.trails.proofs.walk_question.Goals as goal

-- what walk answers to the words of the line
abbrev answered : List ℕ → List ℕ
answered l = walk_line (outcome (bytes_at l 1) (bytes_at l 2) (number_at l 3) (number_at l 4) (bytes_at l 5) (number_at l 6) (number_at l 7))

pub returns-in-Err : goal.returns-in-Err
unfolding walk_reply
returns-in-Err c =
    let l = c.args.line.now in
    complains (ascii "bbnnbnn") l (answered l) c.in-Err.wrong c.in-Err.ensures c.complaint_line.ensures

pub returns : goal.returns
unfolding walk_reply
returns c =
    let l = c.args.line.now in
    let w = c.walk_numbers-w in
    let sheet = bytes_at_lem l 1 c.decode-n.ensures c.word.ensures.word in
    let tables = bytes_at_lem l 2 c.decode-m.ensures c.word-2.ensures.word in
    let events = bytes_at_lem l 5 c.decode-k.ensures c.word-3.ensures.word in
    answers (ascii "bbnnbnn") l (answered l) c.in_default.ensures
    (ap walk_line (asked_outcome l _ _ _ w.result sheet tables events w.ensures))
    c.walk_with.ensures
