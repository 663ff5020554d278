-- `bundlings::bundle_question` meets its contract.
use Prim.Native.Nat.{ℕ, ◌≤◌}
use native.Mathlib.Omega.{arith}
use mathlib.Core.Path.{◌≡◌, sym, ap, ap₂, ◌∙◌}
use mathlib.Core.List.{List}
use Rattle.text.specs.Ascii.{ascii}
use Rattle.words.specs.Words.{word_at, number_of}
use Rattle.words.specs.Complaints.{is_wrong, greatest_limit, wrong_word, complaint_of}
use Rattle.words.proofs.Complaining.{second_right, limit_small}
use Rattle.std.specs.Prelude.{Ok}
use Rattle.bundle.specs.Bundle.{bundling, answered}
use Rattle.questions.specs.Questions.{bytes_at, number_at}
use Rattle.questions.proofs.Asking.{bytes_at_lem, complains, answers}
use Rattle.bundlings.specs.Bundlings.{bundling_line, bundle_reply}
use Rattle.bundlings.proofs.bundle_question.Goals as goal

-- the answer to the line where its words are not wrong
abbrev given : List ℕ → List ℕ
given l = bundling_line (answered (bundling (bytes_at l 1) (number_at l 2)))

-- the limit, which a byte holds where the words are not wrong
limit_fits : (l : List ℕ) → Ok tt ≡ complaint_of (ascii "bl") l → number_at l 2 ≤ greatest_limit
unfolding wrong_word
limit_fits l e = limit_small 3 (word_at l 2) (second_right 98 108 l (ap is_wrong (sym e)))

pub returns-in-Err : goal.returns-in-Err
unfolding bundle_reply
returns-in-Err c =
    let l = c.args.line.now in
    complains (ascii "bl") l (given l) c.in-Err.wrong c.in-Err.ensures c.complaint_line.ensures

pub overflow_cast-limit : goal.overflow_cast-limit
overflow_cast-limit c =
    let limit = c.number-limit.ensures ∙ ap number_of c.word-2.ensures.word in
    omega (arith, limit, limit_fits c.args.line.now c.in_default.ensures)

pub returns : goal.returns
unfolding bundle_reply
returns c =
    let l = c.args.line.now in
    let s = bytes_at_lem l 1 c.decode-n.ensures c.word.ensures.word in
    let limit = c.number-limit.ensures ∙ ap number_of c.word-2.ensures.word in
    answers (ascii "bl") l (given l) c.in_default.ensures
    (ap bundling_line (c.bundle.ensures ∙ ap₂ (λ (b : List ℕ) (n : ℕ). answered (bundling b n)) s limit))
    c.bundling_line.ensures
