-- `bundle::settled` meets its contract.
use Prim.Native.Nat.{ℕ, ◌-◌}
use native.Mathlib.Omega.{arith}
use mathlib.Core.Path.{◌≡◌, ap, ap₂, sym, ◌∙◌}
use mathlib.Core.List.{List}
use lib.ListN.{length}
use Rattle.prelude.specs.Lists.{at, sum_to}
use Rattle.prelude.proofs.Lists.{firsts_at}
use Rattle.answer.specs.Answer.{sum}
use Rattle.std.specs.Prelude.{Ok, Err}
use Rattle.bundle.specs.Bundle.{most_sheets, answered}
use Rattle.bundle.proofs.Summing.{sharing_over, sharing_within}
use Rattle.bundle.proofs.settled.Goals as goal

-- the array has eight entries, and all are added up
spent_is : (sums : List ℕ) (r : ℕ) → length sums ≡ most_sheets → r ≡ sum_to most_sheets (at sums) → r ≡ sum sums
spent_is sums r eight e = e ∙ ap (λ (n : ℕ). sum_to n (at sums)) (sym eight)

pub returns-then-wide-spent : goal.returns-then-wide-spent
returns-then-wide-spent c =
    let a = c.args in
    let s : c.sum_of-spent.result ≡ sum a.sums = spent_is a.sums _ (omega arith) c.sum_of-spent.ensures in
    ap Err c.at.ensures ∙ ap answered (sym (sharing_over a.limit a.sums (omega arith)))

pub returns : goal.returns
returns c =
    let a = c.args in
    let s : c.sum_of-spent.result ≡ sum a.sums = spent_is a.sums _ (omega arith) c.sum_of-spent.ensures in
    ap₂ (λ (l : List ℕ) (n : ℕ). Ok (record { sums = l; left = a.limit - n })) (sym (firsts_at most_sheets a.sums (omega arith))) s
    ∙ ap answered (sym (sharing_within a.limit a.sums (omega arith)))
