-- `first_codes::first_codes` meets its contract: the terms passed are as low as they can be, and decided.
use Prim.Native.Nat.{ℕ, ◌<◌}
use mathlib.Core.Path.{◌≡◌, refl}
use lib.ListN.{replicate, get_or-replicate}
use Rattle.prelude.specs.Limits.{undecided}
use Rattle.prelude.specs.Lists.{at}
use Rattle.first_codes.proofs.Lowering.{lowered_none, lowered_more, lowered_all, nothing_decided}
use Rattle.first_codes.proofs.first_codes.Goals as goal

all_undecided : (j : ℕ) → j < 256 → at (replicate {A = ℕ} 256 255) j ≡ undecided
all_undecided j h = get_or-replicate {A = ℕ} 256 j 255 0 h

pub returns-in_err-model : goal.returns-in_err-model
returns-in_err-model c =
    rw c.from_residual.ensures (nothing_decided _ _ _ c.requires.searchable.terms all_undecided c.in_err-model.ensures)

pub loop-i-init : goal.loop-i-init
loop-i-init c = lowered_none _ _ _ _ refl all_undecided c.in_ok-model.ensures.consistent

pub loop-i-preserved : goal.loop-i-preserved
loop-i-preserved c =
    lowered_more _ _ _ _ _ c.requires.searchable.terms c.loop-i-test.true c.loop-i.invariant c.requires.searchable.sorted c.requires.small_sizes _ c.lower-model.ensures

pub returns : goal.returns
returns c = lowered_all _ _ _ c.loop-i.decided _ c.loop-i-test.false c.loop-i.invariant
