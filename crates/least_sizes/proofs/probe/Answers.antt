-- `least_sizes::probe` meets its contract: nothing is decided.
use Prim.Native.Nat.{ℕ}
use lib.ListN.{get_or-replicate}
use Rattle.least_sizes.proofs.Regions.{probed}
use Rattle.least_sizes.proofs.probe.Goals as goal

pub returns : goal.returns
returns c =
    rw c.is_some.ensures
    (probed _ _ _ _ c.requires.searchable.terms (λ j h. get_or-replicate {A = ℕ} 256 j 255 0 h) c.solve.ensures)
