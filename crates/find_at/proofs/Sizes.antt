-- The test of given sizes tells whether a candidate may have them; it is made on the sizes as the search takes them.
use Prim.Native.Nat.{ℕ, ◌<◌}
use native.Mathlib.Omega.{arith}
use mathlib.Core.Path.{◌≡◌, ap, ap₂, sym, ◌∙◌}
use mathlib.Core.Bool.{Bool, true, false, ◌&&◌}
use mathlib.Core.Logic.{◌↔◌}
use mathlib.Core.List.{List}
use lib.ListN.{length}
use lib.Dec.{eqb}
use borrow.Author.Tests.{eqb-true, eq-eqb, ne_eqb}
use Rattle.prelude.specs.Lists.{at}
use Rattle.prelude.proofs.Tests.{and_both, and_first}
use Rattle.logic.specs.Sheet.{Sheet}
use Rattle.layout.specs.declared.Parsed.{Parsed}
use Rattle.tables.specs.Parts.{Packs}
use Rattle.tables.specs.Tests.{in_bounds}
use Rattle.tables.proofs.Laid.{in_bounds_test}
use Rattle.tables.proofs.Packing.{packs_views}
use Rattle.tables.proofs.Whole.{in_bounds_same}
use Rattle.answer.specs.Demand.{CandidateSizes}
use Rattle.find_at.specs.FindAt.{candidate_sizes}

pub candidate_sizes_test : (sh : Sheet) (z : List ℕ) → (candidate_sizes sh z ≡ true) ↔ CandidateSizes sh z
candidate_sizes_test sh z = (
  λ e.
      let both = and_both (eqb (length z) (length sh.bounds)) (in_bounds sh (at z)) e in
      record { many = eqb-true (length z) (length sh.bounds) both.0; bounded = (in_bounds_test sh z (at z)).0 both.1 },
  λ k. ap₂ (λ (a b : Bool). a && b) (eq-eqb (length z) (length sh.bounds) k.many) ((in_bounds_test sh z (at z)).1 k.bounded),
)

module _ (sh : Sheet) (p : Parsed) (k : Packs sh p) (z : List ℕ) where
  -- another number of sizes
  pub other_number : (length z ≡ p.sorts → ⊥) → false ≡ candidate_sizes sh z
  other_number h = sym (and_first (eqb (length z) (length sh.bounds)) (in_bounds sh (at z)) (ne_eqb (length z) (length sh.bounds) (λ e. h (e ∙ sym (packs_views sh p k).sorts))))

  -- the right number: the bounds decide
  pub right_number : length z ≡ p.sorts → (given : List ℕ) → ((s : ℕ) → s < p.sorts → at given s ≡ at z s) → in_bounds sh (at given) ≡ candidate_sizes sh z
  right_number h given same =
      in_bounds_same sh (at given) (at z) (λ s l. same s (omega (arith, (packs_views sh p k).sorts)))
      ∙ sym (ap (λ (a : Bool). a && in_bounds sh (at z)) (eq-eqb (length z) (length sh.bounds) (h ∙ (packs_views sh p k).sorts)))
