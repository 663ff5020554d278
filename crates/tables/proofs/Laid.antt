-- What the tests of judge say: tables are well laid, sizes are bounded, the first broken statement is named. Well-laid tables hold a structure.
use Prim.Native.Nat.{ℕ, zero, suc, ◌+◌, ◌<◌}
use native.Mathlib.Nat.{not-suc-le-zero, le_of_suc-le-suc}
use native.Mathlib.Omega.{arith}
use mathlib.Core.Path.{◌≡◌, refl, ap, ◌∙◌}
use mathlib.Core.Bool.{Bool, true, false, ◌&&◌}
use mathlib.Core.Logic.{◌⊎◌, inl, inr, ◌↔◌}
use mathlib.Core.List.{List, [], ◌∷◌}
use lib.ListN.{length, get_or}
use lib.Dec.{leb, eqb}
use borrow.Author.Tests.{leb-true, le-leb, ltb-true, lt-ltb, eqb-true, eq-eqb}
use Rattle.logic.specs.Sheet.{Sheet, Literal, bound_at, symbol_at}
use Rattle.prelude.specs.Tests.{within, every}
use Rattle.prelude.specs.Lists.{at, sum_to}
use Rattle.prelude.proofs.Tests.{and_both, within_true, true_within, decided, both_true, every_true, true_every}
use Rattle.logic.specs.Structure.{Interprets, Bounded}
use Rattle.tables.specs.declared.Judgement.TheVariants.{Fits, Broken}
use Rattle.tables.specs.Layout.{place, extent, decoded, WellLaid}
use Rattle.tables.specs.Tests.{sizes_right, entries_right, well_laid, in_bounds, holds, statements}
use Rattle.tables.proofs.Cells.{place_below}

module _ (sh : Sheet) (t : List ℕ) where
  -- the test of cause 12 is true exactly when the tables are well laid
  pub well_laid_test : (well_laid sh t ≡ true) ↔ WellLaid sh t
  unfolding well_laid
  well_laid_test = (λ e. there (and_both _ _ e), λ w. both_true _ _ (both_true _ _ (back w) (eq-eqb _ _ w.extent)) (entries w))
    where
      there : (sizes_right sh t && eqb (length t) (extent sh (at t)) ≡ true) × (every (length sh.symbols) (entries_right sh t) ≡ true) → WellLaid sh t
      there e =
          let a = and_both (sizes_right sh t) (eqb (length t) (extent sh (at t))) e.0 in
          let b = and_both (leb (length sh.bounds) (length t)) (every (length sh.bounds) (λ s. within 1 16 (at t s))) a.0 in
          record {
            sizes = leb-true _ _ b.0;
            size = λ s h. within_true 1 16 (at t s) (every_true _ _ b.1 s h);
            extent = eqb-true _ _ a.1;
            entry = λ f h k l. ltb-true _ _ (every_true _ _ (every_true _ (entries_right sh t) e.1 f h) k l);
          }

      back : WellLaid sh t → sizes_right sh t ≡ true
      back w = both_true _ _ (le-leb _ _ w.sizes) (true_every _ _ (λ s h. true_within 1 16 (at t s) (w.size s h)))

      entries : WellLaid sh t → every (length sh.symbols) (entries_right sh t) ≡ true
      entries w = true_every _ (entries_right sh t) (λ f h. true_every _ _ (λ k l. lt-ltb _ _ (w.entry f h k l)))

  pub in_bounds_test : (size : ℕ → ℕ) → (in_bounds sh size ≡ true) ↔ Bounded sh size
  unfolding in_bounds
  in_bounds_test size = (λ e. there (and_both _ _ e), λ b. both_true _ _ (true_every _ _ (λ s h. true_within _ _ _ (b.floor s h, b.ceiling s h))) (le-leb _ _ b.total))
    where
      there : (every (length sh.bounds) (λ s. within (bound_at sh s).floor (bound_at sh s).ceiling (size s)) ≡ true) × (leb (sum_to (length sh.bounds) size) sh.total ≡ true) → Bounded sh size
      there e =
          record {
            floor = λ s h. (within_true (bound_at sh s).floor (bound_at sh s).ceiling (size s) (every_true _ _ e.0 s h)).0;
            ceiling = λ s h. (within_true (bound_at sh s).floor (bound_at sh s).ceiling (size s) (every_true _ _ e.0 s h)).1;
            total = leb-true _ _ e.1;
          }

-- all numbers below n pass a test, or one is the first that does not
pub first_failing : (n : ℕ) (p : ℕ → Bool) → ((i : ℕ) → i < n → p i ≡ true) ⊎ ((k : ℕ) × (k < n) × ((j : ℕ) → j < k → p j ≡ true) × (p k ≡ false))
first_failing zero p = inl (λ i h. absurd (not-suc-le-zero h))
first_failing (suc n) p =
    elim (first_failing n p) [
      | inl all ↦
          elim (decided (p n)) [
            | inl e ↦ inl (λ i h. every_true (suc n) p (both_true (every n p) (p n) (true_every n p all) e) i h)
            | inr e ↦ inr (n, omega arith, all, e)
          ]
      | inr f ↦ inr (f.0, omega (arith, f.1), f.2, f.3)
    ]

module _ (c : ℕ → ℕ) (d : Literal) where
  pub statements_fit : (s : ℕ) (ls : List Literal) → ((j : ℕ) → j < length ls → holds c (get_or ls j d) ≡ true) → statements c s ls ≡ Fits
  statements_fit s [] h = refl
  statements_fit s (l ∷ ls) h =
      rw (h 0 (omega arith)) (statements_fit (suc s) ls (λ j b. h (suc j) (omega arith)))

  pub statements_broken : (s : ℕ) (ls : List Literal) (k : ℕ) → k < length ls → ((j : ℕ) → j < k → holds c (get_or ls j d) ≡ true) → holds c (get_or ls k d) ≡ false → statements c s ls ≡ Broken (s + k)
  statements_broken s [] k b h e = absurd (not-suc-le-zero b)
  statements_broken s (l ∷ ls) zero b h e = rw e (ap Broken (omega arith))
  statements_broken s (l ∷ ls) (suc k) b h e =
      rw (h 0 (omega arith)) (statements_broken (suc s) ls k (le_of_suc-le-suc b) (λ j x. h (suc j) (omega arith)) e ∙ ap Broken (omega arith))

-- tables that are well laid hold a structure for the sheet
pub laid_interprets : (sh : Sheet) (t : List ℕ) → WellLaid sh t → Interprets (decoded sh t) sh
laid_interprets sh t w =
    record {
      nonempty = λ s h. (w.size s h).0;
      complete = λ f h cs i. w.entry f h (place (at t) (symbol_at sh f).params cs) (place_below (at t) (symbol_at sh f).params cs i);
    }
