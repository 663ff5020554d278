-- What the question "forced" answers, case by case.
use Prim.Native.Nat.{ℕ, ◌≤◌, ◌<◌}
use native.Mathlib.Omega.{arith}
use mathlib.Core.Path.{◌≡◌, refl, ap, ap₂, sym, ◌∙◌, subst}
use mathlib.Core.Bool.{Bool, true, false, cond}
use mathlib.Core.Logic.{◌⊎◌, inl, inr, ◌↔◌}
use mathlib.Core.List.{List}
use lib.ListN.{length}
use lib.Dec.{eqb}
use borrow.Author.Tests.{ltb-true, lt-ltb, le-ltb, eq-eqb, ne_eqb}
use Rattle.std.specs.Prelude.{Result, Ok, Err}
use Rattle.prelude.specs.Causes.{number_of, refusal}
use Rattle.prelude.specs.declared.refusal.Refusal.{Refusal}
use Rattle.logic.specs.Sheet.{Sheet, sort_at}
use Rattle.prelude.specs.Lists.{at}
use Rattle.prelude.proofs.Tests.{and_both, true_not_false}
use Rattle.layout.specs.Layout.{Reading, accepted, refused, reading, InSheet}
use Rattle.layout.specs.Packed.{view}
use Rattle.sheet.specs.Verdict.{parsing}
use Rattle.layout.specs.declared.Parsed.{Parsed}
use Rattle.layout.proofs.Answers.{accepted_well_formed}
use Rattle.sheet.proofs.Verdicts.{Accepts, parsed_refuses}
use Rattle.sheet.proofs.Refusals.{refused_in_sheet}
use Rattle.congruence.specs.Closure.{group_of, together}
use Rattle.congruence.specs.Groups.{Groups}
use Rattle.congruence.specs.Forced.{Forced}
use Rattle.congruence.proofs.Closing.{together_exactly}
use Rattle.group.proofs.Parsed.{parsed_sheet, parsed_terms, parsed_sort, parsed_group}
use Rattle.forced.specs.Forcing.{comparable, forcing_of, forcing}

-- a refused sheet
pub refused_reply : (s : List ℕ) (a b : ℕ) (r : Refusal) → Err r ≡ parsing (reading s) → Err r ≡ forcing s a b
unfolding forcing
refused_reply s a b r q = let f = parsed_refuses s r q in ap Err f.same ∙ sym (ap (λ (R : Reading). forcing_of R a b) f.reads)

-- forced refuses with the number of a refused sheet, or with 13
pub refusal_number_lem : (s : List ℕ) (a b : ℕ) (r : Refusal) → forcing s a b ≡ Err r → InSheet (number_of r.cause) ⊎ (number_of r.cause ≡ 13)
unfolding forcing
refusal_number_lem s a b r e = by (reading s) refl e
  where
    replied : (c t : Bool) → cond c (Ok t) (Err (refusal 13 0)) ≡ Err r → InSheet (number_of r.cause) ⊎ (number_of r.cause ≡ 13)
    replied true t z = absurd cc
    replied false t z = let same : refusal 13 0 ≡ r = cc in inr (ap (λ (x : Refusal). number_of x.cause) (sym same))

    by : (R : Reading) → reading s ≡ R → forcing_of R a b ≡ Err r → InSheet (number_of r.cause) ⊎ (number_of r.cause ≡ 13)
    by (accepted sh) q z = replied (comparable sh a b) (together sh a b) z
    by (refused m j) q z = let same : refusal m j ≡ r = cc in inl (subst (λ (x : Refusal). InSheet (number_of x.cause)) same (refused_in_sheet s m j q))

-- an accepted sheet
module _ (s : List ℕ) (sh : Sheet) (e : reading s ≡ accepted sh) (a b : ℕ) where
  -- a term is not there, or the two are of different sorts
  pub turned_down_lem : comparable sh a b ≡ false → forcing s a b ≡ Err (refusal 13 0)
  unfolding forcing
  turned_down_lem h = rw (e, h)

  -- the closure decides
  pub decided : comparable sh a b ≡ true → forcing s a b ≡ Ok (together sh a b)
  unfolding forcing
  decided h = rw (e, h)

  pub absent_first : length sh.terms ≤ a → Err (refusal 13 0) ≡ forcing s a b
  absent_first h = sym (turned_down_lem (rw (le-ltb a (length sh.terms) h)))

  pub absent_second : a < length sh.terms → length sh.terms ≤ b → Err (refusal 13 0) ≡ forcing s a b
  absent_second there h = sym (turned_down_lem (rw (lt-ltb a (length sh.terms) there, le-ltb b (length sh.terms) h)))

  module _ (first : a < length sh.terms) (second : b < length sh.terms) where
    pub other_sorts : (sort_at sh a ≡ sort_at sh b → ⊥) → Err (refusal 13 0) ≡ forcing s a b
    other_sorts h = sym (turned_down_lem (rw (lt-ltb a (length sh.terms) first, lt-ltb b (length sh.terms) second, ne_eqb (sort_at sh a) (sort_at sh b) h)))

    both_there : sort_at sh a ≡ sort_at sh b → comparable sh a b ≡ true
    both_there h = rw (lt-ltb a (length sh.terms) first, lt-ltb b (length sh.terms) second, eq-eqb (sort_at sh a) (sort_at sh b) h)

    -- the numbers of the two groups are compared
    pub one_group : sort_at sh a ≡ sort_at sh b → group_of sh a ≡ group_of sh b → Ok true ≡ forcing s a b
    one_group one h = let t : together sh a b ≡ true = eq-eqb _ _ h in sym (decided (both_there one) ∙ ap Ok t)

-- the same of a parsed sheet
module _ (s : List ℕ) (p : Parsed) (e : Ok p ≡ parsing (reading s)) where
  abbrev got : Accepts s p
  got = parsed_sheet s p e

  many : p.terms ≡ length got.sheet.terms
  many = parsed_terms s p e

  sort : (i : ℕ) → i < length got.sheet.terms → at p.sort i ≡ sort_at got.sheet i
  sort = parsed_sort s p e

  module _ (a b : ℕ) where
    pub parsed_absent_first : p.terms ≤ a → Err (refusal 13 0) ≡ forcing s a b
    parsed_absent_first h = absent_first s got.sheet got.reads a b (omega (arith, many))

    pub parsed_absent_second : a < p.terms → p.terms ≤ b → Err (refusal 13 0) ≡ forcing s a b
    parsed_absent_second there h = absent_second s got.sheet got.reads a b (omega (arith, many)) (omega (arith, many))

    module _ (first : a < p.terms) (second : b < p.terms) where
      first_there : a < length got.sheet.terms
      first_there = omega (arith, many)

      second_there : b < length got.sheet.terms
      second_there = omega (arith, many)

      pub parsed_other_sorts : (at p.sort a ≡ at p.sort b → ⊥) → Err (refusal 13 0) ≡ forcing s a b
      parsed_other_sorts h =
          other_sorts s got.sheet got.reads a b first_there second_there
          (λ same. h (sort a first_there ∙ same ∙ sym (sort b second_there)))

      module _ (one : at p.sort a ≡ at p.sort b) (l : ℕ → ℕ) (g : Groups (view p) l) where
        one_sort : sort_at got.sheet a ≡ sort_at got.sheet b
        one_sort = sym (sort a first_there) ∙ one ∙ sort b second_there

        number : (i : ℕ) → i < length got.sheet.terms → l i ≡ group_of got.sheet i
        number = parsed_group s p e l g

        -- the two numbers are compared
        pub parsed_together : Ok (eqb (l a) (l b)) ≡ forcing s a b
        parsed_together =
            ap₂ (λ (x y : ℕ). Ok (eqb x y)) (number a first_there) (number b second_there)
            ∙ sym (decided s got.sheet got.reads a b (both_there s got.sheet got.reads a b first_there second_there one_sort))

-- the answer to an accepted sheet and two terms of one sort is yes exactly when they are forced together, and no exactly when not
module _ (s : List ℕ) (a b : ℕ) (sh : Sheet) (e : reading s ≡ accepted sh) (c : comparable sh a b ≡ true) where
  pub forced_exactly : (together sh a b ≡ true) ↔ Forced sh a b
  forced_exactly =
      let h = and_both _ _ c in
      together_exactly sh (accepted_well_formed s sh e) a b (ltb-true _ _ h.0) (ltb-true _ _ (and_both _ _ h.1).0)

  told : (x y : Bool) → ◌≡◌ {A = Result Bool Refusal} (Ok x) (Ok y) → x ≡ y
  told x y z = cc

  pub yes_exactly : (forcing s a b ≡ Ok true) ↔ Forced sh a b
  yes_exactly = (λ y. forced_exactly.0 (told (together sh a b) true (sym (decided s sh e a b c) ∙ y)), λ f. decided s sh e a b c ∙ ap Ok (forced_exactly.1 f))

  pub no_exactly : (forcing s a b ≡ Ok false) ↔ (Forced sh a b → ⊥)
  no_exactly =
      (λ n f. true_not_false (together sh a b) (forced_exactly.1 f) (told (together sh a b) false (sym (decided s sh e a b c) ∙ n)), λ f. decided s sh e a b c ∙ ap Ok (free (together sh a b) (λ t. f (forced_exactly.0 t))))
    where
      free : (z : Bool) → (z ≡ true → ⊥) → z ≡ false
      free true f = absurd (f refl)
      free false f = refl
