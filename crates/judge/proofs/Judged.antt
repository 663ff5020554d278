-- Demand 2 for judge: its reply is the true one, and the only true one (`Says` of specs/Judge.antt).
use Prim.Native.Nat.{ℕ, ◌+◌}
use native.Mathlib.Decide.{dec_lt}
use native.Mathlib.Omega.{arith}
use mathlib.Core.Path.{◌≡◌, refl, ap, ap₂, sym, ◌∙◌, subst}
use mathlib.Core.Bool.{Bool, true, false, cond}
use mathlib.Core.Logic.{◌⊎◌, inl, inr, ◌↔◌}
use mathlib.Core.List.{List}
use lib.ListN.{length}
use Rattle.std.specs.Prelude.{Result, Ok, Err}
use Rattle.prelude.specs.Causes.{number_of, refusal}
use Rattle.prelude.specs.declared.refusal.Refusal.{Refusal}
use Rattle.sheet.proofs.Refusals.{refusal_once, refused_in_sheet}
use Rattle.logic.specs.Sheet.{Sheet, literal_at, no_literal}
use Rattle.prelude.specs.Lists.{at}
use Rattle.prelude.proofs.Tests.{decided, true_not_false}
use Rattle.logic.specs.Structure.{code, Bounded}
use Rattle.layout.specs.Layout.{Reading, accepted, refused, reading, InSheet}
use Rattle.tables.specs.declared.Judgement.{Judgement}
use Rattle.tables.specs.declared.Judgement.TheVariants.{Fits, OutOfBounds, Broken}
use Rattle.tables.specs.Layout.{decoded, WellLaid}
use Rattle.tables.specs.Tests.{well_laid, in_bounds, holds, statements}
use Rattle.tables.proofs.Tests.{holds_true, holds_false}
use Rattle.tables.proofs.Laid.{well_laid_test, in_bounds_test, first_failing, statements_fit, statements_broken, laid_interprets}
use Rattle.judge.specs.Judge.{judged, judged_of, judgement, Says}

module _ (sh : Sheet) (t : List ℕ) where
  -- the codes that the tables give the terms
  abbrev given : ℕ → ℕ
  given = code (decoded sh t) sh

  -- of tables that are well laid and in bounds, the first broken statement is named
  says_statements : WellLaid sh t → Bounded sh (at t) → Says sh t (Ok (statements given 0 sh.literals))
  says_statements w b =
      elim (first_failing (length sh.literals) (λ k. holds given (literal_at sh k))) [
        | inl all ↦
            subst (λ (j : Judgement). Says sh t (Ok j)) (sym (statements_fit given no_literal 0 sh.literals all))
            (w, record { interprets = laid_interprets sh t w; bounded = b }, λ k h. holds_true given (literal_at sh k) (all k h))
        | inr f ↦
            let k = f.0 in
            let z : 0 + k ≡ k = omega arith in
            let e : statements given 0 sh.literals ≡ Broken k = statements_broken given no_literal 0 sh.literals k f.1 f.2 f.3 ∙ ap Broken z in
            subst (λ (j : Judgement). Says sh t (Ok j)) (sym e)
            (w, b, f.1, λ j h. holds_true given (literal_at sh j) (f.2 j h), holds_false given (literal_at sh k) f.3)
      ]

  -- the reply by the two tests
  pub judged_by : (a b : Bool) → well_laid sh t ≡ a → in_bounds sh (at t) ≡ b → judged sh t ≡ cond a (Ok (cond b (statements given 0 sh.literals) OutOfBounds)) (Err (refusal 12 0))
  unfolding judged
  judged_by a b e f = ap₂ (λ (x y : Bool). cond x (Ok (cond y (statements given 0 sh.literals) OutOfBounds)) (Err (refusal 12 0))) e f

  -- the reply is true
  pub says_judged : Says sh t (judged sh t)
  says_judged =
      elim (decided (well_laid sh t)) [
        | inr e ↦
            subst (Says sh t) (sym (judged_by false (in_bounds sh (at t)) e refl))
            (refl, refl, λ w. true_not_false (well_laid sh t) ((well_laid_test sh t).1 w) e)
        | inl e ↦
            elim (decided (in_bounds sh (at t))) [
              | inr f ↦
                  subst (Says sh t) (sym (judged_by true false e f))
                  ((well_laid_test sh t).0 e, λ b. true_not_false (in_bounds sh (at t)) ((in_bounds_test sh t (at t)).1 b) f)
              | inl f ↦ subst (Says sh t) (sym (judged_by true true e f)) (says_statements ((well_laid_test sh t).0 e) ((in_bounds_test sh t (at t)).0 f))
            ]
      ]

-- and it is the only true one
pub says_once : (sh : Sheet) (t : List ℕ) (i j : Result Judgement Refusal) → Says sh t i → Says sh t j → i ≡ j
says_once sh t (Ok Fits) (Ok Fits) x y = refl
says_once sh t (Ok Fits) (Ok OutOfBounds) x y = absurd (y.1 x.1.bounded)
says_once sh t (Ok Fits) (Ok (Broken l)) x y = absurd (y.4 (x.2 l y.2))
says_once sh t (Ok Fits) (Err q) x y = absurd (y.2 x.0)
says_once sh t (Ok OutOfBounds) (Ok Fits) x y = absurd (x.1 y.1.bounded)
says_once sh t (Ok OutOfBounds) (Ok OutOfBounds) x y = refl
says_once sh t (Ok OutOfBounds) (Ok (Broken l)) x y = absurd (x.1 y.1)
says_once sh t (Ok OutOfBounds) (Err q) x y = absurd (y.2 x.0)
says_once sh t (Ok (Broken k)) (Ok Fits) x y = absurd (x.4 (y.2 k x.2))
says_once sh t (Ok (Broken k)) (Ok OutOfBounds) x y = absurd (y.1 x.1)
says_once sh t (Ok (Broken k)) (Ok (Broken l)) x y =
    elim (dec_lt k l) [
      | yes h ↦ absurd (x.4 (y.3 k h))
      | no nh ↦
          elim (dec_lt l k) [
            | yes h ↦ absurd (y.4 (x.3 l h))
            | no nl ↦ let e : k ≡ l = omega arith in ap (λ (n : ℕ). Ok (Broken n)) e
          ]
    ]
says_once sh t (Ok (Broken k)) (Err q) x y = absurd (y.2 x.0)
says_once sh t (Err r) (Ok Fits) x y = absurd (x.2 y.0)
says_once sh t (Err r) (Ok OutOfBounds) x y = absurd (x.2 y.0)
says_once sh t (Err r) (Ok (Broken l)) x y = absurd (x.2 y.0)
says_once sh t (Err r) (Err q) x y = ap Err (refusal_once r q (x.0 ∙ sym y.0) (x.1 ∙ sym y.1))

-- Demand 2, judge: it gives a reply exactly when what the reply says is so.
pub judged_says : (sh : Sheet) (t : List ℕ) (j : Result Judgement Refusal) → (judged sh t ≡ j) ↔ Says sh t j
judged_says sh t j =
    (λ e. subst (Says sh t) e (says_judged sh t), λ s. says_once sh t (judged sh t) j (says_judged sh t) s)

-- The same of the bytes of a sheet: reading refuses it, or what the reply says of its sheet is so.
pub judgement_refused : (s t : List ℕ) (n i : ℕ) → reading s ≡ refused n i → judgement s t ≡ Err (refusal n i)
unfolding judgement
judgement_refused s t n i e = rw e refl

pub judgement_says : (s t : List ℕ) (sh : Sheet) → reading s ≡ accepted sh → (j : Result Judgement Refusal) → (judgement s t ≡ j) ↔ Says sh t j
unfolding judgement
judgement_says s t sh e j = rw e (judged_says sh t j)

-- judge refuses with the number of a refused sheet, or with 12
pub judgement_number : (s t : List ℕ) (r : Refusal) → judgement s t ≡ Err r → InSheet (number_of r.cause) ⊎ (number_of r.cause ≡ 12)
unfolding judgement
judgement_number s t r e = by (reading s) refl e
  where
    by : (R : Reading) → reading s ≡ R → judged_of R t ≡ Err r → InSheet (number_of r.cause) ⊎ (number_of r.cause ≡ 12)
    by (accepted sh) q z = inr ((judged_says sh t (Err r)).0 z).0
    by (refused m j) q z = let same : refusal m j ≡ r = cc in inl (subst (λ (x : Refusal). InSheet (number_of x.cause)) same (refused_in_sheet s m j q))
