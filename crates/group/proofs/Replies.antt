-- What the question "group" answers, case by case.
use Prim.Native.Nat.{ℕ, ◌≤◌, ◌<◌}
use native.Mathlib.Decide.{dec_lt}
use native.Mathlib.Omega.{arith}
use mathlib.Core.Path.{◌≡◌, refl, ap, sym, ◌∙◌, subst}
use mathlib.Core.Bool.{Bool, true, false, cond}
use mathlib.Core.Logic.{◌⊎◌, inl, inr, ◌↔◌}
use mathlib.Core.List.{List}
use lib.ListN.{length}
use lib.Dec.{ltb}
use borrow.Author.Tests.{lt-ltb, le-ltb}
use Rattle.std.specs.Prelude.{Result, Ok, Err}
use Rattle.prelude.specs.Causes.{number_of, refusal}
use Rattle.prelude.specs.declared.refusal.Refusal.{Refusal}
use Rattle.logic.specs.Sheet.{Sheet}
use Rattle.prelude.specs.Limits.{most_terms}
use Rattle.layout.specs.Layout.{Reading, accepted, refused, reading, InSheet}
use Rattle.layout.specs.Packed.{view}
use Rattle.layout.proofs.Answers.{accepted_well_formed}
use Rattle.sheet.specs.Verdict.{parsing}
use Rattle.layout.specs.declared.Parsed.{Parsed}
use Rattle.sheet.proofs.Verdicts.{parsed_refuses}
use Rattle.sheet.proofs.Refusals.{refused_in_sheet}
use Rattle.congruence.specs.Closure.{group_of}
use Rattle.congruence.specs.Groups.{Groups}
use Rattle.congruence.specs.Forced.{Representative}
use Rattle.congruence.proofs.Closing.{group_exactly, labels_groups, groups_labelled}
use Rattle.group.specs.Grouping.{grouping_of, grouping}
use Rattle.group.proofs.Parsed.{parsed_sheet, parsed_terms, parsed_group}

-- a refused sheet
pub refused_reply : (s : List ℕ) (e : ℕ) (r : Refusal) → Err r ≡ parsing (reading s) → Err r ≡ grouping s e
unfolding grouping
refused_reply s e r q = let a = parsed_refuses s r q in ap Err a.same ∙ sym (ap (λ (R : Reading). grouping_of R e) a.reads)

-- group refuses with the number of a refused sheet, or with 13
pub refusal_number_lem : (s : List ℕ) (e : ℕ) (r : Refusal) → grouping s e ≡ Err r → InSheet (number_of r.cause) ⊎ (number_of r.cause ≡ 13)
unfolding grouping
refusal_number_lem s e r h = by (reading s) refl h
  where
    replied : (b : Bool) (k : ℕ) → cond b (Ok k) (Err (refusal 13 0)) ≡ Err r → InSheet (number_of r.cause) ⊎ (number_of r.cause ≡ 13)
    replied true k z = absurd cc
    replied false k z = let same : refusal 13 0 ≡ r = cc in inr (ap (λ (x : Refusal). number_of x.cause) (sym same))

    by : (R : Reading) → reading s ≡ R → grouping_of R e ≡ Err r → InSheet (number_of r.cause) ⊎ (number_of r.cause ≡ 13)
    by (accepted sh) q z = replied (ltb e (length sh.terms)) (group_of sh e) z
    by (refused m j) q z = let same : refusal m j ≡ r = cc in inl (subst (λ (x : Refusal). InSheet (number_of x.cause)) same (refused_in_sheet s m j q))

-- an accepted sheet
module _ (s : List ℕ) (sh : Sheet) (q : reading s ≡ accepted sh) (e : ℕ) where
  -- the term is not there
  pub absent : length sh.terms ≤ e → grouping s e ≡ Err (refusal 13 0)
  unfolding grouping
  absent h = rw (q, le-ltb e (length sh.terms) h)

  -- the closure gives the number
  pub named : e < length sh.terms → grouping s e ≡ Ok (group_of sh e)
  unfolding grouping
  named h = rw (q, lt-ltb e (length sh.terms) h)

  -- THEOREM: the answer is k exactly when k is the lowest-numbered term that is forced together with e
  pub answer_exactly : e < length sh.terms → (k : ℕ) → (grouping s e ≡ Ok k) ↔ Representative sh e k
  answer_exactly h k =
      let exactly = group_exactly sh (accepted_well_formed s sh q) e k h in
      (λ a. exactly.0 (told (group_of sh e) (sym (named h) ∙ a)), λ r. named h ∙ ap Ok (exactly.1 r))
    where
      told : (m : ℕ) → ◌≡◌ {A = Result ℕ Refusal} (Ok m) (Ok k) → m ≡ k
      told m a = cc

-- where there is a number, the sheet is accepted, the term is there, and the number is that of its group
pub record Named (s : List ℕ) (e k : ℕ) : Type 0 where
  pub sheet : Sheet
  pub reads : reading s ≡ accepted sheet
  pub there : e < length sheet.terms
  pub number : group_of sheet e ≡ k

pub number_named : (s : List ℕ) (e k : ℕ) → grouping s e ≡ Ok k → Named s e k
unfolding grouping
number_named s e k h = by (reading s) refl
  where
    by : (R : Reading) → reading s ≡ R → Named s e k
    by (refused n i) q =
        let z : Err (refusal n i) ≡ Ok k = sym (ap (λ (R : Reading). grouping_of R e) q) ∙ h in
        absurd cc
    by (accepted sh) q =
        elim (dec_lt e (length sh.terms)) [
          | yes b ↦
              let z : Ok (group_of sh e) ≡ Ok k = sym (named s sh q e b) ∙ h in
              record { sheet = sh; reads = q; there = b; number = cc }
          | no b ↦
              let z : Err (refusal 13 0) ≡ Ok k = sym (absent s sh q e (omega arith)) ∙ h in
              absurd cc
        ]

-- THEOREM: a byte holds every number that group gives
pub number_small : (s : List ℕ) (e k : ℕ) → grouping s e ≡ Ok k → k < most_terms
number_small s e k h =
    let n = number_named s e k h in
    let w = accepted_well_formed s n.sheet n.reads in
    omega (arith, w.terms, n.there, n.number, (groups_labelled n.sheet w (group_of n.sheet) (labels_groups n.sheet w)).small e (omega (arith, w.terms, n.there)))

-- a parsed sheet
module _ (s : List ℕ) (p : Parsed) (q : Ok p ≡ parsing (reading s)) (e : ℕ) where
  pub parsed_absent : p.terms ≤ e → Err (refusal 13 0) ≡ grouping s e
  parsed_absent h = let r = parsed_sheet s p q in sym (absent s r.sheet r.reads e (omega (arith, parsed_terms s p q)))

  pub parsed_named : e < p.terms → (l : ℕ → ℕ) → Groups (view p) l → (k : ℕ) → k ≡ l e → Ok k ≡ grouping s e
  parsed_named h l g k a =
      let r = parsed_sheet s p q in
      let there : e < length r.sheet.terms = omega (arith, parsed_terms s p q) in
      ap Ok (a ∙ parsed_group s p q l g e there) ∙ sym (named s r.sheet r.reads e there)
