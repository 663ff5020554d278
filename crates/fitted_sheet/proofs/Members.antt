-- Membership by place, and in lists one after the other; and what stands where in these, given how long each of them is.
use Prim.Native.Nat.{ℕ, zero, suc, ◌+◌, ◌<◌}
use native.Mathlib.Decide.{dec_lt}
use native.Mathlib.Omega.{arith}
use mathlib.Core.Path.{◌≡◌, refl, ap, sym, ◌∙◌, subst}
use mathlib.Core.Logic.{◌⊎◌, inl, inr}
use mathlib.Core.List.{List, [], ◌∷◌}
use lib.ListN.{length, get_or}
use Rattle.prelude.specs.Lists.{sum_to, collect}
use Rattle.prelude.proofs.Lists.{sum_to_same}
use Rattle.prelude.proofs.Collect.{get_d_collect}
use Rattle.answer.proofs.Lists.{Mem, mem_left, mem_right, mem_either}

module _ {A : Type 0} where
  -- what stands at a place is a member, and a member stands at a place
  pub mem_at : (d : A) (l : List A) (k : ℕ) → k < length l → Mem (get_or l k d) l
  mem_at d [] k h = absurd (omega arith)
  mem_at d (x ∷ l) zero h = inl refl
  mem_at d (x ∷ l) (suc k) h = inr (mem_at d l k (omega arith))

  pub place_of : (d a : A) (l : List A) → Mem a l → (k : ℕ) × (k < length l) × (get_or l k d ≡ a)
  place_of d a [] m = absurd m
  place_of d a (x ∷ l) (inl e) = (0, omega arith, sym e)
  place_of d a (x ∷ l) (inr m) =
      let r : (k : ℕ) × (k < length l) × (get_or l k d ≡ a) = place_of d a l m in
      (suc r.0, omega (arith, r.1), r.2)

  pub mem_only : (a x : A) → Mem a (x ∷ []) → a ≡ x
  mem_only a x (inl e) = e
  mem_only a x (inr m) = absurd m

  -- a member of lists one after the other is a member of one of them
  pub mem_collect : (n : ℕ) (h : ℕ → List A) (i : ℕ) (a : A) → i < n → Mem a (h i) → Mem a (collect n h)
  mem_collect zero h i a b m = absurd (omega arith)
  mem_collect (suc n) h i a b m =
      elim (dec_lt i n) [
        | yes l ↦ mem_left a (collect n h) (h n) (mem_collect n h i a l m)
        | no l ↦ let q : i ≡ n = omega arith in mem_right a (collect n h) (h n) (subst (λ (x : ℕ). Mem a (h x)) q m)
      ]

  pub collect_mem : (n : ℕ) (h : ℕ → List A) (a : A) → Mem a (collect n h) → (i : ℕ) × (i < n) × Mem a (h i)
  collect_mem zero h a m = absurd m
  collect_mem (suc n) h a m = step (mem_either a (collect n h) (h n) m) (collect_mem n h a)
    where
      step : Mem a (collect n h) ⊎ Mem a (h n) → (Mem a (collect n h) → (i : ℕ) × (i < n) × Mem a (h i)) → (i : ℕ) × (i < suc n) × Mem a (h i)
      step (inl l) r = let q : (i : ℕ) × (i < n) × Mem a (h i) = r l in (q.0, omega (arith, q.1), q.2)
      step (inr l) r = (n, omega arith, l)

-- entry j of list i, where list i has f i entries
pub entry_of_lists : {A : Type 0} (n : ℕ) (h : ℕ → List A) (f : ℕ → ℕ) → ((i : ℕ) → length (h i) ≡ f i) → (d : A) (i j : ℕ) → i < n → j < f i → get_or (collect n h) (sum_to i f + j) d ≡ get_or (h i) j d
entry_of_lists n h f long d i j b l =
    ap (λ (x : ℕ). get_or (collect n h) (x + j) d) (sym (sum_to_same i (λ k. length (h k)) f (λ k m. long k)))
    ∙ get_d_collect d n h i j b (omega (arith, long i))
