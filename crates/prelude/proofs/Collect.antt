-- Lists one after the other: how long they are together, what stands where, and lists of one entry each.
use Prim.Native.Nat.{ℕ, zero, suc, ◌+◌, ◌-◌, ◌<◌}
use native.Mathlib.Decide.{dec_lt}
use native.Mathlib.Omega.{arith}
use mathlib.Core.Path.{◌≡◌, refl, ap, ap₂, sym, ◌∙◌}
use mathlib.Core.List.{List, [], ◌∷◌, ◌++◌, map}
use lib.ListN.{length, get_or, length-append, length-map, get_or-append}
use lib.Seq.{get_or-append-add, ext_get_or}
use Rattle.prelude.specs.Lists.{sum_to, collect}
use Rattle.prelude.proofs.Lists.{sum_to_grows, get_d_map}

-- a number below a sum lies in one of the summands
pub record InSum (n : ℕ) (f : ℕ → ℕ) (k : ℕ) : Type 0 where
  pub which : ℕ
  pub below : which < n
  pub rest : ℕ
  pub within : rest < f which
  pub there : k ≡ sum_to which f + rest

pub in_sum : (n : ℕ) (f : ℕ → ℕ) (k : ℕ) → k < sum_to n f → InSum n f k
in_sum zero f k h = absurd (omega arith)
in_sum (suc n) f k h =
    elim (dec_lt k (sum_to n f)) [
      | yes l ↦
          let r = in_sum n f k l in
          record { which = r.which; below = omega (arith, r.below); rest = r.rest; within = r.within; there = r.there }
      | no l ↦ record { which = n; below = omega arith; rest = k - sum_to n f; within = omega arith; there = omega arith }
    ]

-- and the other way round
pub below_sum : (n : ℕ) (f : ℕ → ℕ) (i j : ℕ) → i < n → j < f i → sum_to i f + j < sum_to n f
below_sum n f i j h l = omega (arith, sum_to_grows (suc i) n f h)

sum_ones : (n : ℕ) → sum_to n (λ i. 1) ≡ n
sum_ones zero = refl
sum_ones (suc n) = omega (arith, sum_ones n)

module _ {A : Type 0} where
  pub length_collect : (n : ℕ) (h : ℕ → List A) → length (collect n h) ≡ sum_to n (λ i. length (h i))
  length_collect zero h = refl
  length_collect (suc n) h = length-append (collect n h) (h n) ∙ ap (λ (m : ℕ). m + length (h n)) (length_collect n h)

  pub collect_same : (n : ℕ) (h k : ℕ → List A) → ((i : ℕ) → i < n → h i ≡ k i) → collect n h ≡ collect n k
  collect_same zero h k e = refl
  collect_same (suc n) h k e = ap₂ ◌++◌ (collect_same n h k (λ i l. e i (omega arith))) (e n (omega arith))

  -- entry j of list i
  pub get_d_collect : (d : A) (n : ℕ) (h : ℕ → List A) (i j : ℕ) → i < n → j < length (h i) → get_or (collect n h) (sum_to i (λ k. length (h k)) + j) d ≡ get_or (h i) j d
  get_d_collect d zero h i j b l = absurd (omega arith)
  get_d_collect d (suc n) h i j b l =
      let long = length_collect n h in
      elim (dec_lt i n) [
        | yes m ↦
            get_or-append (collect n h) (h n) d (sum_to i (λ k. length (h k)) + j) (omega (arith, below_sum n (λ k. length (h k)) i j m l))
            ∙ get_d_collect d n h i j m l
        | no m ↦
            let q : i ≡ n = omega arith in
            ap (λ (x : ℕ). get_or (collect (suc n) h) (sum_to x (λ k. length (h k)) + j) d) q
            ∙ ap (λ (x : ℕ). get_or (collect (suc n) h) (x + j) d) (sym long)
            ∙ get_or-append-add (collect n h) (h n) j d
            ∙ ap (λ (x : ℕ). get_or (h x) j d) (sym q)
      ]

  -- lists of one entry each
  pub length_singles : (n : ℕ) (x : ℕ → A) → length (collect n (λ i. x i ∷ [])) ≡ n
  length_singles n x = length_collect n (λ i. x i ∷ []) ∙ sum_ones n

  pub get_d_singles : (d : A) (n : ℕ) (x : ℕ → A) (i : ℕ) → i < n → get_or (collect n (λ i. x i ∷ [])) i d ≡ x i
  get_d_singles d n x i h =
      let e : i ≡ sum_to i (λ k. 1) + 0 = omega (arith, sum_ones i) in
      ap (λ (k : ℕ). get_or (collect n (λ i. x i ∷ [])) k d) e ∙ get_d_collect d n (λ i. x i ∷ []) i 0 h (omega arith)

-- a mapped list, entry by entry
pub map_singles : {A B : Type 0} (g : A → B) (a : A) (b : B) (l : List A) → map g l ≡ collect (length l) (λ k. g (get_or l k a) ∷ [])
map_singles g a b l =
    let long = length_singles (length l) (λ k. g (get_or l k a)) in
    ext_get_or b (map g l) (collect (length l) (λ k. g (get_or l k a) ∷ [])) (length-map l g ∙ sym long)
    (λ k h.
    let inside : k < length l = omega (arith, length-map l g) in
    get_d_map g a b l k inside ∙ sym (get_d_singles b (length l) (λ k. g (get_or l k a)) k inside))
