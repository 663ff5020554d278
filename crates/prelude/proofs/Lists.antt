-- Lists of numbers: an entry after a store, of a list of zeros, of a mapped list and of a run of numbers; the first values of a function
-- as a list, and their sums.
use Prim.Native.Nat.{ℕ, zero, suc, ◌+◌, ◌≤◌, ◌<◌}
use native.Mathlib.Nat.{not-suc-le-zero, le_of_suc-le-suc}
use native.Mathlib.Decide.{dec_lt, ℕ_discrete}
use native.Mathlib.Omega.{arith}
use mathlib.Core.Path.{◌≡◌, refl, ap, ap₂, sym, ◌∙◌, subst}
use mathlib.Core.Logic.{◌⊎◌, inl, inr}
use mathlib.Core.List.{List, [], ◌∷◌, ◌++◌, map}
use lib.ListN.{length, get_or, set, replicate, length-append, get_or-append}
use lib.Seq.{get_or-append_seam, get_or-set_same, get_or-set_other, set_out, ext_get_or}
use Rattle.prelude.specs.Tests.{Each}
use Rattle.prelude.specs.Lists.{at, run, firsts, sum_to}

-- what stands at a place after one place was set
pub at_set : (l : List ℕ) (i v j : ℕ) → (at (set l i v) j ≡ at l j) ⊎ ((j ≡ i) × (at (set l i v) j ≡ v))
at_set l i v j =
    elim (ℕ_discrete j i) [
      | no ne ↦ inl (get_or-set_other l i j v 0 ne)
      | yes e ↦
          elim (dec_lt i (length l)) [
            | yes h ↦ inr (e, subst (λ (k : ℕ). at (set l i v) k ≡ v) (sym e) (get_or-set_same l i v 0 h))
            | no h ↦ inl (ap (λ (k : List ℕ). at k j) (set_out l i v (omega arith)))
          ]
    ]

pub at_set_same : (l : List ℕ) (i v : ℕ) → i < length l → at (set l i v) i ≡ v
at_set_same l i v h = get_or-set_same l i v 0 h

pub at_set_other : (l : List ℕ) (i v j : ℕ) → (j ≡ i → ⊥) → at (set l i v) j ≡ at l j
at_set_other l i v j ne = get_or-set_other l i j v 0 ne

-- an entry of at most m stays so after one of at most m is stored
pub at_set_most : (l : List ℕ) (i v m j : ℕ) → at l j ≤ m → v ≤ m → at (set l i v) j ≤ m
at_set_most l i v m j h e = elim (at_set l i v j) [ inl x ↦ rw x h | inr x ↦ rw x.1 e ]

-- the places below i hold what f says, and so does place i once it is stored
pub filled_more : (f : ℕ → ℕ) (l : List ℕ) (i v : ℕ) → i < length l → v ≡ f i → ((k : ℕ) → k < i → at l k ≡ f k) → (k : ℕ) → k < i + 1 → at (set l i v) k ≡ f k
filled_more f l i v h e below k b =
    elim (dec_lt k i) [
      | yes x ↦ at_set_other l i v k (omega arith) ∙ below k x
      | no x ↦ let q : k ≡ i = omega arith in rw q (at_set_same l i v h ∙ e)
    ]

-- a list of zeros holds 0 everywhere
pub at_zeros : (n i : ℕ) → at (replicate n 0) i ≡ 0
at_zeros zero i = refl
at_zeros (suc n) zero = refl
at_zeros (suc n) (suc i) = at_zeros n i

-- an entry of a mapped list
pub get_d_map : {A B : Type 0} (g : A → B) (a : A) (b : B) (l : List A) (k : ℕ) → k < length l → get_or (map g l) k b ≡ g (get_or l k a)
get_d_map g a b [] k h = absurd (not-suc-le-zero h)
get_d_map g a b (x ∷ xs) zero h = refl
get_d_map g a b (x ∷ xs) (suc k) h = get_d_map g a b xs k (le_of_suc-le-suc h)

pub at_map : {A : Type 0} (g : A → ℕ) (l : List A) (d : A) (k : ℕ) → k < length l → at (map g l) k ≡ g (get_or l k d)
at_map g l d k h = get_d_map g d 0 l k h

-- what holds of each entry of a list, and what follows from it
pub each_more : {p q : ℕ → Type 0} (l : List ℕ) → ((a : ℕ) → p a → q a) → Each p l → Each q l
each_more [] h e = tt
each_more (a ∷ l) h e = (h a e.0, each_more l h e.1)

-- two functions that agree on each entry of a list
pub map_each : (f g : ℕ → ℕ) (p : ℕ → Type 0) → ((a : ℕ) → p a → f a ≡ g a) → (l : List ℕ) → Each p l → map f l ≡ map g l
map_each f g p h [] e = refl
map_each f g p h (a ∷ l) e = ap₂ (λ (x : ℕ) (xs : List ℕ). x ∷ xs) (h a e.0) (map_each f g p h l e.1)

-- a run of numbers
pub length_run : (least many : ℕ) → length (run least many) ≡ many
length_run least zero = refl
length_run least (suc many) = ap suc (length_run (suc least) many)

pub at_run : (least many i : ℕ) → i < many → at (run least many) i ≡ least + i
at_run least zero i b = absurd (omega arith)
at_run least (suc many) zero b = omega arith
at_run least (suc many) (suc i) b = at_run (suc least) many i (omega arith) ∙ omega arith

pub length_firsts : (n : ℕ) (f : ℕ → ℕ) → length (firsts n f) ≡ n
length_firsts zero f = refl
length_firsts (suc n) f = length-append (firsts n f) (f n ∷ []) ∙ omega (arith, length_firsts n f)

pub at_firsts : (n : ℕ) (f : ℕ → ℕ) (i : ℕ) → i < n → at (firsts n f) i ≡ f i
at_firsts zero f i h = absurd (omega arith)
at_firsts (suc n) f i h =
    let long : length (firsts n f) ≡ n = length_firsts n f in
    elim (dec_lt i n) [
      | yes l ↦ get_or-append (firsts n f) (f n ∷ []) 0 i (omega arith) ∙ at_firsts n f i l
      | no m ↦
          let e : i ≡ length (firsts n f) = omega arith in
          ap (at (firsts (suc n) f)) e ∙ get_or-append_seam (firsts n f) (f n) [] 0 ∙ ap f (sym long ∙ sym e)
    ]

pub firsts_at : (n : ℕ) (l : List ℕ) → length l ≡ n → firsts n (at l) ≡ l
firsts_at n l h = ext_get_or 0 (firsts n (at l)) l (length_firsts n (at l) ∙ sym h) (λ i b. at_firsts n (at l) i (omega (arith, length_firsts n (at l))))

pub firsts_same : (n : ℕ) (f g : ℕ → ℕ) → ((i : ℕ) → i < n → f i ≡ g i) → firsts n f ≡ firsts n g
firsts_same zero f g h = refl
firsts_same (suc n) f g h = ap₂ (λ (l : List ℕ) (x : ℕ). l ++ (x ∷ [])) (firsts_same n f g (λ i b. h i (omega arith))) (h n (omega arith))

pub sum_to_same : (n : ℕ) (f g : ℕ → ℕ) → ((i : ℕ) → i < n → f i ≡ g i) → sum_to n f ≡ sum_to n g
sum_to_same zero f g h = refl
sum_to_same (suc n) f g h = ap₂ (λ (x y : ℕ). x + y) (sum_to_same n f g (λ i b. h i (omega arith))) (h n (omega arith))

-- larger values have no smaller sum
pub sum_to_monotone : (n : ℕ) (f g : ℕ → ℕ) → ((i : ℕ) → i < n → f i ≤ g i) → sum_to n f ≤ sum_to n g
sum_to_monotone zero f g h = omega arith
sum_to_monotone (suc n) f g h = omega (arith, sum_to_monotone n f g (λ i l. h i (omega arith)), h n (omega arith))

-- values no larger, of the same sum, are the same
pub sum_to_equal : (n : ℕ) (f g : ℕ → ℕ) → ((i : ℕ) → i < n → f i ≤ g i) → sum_to n f ≡ sum_to n g → (i : ℕ) → i < n → f i ≡ g i
sum_to_equal zero f g h e i b = absurd (omega arith)
sum_to_equal (suc n) f g h e i b =
    let under = sum_to_monotone n f g (λ x l. h x (omega arith)) in
    let last = h n (omega arith) in
    elim (dec_lt i n) [
      | yes l ↦ sum_to_equal n f g (λ x m. h x (omega arith)) (omega arith) i l
      | no l ↦ let q : i ≡ n = omega arith in rw q (omega arith)
    ]

-- more values have no smaller sum
pub sum_to_grows : (m n : ℕ) (f : ℕ → ℕ) → m ≤ n → sum_to m f ≤ sum_to n f
sum_to_grows m zero f h = let e : m ≡ 0 = omega arith in rw e (omega arith)
sum_to_grows m (suc n) f h =
    elim (dec_lt n m) [
      | yes l ↦ let e : m ≡ suc n = omega arith in rw e (omega arith)
      | no l ↦ omega (arith, sum_to_grows m n f (omega arith))
    ]
