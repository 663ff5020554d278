-- No sheet's answer depends on its neighbours, and the order of the sheets does not matter to what is left.
use Prim.Native.Nat.{ℕ, zero, suc, ◌+◌, ◌-◌, ◌≤◌, ◌<◌}
use native.Mathlib.Omega.{arith}
use native.Mathlib.Decide.{dec_lt, ℕ_discrete}
use mathlib.Core.Path.{◌≡◌, refl, ap, ap₂, sym, ◌∙◌}
use mathlib.Core.Bool.{Bool, cond}
use mathlib.Core.HLevel.{hedberg}
use mathlib.Core.List.{List, [], ◌∷◌, ◌++◌, map, Perm, Permᴰ}
use mathlib.Core.Option.{Option, none, some, is_set}
use lib.ListN.{length, get_or, length-append, length-map}
use lib.Dec.{ltb}
use borrow.Author.Tests.{lt-ltb, le-ltb}
use Rattle.prelude.specs.Lists.{at, sum_to}
use Rattle.prelude.proofs.Lists.{at_firsts, get_d_map}
use Rattle.bundle.specs.Bundle.{Alone, sum_alone, refused_alone, Part, most_sheets, sheet_in, parts, sheets, smallest, Outcome, turned_down, summed, joined, summing, gives, consider, bundling, Bundling, Left}
use Rattle.answer.specs.Answer.{sum}
use Rattle.bundle.specs.Promise.{sheet_at, left_in}
use Rattle.bundle.specs.Written.{bundle_of}
use Rattle.bundle.proofs.Located.{parts_few}
use Rattle.bundle.proofs.Smallest.{smallest_exactly}
use Rattle.bundle.proofs.Summing.{sharing_over, sharing_within}
use Rattle.bundle.proofs.Promised.{promised}
use Rattle.bundle.proofs.Written.{bundled_sheets}

-- THEOREM: each sum is the sheet's own answer
pub own_sum : (s : List ℕ) (limit left k : ℕ) → (bundling s limit).stock ≡ Left left → k < length (parts s) → smallest (sheet_at s k) ≡ sum_alone (at (bundling s limit).sums k)
own_sum s limit left k e h =
    let x = (promised s limit).shares left e in
    (smallest_exactly (sheet_at s k) (at x.sums k)).1 (x.all.own k h)
    ∙ ap sum_alone (sym (ap (λ (l : List ℕ). at l k) x.listed ∙ at_firsts most_sheets (at x.sums) k (omega (arith, parts_few s))))

-- THEOREM: bundles that have the same sheet at a place give it the same sum, whatever their other sheets and their limits are
pub same_sum : (s t : List ℕ) (limit room left over k : ℕ) → (bundling s limit).stock ≡ Left left → (bundling t room).stock ≡ Left over → k < length (parts s) → k < length (parts t) → sheet_at s k ≡ sheet_at t k → at (bundling s limit).sums k ≡ at (bundling t room).sums k
same_sum s t limit room left over k a b h j e =
    let r : sum_alone (at (bundling s limit).sums k) ≡ sum_alone (at (bundling t room).sums k) = sym (own_sum s limit left k a h) ∙ ap smallest e ∙ own_sum t room over k b j in
    cc

-- the number of a sheet in a bundle that was written
module _ (ps : List (List ℕ)) (few : length ps ≤ most_sheets) where
  parts_bundled : length (parts (bundle_of ps)) ≡ length ps
  parts_bundled = sym (length-map (parts (bundle_of ps)) (sheet_in (bundle_of ps))) ∙ ap length (bundled_sheets ps few)

  sheet_bundled : (k : ℕ) → k < length ps → sheet_at (bundle_of ps) k ≡ get_or ps k []
  sheet_bundled k h =
      sym (get_d_map (sheet_in (bundle_of ps)) _ [] (parts (bundle_of ps)) k (omega (arith, parts_bundled)))
      ∙ ap (λ (l : List (List ℕ)). get_or l k []) (bundled_sheets ps few)

-- THEOREM: replacing one sheet of a bundle by another leaves the sums of all others
pub replaced : (front : List (List ℕ)) (p q : List ℕ) (rest : List (List ℕ)) (limit left over k : ℕ) → length (front ++ (p ∷ rest)) ≤ most_sheets → (bundling (bundle_of (front ++ (p ∷ rest))) limit).stock ≡ Left left → (bundling (bundle_of (front ++ (q ∷ rest))) limit).stock ≡ Left over → k < length (front ++ (p ∷ rest)) → (k ≡ length front → ⊥) → at (bundling (bundle_of (front ++ (p ∷ rest))) limit).sums k ≡ at (bundling (bundle_of (front ++ (q ∷ rest))) limit).sums k
replaced front p q rest limit left over k few a b h other =
    let lengths : length (front ++ (q ∷ rest)) ≡ length (front ++ (p ∷ rest)) = length-append front (q ∷ rest) ∙ sym (length-append front (p ∷ rest)) in
    let few' : length (front ++ (q ∷ rest)) ≤ most_sheets = omega (arith, lengths) in
    let h' : k < length (front ++ (q ∷ rest)) = omega (arith, lengths) in
    same_sum (bundle_of (front ++ (p ∷ rest))) (bundle_of (front ++ (q ∷ rest))) limit limit left over k a b
    (omega (arith, parts_bundled (front ++ (p ∷ rest)) few))
    (omega (arith, parts_bundled (front ++ (q ∷ rest)) few'))
    (sheet_bundled (front ++ (p ∷ rest)) few k h ∙ others front k other ∙ sym (sheet_bundled (front ++ (q ∷ rest)) few' k h'))
  where
    others : (l : List (List ℕ)) (j : ℕ) → (j ≡ length l → ⊥) → get_or (l ++ (p ∷ rest)) j [] ≡ get_or (l ++ (q ∷ rest)) j []
    others [] zero n = absurd (n refl)
    others [] (suc j) n = refl
    others (x ∷ l) zero n = refl
    others (x ∷ l) (suc j) n = others l j (λ e. n (ap suc e))

-- ---- the order
-- what sheets spend together, where each has an answer; there is at least one
abbrev plus : Alone → Option ℕ → Option ℕ
plus (refused_alone n i) o = none
plus (sum_alone k) none = none
plus (sum_alone k) (some m) = some (k + m)

abbrev spend : List (List ℕ) → Option ℕ
spend [] = some 0
spend (p ∷ ps) = plus (smallest p) (spend ps)

abbrev spent : List (List ℕ) → Option ℕ
spent [] = none
spent (p ∷ ps) = spend (p ∷ ps)

plus_swap : (x y : Alone) (o : Option ℕ) → plus x (plus y o) ≡ plus y (plus x o)
plus_swap (refused_alone n i) (refused_alone m j) o = refl
plus_swap (refused_alone n i) (sum_alone k) none = refl
plus_swap (refused_alone n i) (sum_alone k) (some m) = refl
plus_swap (sum_alone k) (refused_alone n i) none = refl
plus_swap (sum_alone k) (refused_alone n i) (some m) = refl
plus_swap (sum_alone k) (sum_alone l) none = refl
plus_swap (sum_alone k) (sum_alone l) (some m) = ap some (omega arith)

spend_perm : {ps qs : List (List ℕ)} → Permᴰ ps qs → spend ps ≡ spend qs
spend_perm Permᴰ.nil = refl
spend_perm (Permᴰ.cons e d) = ap₂ plus (ap smallest e) (spend_perm d)
spend_perm (Permᴰ.swap {a = a} {b = b} {l = l} e₁ e₂) =
    plus_swap (smallest a) (smallest b) (spend l) ∙ ap₂ (λ (x y : Alone). plus x (plus y (spend l))) (ap smallest e₂) (ap smallest e₁)
spend_perm (Permᴰ.trans d₁ d₂) = spend_perm d₁ ∙ spend_perm d₂

spent_perm : {ps qs : List (List ℕ)} → Permᴰ ps qs → spent ps ≡ spent qs
spent_perm Permᴰ.nil = refl
spent_perm (Permᴰ.cons e d) = spend_perm (Permᴰ.cons e d)
spent_perm (Permᴰ.swap {l = l} e₁ e₂) = spend_perm (Permᴰ.swap {l = l} e₁ e₂)
spent_perm (Permᴰ.trans d₁ d₂) = spent_perm d₁ ∙ spent_perm d₂

-- what a limit leaves
abbrev leave : ℕ → Option ℕ → Option ℕ
leave limit none = none
leave limit (some m) = cond (ltb limit m) none (some (limit - m))

sum_to_first : (n : ℕ) (f : ℕ → ℕ) → sum_to (suc n) f ≡ f 0 + sum_to n (λ i. f (suc i))
sum_to_first zero f = omega arith
sum_to_first (suc n) f = omega (arith, sum_to_first n f)

abbrev spent_in : Outcome → Option ℕ
spent_in (turned_down n i) = none
spent_in (summed sums) = some (sum sums)

spend_joined : (start : ℕ) (x : Alone) (o : Outcome) → spent_in (joined start x o) ≡ plus x (spent_in o)
spend_joined start (refused_alone n i) o = refl
spend_joined start (sum_alone k) (turned_down n i) = refl
spend_joined start (sum_alone k) (summed sums) = ap some (sum_to_first (length sums) (at (k ∷ sums)))

spend_summing : (s : List ℕ) (ps : List Part) → spent_in (summing s ps) ≡ spend (map (sheet_in s) ps)
unfolding summing
spend_summing s [] = refl
spend_summing s (p ∷ ps) = spend_joined p.start (smallest (sheet_in s p)) (summing s ps) ∙ ap (plus (smallest (sheet_in s p))) (spend_summing s ps)

leaves_spent : (limit : ℕ) (o : Outcome) → left_in (gives limit o).stock ≡ leave limit (spent_in o)
leaves_spent limit (turned_down n i) = refl
leaves_spent limit (summed sums) =
    elim (dec_lt limit (sum sums)) [
      | yes h ↦ ap (λ (b : Bundling). left_in b.stock) (sharing_over limit sums h) ∙ sym (ap (λ (b : Bool). cond b none (some (limit - sum sums))) (lt-ltb limit (sum sums) h))
      | no h ↦ ap (λ (b : Bundling). left_in b.stock) (sharing_within limit sums (omega arith)) ∙ sym (ap (λ (b : Bool). cond b none (some (limit - sum sums))) (le-ltb limit (sum sums) (omega arith)))
    ]

left_spent : (s : List ℕ) (limit : ℕ) → left_in (bundling s limit).stock ≡ leave limit (spent (sheets s))
unfolding bundling
left_spent s limit = by (parts s)
  where
    by : (ps : List Part) → left_in (consider s limit ps).stock ≡ leave limit (spent (map (sheet_in s) ps))
    by [] = refl
    by (p ∷ ps) = leaves_spent limit (summing s (p ∷ ps)) ∙ ap (leave limit) (spend_summing s (p ∷ ps))

-- THEOREM: the same sheets in another order leave the same, or have no answer either
pub order_leaves : (s t : List ℕ) (limit : ℕ) → Perm (sheets s) (sheets t) → left_in (bundling s limit).stock ≡ left_in (bundling t limit).stock
order_leaves s t limit p =
    ∥∥₁_rec (is_set (hedberg ℕ_discrete) _ _)
    (λ d. left_spent s limit ∙ ap (leave limit) (spent_perm d) ∙ sym (left_spent t limit)) p
