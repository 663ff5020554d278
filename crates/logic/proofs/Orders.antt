-- "Comes first" on lists of one length is a strict total order, and the same order by functions; so is the order of structures by sum, then
-- sizes, then codes.
use Prim.Native.Nat.{ℕ, zero, suc, ◌≤◌, ◌<◌}
use mathlib.Core.Path.{◌≡◌, refl, ap, ap₂, sym, ◌∙◌, subst}
use mathlib.Core.Logic.{◌⊎◌, inl, inr, ◌↔◌}
use mathlib.Core.List.{List, [], ◌∷◌}
use lib.ListN.{length}
use native.Mathlib.Decide.{dec_lt}
use native.Mathlib.Omega.{arith}
use Rattle.logic.specs.Sheet.{Sheet}
use Rattle.prelude.specs.Lists.{at, sum_to, firsts}
use Rattle.prelude.proofs.Lists.{length_firsts, at_firsts, sum_to_same}
use Rattle.logic.specs.Structure.{Structure, codes}
use Rattle.logic.specs.Order.{Before, sizes_of, sum_of, Earlier, NoLater, NotAfter}
use Rattle.logic.proofs.Meaning.{length_codes}

-- of two lists, neither comes before the other and after it
pub before_asym : (xs ys : List ℕ) → Before xs ys → Before ys xs → ⊥
before_asym [] ys b c = b
before_asym (x ∷ xs) [] b c = b
before_asym (x ∷ xs) (y ∷ ys) (inl l) (inl m) = omega arith
before_asym (x ∷ xs) (y ∷ ys) (inl l) (inr m) = let e : y ≡ x = m.0 in omega arith
before_asym (x ∷ xs) (y ∷ ys) (inr l) (inl m) = let e : x ≡ y = l.0 in omega arith
before_asym (x ∷ xs) (y ∷ ys) (inr l) (inr m) = before_asym xs ys l.1 m.1

pub before_irrefl : (xs : List ℕ) → Before xs xs → ⊥
before_irrefl xs b = before_asym xs xs b b

-- of two lists of one length that differ, one comes first
pub before_total : (xs ys : List ℕ) → length xs ≡ length ys → (xs ≡ ys) ⊎ (Before xs ys ⊎ Before ys xs)
before_total [] [] h = inl refl
before_total [] (y ∷ ys) h = absurd (omega arith)
before_total (x ∷ xs) [] h = absurd (omega arith)
before_total (x ∷ xs) (y ∷ ys) h =
    elim (dec_lt x y) [
      | yes l ↦ inr (inl (inl l))
      | no m ↦ elim (dec_lt y x) [ yes l ↦ inr (inr (inl l)) | no k ↦ heads (omega arith) (before_total xs ys (omega arith)) ]
    ]
  where
    heads : x ≡ y → (xs ≡ ys) ⊎ (Before xs ys ⊎ Before ys xs) → (x ∷ xs ≡ y ∷ ys) ⊎ (Before (x ∷ xs) (y ∷ ys) ⊎ Before (y ∷ ys) (x ∷ xs))
    heads e (inl q) = inl (ap₂ (λ (z : ℕ) (zs : List ℕ). z ∷ zs) e q)
    heads e (inr (inl b)) = inr (inl (inr (e, b)))
    heads e (inr (inr b)) = inr (inr (inr (sym e, b)))

-- The same, said of the list xs that does not come after ys.
same_or_before : (xs ys : List ℕ) → length xs ≡ length ys → (Before ys xs → ⊥) → (ys ≡ xs) ⊎ Before xs ys
same_or_before xs ys h free = step (before_total xs ys h)
  where
    step : (xs ≡ ys) ⊎ (Before xs ys ⊎ Before ys xs) → (ys ≡ xs) ⊎ Before xs ys
    step (inl e) = inl (sym e)
    step (inr (inl b)) = inr b
    step (inr (inr b)) = absurd (free b)

not_before : (xs ys : List ℕ) → (ys ≡ xs) ⊎ Before xs ys → Before ys xs → ⊥
not_before xs ys (inl e) b = before_irrefl xs (subst (λ (l : List ℕ). Before l xs) e b)
not_before xs ys (inr c) b = before_asym xs ys c b

-- equal lists of values have equal sums
sum_same : (n : ℕ) (f g : ℕ → ℕ) → firsts n f ≡ firsts n g → sum_to n f ≡ sum_to n g
sum_same n f g e = sum_to_same n f g (λ i h. sym (at_firsts n f i h) ∙ ap (λ (l : List ℕ). at l i) e ∙ at_firsts n g i h)

-- M comes no later than N exactly when N does not come earlier than M
pub no_later_exactly : (sh : Sheet) (M N : Structure) → NoLater sh M N ↔ (Earlier sh N M → ⊥)
no_later_exactly sh M N = (never, always)
  where
    never : NoLater sh M N → Earlier sh N M → ⊥
    never k (inl l) = omega (arith, k.sum)
    never k (inr (e, inl b)) = not_before (sizes_of M sh) (sizes_of N sh) (k.sizes e) b
    never k (inr (e, inr (q, b))) = not_before (codes M sh) (codes N sh) (k.codes q) b

    least : (Earlier sh N M → ⊥) → sum_of M sh ≤ sum_of N sh
    least free = elim (dec_lt (sum_of N sh) (sum_of M sh)) [ yes l ↦ absurd (free (inl l)) | no m ↦ omega arith ]

    always : (Earlier sh N M → ⊥) → NoLater sh M N
    always free =
        record {
          sum = least free;
          sizes = λ e.
              same_or_before (sizes_of M sh) (sizes_of N sh)
              (length_firsts (length sh.bounds) M.size ∙ sym (length_firsts (length sh.bounds) N.size))
              (λ b. free (inr (e, inl b)));
          codes = λ q.
              same_or_before (codes M sh) (codes N sh) (length_codes M sh ∙ sym (length_codes N sh))
              (λ b. free (inr (sum_same (length sh.bounds) N.size M.size q, inr (q, b))));
        }

-- two structures, each no later than the other, have the same sizes and the same codes
pub no_later_both : (sh : Sheet) (M N : Structure) → NoLater sh M N → NoLater sh N M → (sizes_of M sh ≡ sizes_of N sh) × (codes M sh ≡ codes N sh)
no_later_both sh M N m n =
    let sums : sum_of N sh ≡ sum_of M sh = omega (arith, m.sum, n.sum) in
    let sizes : sizes_of M sh ≡ sizes_of N sh = same (sizes_of M sh) (sizes_of N sh) (m.sizes sums) (n.sizes (sym sums)) in
    (sizes, same (codes M sh) (codes N sh) (m.codes (sym sizes)) (n.codes sizes))
  where
    same : (xs ys : List ℕ) → (ys ≡ xs) ⊎ Before xs ys → (xs ≡ ys) ⊎ Before ys xs → xs ≡ ys
    same xs ys p (inl e) = e
    same xs ys p (inr b) = absurd (not_before xs ys p b)

-- the place where xs has the smaller entry, none before it differing
pub record Place (xs ys : List ℕ) : Type 0 where
  pub place : ℕ
  pub inside : place < length xs
  pub agree : (i : ℕ) → i < place → at xs i ≡ at ys i
  pub less : at xs place < at ys place

pub before_place : (xs ys : List ℕ) → Before xs ys → Place xs ys
before_place [] ys b = absurd b
before_place (x ∷ xs) [] b = absurd b
before_place (x ∷ xs) (y ∷ ys) (inl l) =
    record { place = 0; inside = omega arith; agree = λ i h. absurd (omega arith); less = l }
before_place (x ∷ xs) (y ∷ ys) (inr l) =
    let p : Place xs ys = before_place xs ys l.1 in
    record { place = suc p.place; inside = omega arith; agree = same p; less = p.less }
  where
    same : (p : Place xs ys) (i : ℕ) → i < suc p.place → at (x ∷ xs) i ≡ at (y ∷ ys) i
    same p zero h = l.0
    same p (suc i) h = p.agree i (omega arith)

-- the values of f do not come after those of g
pub not_after : (n : ℕ) (f g : ℕ → ℕ) → NotAfter n f g → Before (firsts n g) (firsts n f) → ⊥
not_after n f g h b =
    let p : Place (firsts n g) (firsts n f) = before_place (firsts n g) (firsts n f) b in
    let long : length (firsts n g) ≡ n = length_firsts n g in
    let inside : p.place < n = omega arith in
    let le : f p.place ≤ g p.place =
    h p.place inside
    (λ i l. sym (at_firsts n f i (omega arith)) ∙ sym (p.agree i l) ∙ at_firsts n g i (omega arith)) in
    omega (arith, at_firsts n g p.place inside, at_firsts n f p.place inside, p.less)
