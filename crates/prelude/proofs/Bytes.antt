-- Where a byte stands: the part of a list that is left to search, a place further.
use Rattle.std.proofs.Common.{ℕ, suc, ◌+◌, ◌<◌, ◌≤◌, ◌≡◌, cond, ap, ◌∙◌, take, length, get_or, drop, arith, drop-cons, add-one, List, [], ◌∷◌}
use Rattle.std.proofs.lemmas.List.{get_or-take, length-take-le}
use Rattle.std.proofs.lemmas.Bool.{eq-eqb, ne_eqb}
use Rattle.std.proofs.Math.ListN.{drop_of_length-le}
use Rattle.prelude.specs.Bytes.{index_of, slice}

-- one place further, of a part that is not at its end
slice_more : (s : List ℕ) (i to : ℕ) → i < to → to ≤ length s → slice i to s ≡ get_or s i 0 ∷ slice (i + 1) to s
unfolding slice
slice_more s i to h l =
    let n = length-take-le to s l in
    let e = get_or-take to s i 0 h in
    let m : i < length (take to s) = omega (arith, n) in
    rw (add-one i) (drop-cons (take to s) i 0 m ∙ ap (λ (x : ℕ). x ∷ drop (suc i) (take to s)) e)

slice_end : (s : List ℕ) (to : ℕ) → to ≤ length s → slice to to s ≡ []
unfolding slice
slice_end s to l = drop_of_length-le (take to s) (omega (arith, length-take-le to s l))

-- the byte stands at place i
pub index_here : (s : List ℕ) (i to b : ℕ) → i < to → to ≤ length s → get_or s i 0 ≡ b → index_of b (slice i to s) ≡ 0
index_here s i to b h l e =
    ap (index_of b) (slice_more s i to h l) ∙ ap (λ x. cond x 0 (suc (index_of b (slice (i + 1) to s)))) (eq-eqb (get_or s i 0) b e)

-- it does not
pub index_further : (s : List ℕ) (i to b : ℕ) → i < to → to ≤ length s → (get_or s i 0 ≡ b → ⊥) → index_of b (slice i to s) ≡ suc (index_of b (slice (i + 1) to s))
index_further s i to b h l e =
    ap (index_of b) (slice_more s i to h l) ∙ ap (λ x. cond x 0 (suc (index_of b (slice (i + 1) to s)))) (ne_eqb (get_or s i 0) b e)

pub index_none : (s : List ℕ) (to b : ℕ) → to ≤ length s → index_of b (slice to to s) ≡ 0
index_none s to b l = ap (index_of b) (slice_end s to l)
