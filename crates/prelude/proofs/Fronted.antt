-- Every byte of a buffer with a list in front: the list's, then what stood there before.
use Prim.Native.Nat.{ℕ, ◌≤◌}
use mathlib.Core.Path.{◌≡◌, ap, sym, ◌∙◌}
use mathlib.Core.List.{List, ◌++◌}
use lib.ListN.{length, take, drop}
use lib.Seq.{take-append_seam, drop-append_seam, take-length, length-take-le, get_or-take}
use Rattle.prelude.specs.Lists.{at, firsts, fronted}
use Rattle.prelude.proofs.Lists.{firsts_at, firsts_same}

pub front_fronted : (new buffer : List ℕ) → take (length new) (fronted new buffer) ≡ new
front_fronted new buffer = take-append_seam new (drop (length new) buffer)

pub rest_fronted : (new buffer : List ℕ) → drop (length new) (fronted new buffer) ≡ drop (length new) buffer
rest_fronted new buffer = drop-append_seam new (drop (length new) buffer)

-- the first entries of a list, as a part of it and as values
firsts_take : (n : ℕ) (l : List ℕ) → n ≤ length l → firsts n (at l) ≡ take n l
firsts_take n l h =
    firsts_same n (at l) (at (take n l)) (λ i b. sym (get_or-take n l i 0 b)) ∙ firsts_at n (take n l) (length-take-le n l h)

-- a copied front
pub copied_front : (n : ℕ) (l buffer : List ℕ) → n ≤ length l → take (length (take n l)) (take n l) ++ drop (length (take n l)) buffer ≡ fronted (firsts n (at l)) buffer
copied_front n l buffer h =
    ap (λ (x : List ℕ). x ++ drop (length (take n l)) buffer) (take-length (take n l))
    ∙ ap (λ (x : List ℕ). fronted x buffer) (sym (firsts_take n l h))
