-- What a test or a copy of the first n elements says place by place.
use Prim.Native.Nat.{ℕ, ◌≤◌, ◌<◌}
use native.Mathlib.Omega.{arith}
use mathlib.Core.Path.{◌≡◌, ap, sym, ◌∙◌}
use mathlib.Core.Bool.{Bool, true}
use mathlib.Core.List.{List, ◌++◌}
use lib.ListN.{length, take, drop}
use Rattle.std.proofs.lemmas.List.{length-take-le, get_or-take, drop_all, append-nil}
use Rattle.std.specs.Prelude.{IsTrue, EachIndex, slice_index, ◌↔◌}
use mathlib.Core.Logic.{inl, inr}
use Rattle.prelude.proofs.Tests.{decided, true_every, every_true, true_not_false}
use Rattle.prelude.proofs.Lists.{firsts_same, firsts_at}
use Rattle.prelude.specs.Lists.{at, firsts}
use Rattle.prelude.specs.Tests.{every}

pub firsts_taken : (l : List ℕ) (n : ℕ) → n ≤ length l → firsts n (at l) ≡ take n l
firsts_taken l n h =
    firsts_same n (at l) (at (take n l)) (λ i b. sym (get_or-take n l i 0 b)) ∙ firsts_at n (take n l) (length-take-le n l h)

-- a test that holds just where p does at each place below n
pub every_below : (b : Bool) (p : ℕ → Bool) (n : ℕ) → (IsTrue b ↔ ((k : ℕ) → k < n → p k ≡ true)) → b ≡ every n p
every_below b p n e =
    elim (decided b) [
      | inl y ↦ y ∙ sym (true_every n p (e.0 y))
      | inr y ↦ elim (decided (every n p)) [
        | inl z ↦ absurd (true_not_false b (e.1 (every_true n p z)) y)
        | inr z ↦ y ∙ sym z
      ]
    ]

-- the same, of the first n elements of a list
pub every_taken :
    (b : Bool) (p : ℕ → Bool) (l : List ℕ) (n : ℕ) → n ≤ length l → (IsTrue b ↔ EachIndex (take n l) (λ k. p (slice_index (take n l) k) ≡ true)) → b ≡ every n (λ i. p (at l i))
every_taken b p l n h e =
    let long = length-take-le n l h in
    every_below b (λ i. p (at l i)) n (
      λ y k s. ap p (sym (get_or-take n l k 0 s)) ∙ e.0 y k (omega arith),
      λ f. e.1 (λ k s. let j : k < n = omega arith in ap p (get_or-take n l k 0 j) ∙ f k j),
    )

-- a copy that fills the stretch that it is copied to
pub copied_whole : (s m : List ℕ) → length m ≤ length s → s ++ drop (length s) m ≡ s
copied_whole s m h = ap (λ (l : List ℕ). s ++ l) (drop_all (length s) m h) ∙ append-nil s
