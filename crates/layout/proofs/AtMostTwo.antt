-- Lists of at most two numbers, by their first and second with 255 for a missing one: parameters, arguments, and the terms that have
-- them.
use Prim.Native.Nat.{ℕ, zero, suc, ◌+◌, ◌≤◌, ◌<◌}
use native.Mathlib.Omega.{arith}
use native.Mathlib.Numerals.{add-one}
use mathlib.Core.Path.{◌≡◌, refl, ap, sym}
use mathlib.Core.Bool.{Bool, true, ◌&&◌, ◌||◌, and-true, cond}
use mathlib.Core.List.{List, [], ◌∷◌, map}
use lib.ListN.{length, get_or, take, drop}
use lib.Seq.{drop-cons}
use lib.Dec.{ltb, eqb}
use borrow.Author.Tests.{lt-ltb, le-ltb, ne_eqb, ltb-true}
use Rattle.logic.specs.Sheet.{Term}
use Rattle.prelude.specs.Tests.{Each, same_list, all}
use Rattle.prelude.proofs.Tests.{and_both}
use Rattle.prelude.proofs.Lists.{each_more}
use Rattle.layout.specs.Layout.{occurs}
use Rattle.layout.specs.Packed.{first, second}
use Rattle.layout.specs.Parts.{payload_bytes}
use Rattle.layout.specs.declared.Payload.{Payload}

-- at most two numbers, none of which is 255
pub record Pair (l : List ℕ) : Type 0 where
  pub few : length l ≤ 2
  pub small : Each (λ x. x < 255) l

-- two such lists are the same where their firsts and their seconds are
pub same_pair : (xs ys : List ℕ) → Pair xs → Pair ys → same_list xs ys ≡ (eqb (first xs) (first ys) && eqb (second xs) (second ys))
same_pair [] [] p q = refl
same_pair [] (y ∷ ys) p q = rw (ne_eqb 255 y (λ e. let h = q.small.0 in omega arith))
same_pair (x ∷ xs) [] p q = rw (ne_eqb x 255 (λ e. let h = p.small.0 in omega arith))
same_pair (x ∷ []) (y ∷ []) p q = refl
same_pair (x ∷ []) (y ∷ y' ∷ ys) p q = rw (ne_eqb 255 y' (λ e. let h = q.small.1.0 in omega arith))
same_pair (x ∷ x' ∷ xs) (y ∷ []) p q = rw (ne_eqb x' 255 (λ e. let h = p.small.1.0 in omega arith))
same_pair (x ∷ x' ∷ []) (y ∷ y' ∷ []) p q = ap (λ (b : Bool). eqb x y && b) (and-true (eqb x' y'))
same_pair (x ∷ x' ∷ []) (y ∷ y' ∷ y'' ∷ ys) p q = let h = q.few in absurd (omega arith)
same_pair (x ∷ x' ∷ x'' ∷ xs) (y ∷ y' ∷ ys) p q = let h = p.few in absurd (omega arith)

-- at most two numbers have equal values one by one where their firsts and their seconds have
pub pair_map : (c : ℕ → ℕ) (xs ys : List ℕ) → length xs ≡ length ys → length xs ≤ 2 → c (first xs) ≡ c (first ys) → c (second xs) ≡ c (second ys) → map c xs ≡ map c ys
pair_map c [] [] e n f g = refl
pair_map c [] (y ∷ ys) e n f g = absurd (omega arith)
pair_map c (x ∷ xs) [] e n f g = absurd (omega arith)
pair_map c (x ∷ []) (y ∷ []) e n f g = cc
pair_map c (x ∷ []) (y ∷ y' ∷ ys) e n f g = absurd (omega arith)
pair_map c (x ∷ x' ∷ xs) (y ∷ []) e n f g = absurd (omega arith)
pair_map c (x ∷ x' ∷ []) (y ∷ y' ∷ []) e n f g = cc
pair_map c (x ∷ x' ∷ []) (y ∷ y' ∷ y'' ∷ ys) e n f g = absurd (omega arith)
pair_map c (x ∷ x' ∷ x'' ∷ xs) (y ∷ y' ∷ ys) e n f g = absurd (omega arith)

-- the bytes behind a payload's first
abbrev pub args_of : Payload → List ℕ
args_of q = drop 1 (payload_bytes q)

module _ (q : Payload) where
  pub front : payload_bytes q ≡ q.b0 ∷ args_of q
  front = go q.len q.short.least
    where
      go : (n : ℕ) → 1 ≤ n → take n (q.b0 ∷ q.b1 ∷ q.b2 ∷ []) ≡ q.b0 ∷ drop 1 (take n (q.b0 ∷ q.b1 ∷ q.b2 ∷ []))
      go zero e = absurd (omega arith)
      go (suc n) e = refl

  pub args_few : length (args_of q) ≤ 2
  args_few = go q.len q.short.most
    where
      go : (n : ℕ) → n ≤ 3 → length (drop 1 (take n (q.b0 ∷ q.b1 ∷ q.b2 ∷ []))) ≤ 2
      go zero e = omega arith
      go (suc zero) e = omega arith
      go (suc (suc zero)) e = omega arith
      go (suc (suc (suc zero))) e = omega arith
      go (suc (suc (suc (suc n)))) e = absurd (omega arith)

  pub args_first : first (args_of q) ≡ q.b1
  args_first = go q.len q.short.second
    where
      go : (n : ℕ) → (n < 2 → q.b1 ≡ 255) → first (drop 1 (take n (q.b0 ∷ q.b1 ∷ q.b2 ∷ []))) ≡ q.b1
      go zero e = sym (e (omega arith))
      go (suc zero) e = sym (e (omega arith))
      go (suc (suc n)) e = refl

  pub args_second : second (args_of q) ≡ q.b2
  args_second = go q.len q.short.third
    where
      go : (n : ℕ) → (n < 3 → q.b2 ≡ 255) → second (drop 1 (take n (q.b0 ∷ q.b1 ∷ q.b2 ∷ []))) ≡ q.b2
      go zero e = sym (e (omega arith))
      go (suc zero) e = sym (e (omega arith))
      go (suc (suc zero)) e = sym (e (omega arith))
      go (suc (suc (suc n))) e = refl

  -- the test whether they are all below n, by how many there are
  pub below_none : (n : ℕ) → q.len < 2 → true ≡ all (λ a. ltb a n) (args_of q)
  below_none n = go q.len q.short.least
    where
      go : (m : ℕ) → 1 ≤ m → m < 2 → true ≡ all (λ a. ltb a n) (drop 1 (take m (q.b0 ∷ q.b1 ∷ q.b2 ∷ [])))
      go zero e e' = absurd (omega arith)
      go (suc zero) e e' = refl
      go (suc (suc m)) e e' = absurd (omega arith)

  pub below_one : (n : ℕ) → 2 ≤ q.len → q.len < 3 → ltb q.b1 n ≡ all (λ a. ltb a n) (args_of q)
  below_one n = go q.len
    where
      go : (m : ℕ) → 2 ≤ m → m < 3 → ltb q.b1 n ≡ all (λ a. ltb a n) (drop 1 (take m (q.b0 ∷ q.b1 ∷ q.b2 ∷ [])))
      go zero e e' = absurd (omega arith)
      go (suc zero) e e' = absurd (omega arith)
      go (suc (suc zero)) e e' = sym (and-true (ltb q.b1 n))
      go (suc (suc (suc m))) e e' = absurd (omega arith)

  pub below_two : (n : ℕ) → 3 ≤ q.len → (ltb q.b1 n && ltb q.b2 n) ≡ all (λ a. ltb a n) (args_of q)
  below_two n e = go q.len e q.short.most
    where
      go : (m : ℕ) → 3 ≤ m → m ≤ 3 → (ltb q.b1 n && ltb q.b2 n) ≡ all (λ a. ltb a n) (drop 1 (take m (q.b0 ∷ q.b1 ∷ q.b2 ∷ [])))
      go zero e e' = absurd (omega arith)
      go (suc zero) e e' = absurd (omega arith)
      go (suc (suc zero)) e e' = absurd (omega arith)
      go (suc (suc (suc zero))) e e' = ap (λ (b : Bool). ltb q.b1 n && b) (sym (and-true (ltb q.b2 n)))
      go (suc (suc (suc (suc m)))) e e' = absurd (omega arith)

-- what passes the test is below, and what is below passes it
pub all_below : (n : ℕ) (l : List ℕ) → all (λ a. ltb a n) l ≡ true → Each (λ a. a < n) l
all_below n [] e = tt
all_below n (x ∷ l) e =
    let h = and_both (ltb x n) (all (λ a. ltb a n) l) e in
    (ltb-true x n h.0, all_below n l h.1)

pub below_all : (n : ℕ) (l : List ℕ) → Each (λ a. a < n) l → all (λ a. ltb a n) l ≡ true
below_all n [] e = refl
below_all n (x ∷ l) e = rw (lt-ltb x n e.0) (below_all n l e.1)

pub each_weaken : (n m : ℕ) (l : List ℕ) → n ≤ m → Each (λ a. a < n) l → Each (λ a. a < m) l
each_weaken n m l h = each_more l (λ a b. omega arith)

-- the sorts of the arguments, from a table by term whose entries past the terms are never asked
pub first_map : (g : ℕ → ℕ) (n : ℕ) (l : List ℕ) → n ≤ 255 → Each (λ a. a < n) l → first (map g l) ≡ cond (ltb (first l) n) (g (first l)) 255
first_map g n [] h e = rw (le-ltb 255 n h)
first_map g n (x ∷ l) h e = rw (lt-ltb x n e.0)

pub second_map : (g : ℕ → ℕ) (n : ℕ) (l : List ℕ) → n ≤ 255 → Each (λ a. a < n) l → second (map g l) ≡ cond (ltb (second l) n) (g (second l)) 255
second_map g n [] h e = rw (le-ltb 255 n h)
second_map g n (x ∷ []) h e = rw (le-ltb 255 n h)
second_map g n (x ∷ y ∷ l) h e = rw (lt-ltb y n e.1.0)

-- whether a term occurs, one term after the other
pub occurs_from : (f : ℕ) (args : List ℕ) (ts : List Term) (d : Term) (i : ℕ) → i < length ts
    → occurs f args (drop i ts) ≡ ((eqb (get_or ts i d).symbol f && same_list (get_or ts i d).args args) || occurs f args (drop (i + 1) ts))
occurs_from f args ts d i h = rw (drop-cons ts i d h, add-one i)

pub each_map : (g : ℕ → ℕ) (n m : ℕ) (l : List ℕ) → ((a : ℕ) → a < n → g a < m) → Each (λ a. a < n) l → Each (λ a. a < m) (map g l)
each_map g n m [] h e = tt
each_map g n m (x ∷ l) h e = (h x e.0, each_map g n m l h e.1)

pub args_pair : (q : Payload) (n : ℕ) → n ≤ 255 → all (λ a. ltb a n) (args_of q) ≡ true → Pair (args_of q)
args_pair q n l e = record { few = args_few q; small = each_weaken n 255 (args_of q) l (all_below n (args_of q) e) }
