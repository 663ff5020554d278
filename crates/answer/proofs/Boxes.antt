-- The box of some ranges holds exactly the lists in range, the list that comes first standing first.
use Prim.Native.Nat.{ℕ, zero, suc, ◌+◌, ◌≤◌, ◌<◌}
use mathlib.Core.Path.{◌≡◌, refl, ap}
use mathlib.Core.Logic.{◌⊎◌, inl, inr}
use mathlib.Core.List.{List, [], ◌∷◌, map}
use lib.ListN.{length, get_or}
use native.Mathlib.Decide.{ℕ_discrete}
use native.Mathlib.Omega.{arith}
use Rattle.prelude.specs.Lists.{at, run}
use Rattle.logic.specs.Order.{Before}
use Rattle.logic.specs.Box.{Range, fronts, box}
use Rattle.answer.proofs.Lists.{Mem, Sorted, mem_left, mem_right, mem_either, mem_map, map_mem, sorted_append, sorted_map}

abbrev pub InRange : Range → ℕ → Type 0
InRange r x = (r.least ≤ x) × (x < r.least + r.many)

-- as many entries as ranges, each in its range
abbrev pub InBox : List Range → List ℕ → Type 0
InBox [] [] = Unit
InBox [] (x ∷ xs) = ⊥
InBox (r ∷ rs) [] = ⊥
InBox (r ∷ rs) (x ∷ xs) = InRange r x × InBox rs xs

pub mem_run : (least many x : ℕ) → least ≤ x → x < least + many → Mem x (run least many)
mem_run least zero x h l = absurd (omega arith)
mem_run least (suc many) x h l =
    elim (ℕ_discrete x least) [ yes e ↦ inl e | no n ↦ inr (mem_run (suc least) many x (omega arith) (omega arith)) ]

pub run_mem : (least many x : ℕ) → Mem x (run least many) → (least ≤ x) × (x < least + many)
run_mem least zero x m = absurd m
run_mem least (suc many) x (inl e) = omega arith
run_mem least (suc many) x (inr m) = let q : (suc least ≤ x) × (x < suc least + many) = run_mem (suc least) many x m in omega arith

pub sorted_run : (least many : ℕ) → Sorted (λ x y. x < y) (run least many)
sorted_run least zero = tt
sorted_run least (suc many) = (λ y m. (run_mem (suc least) many y m).0, sorted_run (suc least) many)

abbrev pub headed : ℕ → List ℕ → List ℕ
headed x l = x ∷ l

mem_fronts : (x : ℕ) (l xs : List ℕ) (tails : List (List ℕ)) → Mem x xs → Mem l tails → Mem (x ∷ l) (fronts xs tails)
mem_fronts x l [] tails m n = absurd m
mem_fronts x l (y ∷ xs) tails (inl e) n =
    mem_left (x ∷ l) (map (headed y) tails) (fronts xs tails) (rw e (mem_map (headed y) l tails n))
mem_fronts x l (y ∷ xs) tails (inr m) n = mem_right (x ∷ l) (map (headed y) tails) (fronts xs tails) (mem_fronts x l xs tails m n)

-- an entry of fronts, taken apart
record Fronted (k xs : List ℕ) (tails : List (List ℕ)) : Type 0 where
  head : ℕ
  tail : List ℕ
  is : k ≡ head ∷ tail
  among : Mem head xs
  behind : Mem tail tails

fronts_mem : (k xs : List ℕ) (tails : List (List ℕ)) → Mem k (fronts xs tails) → Fronted k xs tails
fronts_mem k [] tails m = absurd m
fronts_mem k (x ∷ xs) tails m = step (mem_either k (map (headed x) tails) (fronts xs tails) m) (fronts_mem k xs tails)
  where
    step : Mem k (map (headed x) tails) ⊎ Mem k (fronts xs tails) → (Mem k (fronts xs tails) → Fronted k xs tails) → Fronted k (x ∷ xs) tails
    step (inl n) r =
        let q : (a : List ℕ) × Mem a tails × (k ≡ headed x a) = map_mem (headed x) k tails n in
        record { head = x; tail = q.0; is = q.2; among = inl refl; behind = q.1 }
    step (inr n) r =
        let f : Fronted k xs tails = r n in
        record { head = f.head; tail = f.tail; is = f.is; among = inr f.among; behind = f.behind }

sorted_fronts : (xs : List ℕ) (tails : List (List ℕ)) → Sorted (λ x y. x < y) xs → Sorted Before tails → Sorted Before (fronts xs tails)
sorted_fronts [] tails s t = tt
sorted_fronts (x ∷ xs) tails s t =
    sorted_append Before (map (headed x) tails) (fronts xs tails)
    (sorted_map Before Before (headed x) (λ k l b. inr (refl, b)) tails t)
    (sorted_fronts xs tails s.1 t)
    (λ k l m n.
    let p : (a : List ℕ) × Mem a tails × (k ≡ headed x a) = map_mem (headed x) k tails m in
    let q : Fronted l xs tails = fronts_mem l xs tails n in
    rw (p.2, q.is) (inl (s.0 q.head q.among)))

pub box_mem : (rs : List Range) (l : List ℕ) → InBox rs l → Mem l (box rs)
box_mem [] [] b = inl refl
box_mem [] (x ∷ xs) b = absurd b
box_mem (r ∷ rs) [] b = absurd b
box_mem (r ∷ rs) (x ∷ xs) b =
    mem_fronts x xs (run r.least r.many) (box rs) (mem_run r.least r.many x b.0.0 b.0.1) (box_mem rs xs b.1)

pub mem_box : (rs : List Range) (l : List ℕ) → Mem l (box rs) → InBox rs l
mem_box [] l (inl e) = rw e tt
mem_box [] l (inr m) = absurd m
mem_box (r ∷ rs) l m =
    let q : Fronted l (run r.least r.many) (box rs) = fronts_mem l (run r.least r.many) (box rs) m in
    rw q.is (run_mem r.least r.many q.head q.among, mem_box rs q.tail q.behind)

pub sorted_box : (rs : List Range) → Sorted Before (box rs)
sorted_box [] = (λ y m. absurd m, tt)
sorted_box (r ∷ rs) = sorted_fronts (run r.least r.many) (box rs) (sorted_run r.least r.many) (sorted_box rs)

-- a box of ranges that come from the entries of a list, place by place
module _ {A : Type 0} (f : A → Range) (d : A) where
  pub box_long : (l : List A) (xs : List ℕ) → InBox (map f l) xs → length xs ≡ length l
  box_long [] [] b = refl
  box_long [] (x ∷ xs) b = absurd b
  box_long (a ∷ l) [] b = absurd b
  box_long (a ∷ l) (x ∷ xs) b = ap suc (box_long l xs b.1)

  pub box_at : (l : List A) (xs : List ℕ) → InBox (map f l) xs → (i : ℕ) → i < length l → InRange (f (get_or l i d)) (at xs i)
  box_at [] [] b i h = absurd (omega arith)
  box_at [] (x ∷ xs) b i h = absurd b
  box_at (a ∷ l) [] b i h = absurd b
  box_at (a ∷ l) (x ∷ xs) b zero h = b.0
  box_at (a ∷ l) (x ∷ xs) b (suc i) h = box_at l xs b.1 i (omega arith)

  pub at_box : (l : List A) (xs : List ℕ) → length xs ≡ length l → ((i : ℕ) → i < length l → InRange (f (get_or l i d)) (at xs i)) → InBox (map f l) xs
  at_box [] [] e h = tt
  at_box [] (x ∷ xs) e h = let z : suc (length xs) ≡ 0 = e in omega arith
  at_box (a ∷ l) [] e h = let z : 0 ≡ suc (length l) = e in omega arith
  at_box (a ∷ l) (x ∷ xs) e h = (h 0 (omega arith), at_box l xs (omega arith) (λ i b. h (suc i) (omega arith)))
