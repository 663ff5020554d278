-- What stands at a position of a sheet, case by case.
use Prim.Native.Nat.{ℕ, ◌+◌, ◌≤◌, ◌<◌}
use native.Mathlib.Omega.{arith}
use mathlib.Core.Path.{◌≡◌, refl, ap, ◌∙◌}
use mathlib.Core.Bool.{Bool, true, false, ◌||◌, or-true, cond}
use mathlib.Core.List.{List}
use lib.ListN.{length}
use lib.Dec.{leb, ltb}
use borrow.Author.Tests.{lt-ltb, le-ltb, le-leb, lt-leb, ltb-false}
use Rattle.prelude.proofs.Tests.{or_both}
use Rattle.records.specs.Record.{cut, length_at, kind_at}
use Rattle.records.specs.Step.{step_at, behind, stepped}
use Rattle.records.specs.declared.Step.{Step}
use Rattle.records.specs.declared.Step.TheVariants.{Record, Cut, End}

pub cut_head : (s : List ℕ) (i : ℕ) → length s < i + 4 → cut s i ≡ true
cut_head s i h = rw (lt-ltb (length s) (i + 4) h)

pub cut_payload : (s : List ℕ) (i : ℕ) → length s < i + 4 + length_at s i → cut s i ≡ true
cut_payload s i h = ap (λ (b : Bool). ltb (length s) (i + 4) || b) (lt-ltb (length s) (i + 4 + length_at s i) h) ∙ or-true (ltb (length s) (i + 4))

pub not_cut : (s : List ℕ) (i : ℕ) → i + 4 + length_at s i ≤ length s → cut s i ≡ false
not_cut s i h =
    ap (λ (b : Bool). b || ltb (length s) (i + 4 + length_at s i)) (le-ltb (length s) (i + 4) (omega arith))
    ∙ le-ltb (length s) (i + 4 + length_at s i) h

pub step_end : (s : List ℕ) (i : ℕ) → length s ≤ i → End ≡ step_at s i
step_end s i h = rw (le-leb (length s) i h)

pub step_cut : (s : List ℕ) (i : ℕ) → i < length s → cut s i ≡ true → Cut ≡ step_at s i
step_cut s i h e = rw (lt-leb (length s) i h, e)

pub step_record : (s : List ℕ) (i : ℕ) → i + 4 + length_at s i ≤ length s → Record (kind_at s i) (i + 4) (length_at s i) ≡ step_at s i
step_record s i h = rw (lt-leb (length s) i (omega arith), not_cut s i h)

-- the position behind it follows from what stands there
pub stepped_as : (s : List ℕ) (i : ℕ) (x : Step) → x ≡ step_at s i → record { step = x; behind = behind i x } ≡ stepped s i
stepped_as s i x e = ap (λ (y : Step). record { step = y; behind = behind i y }) e

-- what stands at a position, from the record step
pub uncut : (s : List ℕ) (i : ℕ) → cut s i ≡ false → i + 4 + length_at s i ≤ length s
uncut s i e =
    ltb-false (length s) (i + 4 + length_at s i)
    (or_both (ltb (length s) (i + 4)) (ltb (length s) (i + 4 + length_at s i)) e).1

pub record Whole (s : List ℕ) (i a b d : ℕ) : Type 0 where
  pub kind : a ≡ kind_at s i
  pub start : b ≡ i + 4
  pub len : d ≡ length_at s i
  pub whole : cut s i ≡ false
  pub inside : i + 4 + length_at s i ≤ length s

pub step_whole : (s : List ℕ) (i a b d : ℕ) → step_at s i ≡ Record a b d → Whole s i a b d
step_whole s i a b d e = go (leb (length s) i) (cut s i) refl refl e
  where
    go : (x y : Bool) → leb (length s) i ≡ x → cut s i ≡ y → cond x End (cond y Cut (Record (kind_at s i) (i + 4) (length_at s i))) ≡ Record a b d → Whole s i a b d
    go true y ex ey z = let w : ◌≡◌ {A = ℕ} 0 1 = cc in absurd (omega arith)
    go false true ex ey z = let w : ◌≡◌ {A = ℕ} 0 1 = cc in absurd (omega arith)
    go false false ex ey z = record { kind = cc; start = cc; len = cc; whole = ey; inside = uncut s i ey }

-- the record step is whole where nothing is cut
pub step_uncut : (s : List ℕ) (i : ℕ) → i < length s → cut s i ≡ false → step_at s i ≡ Record (kind_at s i) (i + 4) (length_at s i)
step_uncut s i h e = rw (lt-leb (length s) i h, e)

pub behind_whole : (s : List ℕ) (i : ℕ) → i < length s → cut s i ≡ false → behind i (step_at s i) ≡ i + 4 + length_at s i
behind_whole s i h e = ap (behind i) (step_uncut s i h e)
