-- The bits of a mask: what a union, a single bit and the masks of 16 codes hold. Masks of 16 codes go by one computed test each.
use Prim.Native.Nat.{ℕ, zero, suc, ◌+◌, ◌-◌, ◌*◌, ◌/◌, ◌%◌, ◌^◌, ◌≤◌, ◌<◌}
use mathlib.Core.Path.{◌≡◌, refl, ap, ◌∙◌}
use mathlib.Core.Bool.{Bool, true, false, ◌||◌}
use mathlib.Core.Logic.{◌⊎◌, inl, inr}
use native.Mathlib.Nat.{mod-lt, div-eq_of_lt, mul-mod_left, pow-suc, one-mul, zero-div, zero-mod}
use native.Mathlib.Omega.{arith}
use borrow.Author.Tests.{eqb-true, leb-true}
use lib.Dec.{leb, eqb}
use lib.Bits.{bit_or, or_shr, or_step}
use lib.Pow.{pow-lt, pow-add, shl-shr, shl_exact}
use Rattle.prelude.specs.Tests.{every}
use Rattle.prelude.proofs.Tests.{every_true}
use Rattle.knowledge.specs.Knows.{Bit}

pub digit : (n : ℕ) → n < 2 → (n ≡ 0) ⊎ (n ≡ 1)
digit zero h = inl refl
digit (suc zero) h = inr refl
digit (suc (suc n)) h = absurd (omega arith)

pub compare : (a b : ℕ) → (a < b) ⊎ ((a ≡ b) ⊎ (b < a))
compare zero zero = inr (inl refl)
compare zero (suc b) = inl (omega arith)
compare (suc a) zero = inr (inr (omega arith))
compare (suc a) (suc b) = elim (compare a b) [ inl h ↦ inl (omega arith) | inr h ↦ elim h [ inl e ↦ inr (inl (ap suc e)) | inr g ↦ inr (inr (omega arith)) ] ]

-- a bit of a union is a bit of one of the two
or_odd : (x y : ℕ) → bit_or x y % 2 ≡ 1 → (x % 2 ≡ 1) ⊎ (y % 2 ≡ 1)
or_odd x y h =
    elim (digit (x % 2) (mod-lt x (omega arith))) [
      | inl e ↦ elim (digit (y % 2) (mod-lt y (omega arith))) [
        | inl f ↦
            let s : bit_or x y ≡ bit_or (x / 2) (y / 2) * 2 + 0 = rw (or_step x y, e, f) in
            absurd (omega arith)
        | inr f ↦ inr f
      ]
      | inr e ↦ inl e
    ]

pub bit_or_lem : (a b v : ℕ) → Bit (bit_or a b) v → Bit a v ⊎ Bit b v
bit_or_lem a b v h = or_odd (a / 2 ^ v) (b / 2 ^ v) (rw (or_shr a b v) at h)

-- the number 2 ^ k has the bit k alone
even_pow : (d : ℕ) → 2 ^ suc d % 2 ≡ 0
even_pow d = rw (pow-suc 2 d) (mul-mod_left (2 ^ d) 2)

shifted : (k v : ℕ) → v < k → 2 ^ k / 2 ^ v % 2 ≡ 0
shifted k v h =
    let e : 2 ^ k ≡ 2 ^ suc (k - v - 1) * 2 ^ v = ap (λ (n : ℕ). 2 ^ n) (omega arith) ∙ pow-add 2 (suc (k - v - 1)) v in
    ap (λ (n : ℕ). n / 2 ^ v % 2) e ∙ ap (λ (n : ℕ). n % 2) (shl-shr (2 ^ suc (k - v - 1)) v) ∙ even_pow (k - v - 1)

pub bit_pow : (k v : ℕ) → Bit (2 ^ k) v → v ≡ k
bit_pow k v h =
    elim (compare v k) [
      | inl g ↦ let z : 2 ^ k / 2 ^ v % 2 ≡ 0 = shifted k v g in absurd (omega arith)
      | inr r ↦ elim r [
        | inl e ↦ e
        | inr g ↦ let z : 2 ^ k / 2 ^ v ≡ 0 = div-eq_of_lt (pow-lt g) in absurd (omega arith)
      ]
    ]

-- a single bit, as the code makes it
pub shl_one : (k w : ℕ) → k < w → (1 * 2 ^ k) % 2 ^ w ≡ 2 ^ k
shl_one k w h = shl_exact {a = 1} 1 k w (omega arith) (omega arith) ∙ one-mul (2 ^ k)

-- nothing is in an empty mask
pub bit_none : (v : ℕ) → Bit 0 v → ⊥
bit_none v h =
    let z : 0 / 2 ^ v % 2 ≡ 0 = rw zero-div (zero-mod 2) in
    omega arith

or_cases : (a b : Bool) → (a || b) ≡ true → (a ≡ true) ⊎ (b ≡ true)
or_cases true b e = inl refl
or_cases false b e = inr e

-- a mask with all 16 bits strikes out every code
pub bit_full : (u : ℕ) → u < 16 → Bit 65535 u
bit_full u h = eqb-true (65535 / 2 ^ u % 2) 1 (every_true 16 (λ n. eqb (65535 / 2 ^ n % 2) 1) refl u h)

-- all bits but v: the bit v is not set, and every other is
pub bit_all_but : (v : ℕ) → v < 16 → Bit (65535 - 2 ^ v) v → ⊥
bit_all_but v h b =
    let z : (65535 - 2 ^ v) / 2 ^ v % 2 ≡ 0 = eqb-true ((65535 - 2 ^ v) / 2 ^ v % 2) 0 (every_true 16 (λ n. eqb ((65535 - 2 ^ n) / 2 ^ n % 2) 0) refl v h) in
    omega arith

abbrev only : ℕ → ℕ → Bool
only v u = eqb ((65535 - 2 ^ v) / 2 ^ u % 2) 1 || eqb u v

pub bit_only : (v u : ℕ) → v < 16 → u < 16 → (Bit (65535 - 2 ^ v) u → ⊥) → u ≡ v
bit_only v u hv hu b =
    elim (or_cases (eqb ((65535 - 2 ^ v) / 2 ^ u % 2) 1) (eqb u v)
    (every_true 16 (only v) (every_true 16 (λ n. every 16 (only n)) refl v hv) u hu)) [
      | inl e ↦ absurd (b (eqb-true ((65535 - 2 ^ v) / 2 ^ u % 2) 1 e))
      | inr e ↦ eqb-true u v e
    ]

-- the bits from s on
abbrev from : ℕ → ℕ → Bool
from s u = eqb ((65536 - 2 ^ s) / 2 ^ u % 2) 0 || leb s u

pub bit_from : (s u : ℕ) → s ≤ 16 → u < 16 → Bit (65536 - 2 ^ s) u → s ≤ u
bit_from s u hs hu b =
    elim (or_cases (eqb ((65536 - 2 ^ s) / 2 ^ u % 2) 0) (leb s u)
    (every_true 16 (from s) (every_true 17 (λ n. every 16 (from n)) refl s (omega arith)) u hu)) [
      | inl e ↦ let z : (65536 - 2 ^ s) / 2 ^ u % 2 ≡ 0 = eqb-true ((65536 - 2 ^ s) / 2 ^ u % 2) 0 e in absurd (omega arith)
      | inr e ↦ leb-true s u e
    ]
