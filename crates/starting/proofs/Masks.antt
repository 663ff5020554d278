-- Laws of masks at the start and at the end of propagation.
use Prim.Native.Nat.{ℕ}
use mathlib.Core.Path.{ap, subst}
use mathlib.Core.List.{List}
use mathlib.Core.Logic.{inl, inr}
use lib.ListN.{set, replicate}
use Rattle.prelude.proofs.Lists.{at_set, at_zeros}
use Rattle.knowledge.specs.Knows.{Bit, Masks, Same}
use Rattle.knowledge.proofs.Bits.{bit_none}

-- nothing is struck out where all masks are 0
pub masks_none : (n : ℕ) (c : ℕ → ℕ) → Masks (replicate n 0) c
masks_none n c i b = bit_none (c i) (rw (at_zeros n i) at b)

-- a mask that does not strike out the term's code
pub masks_put : (w : List ℕ) (k s : ℕ) (c : ℕ → ℕ) → Masks w c → (Bit s (c k) → ⊥) → Masks (set w k s) c
masks_put w k s c h d i b =
    elim (at_set w k s i) [
      | inl e ↦ h i (rw e at b)
      | inr e ↦ let b' : Bit s (c k) = rw (e.1, ap c e.0) at b in d b'
    ]

-- a code that a term does not have is not that of its group either
pub group_free : (g i s : ℕ) (c : ℕ → ℕ) → Same g i c → (Bit s (c i) → ⊥) → Bit s (c g) → ⊥
group_free g i s c same free b = free (subst (Bit s) same b)
