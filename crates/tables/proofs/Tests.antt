-- Tests and what they say: a conjunction, a test of all numbers below one, a statement.
use Prim.Native.Nat.{ℕ}
use mathlib.Core.Path.{◌≡◌}
use mathlib.Core.Bool.{Bool, true, false}
use lib.Dec.{eqb}
use borrow.Author.Tests.{eqb-true, eqb-false, not-true, not-false}
use Rattle.logic.specs.Sheet.{Literal}
use Rattle.logic.specs.Structure.{Agree, Holds}
use Rattle.tables.specs.Tests.{agree, holds}

agree_true : (b : Bool) (x y : ℕ) → agree b (eqb x y) ≡ true → Agree b x y
agree_true true x y e = eqb-true x y e
agree_true false x y e = eqb-false x y (not-true (eqb x y) e)

agree_false : (b : Bool) (x y : ℕ) → agree b (eqb x y) ≡ false → Agree b x y → ⊥
agree_false true x y e h = eqb-false x y e h
agree_false false x y e h = h (eqb-true x y (not-false (eqb x y) e))

pub holds_true : (c : ℕ → ℕ) (l : Literal) → holds c l ≡ true → Holds c l
holds_true c l e = agree_true l.equal (c l.left) (c l.right) e

pub holds_false : (c : ℕ → ℕ) (l : Literal) → holds c l ≡ false → Holds c l → ⊥
holds_false c l e = agree_false l.equal (c l.left) (c l.right) e
