-- The statements, one after the other, on the codes of the terms.
use Prim.Native.Nat.{ℕ, ◌+◌, ◌<◌}
use native.Mathlib.Decide.{dec_lt}
use native.Mathlib.Omega.{arith}
use mathlib.Core.Path.{◌≡◌, refl, ap, sym, ◌∙◌, subst}
use mathlib.Core.Bool.{Bool, true, false}
use lib.ListN.{length}
use lib.Dec.{eqb}
use Rattle.logic.specs.Sheet.{Sheet, literal_at}
use Rattle.prelude.specs.Lists.{at}
use Rattle.layout.specs.Packed.{bit}
use Rattle.layout.specs.declared.Parsed.{Parsed}
use Rattle.tables.specs.Tests.{agree, holds, statements}
use Rattle.tables.specs.declared.Judgement.TheVariants.{Fits, Broken}
use Rattle.tables.proofs.Laid.{statements_fit, statements_broken}
use Rattle.tables.specs.Parts.{Packs}
use Rattle.tables.proofs.Packing.{packs_views}

-- the first k statements hold
abbrev pub HoldTo : Parsed → (ℕ → ℕ) → ℕ → Type 0
HoldTo p c k = (sh : Sheet) → Packs sh p → (j : ℕ) → j < k → holds c (literal_at sh j) ≡ true

bit_is_1 : (b : Bool) → eqb (bit b) 1 ≡ b
bit_is_1 true = refl
bit_is_1 false = refl

-- the arrays' test of a statement is that of the statement
pub statement_test : (sh : Sheet) (p : Parsed) (c : ℕ → ℕ) (k : ℕ) → Packs sh p → k < length sh.literals → agree (eqb (at p.equal k) 1) (eqb (c (at p.left k)) (c (at p.right k))) ≡ holds c (literal_at sh k)
statement_test sh p c k q h =
    let s = packs_views sh p q in
    rw (s.equal k h, s.left k h, s.right k h, bit_is_1 (literal_at sh k).equal) refl

pub hold_more : (p : Parsed) (c : ℕ → ℕ) (k : ℕ) → HoldTo p c k → k < p.literals → agree (eqb (at p.equal k) 1) (eqb (c (at p.left k)) (c (at p.right k))) ≡ true → HoldTo p c (k + 1)
hold_more p c k h l e sh q j b =
    let s = packs_views sh p q in
    elim (dec_lt j k) [
      | yes x ↦ h sh q j x
      | no x ↦ let z : k ≡ j = omega arith in subst (λ (i : ℕ). holds c (literal_at sh i) ≡ true) z (sym (statement_test sh p c k q (omega (arith, s.literals))) ∙ e)
    ]

pub hold_broken : (p : Parsed) (c : ℕ → ℕ) (k : ℕ) → HoldTo p c k → k < p.literals → agree (eqb (at p.equal k) 1) (eqb (c (at p.left k)) (c (at p.right k))) ≡ false → (sh : Sheet) → Packs sh p → Broken k ≡ statements c 0 sh.literals
hold_broken p c k h l e sh q =
    let s = packs_views sh p q in
    let b : k < length sh.literals = omega (arith, s.literals) in
    let z : 0 + k ≡ k = omega arith in
    sym (statements_broken c _ 0 sh.literals k b (h sh q) (sym (statement_test sh p c k q b) ∙ e) ∙ ap Broken z)

pub hold_all : (p : Parsed) (c : ℕ → ℕ) → HoldTo p c p.literals → (sh : Sheet) → Packs sh p → Fits ≡ statements c 0 sh.literals
hold_all p c h sh q =
    let s = packs_views sh p q in
    sym (statements_fit c _ 0 sh.literals (λ j b. h sh q j (omega (arith, s.literals))))
