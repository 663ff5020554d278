-- For the proofs alone: the parts of consistency that the whole test of codes goes through.
use Rattle.std.specs.Prelude.{ℕ, ◌<◌, ◌≡◌, true, eqb}
use Rattle.logic.specs.Problem.{Problem}
use Rattle.tables.specs.Tests.{agree}

-- the codes of the terms lie below the sizes of their sorts
abbrev pub InRange : Problem → (ℕ → ℕ) → (ℕ → ℕ) → Type 0
InRange P size c = (i : ℕ) → i < P.terms → c i < size (P.sort i)

-- every statement holds, by the test of judge
abbrev pub Hold : Problem → (ℕ → ℕ) → Type 0
Hold P c = (k : ℕ) → k < P.literals → agree (eqb (P.equal k) 1) (eqb (c (P.left k)) (c (P.right k))) ≡ true

-- the terms of symbol f that have equal argument codes have equal codes
abbrev pub Functional : Problem → (ℕ → ℕ) → ℕ → Type 0
Functional P c f =
    (i j : ℕ) → i < P.terms → j < P.terms → P.symbol i ≡ f → P.symbol j ≡ f → c (P.arg0 i) ≡ c (P.arg0 j) → c (P.arg1 i) ≡ c (P.arg1 j) → c i ≡ c j
