-- The interface: a sheet by functions of numbers, as the parsed arrays hold it, and what the search is about: codes of terms instead of
-- tables. A missing argument is a number past the terms, and its code is 0, so that arity plays no part.
use Rattle.std.specs.Prelude.{ℕ, ◌≤◌, ◌<◌, ◌≡◌}
use Rattle.prelude.specs.Lists.{sum_to}
use Rattle.prelude.specs.Limits.{undecided}

pub record Problem : Type 0 where
  pub sorts : ℕ
  pub floor : ℕ → ℕ
  pub ceiling : ℕ → ℕ
  pub total : ℕ
  -- term i is symbol i at arg0 i and arg1 i, of sort i
  pub terms : ℕ
  pub sort : ℕ → ℕ
  pub symbol : ℕ → ℕ
  pub arg0 : ℕ → ℕ
  pub arg1 : ℕ → ℕ
  -- literal k says that left k and right k are the same where equal k is 1, and that they differ where it is 0
  pub literals : ℕ
  pub equal : ℕ → ℕ
  pub left : ℕ → ℕ
  pub right : ℕ → ℕ

-- what well-formedness comes to in this view
pub record WellSorted (P : Problem) : Type 0 where
  pub sort : (i : ℕ) → i < P.terms → P.sort i < P.sorts
  pub result : (i j : ℕ) → i < P.terms → j < P.terms → P.symbol i ≡ P.symbol j → P.sort i ≡ P.sort j
  -- arguments are earlier terms or missing; those of one symbol agree in being there and in sort
  pub earlier0 : (i : ℕ) → i < P.terms → P.arg0 i < P.terms → P.arg0 i < i
  pub earlier1 : (i : ℕ) → i < P.terms → P.arg1 i < P.terms → P.arg1 i < i
  pub there0 : (i j : ℕ) → i < P.terms → j < P.terms → P.symbol i ≡ P.symbol j → P.arg0 i < P.terms → P.arg0 j < P.terms
  pub there1 : (i j : ℕ) → i < P.terms → j < P.terms → P.symbol i ≡ P.symbol j → P.arg1 i < P.terms → P.arg1 j < P.terms
  pub sort0 : (i j : ℕ) → i < P.terms → j < P.terms → P.symbol i ≡ P.symbol j → P.arg0 i < P.terms → P.sort (P.arg0 i) ≡ P.sort (P.arg0 j)
  pub sort1 : (i j : ℕ) → i < P.terms → j < P.terms → P.symbol i ≡ P.symbol j → P.arg1 i < P.terms → P.sort (P.arg1 i) ≡ P.sort (P.arg1 j)
  pub left : (k : ℕ) → k < P.literals → P.left k < P.terms
  pub right : (k : ℕ) → k < P.literals → P.right k < P.terms
  pub sides : (k : ℕ) → k < P.literals → P.sort (P.left k) ≡ P.sort (P.right k)

-- sizes that the sheet allows
pub record Allowed (P : Problem) (size : ℕ → ℕ) : Type 0 where
  pub floor : (s : ℕ) → s < P.sorts → P.floor s ≤ size s
  pub ceiling : (s : ℕ) → s < P.sorts → size s ≤ P.ceiling s
  pub total : sum_to P.sorts size ≤ P.total

-- of the first n terms, those of one symbol with equal argument codes have equal codes
abbrev pub Congruent : ℕ → (ℕ → ℕ) → (ℕ → ℕ) → (ℕ → ℕ) → (ℕ → ℕ) → Type 0
Congruent n symbol arg0 arg1 c = (i j : ℕ) → i < n → j < n → symbol i ≡ symbol j → c (arg0 i) ≡ c (arg0 j) → c (arg1 i) ≡ c (arg1 j) → c i ≡ c j

-- codes of terms that some structure of these sizes gives, and that meet every statement
pub record Consistent (P : Problem) (size c : ℕ → ℕ) : Type 0 where
  pub range : (i : ℕ) → i < P.terms → c i < size (P.sort i)
  pub none : (i : ℕ) → P.terms ≤ i → c i ≡ 0
  pub congruent : Congruent P.terms P.symbol P.arg0 P.arg1 c
  pub same : (k : ℕ) → k < P.literals → P.equal k ≡ 1 → c (P.left k) ≡ c (P.right k)
  pub differ : (k : ℕ) → k < P.literals → P.equal k ≡ 0 → c (P.left k) ≡ c (P.right k) → ⊥

-- no sizes that the sheet allows have consistent codes
abbrev pub Unsatisfiable : Problem → Type 0
Unsatisfiable P = (size c : ℕ → ℕ) → Allowed P size → Consistent P size c → ⊥

-- the codes c keep to what q decides; a term whose code is not decided has the number `undecided`, which is no code
abbrev pub Extends : Problem → (ℕ → ℕ) → (ℕ → ℕ) → Type 0
Extends P q c = (i : ℕ) → i < P.terms → (q i ≡ undecided → ⊥) → c i ≡ q i

-- no consistent codes keep to what q decides
abbrev pub Dead : Problem → (ℕ → ℕ) → (ℕ → ℕ) → Type 0
Dead P size q = (c : ℕ → ℕ) → Consistent P size c → Extends P q c → ⊥
