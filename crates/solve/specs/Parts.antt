-- For the proofs alone: what the parts of one node of the search promise.
use Rattle.std.specs.Prelude.{ℕ, ◌≤◌, ◌<◌, ◌≡◌, Bool, true, List, Result, Ok, Err}
use Rattle.prelude.specs.Limits.{most_codes, undecided}
use Rattle.prelude.specs.Lists.{at}
use Rattle.logic.specs.Problem.{Problem, Consistent, Extends, Dead}
use Rattle.knowledge.specs.Knows.{Bit, Single}
use Rattle.solve.specs.Solved.{Model, flag, Branches}
use Rattle.solve.specs.declared.Visit.{Visit}
use Rattle.solve.specs.declared.Visit.TheVariants.{Nothing, Found, Branch}

-- what propagation knows of every consistent extension: no term has a code that is struck out in its mask
abbrev pub NeverStruck : Problem → (ℕ → ℕ) → (ℕ → ℕ) → List ℕ → Type 0
NeverStruck P size q masks = (c : ℕ → ℕ) → Consistent P size c → Extends P q c → (i : ℕ) → i < P.terms → Bit (at masks i) (c i) → ⊥

-- the flags of the codes in use: every code below 16 that a decided term of sort s has
abbrev pub InUse : Problem → (ℕ → ℕ) → ℕ → List Bool → Type 0
InUse P q s used = (j : ℕ) → j < P.terms → P.sort j ≡ s → q j < most_codes → flag used (q j) ≡ true

-- the first code below size that is not in use, or size
pub record Fresh (used : List Bool) (size fresh : ℕ) : Type 0 where
  pub most : fresh ≤ size
  pub before : (v : ℕ) → v < fresh → flag used v ≡ true
  pub free : fresh < size → flag used fresh ≡ true → ⊥

-- a term that no code has been decided for
abbrev pub Pending : Problem → (ℕ → ℕ) → ℕ → Type 0
Pending P q term = (term < P.terms) × (q term ≡ undecided)

-- codes read off the decisions and the struck masks: a decided term has its code, and any other the only code that is not struck out
pub record ReadOff (P : Problem) (q : ℕ → ℕ) (masks codes : List ℕ) (n : ℕ) : Type 0 where
  pub decided : (i : ℕ) → i < n → (q i ≡ undecided → ⊥) → at codes i ≡ q i
  pub only : (i : ℕ) → i < n → q i ≡ undecided → Single (at masks i) (at codes i)
  pub rest : (i : ℕ) → n ≤ i → at codes i ≡ 0

-- the codes of all terms, or a term that is not settled
abbrev pub Settles : Problem → (ℕ → ℕ) → List ℕ → Result (List ℕ) ℕ → Type 0
Settles P q masks (Ok codes) = ReadOff P q masks codes P.terms
Settles P q masks (Err term) = Pending P q term

-- one node of the search: dead, or found, or a term to branch on
abbrev pub Node : Problem → (ℕ → ℕ) → (ℕ → ℕ) → Visit → Type 0
Node P sizes q Nothing = Dead P sizes q
Node P sizes q (Found codes) = Model P sizes q (at codes)
Node P sizes q (Branch plan) = Branches P sizes q plan
