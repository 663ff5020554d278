-- The interface: what the start and the end of propagation rest on, said of one assignment c of codes to terms.
use Rattle.std.specs.Prelude.{ℕ, ◌<◌, ◌≡◌, List}
use Rattle.prelude.specs.Limits.{undecided}
use Rattle.prelude.specs.Lists.{at}
use Rattle.knowledge.specs.declared.Known.{Known}
use Rattle.knowledge.specs.declared.terms.Terms.{Terms}
use Rattle.knowledge.specs.Knows.{Masks, Marks, Labels, SmallCodes}
use Rattle.starting.specs.declared.literals.Literals.{Literals}

-- of the terms: codes below the size of the sort, and as decided, and the labels are right
pub record Fixed (t : Terms) (l sizes decided : List ℕ) (c : ℕ → ℕ) : Type 0 where
  pub small : SmallCodes c
  pub labels : Labels l c
  pub range : (i : ℕ) → i < t.n → c i < at sizes (at t.sort.now i)
  pub fixed : (i : ℕ) → i < t.n → (at decided i ≡ undecided → ⊥) → c i ≡ at decided i

-- the same statements hold
abbrev pub SameHold : Literals → (ℕ → ℕ) → Type 0
SameHold s c = (k : ℕ) → k < s.m → at s.equal.now k ≡ 1 → c (at s.left.now k) ≡ c (at s.right.now k)

-- the differ statements hold, and the labels are right
pub record DifferHold (s : Literals) (l : List ℕ) (c : ℕ → ℕ) : Type 0 where
  pub differ : (k : ℕ) → k < s.m → at s.equal.now k ≡ 0 → c (at s.left.now k) ≡ c (at s.right.now k) → ⊥
  pub labels : Labels l c

-- all that can show a conflict
pub record SmallMasksMarks (k : Known) (c : ℕ → ℕ) : Type 0 where
  pub small : SmallCodes c
  pub masks : Masks k.masks c
  pub marks : Marks k.marks c

-- labels and masks: what is known of the code of each term
pub record Grouped (k : Known) (c : ℕ → ℕ) : Type 0 where
  pub labels : Labels k.labels c
  pub masks : Masks k.masks c

-- no assignment
abbrev pub Never : (ℕ → ℕ) → Type 0
Never c = ⊥
