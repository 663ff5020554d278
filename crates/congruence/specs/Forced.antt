-- The interface: what the questions "forced" and "group" (docs/FORMAT.md, "The questions") mean, over structures. Floors, ceilings, total, differ
-- statements and fills do not occur; that sheets which differ in nothing else have the same groups is `group_alike` of proofs/NoPart.antt.
use Rattle.std.specs.Prelude.{ℕ, ◌<◌, ◌≡◌, true, length}
use Rattle.prelude.specs.Limits.{most_terms}
use Rattle.logic.specs.Sheet.{Sheet, literal_at}
use Rattle.logic.specs.Structure.{Structure, Interprets, SatisfiesSame, code}

-- two terms have equal codes in every structure, of whatever finite sizes, that satisfies the same statements
abbrev pub Forced : Sheet → ℕ → ℕ → Type 0
Forced sh i j = (M : Structure) → Interprets M sh → SatisfiesSame M sh → code M sh i ≡ code M sh j

-- k is the number of the group of the term e: it is there, it is forced together with e, and no lower-numbered term is
pub record Representative (sh : Sheet) (e k : ℕ) : Type 0 where
  pub there : k < length sh.terms
  pub forced : Forced sh k e
  pub lowest : (j : ℕ) → j < k → Forced sh j e → ⊥

-- labels of a sheet, as an array of 128 bytes holds them: each is below 128, and that of a term is the number of its group
pub record Labelled (sh : Sheet) (l : ℕ → ℕ) : Type 0 where
  pub small : (i : ℕ) → i < most_terms → l i < most_terms
  pub number : (e : ℕ) → e < length sh.terms → Representative sh e (l e)

-- each same statement of one sheet is one of the other
abbrev pub SameIn : Sheet → Sheet → Type 0
SameIn sh other = (k : ℕ) → k < length sh.literals → (literal_at sh k).equal ≡ true → (m : ℕ) × (m < length other.literals) × (literal_at other m ≡ literal_at sh k)

-- two sheets with as many sorts, the same symbols and terms, and each other's same statements; they may differ in floors, ceilings, total,
-- differ statements and fills, and in the order of the statements
pub record SameStatements (sh other : Sheet) : Type 0 where
  pub sorts : length sh.bounds ≡ length other.bounds
  pub symbols : sh.symbols ≡ other.symbols
  pub terms : sh.terms ≡ other.terms
  pub there : SameIn sh other
  pub back : SameIn other sh
