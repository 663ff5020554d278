-- The interface: what the rules of propagation rest on, said of one assignment c of codes to terms.
use Rattle.std.specs.Prelude.{ℕ, List}
use Rattle.prelude.specs.Lists.{at}
use Rattle.logic.specs.Problem.{Congruent}
use Rattle.knowledge.specs.declared.Known.{Known}
use Rattle.knowledge.specs.declared.terms.Terms.{Terms}
use Rattle.knowledge.specs.Knows.{Labels, Masks, Marks, Knows, SmallCodes}

-- small codes and the marks: what strikes codes out
pub record SmallMarks (m : List ℕ) (c : ℕ → ℕ) : Type 0 where
  pub small : SmallCodes c
  pub marks : Marks m c

-- congruent codes of the terms
abbrev pub CongruentTerms : Terms → (ℕ → ℕ) → Type 0
CongruentTerms t = Congruent t.n (at t.symbol.now) (at t.arg0.now) (at t.arg1.now)

-- small congruent codes
pub record Lawful (t : Terms) (c : ℕ → ℕ) : Type 0 where
  pub small : SmallCodes c
  pub congruent : CongruentTerms t c

-- small congruent codes, the labels and the masks: what marks rest on
pub record LawfulGrouped (t : Terms) (l w : List ℕ) (c : ℕ → ℕ) : Type 0 where
  pub lawful : Lawful t c
  pub labels : Labels l c
  pub masks : Masks w c

-- small congruent codes of which the knowledge is true
pub record KnownLawful (t : Terms) (k : Known) (c : ℕ → ℕ) : Type 0 where
  pub lawful : Lawful t c
  pub knows : Knows k c
