-- The interface: what the search asks of a parsed sheet (every accepted sheet has it), of sizes and of codes.
use Rattle.std.specs.Prelude.{ℕ, ◌≤◌, ◌<◌, ◌≡◌}
use Rattle.prelude.specs.Limits.{most_sorts, most_terms, most_literals, most_codes, most_total}
use Rattle.prelude.specs.Lists.{at}
use Rattle.logic.specs.Problem.{Problem, WellSorted}
use Rattle.layout.specs.Packed.{view}
use Rattle.layout.specs.declared.Parsed.{Parsed}

pub record Searchable (p : Parsed) : Type 0 where
  pub sorted : WellSorted (view p)
  -- the counts are within the limits
  pub sorts : p.sorts ≤ most_sorts
  pub terms : p.terms ≤ most_terms
  pub literals : p.literals ≤ most_literals
  -- a statement says same by 1 and differ by 0
  pub equal : (k : ℕ) → k < p.literals → at p.equal k ≤ 1
  -- a term's symbol is there
  pub symbol : (i : ℕ) → i < p.terms → at p.symbol i < p.symbols
  -- no sort has more than 16 codes, and all have at most 128
  pub ceiling : (s : ℕ) → s < p.sorts → at p.ceiling s ≤ most_codes
  pub total : p.total ≤ most_total

-- sizes of at most 16 codes each, so that a table has at most 16 rows of 16
abbrev pub SmallSizes : Parsed → (ℕ → ℕ) → Type 0
SmallSizes p size = (s : ℕ) → s < p.sorts → size s ≤ most_codes

-- the codes past the terms are 0, so that a missing argument has code 0
abbrev pub Padded : Problem → (ℕ → ℕ) → Type 0
Padded P c = (i : ℕ) → P.terms ≤ i → c i ≡ 0
