-- Interface. Demand 3 of the bytes: what a call of find gives back and leaves in the buffers. Proved for every accepted sheet:
-- `accepted_promised` of proofs/Delivery.antt.
use Rattle.std.specs.Prelude.{ℕ, ◌≡◌, ◌↔◌, ◌⊎◌, List, length, drop, Ok, Err}
use Rattle.prelude.specs.Causes.{refusal}
use Rattle.logic.specs.Sheet.{Sheet}
use Rattle.prelude.specs.Lists.{at}
use Rattle.logic.specs.Structure.{Structure, Candidate, Satisfies, codes}
use Rattle.logic.specs.Order.{sum_of, NoLater}
use Rattle.tables.specs.Layout.{extent, decoded, WellLaid}
use Rattle.answer.specs.Demand.{Hopeless, Unforced}
use Rattle.find_at.specs.Promise.{codes_written, tables_written}
use Rattle.finder.specs.Find.{finding, codes_after, tables_after}

-- What `Demand` says of the answer, said of what a call leaves behind: the number it gives, the codes C and the tables T that it wrote. The tables are well laid, and
-- the structure that they hold is a candidate that satisfies every statement; the sum and the codes are its own; every other such candidate
-- comes no earlier; and the cells that no term reaches hold what `Unforced` says.
pub record Delivered (sh : Sheet) (n : ℕ) (C T : List ℕ) : Type 0 where
  pub laid : WellLaid sh T
  pub candidate : Candidate (decoded sh T) sh
  pub satisfies : Satisfies (decoded sh T) sh
  pub sum : n ≡ sum_of (decoded sh T) sh
  pub codes : C ≡ codes (decoded sh T) sh
  pub first : (N : Structure) → Candidate N sh → Satisfies N sh → NoLater sh (decoded sh T) N
  pub unreached : Unforced sh (decoded sh T)

-- A call on an accepted sheet, with buffers that suffice: cause 11 exactly when no candidate satisfies every statement, and otherwise
-- something is found; it is delivered in front of both buffers, and no byte behind it is touched
pub record Promised (sh : Sheet) (s cs ts : List ℕ) : Type 0 where
  pub refuses : (finding s (length cs) (length ts) ≡ Err (refusal 11 0)) ↔ Hopeless sh
  pub either : (finding s (length cs) (length ts) ≡ Err (refusal 11 0)) ⊎ ((n : ℕ) × (finding s (length cs) (length ts) ≡ Ok n))
  pub delivers : (n : ℕ) → finding s (length cs) (length ts) ≡ Ok n → Delivered sh n (codes_written sh (codes_after s cs ts)) (tables_written sh (tables_after s cs ts))
  pub behind_codes : (n : ℕ) → finding s (length cs) (length ts) ≡ Ok n → drop (length sh.terms) (codes_after s cs ts) ≡ drop (length sh.terms) cs
  pub behind_tables : (n : ℕ) → finding s (length cs) (length ts) ≡ Ok n → drop (extent sh (at (tables_after s cs ts))) (tables_after s cs ts) ≡ drop (extent sh (at (tables_after s cs ts))) ts
