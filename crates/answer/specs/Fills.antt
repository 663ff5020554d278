-- Interface. Fills play no part in which answer a sheet has, and give only some unforced cells another code. Proved for every sheet: `passes_over`
-- of proofs/Fills.antt.
use Rattle.std.specs.Prelude.{ℕ, ◌<◌, ◌≡◌, List, map, length}
use Rattle.std.proofs.Math.Option.{some}
use Rattle.prelude.specs.Lists.{at}
use Rattle.logic.specs.Sheet.{Sheet, term_at, without_fills}
use Rattle.answer.specs.Answer.{Entry, answer_at, answer, structure_of}
use Rattle.answer.specs.Demand.{ToItself, Unfilled}

-- a cell holds the same in the answer with an entry, whether to the sheet or to the sheet without its fills
abbrev pub SameCell : Sheet → Entry → ℕ → List ℕ → Type 0
SameCell sh e f xs = (structure_of sh e).table f xs ≡ (structure_of (without_fills sh) e).table f xs

pub record PassesOverFills (sh : Sheet) : Type 0 where
  -- the answer has the same sizes and codes, so the same sum; or there is none to either
  pub same : answer sh ≡ answer (without_fills sh)
  -- and so has the answer at given sizes
  pub same_at : (sizes : List ℕ) → answer_at sh sizes ≡ answer_at (without_fills sh) sizes
  -- a cell that a term reaches holds the same
  pub reached : (e : Entry) → answer sh ≡ some e → (i : ℕ) → i < length sh.terms → SameCell sh e (term_at sh i).symbol (map (at e.codes) (term_at sh i).args)
  -- and so does every cell of a symbol without a fill, or with one argument, of the sort of its result
  pub unfilled : (e : Entry) (f : ℕ) → Unfilled sh f → (xs : List ℕ) → SameCell sh e f xs
  pub kept : (e : Entry) (f : ℕ) → ToItself sh f → (xs : List ℕ) → SameCell sh e f xs
