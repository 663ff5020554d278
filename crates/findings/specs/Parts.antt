-- For the proofs only.
use Rattle.std.specs.Prelude.{ℕ, ◌≡◌, List, Result}
use Rattle.prelude.specs.Causes.{number_of, cause_of}
use Rattle.prelude.specs.declared.refusal.Refusal.{Refusal}
use Rattle.logic.specs.Sheet.{Sheet}
use Rattle.layout.specs.Layout.{accepted, reading}
use Rattle.answer.specs.Answer.{Entry, structure_of}
use Rattle.answer.specs.Demand.{AnswersAt}
use Rattle.find_at.specs.Found.{Outcome, turned_down, answered, finds, codes_in, tables_in}

-- the sheet was read from these bytes, and the entry answers it at some sizes
pub record Own (s : List ℕ) (sh : Sheet) (e : Entry) : Type 0 where
  pub reads : reading s ≡ accepted sh
  pub sizes : List ℕ
  pub answers : AnswersAt sh sizes e (structure_of sh e)

-- What a call of find or find_at on the bytes s left that came out as o: the result r, and the two buffers, which held other bytes before.
pub record Leaves (s : List ℕ) (o : Outcome) (r : Result ℕ Refusal) (cs' ts' : List ℕ) : Type 0 where
  pub codes_before : List ℕ
  pub tables_before : List ℕ
  pub result : r ≡ finds o
  pub codes : cs' ≡ codes_in o codes_before
  pub tables : ts' ≡ tables_in o tables_before
  pub own : (sh : Sheet) (e : Entry) → o ≡ answered sh e → Own s sh e
  pub known : (n i : ℕ) → o ≡ turned_down n i → number_of (cause_of n) ≡ n
