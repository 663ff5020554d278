-- For the proofs only. What find has reported, once it has an answer, and what filing it leaves behind.
use Rattle.std.specs.Prelude.{ℕ, ◌≡◌, List, Result}
use Rattle.std.proofs.Math.Option.{some}
use Rattle.prelude.specs.declared.refusal.Refusal.{Refusal}
use Rattle.prelude.specs.Lists.{fronted}
use Rattle.logic.specs.Sheet.{Sheet}
use Rattle.logic.specs.Order.{sum_of}
use Rattle.layout.specs.declared.Parsed.{Parsed}
use Rattle.tables.specs.Layout.{encoded}
use Rattle.tables.specs.Parts.{Packs}
use Rattle.answer.specs.Answer.{Entry, answer, structure_of}
use Rattle.fitted.specs.Filing.{filing, fits, buffer_in}

-- the answer to the old sheet, its sum, and its tables in front of a buffer
pub record Answered (p : Parsed) (n : ℕ) (tables : List ℕ) : Type 0 where
  pub sheet : Sheet
  pub entry : Entry
  pub packs : Packs sheet p
  pub answers : answer sheet ≡ some entry
  pub sum : n ≡ sum_of (structure_of sheet entry) sheet
  pub before : List ℕ
  pub front : tables ≡ fronted (encoded (structure_of sheet entry) sheet) before

-- what is promised of the tables of an answer. A primed buffer is the buffer at exit.
pub record FilesAnswer (sh : Sheet) (e : Entry) (out out' : List ℕ) (r : Result ℕ Refusal) : Type 0 where
  pub result : r ≡ fits (filing sh (some e))
  pub buffer : out' ≡ buffer_in (filing sh (some e)) out
