-- The interface: the wrong programs of request (d), about fitted. A program is what it gives back, and leaves in the buffer, for every call; to meet the contract is to do so at every call.
-- `refuted_fitted` of proofs/Fitted.antt: none of these meets it. Each is said of a single call, and of bytes that need not be a sheet.
use Rattle.std.specs.Prelude.{Result, Ok}
use Rattle.prelude.specs.declared.refusal.Refusal.{Refusal}
use Rattle.std.specs.Prelude.{ℕ, ◌<◌, ◌≡◌, true, List, length, take}
use Rattle.std.proofs.Math.Option.{some}
use Rattle.logic.specs.Sheet.{Sheet, Literal, bound_at, symbol_at, term_at, literal_at}
use Rattle.logic.specs.Structure.{Structure, InSorts}
use Rattle.layout.specs.Layout.{accepted, reading}
use Rattle.answer.specs.Answer.{Entry, answer, structure_of}
use Rattle.fitted_sheet.specs.FittedSheet.{code_term, code_args, cell_term, differ, same, too_many}
use Rattle.fitted_sheet.specs.Kept.{fitted_to}
use Rattle.fitted.specs.Filing.{Files}

-- the result, and the buffer at exit, from the sheet's bytes and the buffer at entry
pub record FittedProgram : Type 0 where
  pub result : List ℕ → List ℕ → Result ℕ Refusal
  pub buffer : List ℕ → List ℕ → List ℕ

-- the contract of fitted::fitted: its two clauses are the fields of `Files`
abbrev pub MeetsFitted : FittedProgram → Type 0
MeetsFitted p = (s out : List ℕ) → Files s out (p.buffer s out) (p.result s out)

-- a call on a sheet with an answer that says that it has written so many bytes
pub record WritingCall (p : FittedProgram) : Type 0 where
  pub bytes : List ℕ
  pub out : List ℕ
  pub many : ℕ
  pub wrote : p.result bytes out ≡ Ok many
  pub old : Sheet
  pub reads : reading bytes ≡ accepted old
  pub entry : Entry
  pub answers : answer old ≡ some entry

-- the structure of the answer
abbrev pub answer_of : (p : FittedProgram) → WritingCall p → Structure
answer_of p c = structure_of c.old c.entry

-- what the bytes that it wrote are read as, if they are read as a sheet at all
abbrev pub ReadsAs : (p : FittedProgram) → WritingCall p → Sheet → Type 0
ReadsAs p c new = reading (take c.many (p.buffer c.bytes c.out)) ≡ accepted new

-- a statement is missing there
abbrev pub Unsaid : (p : FittedProgram) → WritingCall p → Literal → Type 0
Unsaid p c l = (new : Sheet) → ReadsAs p c new → (k : ℕ) → k < length new.literals → literal_at new k ≡ l → ⊥

-- a cell of the answer's tables
abbrev pub CellOf : (p : FittedProgram) → WritingCall p → ℕ → List ℕ → Type 0
CellOf p c f cs = (f < length c.old.symbols) × InSorts (answer_of p c).size (symbol_at c.old f).params cs

-- leaves out a differ statement: it does not say of some two codes of one field that they differ
abbrev pub LeavesOutDiffer : FittedProgram → Type 0
LeavesOutDiffer p =
    (c : WritingCall p) × (s : ℕ) × (i : ℕ) × (j : ℕ) × (s < length c.old.bounds) × (i < j) × (j < (answer_of p c).size s) × Unsaid p c (differ (code_term (answer_of p c) s i) (code_term (answer_of p c) s j))

-- a floor stays: some field has a floor that is not the size found
abbrev pub FloorStays : FittedProgram → Type 0
FloorStays p = (c : WritingCall p) × (s : ℕ) × (s < length c.old.bounds) × ((new : Sheet) → ReadsAs p c new → (bound_at new s).floor ≡ (answer_of p c).size s → ⊥)

-- numbers the codes of all fields from 0: it does not say of some cell that it is the same as the expression of its code, counted through all fields
abbrev pub CodesFromZero : FittedProgram → Type 0
CodesFromZero p =
    (c : WritingCall p) × (f : ℕ) × (cs : List ℕ) × CellOf p c f cs
    × Unsaid p c (same (cell_term c.old (answer_of p c) f cs) (code_term (answer_of p c) (symbol_at c.old f).result ((answer_of p c).table f cs)))

-- swaps row and column: the expression of some cell does not take the expressions of its codes in their order
abbrev pub SwapsRowAndColumn : FittedProgram → Type 0
SwapsRowAndColumn p =
    (c : WritingCall p) × (f : ℕ) × (cs : List ℕ) × CellOf p c f cs
    × ((new : Sheet) → ReadsAs p c new → (term_at new (cell_term c.old (answer_of p c) f cs)).args ≡ code_args (answer_of p c) (symbol_at c.old f).params cs → ⊥)

-- writes a sheet of cause 14 all the same
abbrev pub WritesTooMany : FittedProgram → Type 0
WritesTooMany p = (c : WritingCall p) × (too_many (fitted_to c.old c.entry) ≡ true)

pub record RefutedFitted : Type 0 where
  pub leaves_out_differ : (p : FittedProgram) → MeetsFitted p → LeavesOutDiffer p → ⊥
  pub floor_stays : (p : FittedProgram) → MeetsFitted p → FloorStays p → ⊥
  pub codes_from_zero : (p : FittedProgram) → MeetsFitted p → CodesFromZero p → ⊥
  pub swaps_row_and_column : (p : FittedProgram) → MeetsFitted p → SwapsRowAndColumn p → ⊥
  pub writes_too_many : (p : FittedProgram) → MeetsFitted p → WritesTooMany p → ⊥
