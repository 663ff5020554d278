-- The interface: the wrong programs of docs/CONTRACTS.md, "Contracts owed", c, in that order, and those of the requests: about a sheet of zero bytes, about
-- group, about the cells that no expression reaches, and about fills. A program is what it gives back, and leaves in the buffers, for every call; to meet a
-- contract is to do so at every call. `refuted` of proofs/Refuted.antt: none of these meets the contract of its question.
use Rattle.std.specs.Prelude.{Result, Ok, Err, Bool}
use Rattle.prelude.specs.Causes.{refusal}
use Rattle.prelude.specs.declared.refusal.Refusal.{Refusal}
use Rattle.std.specs.Prelude.{ℕ, ◌≤◌, ◌<◌, ◌≡◌, true, ◌⊎◌, List, [], ◌∷◌, map, length}
use Rattle.std.proofs.Math.Option.{some}
use Rattle.logic.specs.Sheet.{Sheet, Symbol, symbol_at, term_at, fill_at, sort_at}
use Rattle.logic.specs.Structure.{Structure, InSorts, code}
use Rattle.prelude.specs.Lists.{at, sum_to}
use Rattle.layout.specs.Layout.{accepted, refused, reading}
use Rattle.sheet.specs.Verdict.{verdict}
use Rattle.tables.specs.Layout.{extent, decoded, WellLaid}
use Rattle.tables.specs.declared.Judgement.{Judgement}
use Rattle.tables.specs.declared.Judgement.TheVariants.{Fits}
use Rattle.judge.specs.Judge.{judgement}
use Rattle.forced.specs.Forcing.{comparable, forcing}
use Rattle.congruence.specs.Closure.{stated, round}
use Rattle.congruence.specs.Forced.{Forced, SameStatements}
use Rattle.group.specs.Grouping.{grouping}
use Rattle.find_at.specs.Found.{ceilings}
use Rattle.finder.specs.Find.{Finds}
use Rattle.find_at.specs.Promise.{tables_written}
use Rattle.answer.specs.Answer.{Entry, answer}
use Rattle.answer.specs.Demand.{Hopeless, Unreached, ToItself, Unfilled}

-- ---- FIND (demand 3)
-- the result, and the code and the table buffer at exit, from the sheet's bytes and both buffers at entry
pub record FindProgram : Type 0 where
  pub result : List ℕ → List ℕ → List ℕ → Result ℕ Refusal
  pub codes : List ℕ → List ℕ → List ℕ → List ℕ
  pub tables : List ℕ → List ℕ → List ℕ → List ℕ

-- the contract of finder::find: its three clauses are the fields of `Finds`
abbrev pub MeetsFind : FindProgram → Type 0
MeetsFind p = (s cs ts : List ℕ) → Finds s cs ts (p.codes s cs ts) (p.tables s cs ts) (p.result s cs ts)

-- a call that no cause before 11 stops: the sheet is accepted, and the buffers suffice
pub record LetThrough (s cs ts : List ℕ) : Type 0 where
  pub sheet : Sheet
  pub reads : reading s ≡ accepted sheet
  pub codes_fit : length sheet.terms ≤ length cs
  pub tables_fit : extent sheet (ceilings sheet) ≤ length ts

-- answers 11 for all sheets, once they are accepted and the buffers suffice
abbrev pub ElevenForAll : FindProgram → Type 0
ElevenForAll p = (s cs ts : List ℕ) → LetThrough s cs ts → p.result s cs ts ≡ Err (refusal 11 0)

-- answers before looking: once the bytes are read and the buffers measured, every sheet gets the same answer
abbrev pub NeverLooks : FindProgram → Type 0
NeverLooks p = (s cs ts s' cs' ts' : List ℕ) → LetThrough s cs ts → LetThrough s' cs' ts' → p.result s cs ts ≡ p.result s' cs' ts'

-- answers 11 before looking: to some call that a cause before 11 stops, or whose sheet has a candidate that satisfies every statement
pub record ElevenBeforeLooking (p : FindProgram) : Type 0 where
  pub sheet : List ℕ
  pub codes : List ℕ
  pub tables : List ℕ
  pub eleven : p.result sheet codes tables ≡ Err (refusal 11 0)
  pub unlooked : (k : LetThrough sheet codes tables) → Hopeless k.sheet → ⊥

-- hands out the same tables each time: what the table buffer holds does not depend on the sheet
pub record SameTables (p : FindProgram) : Type 0 where
  pub after : List ℕ → List ℕ
  pub same : (s cs ts : List ℕ) (n : ℕ) → p.result s cs ts ≡ Ok n → p.tables s cs ts ≡ after ts

-- says found and writes no byte of the codes, or none of the tables
abbrev pub NoCodeWritten : FindProgram → Type 0
NoCodeWritten p = (s cs ts : List ℕ) (n : ℕ) → p.result s cs ts ≡ Ok n → p.codes s cs ts ≡ cs

abbrev pub NoTableWritten : FindProgram → Type 0
NoTableWritten p = (s cs ts : List ℕ) (n : ℕ) → p.result s cs ts ≡ Ok n → p.tables s cs ts ≡ ts

-- settles the first field and writes 0 for the rest: for the sizes of the other fields, or for the codes of their expressions
abbrev pub OtherSizesZero : FindProgram → Type 0
OtherSizesZero p = (s cs ts : List ℕ) (sh : Sheet) (n : ℕ) → reading s ≡ accepted sh → p.result s cs ts ≡ Ok n → (t : ℕ) → 1 ≤ t → t < length sh.bounds → at (p.tables s cs ts) t ≡ 0

abbrev pub OtherCodesZero : FindProgram → Type 0
OtherCodesZero p = (s cs ts : List ℕ) (sh : Sheet) (n : ℕ) → reading s ≡ accepted sh → p.result s cs ts ≡ Ok n → (i : ℕ) → i < length sh.terms → 1 ≤ sort_at sh i → at (p.codes s cs ts) i ≡ 0

-- a call to which something is found: the sheet's bytes and both buffers, the sheet read and the sum
pub record FoundCall (p : FindProgram) : Type 0 where
  pub sheet : List ℕ
  pub codes : List ℕ
  pub tables : List ℕ
  pub read : Sheet
  pub reads : reading sheet ≡ accepted read
  pub sum : ℕ
  pub found : p.result sheet codes tables ≡ Ok sum

-- reports an invented sum to some call: one that is not that of the sizes written
abbrev pub InventedSum : FindProgram → Type 0
InventedSum p = (c : FoundCall p) × (c.sum ≡ sum_to (length c.read.bounds) (at (p.tables c.sheet c.codes c.tables)) → ⊥)

-- ---- FIND (request (c))
-- the tables that a call wrote, as a structure
abbrev pub structure_from : (p : FindProgram) → FoundCall p → Structure
structure_from p c = decoded c.read (tables_written c.read (p.tables c.sheet c.codes c.tables))

-- a cell of these tables that no expression reaches
pub record FreeCell (p : FindProgram) : Type 0 where
  pub call : FoundCall p
  pub symbol : ℕ
  pub there : symbol < length call.read.symbols
  pub args : List ℕ
  pub inside : InSorts (structure_from p call).size (symbol_at call.read symbol).params args
  pub free : Unreached call.read (structure_from p call) symbol args

-- its symbol, and the code that it holds
abbrev pub symbol_of : (p : FindProgram) → FreeCell p → Symbol
symbol_of p c = symbol_at c.call.read c.symbol

abbrev pub held_in : (p : FindProgram) → FreeCell p → ℕ
held_in p c = (structure_from p c.call).table c.symbol c.args

-- keeps the code in a table from one field to another: some cell there that no expression reaches, of a name without a fill, holds its own argument's code, and
-- that is not 0
abbrev pub KeepsAcross : FindProgram → Type 0
KeepsAcross p = (c : FreeCell p) × Unfilled c.call.read c.symbol × (s : ℕ) × ((symbol_of p c).params ≡ s ∷ []) × (s ≡ (symbol_of p c).result → ⊥) × (held_in p c ≡ at c.args 0) × (held_in p c ≡ 0 → ⊥)

-- keeps it in two-argument tables: some cell there that no expression reaches, of a name without a fill, holds the code of one of its arguments, and that is not 0
abbrev pub KeepsOfTwo : FindProgram → Type 0
KeepsOfTwo p = (c : FreeCell p) × Unfilled c.call.read c.symbol × (length (symbol_of p c).params ≡ 2) × ((held_in p c ≡ at c.args 0) ⊎ (held_in p c ≡ at c.args 1)) × (held_in p c ≡ 0 → ⊥)

-- overwrites a reached cell: some call leaves a cell that an expression reaches with another code than the expression has in the answer
abbrev pub Overwrites : FindProgram → Type 0
Overwrites p = (c : FoundCall p) × (e : Entry) × (answer c.read ≡ some e) × (i : ℕ) × (i < length c.read.terms) × ((structure_from p c).table (term_at c.read i).symbol (map (at e.codes) (term_at c.read i).args) ≡ at e.codes i → ⊥)

-- still writes 0: some cell that no expression reaches, of a name with one argument, of the result's field, holds 0, and that is not its own argument's code
abbrev pub StillZero : FindProgram → Type 0
StillZero p = (c : FreeCell p) × ToItself c.call.read c.symbol × (held_in p c ≡ 0) × (at c.args 0 ≡ 0 → ⊥)

-- ---- FIND (request (g))
-- overwrites a reached cell with the fill: some cell that an expression reaches holds the code of its name's fill, and the expression has another in the answer
abbrev pub FillsReached : FindProgram → Type 0
FillsReached p = (c : FoundCall p) × (e : Entry) × (answer c.read ≡ some e) × (i : ℕ) × (i < length c.read.terms) × (k : ℕ) × (k < length c.read.fills) × ((fill_at c.read k).symbol ≡ (term_at c.read i).symbol) × ((structure_from p c).table (term_at c.read i).symbol (map (at e.codes) (term_at c.read i).args) ≡ at e.codes (fill_at c.read k).term) × (at e.codes (fill_at c.read k).term ≡ at e.codes i → ⊥)

-- a cell of these tables that no expression reaches, of a name with a fill
pub record FilledCell (p : FindProgram) : Type 0 where
  pub cell : FreeCell p
  pub fill : ℕ
  pub given : fill < length cell.call.read.fills
  pub same : (fill_at cell.call.read fill).symbol ≡ cell.symbol

-- the expression that fills it, and the code of that expression in these tables
abbrev pub filler_of : (p : FindProgram) → FilledCell p → ℕ
filler_of p c = (fill_at c.cell.call.read c.fill).term

abbrev pub filling_of : (p : FindProgram) → FilledCell p → ℕ
filling_of p c = code (structure_from p c.cell.call) c.cell.call.read (filler_of p c)

-- lets the fill win over the kept code: some such cell, of a name with one argument, of the result's field, holds the fill's code, and that is not its own argument's
abbrev pub FillWins : FindProgram → Type 0
FillWins p = (c : FilledCell p) × ToItself c.cell.call.read c.cell.symbol × (held_in p c.cell ≡ filling_of p c) × (filling_of p c ≡ at c.cell.args 0 → ⊥)

-- fills with the expression's number: some such cell of any other name holds the number of the fill's expression, and that is not its code
abbrev pub FillsWithNumber : FindProgram → Type 0
FillsWithNumber p = (c : FilledCell p) × (ToItself c.cell.call.read c.cell.symbol → ⊥) × (held_in p c.cell ≡ filler_of p c) × (filler_of p c ≡ filling_of p c → ⊥)

-- takes a second fill of one name, and so the last of two or the first: something is found on some sheet that is refused with 16
abbrev pub TakesSecondFill : FindProgram → Type 0
TakesSecondFill p = (s : List ℕ) × (cs : List ℕ) × (ts : List ℕ) × (i : ℕ) × (reading s ≡ refused 16 i) × (n : ℕ) × (p.result s cs ts ≡ Ok n)

-- ---- READ (demand 2)
abbrev pub ReadProgram : Type 0
ReadProgram = List ℕ → Result (Unit {0}) Refusal

abbrev pub MeetsRead : ReadProgram → Type 0
MeetsRead p = (s : List ℕ) → p s ≡ verdict (reading s)

-- refuses every sheet, with whatever number and place
abbrev pub RefusesEverySheet : ReadProgram → Type 0
RefusesEverySheet p = (s : List ℕ) → (n : ℕ) × (i : ℕ) × (p s ≡ Err (refusal n i))

-- refuses a sheet of zero bytes, with 1, with 9 or with whatever number and place
abbrev pub RefusesNoBytes : ReadProgram → Type 0
RefusesNoBytes p = (n : ℕ) × (i : ℕ) × (p [] ≡ Err (refusal n i))

-- ---- READ (request (g))
-- answers 16 where the first faulty record has cause 7
abbrev pub SixteenBeforeSeven : ReadProgram → Type 0
SixteenBeforeSeven p = (s : List ℕ) × (i : ℕ) × (reading s ≡ refused 7 i) × (j : ℕ) × (p s ≡ Err (refusal 16 j))

-- ---- JUDGE (demand 2)
abbrev pub JudgeProgram : Type 0
JudgeProgram = List ℕ → List ℕ → Result Judgement Refusal

abbrev pub MeetsJudge : JudgeProgram → Type 0
MeetsJudge p = (s t : List ℕ) → p s t ≡ judgement s t

-- one fixed reply, even if only to calls that are not turned down: accepted sheets with well-laid tables
abbrev pub FixedJudgement : JudgeProgram → Result Judgement Refusal → Type 0
FixedJudgement p r = (s t : List ℕ) (sh : Sheet) → reading s ≡ accepted sh → WellLaid sh t → p s t ≡ r

-- passes some tables other than those of zero bytes for a sheet of zero bytes
abbrev pub PassesTablesForNoBytes : JudgeProgram → Type 0
PassesTablesForNoBytes p = (t : List ℕ) × (t ≡ [] → ⊥) × (p [] t ≡ Ok Fits)

-- ---- FORCED (demand 2)
abbrev pub ForcedProgram : Type 0
ForcedProgram = List ℕ → ℕ → ℕ → Result Bool Refusal

abbrev pub MeetsForced : ForcedProgram → Type 0
MeetsForced p = (s : List ℕ) (a b : ℕ) → p s a b ≡ forcing s a b

-- one fixed reply, even if only to calls that are not turned down: expressions of an accepted sheet that lie in one field
abbrev pub FixedForcing : ForcedProgram → Result Bool Refusal → Type 0
FixedForcing p r = (s : List ℕ) (a b : ℕ) (sh : Sheet) → reading s ≡ accepted sh → comparable sh a b ≡ true → p s a b ≡ r

-- ---- GROUP (request (b))
abbrev pub GroupProgram : Type 0
GroupProgram = List ℕ → ℕ → Result ℕ Refusal

abbrev pub MeetsGroup : GroupProgram → Type 0
MeetsGroup p = (s : List ℕ) (e : ℕ) → p s e ≡ grouping s e

-- gives, for each expression of an accepted sheet, the expression itself
abbrev pub GivesItself : GroupProgram → Type 0
GivesItself p = (s : List ℕ) (sh : Sheet) (e : ℕ) → reading s ≡ accepted sh → e < length sh.terms → p s e ≡ Ok e

-- .. a number above which none of the expressions lies that are forced together with it, as the highest-numbered of them is
abbrev pub GivesHighest : GroupProgram → Type 0
GivesHighest p = (s : List ℕ) (sh : Sheet) (e k : ℕ) → reading s ≡ accepted sh → e < length sh.terms → p s e ≡ Ok k → (j : ℕ) → j < length sh.terms → Forced sh j e → j ≤ k

-- .. its label after one round of the congruence rule
abbrev pub OneRound : GroupProgram → Type 0
OneRound p = (s : List ℕ) (sh : Sheet) (e : ℕ) → reading s ≡ accepted sh → e < length sh.terms → p s e ≡ Ok (at (round sh (stated sh)) e)

-- counts a differ statement, or a floor, a ceiling or the total: two accepted sheets that differ in no more are answered differently
pub record CountsDiffer (p : GroupProgram) : Type 0 where
  pub sheet : List ℕ
  pub other : List ℕ
  pub read : Sheet
  pub read_other : Sheet
  pub reads : reading sheet ≡ accepted read
  pub reads_other : reading other ≡ accepted read_other
  pub same : SameStatements read read_other
  pub term : ℕ
  pub differs : p sheet term ≡ p other term → ⊥

-- ---- GROUP (request (f))
-- holds its labels in six bits: no number from 64 on is ever given
abbrev pub SixBits : GroupProgram → Type 0
SixBits p = (s : List ℕ) (e k : ℕ) → p s e ≡ Ok k → k < 64

-- gives a number of 128 or more, as one does that uses the highest bit of a label for something else
abbrev pub HighestBit : GroupProgram → Type 0
HighestBit p = (s : List ℕ) × (e : ℕ) × (k : ℕ) × (p s e ≡ Ok k) × (128 ≤ k)

-- ---- ALL OF THEM
pub record Refuted : Type 0 where
  pub eleven_for_all : (p : FindProgram) → MeetsFind p → ElevenForAll p → ⊥
  pub never_looks : (p : FindProgram) → MeetsFind p → NeverLooks p → ⊥
  pub eleven_before_looking : (p : FindProgram) → MeetsFind p → ElevenBeforeLooking p → ⊥
  pub same_tables : (p : FindProgram) → MeetsFind p → SameTables p → ⊥
  pub no_code_written : (p : FindProgram) → MeetsFind p → NoCodeWritten p → ⊥
  pub no_table_written : (p : FindProgram) → MeetsFind p → NoTableWritten p → ⊥
  pub other_sizes_zero : (p : FindProgram) → MeetsFind p → OtherSizesZero p → ⊥
  pub other_codes_zero : (p : FindProgram) → MeetsFind p → OtherCodesZero p → ⊥
  pub invented_sum : (p : FindProgram) → MeetsFind p → InventedSum p → ⊥
  pub keeps_across : (p : FindProgram) → MeetsFind p → KeepsAcross p → ⊥
  pub keeps_of_two : (p : FindProgram) → MeetsFind p → KeepsOfTwo p → ⊥
  pub overwrites : (p : FindProgram) → MeetsFind p → Overwrites p → ⊥
  pub still_zero : (p : FindProgram) → MeetsFind p → StillZero p → ⊥
  pub fills_reached : (p : FindProgram) → MeetsFind p → FillsReached p → ⊥
  pub fill_wins : (p : FindProgram) → MeetsFind p → FillWins p → ⊥
  pub fills_with_number : (p : FindProgram) → MeetsFind p → FillsWithNumber p → ⊥
  pub takes_second_fill : (p : FindProgram) → MeetsFind p → TakesSecondFill p → ⊥
  pub refuses_every_sheet : (p : ReadProgram) → MeetsRead p → RefusesEverySheet p → ⊥
  pub refuses_no_bytes : (p : ReadProgram) → MeetsRead p → RefusesNoBytes p → ⊥
  pub sixteen_before_seven : (p : ReadProgram) → MeetsRead p → SixteenBeforeSeven p → ⊥
  pub fixed_judgement : (p : JudgeProgram) (r : Result Judgement Refusal) → MeetsJudge p → FixedJudgement p r → ⊥
  pub passes_tables_for_no_bytes : (p : JudgeProgram) → MeetsJudge p → PassesTablesForNoBytes p → ⊥
  pub fixed_forcing : (p : ForcedProgram) (r : Result Bool Refusal) → MeetsForced p → FixedForcing p r → ⊥
  pub gives_itself : (p : GroupProgram) → MeetsGroup p → GivesItself p → ⊥
  pub gives_highest : (p : GroupProgram) → MeetsGroup p → GivesHighest p → ⊥
  pub one_round : (p : GroupProgram) → MeetsGroup p → OneRound p → ⊥
  pub counts_differ : (p : GroupProgram) → MeetsGroup p → CountsDiffer p → ⊥
  pub six_bits : (p : GroupProgram) → MeetsGroup p → SixBits p → ⊥
  pub highest_bit : (p : GroupProgram) → MeetsGroup p → HighestBit p → ⊥
