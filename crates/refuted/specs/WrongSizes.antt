-- The interface: the wrong programs of request (h), about sizes and find_at. A program is what it gives back, and leaves in the buffers, for every call; to
-- meet a contract is to do so at every call. `refuted_sizes` of proofs/Sizes.antt: none of these meets the contract of its question.
use Rattle.std.specs.Prelude.{Result, Ok, Err}
use Rattle.prelude.specs.Causes.{refusal}
use Rattle.prelude.specs.declared.refusal.Refusal.{Refusal}
use Rattle.std.specs.Prelude.{ℕ, ◌≤◌, ◌<◌, ◌≡◌, List, length}
use Rattle.prelude.specs.Lists.{at, firsts}
use Rattle.logic.specs.Sheet.{Sheet}
use Rattle.logic.specs.Structure.{Structure, Candidate, Satisfies}
use Rattle.logic.specs.Order.{sum_of}
use Rattle.layout.specs.Layout.{accepted, reading}
use Rattle.tables.specs.Layout.{extent}
use Rattle.answer.specs.Answer.{sum}
use Rattle.answer.specs.Demand.{CandidateSizes}
use Rattle.sizes.specs.Sizing.{Sizes}
use Rattle.sizes.specs.Promise.{sizes_written}
use Rattle.find_at.specs.Found.{ceilings}
use Rattle.find_at.specs.FindAt.{FindsAt}

-- ---- SIZES
-- the result, and the buffer at exit, from the sheet's bytes and the buffer at entry
pub record SizesProgram : Type 0 where
  pub result : List ℕ → List ℕ → Result ℕ Refusal
  pub buffer : List ℕ → List ℕ → List ℕ

-- the contract of sizes::sizes: its two clauses are the fields of `Sizes`
abbrev pub MeetsSizes : SizesProgram → Type 0
MeetsSizes p = (s out : List ℕ) → Sizes s out (p.buffer s out) (p.result s out)

-- gives the ceilings: to some call it writes them, where a candidate that satisfies every statement has a smaller sum
pub record GivesCeilings (p : SizesProgram) : Type 0 where
  pub bytes : List ℕ
  pub out : List ℕ
  pub sheet : Sheet
  pub reads : reading bytes ≡ accepted sheet
  pub given : ℕ
  pub sized : p.result bytes out ≡ Ok given
  pub wrote : sizes_written sheet (p.buffer bytes out) ≡ firsts (length sheet.bounds) (ceilings sheet)
  pub smaller : Structure
  pub candidate : Candidate smaller sheet
  pub satisfies : Satisfies smaller sheet
  pub less : sum_of smaller sheet < sum (firsts (length sheet.bounds) (ceilings sheet))

-- ---- FIND_AT
-- the result, and the code and the table buffer at exit, from the sheet's bytes, the sizes and both buffers at entry
pub record FindAtProgram : Type 0 where
  pub result : List ℕ → List ℕ → List ℕ → List ℕ → Result ℕ Refusal
  pub codes : List ℕ → List ℕ → List ℕ → List ℕ → List ℕ
  pub tables : List ℕ → List ℕ → List ℕ → List ℕ → List ℕ

-- the contract of find_at::find_at: its three clauses are the fields of `FindsAt`
abbrev pub MeetsFindAt : FindAtProgram → Type 0
MeetsFindAt p = (s z cs ts : List ℕ) → FindsAt s z cs ts (p.codes s z cs ts) (p.tables s z cs ts) (p.result s z cs ts)

-- a call that no cause before 11 stops: the sheet is accepted, the buffers suffice, and a candidate may have the sizes
pub record LetThroughAt (s z cs ts : List ℕ) : Type 0 where
  pub sheet : Sheet
  pub reads : reading s ≡ accepted sheet
  pub codes_fit : length sheet.terms ≤ length cs
  pub tables_fit : extent sheet (ceilings sheet) ≤ length ts
  pub right : CandidateSizes sheet z

-- ignores the sizes given: whichever they are, the same is answered
abbrev pub IgnoresSizes : FindAtProgram → Type 0
IgnoresSizes p = (s z z' cs ts : List ℕ) → LetThroughAt s z cs ts → LetThroughAt s z' cs ts → p.result s z cs ts ≡ p.result s z' cs ts

-- answers 11 to some call for sizes that no candidate may have
pub record ElevenOutOfBounds (p : FindAtProgram) : Type 0 where
  pub bytes : List ℕ
  pub sizes : List ℕ
  pub codes : List ℕ
  pub tables : List ℕ
  pub sheet : Sheet
  pub reads : reading bytes ≡ accepted sheet
  pub wrong : CandidateSizes sheet sizes → ⊥
  pub eleven : p.result bytes sizes codes tables ≡ Err (refusal 11 0)

-- finds at smaller sizes: to some call it says found, and the tables that it wrote begin with a size smaller than the one given
pub record FindsSmaller (p : FindAtProgram) : Type 0 where
  pub bytes : List ℕ
  pub sizes : List ℕ
  pub codes : List ℕ
  pub tables : List ℕ
  pub sheet : Sheet
  pub reads : reading bytes ≡ accepted sheet
  pub sum : ℕ
  pub found : p.result bytes sizes codes tables ≡ Ok sum
  pub sort : ℕ
  pub there : sort < length sheet.bounds
  pub smaller : at (p.tables bytes sizes codes tables) sort < at sizes sort

pub record RefutedSizes : Type 0 where
  pub gives_ceilings : (p : SizesProgram) → MeetsSizes p → GivesCeilings p → ⊥
  pub ignores_sizes : (p : FindAtProgram) → MeetsFindAt p → IgnoresSizes p → ⊥
  pub eleven_out_of_bounds : (p : FindAtProgram) → MeetsFindAt p → ElevenOutOfBounds p → ⊥
  pub finds_smaller : (p : FindAtProgram) → MeetsFindAt p → FindsSmaller p → ⊥
