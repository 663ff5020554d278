-- The interface: the wrong programs of request (e), about walk. A program is what it gives back, and leaves in the trail, for every call; to meet the contract is to do so at every call.
-- `refuted_walk` of proofs/Walk.antt: none of these meets it. Each is said of a single call.
use Rattle.std.specs.Prelude.{Result, Ok, Err}
use Rattle.prelude.specs.Causes.{refusal}
use Rattle.prelude.specs.declared.refusal.Refusal.{Refusal}
use Rattle.std.specs.Prelude.{ℕ, ◌+◌, ◌<◌, ◌≡◌, List, [], ◌∷◌, length, take}
use Rattle.prelude.specs.Lists.{at}
use Rattle.logic.specs.Sheet.{Sheet}
use Rattle.layout.specs.Layout.{accepted, reading}
use Rattle.tables.specs.Layout.{decoded}
use Rattle.walk.specs.Walk.{end, walking, trail_after}
use Rattle.walk.specs.Promise.{StaysIn}

-- what walk is called with
pub record WalkCall : Type 0 where
  pub sheet : List ℕ
  pub tables : List ℕ
  pub sort : ℕ
  pub code : ℕ
  pub events : List ℕ
  pub trail : List ℕ
  pub start : ℕ

-- the result, and the trail at exit
pub record WalkProgram : Type 0 where
  pub result : WalkCall → Result ℕ Refusal
  pub trail : WalkCall → List ℕ

-- the contract of walk::walk, its two clauses
abbrev pub MeetsWalk : WalkProgram → Type 0
MeetsWalk p =
    (c : WalkCall)
    → (p.result c ≡ walking c.sheet c.tables c.sort c.code c.events (length c.trail) c.start)
    × (p.trail c ≡ trail_after c.sheet c.tables c.sort c.code c.events c.trail c.start)

-- a call that says that it has written so many codes
pub record WritingWalk (p : WalkProgram) : Type 0 where
  pub call : WalkCall
  pub many : ℕ
  pub wrote : p.result call ≡ Ok many
  pub read : Sheet
  pub reads : reading call.sheet ≡ accepted read

-- what the table of its event k holds at a code, and the code before that event
abbrev pub leads_to : (p : WalkProgram) → WritingWalk p → ℕ → ℕ → ℕ
leads_to p c k x = (decoded c.read c.call.tables).table (at c.call.events k) (x ∷ [])

abbrev pub code_before : (p : WalkProgram) → WritingWalk p → ℕ → ℕ
code_before p c k = end (decoded c.read c.call.tables) c.call.code (take k c.call.events)

-- writes the starting code first, where the first event leads to another
abbrev pub WritesStartFirst : WalkProgram → Type 0
WritesStartFirst p =
    (c : WritingWalk p)
    × (0 < length c.call.events)
    × (leads_to p c 0 c.call.code ≡ c.call.code → ⊥)
    × (at (p.trail c.call) c.call.start ≡ c.call.code)

-- applies some event to the starting code, where that leads elsewhere than from the code before it
abbrev pub AppliesToStart : WalkProgram → Type 0
AppliesToStart p =
    (c : WritingWalk p)
    × (k : ℕ)
    × (k < length c.call.events)
    × (leads_to p c k c.call.code ≡ leads_to p c k (code_before p c k) → ⊥)
    × (at (p.trail c.call) (c.call.start + k) ≡ leads_to p c k c.call.code)

-- writes before it has tested the last event: some event does not stay in the field, and yet the trail has changed
abbrev pub WritesUntested : WalkProgram → Type 0
WritesUntested p =
    (c : WalkCall)
    × (sh : Sheet)
    × (reading c.sheet ≡ accepted sh)
    × (k : ℕ)
    × (k < length c.events)
    × (StaysIn sh c.sort (at c.events k) → ⊥)
    × (p.trail c ≡ c.trail → ⊥)

-- answers 13
abbrev pub AnswersThirteen : WalkProgram → Type 0
AnswersThirteen p = (c : WalkCall) × (i : ℕ) × (p.result c ≡ Err (refusal 13 i))

pub record RefutedWalk : Type 0 where
  pub writes_start_first : (p : WalkProgram) → MeetsWalk p → WritesStartFirst p → ⊥
  pub applies_to_start : (p : WalkProgram) → MeetsWalk p → AppliesToStart p → ⊥
  pub writes_untested : (p : WalkProgram) → MeetsWalk p → WritesUntested p → ⊥
  pub answers_thirteen : (p : WalkProgram) → MeetsWalk p → AnswersThirteen p → ⊥
