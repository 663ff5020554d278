-- Interface. The walks that docs/FORMAT.md shows for worked sheet 10 ("A sheet byte by byte") as one table. The tables are those that find gives for the sheet, and the trail has 5 bytes.
-- A row has what walk is asked, and what it is to give back and to leave in the trail.
use Rattle.std.specs.Prelude.{Result, Ok, Err}
use Rattle.prelude.specs.Causes.{refusal}
use Rattle.prelude.specs.declared.refusal.Refusal.{Refusal}
use Rattle.std.specs.Prelude.{ℕ, ◌≡◌, List, [], ◌∷◌, length}
use Rattle.walk.specs.Walk.{walking, trail_after}
use Rattle.worked.specs.Worked.{row10, All}

pub record WalkRow : Type 0 where
  pub sort : ℕ
  pub code : ℕ
  pub events : List ℕ
  pub start : ℕ
  pub result : Result ℕ Refusal
  pub trail : List ℕ

-- the trail before the walk
abbrev pub untrodden : List ℕ
untrodden = 170 ∷ 170 ∷ 170 ∷ 170 ∷ 170 ∷ []

-- a walk from a code of the field 0 that is turned down
abbrev pub refused_walk : ℕ → ℕ → List ℕ → ℕ → WalkRow
refused_walk n c fs start = record { sort = 0; code = c; events = fs; start = start; result = Err (refusal n 0); trail = untrodden }

abbrev pub walk_rows : List WalkRow
walk_rows =
    record { sort = 0; code = 0; events = 1 ∷ 1 ∷ 1 ∷ []; start = 1; result = Ok 3; trail = 170 ∷ 1 ∷ 0 ∷ 1 ∷ 170 ∷ [] }
    ∷ record { sort = 0; code = 0; events = []; start = 5; result = Ok 0; trail = untrodden }
    ∷ refused_walk 10 0 [] 6
    ∷ refused_walk 10 0 (1 ∷ 1 ∷ 1 ∷ []) 3
    ∷ refused_walk 15 0 (1 ∷ 0 ∷ []) 0
    ∷ refused_walk 15 2 [] 0
    ∷ []

pub record WalkShown (r : WalkRow) : Type 0 where
  pub result : walking row10.sheet row10.tables r.sort r.code r.events (length untrodden) r.start ≡ r.result
  pub trail : trail_after row10.sheet row10.tables r.sort r.code r.events untrodden r.start ≡ r.trail

-- the table; `worked_walks` of proofs/Walks.antt proves it
abbrev pub WorkedWalks : Type 0
WorkedWalks = All WalkShown walk_rows
