-- The interface: what follows from the equations of Walk for every call. Proved in proofs/Walked.antt and proofs/InTurn.antt.
use Rattle.std.specs.Prelude.{ℕ, ◌+◌, ◌≤◌, ◌<◌, ◌≡◌, ◌↔◌, List, [], ◌∷◌, ◌++◌, length, take, drop, Ok}
use Rattle.prelude.specs.Lists.{at}
use Rattle.logic.specs.Sheet.{Sheet, symbol_at}
use Rattle.layout.specs.Layout.{accepted, reading}
use Rattle.tables.specs.Layout.{decoded, WellLaid}
use Rattle.walk.specs.Walk.{walk, end, walking, trail_after}

-- the symbol f is there, takes just the sort s and gives it
pub record StaysIn (sh : Sheet) (s f : ℕ) : Type 0 where
  pub there : f < length sh.symbols
  pub gives : (symbol_at sh f).result ≡ s
  pub takes : (symbol_at sh f).params ≡ s ∷ []

-- cause 15 does not apply: the sort is there, the starting code is below its size, and every event stays in it
pub record Walkable (sh : Sheet) (t : List ℕ) (s c : ℕ) (fs : List ℕ) : Type 0 where
  pub sort : s < length sh.bounds
  pub code : c < at t s
  pub event : (k : ℕ) → k < length fs → StaysIn sh s (at fs k)

-- no cause behind the sheet's own applies: the trail has room from the start on, the tables are well-formed, and so is the walk. A call on an accepted sheet writes exactly then:
-- `written_exactly`.
pub record Allowed (sh : Sheet) (t : List ℕ) (s c : ℕ) (fs : List ℕ) (room start : ℕ) : Type 0 where
  pub fits : start + length fs ≤ room
  pub laid : WellLaid sh t
  pub walkable : Walkable sh t s c fs

-- A call that says that it has written n codes: the sheet is accepted and the call allowed; there is a code for each event; from the start on stand the codes of the walk, each what its
-- event's table holds at the code where the events before it end, and below the field's size; and every other byte of the trail is as it was. `written_walked`.
pub record Walked (sheet t : List ℕ) (s c : ℕ) (fs trail : List ℕ) (start n : ℕ) : Type 0 where
  pub read : Sheet
  pub reads : reading sheet ≡ accepted read
  pub allowed : Allowed read t s c fs (length trail) start
  pub many : n ≡ length fs
  pub before : take start (trail_after sheet t s c fs trail start) ≡ take start trail
  pub codes : take n (drop start (trail_after sheet t s c fs trail start)) ≡ walk (decoded read t) c fs
  pub code : (k : ℕ) → k < n → at (trail_after sheet t s c fs trail start) (start + k) ≡ (decoded read t).table (at fs k) (end (decoded read t) c (take k fs) ∷ [])
  pub below : (k : ℕ) → k < n → at (trail_after sheet t s c fs trail start) (start + k) < at t s
  pub behind : drop (start + n) (trail_after sheet t s c fs trail start) ≡ drop (start + n) trail

-- Two calls in turn write all their codes: the second goes on behind the codes of the first, from the code where the first ended.
pub record InTurn (sheet t : List ℕ) (sh : Sheet) (s c : ℕ) (fs gs trail : List ℕ) (start : ℕ) : Type 0 where
  pub first : walking sheet t s c fs (length trail) start ≡ Ok (length fs)
  pub second : walking sheet t s (end (decoded sh t) c fs) gs (length trail) (start + length fs) ≡ Ok (length gs)

-- A call on two lists of events, one after the other, writes exactly when the two calls in turn do, and leaves the same trail. `two_lists`.
pub record TwoLists (sheet t : List ℕ) (sh : Sheet) (s c : ℕ) (fs gs trail : List ℕ) (start : ℕ) : Type 0 where
  pub writes : (walking sheet t s c (fs ++ gs) (length trail) start ≡ Ok (length (fs ++ gs))) ↔ InTurn sheet t sh s c fs gs trail start
  pub same :
      InTurn sheet t sh s c fs gs trail start
      → trail_after sheet t s c (fs ++ gs) trail start ≡ trail_after sheet t s (end (decoded sh t) c fs) gs (trail_after sheet t s c fs trail start) (start + length fs)
