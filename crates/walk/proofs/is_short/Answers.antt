-- `walk::is_short` meets its contract.
use native.Mathlib.Omega.{arith}
use Rattle.walk.proofs.Outcomes.{start_past_end, room_behind}
use Rattle.walk.proofs.is_short.Goals as goal

pub returns-then-room-start : goal.returns-then-room-start
returns-then-room-start c = let s = c.args in start_past_end s.room s.start s.many (omega arith)

pub returns : goal.returns
returns c = let s = c.args in room_behind s.room s.start s.many (omega arith)
