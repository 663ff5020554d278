-- `rules::contrapose_row` meets its contract; the earlier terms only choose which j to try.
use Rattle.knowledge.proofs.Keeping.{marked_none, marked_chain}
use native.Mathlib.Omega.{arith}
use Rattle.rules.proofs.contrapose_row.Goals as goal

pub loop-tried-init : goal.loop-tried-init
loop-tried-init c = (omega arith, marked_none)

pub loop-tried-preserved : goal.loop-tried-preserved
loop-tried-preserved c = let i = c.loop-tried.invariant.1 in (omega arith, marked_chain i (rw (← i.labels, ← i.masks) c.contrapose-news.ensures))

pub returns : goal.returns
returns c = c.loop-tried.invariant.1
