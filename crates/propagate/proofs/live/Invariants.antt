-- `propagate::live` is safe and ends; it promises nothing.
use Prim.Native.Nat.{◌<◌}
use Rattle.propagate.proofs.live.Given as goal

abbrev pub invariant-loop-k : goal.invariant-loop-k
invariant-loop-k l = l.half < 2
