-- `ask::main` meets its contract.
use Prim.Native.Nat.{◌≤◌}
use Rattle.ask.proofs.main.Given as goal

abbrev pub invariant-loop : goal.invariant-loop
invariant-loop l = l.held ≤ 262146
