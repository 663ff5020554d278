-- `Listed::grow` meets its contract.
use Prim.Native.Nat.{ℕ}
use mathlib.Core.List.{List}
use mathlib.Core.Path.{subst}
use Rattle.pigeonhole.specs.Parts.{Unlike}
use Rattle.pigeonhole.proofs.Counting.{taken}
use Rattle.pigeonhole.proofs.Listed.grow.Goals as goal

pub returns : goal.returns
returns c =
    rw c.push.ensures
    (taken _ _ _ _ _ c.requires.term c.requires.gathered c.if-e-f.false
    (subst (λ (l : List ℕ). Unlike c.args.known.now l c.args.i) c.as_slice.ensures (c.unlike.ensures (c.if-not-unlike.false))))
