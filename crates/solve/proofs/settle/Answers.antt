-- `solve::settle` meets its contract: the codes of the terms passed are read off.
use Prim.Native.Nat.{ℕ, ◌+◌, ◌<◌}
use mathlib.Core.Path.{refl, sym, subst}
use mathlib.Core.List.{List}
use native.Mathlib.Omega.{arith}
use Rattle.layout.specs.Packed.{view}
use Rattle.prelude.specs.Lists.{at}
use Rattle.solve.specs.Parts.{ReadOff}
use Rattle.solve.proofs.Branching.{ReadingOff, read_none, read_decided, read_only}
use Rattle.solve.proofs.settle.Goals as goal
use Rattle.solve.proofs.settle.Goals.{then-d+in-Some, else-d}

pub loop-i-init : goal.loop-i-init
loop-i-init c = read_none _ _ _

pub loop-i-preserved : goal.loop-i-preserved
loop-i-preserved c =
    let r = c.loop-i.invariant in
    let keep : List ℕ → Type 0 = λ codes. ReadingOff (view c.args.p) (at c.args.decided) c.args.masks.now codes (c.loop-i.i + 1) in
    let test = c.loop-i-test.true in
    let h : c.loop-i.i < 256 = omega (arith, c.requires.terms) in
    elim c.if-d.branch [
      | then-d+in-Some w ↦ subst keep (sym w.codes-is) (read_only _ _ _ _ _ _ h r w.if-d.true w.in-Some.ensures.1)
      | else-d w ↦ subst keep (sym w.codes-is) (read_decided _ _ _ _ _ _ h r w.if-d.false refl)
    ]

pub returns : goal.returns
returns c =
    let a = c.loop-i-test.false in
    let b = c.loop-i.auto.i-end in
    subst (ReadOff (view c.args.p) (at c.args.decided) c.args.masks.now c.loop-i.codes) (omega arith) c.loop-i.invariant.read
