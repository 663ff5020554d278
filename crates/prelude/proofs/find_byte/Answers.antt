-- `prelude::find_byte`: a turn is one place further.
use Rattle.std.proofs.Common.{◌≡◌, ◌+◌, arith}
use Rattle.prelude.specs.Bytes.{index_of, slice}
use Rattle.prelude.proofs.Bytes.{index_here, index_further, index_none}
use Rattle.prelude.proofs.find_byte.Goals as goal

pub returns-then-s-i : goal.returns-then-s-i
returns-then-s-i c =
    let v = c.loop-i.invariant in
    let e = index_here c.args.s.now c.loop-i.i c.args.to c.args.b c.loop-i-test.true c.requires.1 c.if-s-i.true in
    (omega (arith, v.2, e), v.0, v.1)

pub loop-i-preserved : goal.loop-i-preserved
loop-i-preserved c =
    let v = c.loop-i.invariant in
    let e = index_further c.args.s.now c.loop-i.i c.args.to c.args.b c.loop-i-test.true c.requires.1 c.if-s-i.false in
    (omega (arith, v.0), omega (arith, c.loop-i-test.true), omega (arith, v.2, e))

pub returns : goal.returns
returns c =
    let v = c.loop-i.invariant in
    let i : c.loop-i.i ≡ c.args.to = omega (arith, v.1, c.loop-i-test.false) in
    let e = index_none c.args.s.now c.args.to c.args.b c.requires.1 in
    let w : c.args.from + index_of c.args.b (slice c.args.from c.args.to c.args.s.now) ≡ c.args.to + index_of c.args.b (slice c.args.to c.args.to c.args.s.now) = rw i at v.2 in
    (omega (arith, w, e), c.requires.0, omega arith)
