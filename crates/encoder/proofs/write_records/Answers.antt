-- `encoder::write_records` meets its contract: the records of the numbers passed stand in the buffer, one behind the other.
use mathlib.Core.Path.{◌≡◌}
use native.Mathlib.Omega.{arith}
use Rattle.prelude.proofs.Pasted.{wrote_none}
use Rattle.encoder.proofs.Placing.{record_fits, record_more}
use Rattle.encoder.proofs.write_records.Goals as goal

pub loop-i-init : goal.loop-i-init
loop-i-init g c = λ bytes gives. wrote_none _ _ (omega (arith, c.requires.fit.2))

pub write_record-end-requires : goal.write_record-end-requires
write_record-end-requires g c =
    let fit = c.requires.fit in
    rw (fit.1 c.loop-i.i c.make-next.result (omega arith) c.make-next.ensures)
    (record_fits fit.0 c.loop-i.i (c.loop-i.invariant fit.0 fit.1) c.args.n fit.2 c.loop-i.auto.out (omega arith))

pub loop-i-preserved : goal.loop-i-preserved
loop-i-preserved g c = λ bytes gives.
    record_more bytes c.loop-i.i (c.loop-i.invariant bytes gives) (rw (gives c.loop-i.i c.make-next.result (omega arith) c.make-next.ensures) at c.write_record-end.ensures)

pub returns : goal.returns
returns g c = λ bytes gives.
    let all : c.loop-i.i ≡ c.args.n = omega arith in
    rw all at (c.loop-i.invariant bytes gives)
