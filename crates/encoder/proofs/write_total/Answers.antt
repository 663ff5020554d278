-- `encoder::write_total` meets its contract: no record for no total, and else one.
use native.Mathlib.Omega.{arith}
use mathlib.Core.Path.{◌≡◌}
use Rattle.prelude.proofs.Pasted.{wrote_none}
use Rattle.encoder.proofs.ShortRecords.{total_record}
use Rattle.encoder.proofs.write_total.Goals as goal

pub returns-then-total-eq0 : goal.returns-then-total-eq0
returns-then-total-eq0 c =
    let m = c in
    let none : m.args.p.total ≡ 0 = omega arith in
    rw none (wrote_none m.args.out.now m.args.start (omega (arith, m.requires)))

pub write_record-requires : goal.write_record-requires
write_record-requires c =
    let m = c in
    rw (total_record m.args.p.total (omega arith)) m.requires.1

pub returns : goal.returns
returns c =
    let m = c.args in
    rw (total_record m.p.total (omega arith)) at c.write_record.ensures
