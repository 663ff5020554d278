-- `findings::findat_into` meets its contract: find_at left what is shown.
use native.Mathlib.Omega.{arith}
use Rattle.findings.proofs.Found.{find_at_leaves}
use Rattle.findings.proofs.findat_into.Goals as goal

pub finding_line-requires : goal.finding_line-requires
finding_line-requires c =
    let s = c.args in
    let r = c.requires in
    let f = c.find_at-found.ensures in
    record {
      leaves = (_, find_at_leaves s.sheet.now s.sizes.now s.codes.now s.tables.now _ _ _ f.result f.codes f.tables);
      codes_len_bound = (omega (arith, r.0, c.find_at-found.auto.codes), omega (arith, r.1, c.find_at-found.auto.tables), r.2);
    }

pub returns : goal.returns
returns c =
    let s = c.args in
    let f = c.find_at-found.ensures in
    c.finding_line.ensures _ (find_at_leaves s.sheet.now s.sizes.now s.codes.now s.tables.now _ _ _ f.result f.codes f.tables)
