-- `findings::find_into` meets its contract: find left what is shown.
use native.Mathlib.Omega.{arith}
use Rattle.findings.proofs.Found.{find_leaves}
use Rattle.findings.proofs.find_into.Goals as goal

pub finding_line-requires : goal.finding_line-requires
finding_line-requires c =
    let s = c.args in
    let r = c.requires in
    let f = c.find-found.ensures in
    record {
      leaves = (_, find_leaves s.sheet.now s.codes.now s.tables.now _ _ _ f.result f.codes f.tables);
      codes_len_bound = (omega (arith, r.0, c.find-found.auto.codes), omega (arith, r.1, c.find-found.auto.tables), r.2);
    }

pub returns : goal.returns
returns c =
    let s = c.args in
    let f = c.find-found.ensures in
    c.finding_line.ensures _ (find_leaves s.sheet.now s.codes.now s.tables.now _ _ _ f.result f.codes f.tables)
