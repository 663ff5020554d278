-- `find_at::are_short` meets its contract.
use Rattle.find_at.proofs.Searching.{short_codes, short_tables}
use Rattle.find_at.proofs.are_short.Goals as goal

pub returns-then-codes-p : goal.returns-then-codes-p
returns-then-codes-p c sh k =
    let m = c in
    short_codes m.args.p m.args.codes m.args.tables sh k c.if-codes-p.true

pub returns : goal.returns
returns c sh k =
    let m = c in
    short_tables m.args.p m.args.codes m.args.tables sh k c.if-codes-p.false c.longest.result (c.longest.ensures sh k)
