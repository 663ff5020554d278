-- `find_at::find_at` meets its contract: a refusal is the parser's, and what was read goes on to `find_at_parsed`.
use Rattle.sheet.proofs.Verdicts.{read_from_lem}
use Rattle.find_at.proofs.Buffers.{parse_refused}
use Rattle.find_at.proofs.find_at.Goals as goal

pub find_at_parsed-requires : goal.find_at_parsed-requires
find_at_parsed-requires c = read_from_lem c.args.sheet.now c.in-Ok.p c.in-Ok.ensures

pub returns-in-Ok : goal.returns-in-Ok
unfolding read_from_lem
returns-in-Ok c =
    let f = c.find_at_parsed.ensures (read_from_lem c.args.sheet.now c.in-Ok.p c.in-Ok.ensures) in
    record { result = f.result; codes = f.codes; tables = f.tables }

pub returns-in-Err : goal.returns-in-Err
returns-in-Err c =
    let f = parse_refused c.args.sheet.now c.args.sizes.now c.args.codes.now c.args.tables.now c.in-Err.r c.in-Err.ensures in
    record { result = f.result; codes = f.codes; tables = f.tables }
