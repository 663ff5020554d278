-- `sizes::sizes` meets its contract: a refusal is the parser's, and what was read goes on to `sizes_parsed`.
use Rattle.sheet.proofs.Verdicts.{read_from_lem}
use Rattle.sizes.proofs.Outcomes.{parse_refused}
use Rattle.sizes.proofs.sizes.Goals as goal

pub sizes_parsed-requires : goal.sizes_parsed-requires
sizes_parsed-requires c = read_from_lem c.args.sheet.now c.in-Ok.p c.in-Ok.ensures

pub returns-in-Ok : goal.returns-in-Ok
unfolding read_from_lem
returns-in-Ok c =
    let f = c.sizes_parsed.ensures (read_from_lem c.args.sheet.now c.in-Ok.p c.in-Ok.ensures) in
    record { result = f.result; buffer = f.buffer }

pub returns-in-Err : goal.returns-in-Err
returns-in-Err c =
    let f = parse_refused c.args.sheet.now c.args.out.now c.in-Err.r c.in-Err.ensures in
    record { result = f.result; buffer = f.buffer }
