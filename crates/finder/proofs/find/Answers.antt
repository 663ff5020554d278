-- `finder::find` meets its contract: a refusal is the parser's, and what was read goes on to `in_turn`.
use Rattle.sheet.proofs.Verdicts.{read_from_lem}
use Rattle.finder.proofs.Buffers.{parse_refused}
use Rattle.finder.proofs.find.Goals as goal

pub in_turn-requires : goal.in_turn-requires
in_turn-requires c = read_from_lem c.args.sheet.now c.in-Ok.p c.in-Ok.ensures

pub returns-in-Ok : goal.returns-in-Ok
unfolding read_from_lem
returns-in-Ok c =
    let f = c.in_turn.ensures (read_from_lem c.args.sheet.now c.in-Ok.p c.in-Ok.ensures) in
    record { result = f.result; codes = f.codes; tables = f.tables }

pub returns-in-Err : goal.returns-in-Err
returns-in-Err c =
    let f = parse_refused c.args.sheet.now c.args.codes.now c.args.tables.now c.in-Err.unread c.in-Err.ensures in
    record { result = f.result; codes = f.codes; tables = f.tables }
