-- `judge::table_span` meets its contract. The parser refuses, or it hands over a sheet whose stretch span_of gives.
use native.Mathlib.Omega.{arith}
use Rattle.judge.proofs.Questions.{parsed_limited, table_refused, table_accepted}
use Rattle.judge.proofs.Replies.{found_spans}
use Rattle.judge.proofs.table_span.Goals as goal

pub returns-in-Err : goal.returns-in-Err
returns-in-Err c =
    let s = c.args in
    (table_refused s.sheet.now c.in-Err.field-0 c.in-Err.ensures s.tables.now s.symbol, omega arith)

pub span_of-requires : goal.span_of-requires
span_of-requires c = parsed_limited c.args.sheet.now c.in-Ok.p c.in-Ok.ensures

pub returns-in-Ok : goal.returns-in-Ok
returns-in-Ok c =
    let s = c.args in
    let r = c.span_of in
    table_accepted s.sheet.now c.in-Ok.p c.in-Ok.ensures s.tables.now s.symbol c.unwrap_or.result.start c.unwrap_or.result.end
    (λ sh k. found_spans r.result c.unwrap_or.result _ c.unwrap_or.ensures (r.ensures sh k))
