-- `judge::judge` meets its contract. The parser refuses, or it hands over a sheet that judge_parsed judges.
use Rattle.judge.proofs.Questions.{parsed_limited, judge_refused, judge_accepted}
use Rattle.judge.proofs.judge.Goals as goal

pub judge_parsed-requires : goal.judge_parsed-requires
judge_parsed-requires c = parsed_limited c.args.sheet.now c.in-Ok.parsed c.in-Ok.ensures

pub returns-in-Ok : goal.returns-in-Ok
returns-in-Ok c =
    let s = c.args in
    judge_accepted s.sheet.now c.in-Ok.parsed c.in-Ok.ensures s.tables.now c.judge_parsed.result c.judge_parsed.ensures

pub returns-in-Err : goal.returns-in-Err
returns-in-Err c = judge_refused c.args.sheet.now c.in-Err.r c.in-Err.ensures c.args.tables.now
