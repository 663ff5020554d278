-- `find::answer` meets its contract.
use Rattle.sheet.proofs.Verdicts.{read_from_lem}
use Rattle.find.proofs.answer.Goals as goal

pub answer_parsed-requires : goal.answer_parsed-requires
answer_parsed-requires g c = record { read = read_from_lem c.args.sheet.now c.in-Ok.p c.in-Ok.ensures; in_bounds = c.requires }
