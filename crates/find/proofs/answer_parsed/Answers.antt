-- `find::answer_parsed` meets its contract.
use mathlib.Core.Path.{refl}
use Rattle.find.proofs.Stretches.{found_printable}
use Rattle.find.proofs.answer_parsed.Goals as goal

pub print_answer-requires : goal.print_answer-requires
print_answer-requires g c =
    let q = c.requires.read in
    record {
      printable = found_printable c.args.p q c.args.codes.now c.args.tables.now _ _ _ _ (c.in-Ok.ensures q) refl;
      in_bounds = c.requires.in_bounds;
    }
