-- `sizings::sorts_of` meets its contract.
use mathlib.Core.Path.{◌≡◌, sym, ◌∙◌}
use Rattle.layout.specs.Layout.{accepted, refused}
use Rattle.sheet.proofs.Verdicts.{parsed_refuses}
use Rattle.tables.proofs.Packing.{packs_views}
use Rattle.questions.proofs.Asking.{accepted_packs}
use Rattle.sizings.proofs.sorts_of.Goals as goal

pub returns-in-Ok : goal.returns-in-Ok
returns-in-Ok c sh r = (packs_views sh c.in-Ok.p (accepted_packs c.args.sheet.now c.in-Ok.p c.in-Ok.ensures sh r)).sorts

pub returns-in-Err : goal.returns-in-Err
returns-in-Err c sh r =
    let a = parsed_refuses c.args.sheet.now _ c.in-Err.ensures in
    let z : accepted sh ≡ refused a.number a.place = sym r ∙ a.reads in cc
