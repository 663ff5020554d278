-- `walk::admitted` meets its contract. Each return is one law of proofs/Events.antt.
use mathlib.Core.Path.{ap, sym, ◌∙◌}
use Rattle.std.specs.Prelude.{Err}
use Rattle.walk.proofs.Events.{cause_malformed, cause_absent, cause_none}
use Rattle.walk.proofs.admitted.Goals as goal

pub returns-then-not-well_laid : goal.returns-then-not-well_laid
returns-then-not-well_laid c =
    let s = c.args in
    record {
      tests = λ sh k. ap Err c.at.ensures ∙ cause_malformed sh s.t.now s.sort s.code s.events.now (sym (c.well_laid.ensures sh k) ∙ c.if-not-well_laid.true);
      code = tt;
    }

pub returns-then-not-is_walkable : goal.returns-then-not-is_walkable
returns-then-not-is_walkable c =
    let s = c.args in
    record {
      tests = λ sh k.
          ap Err c.at-then-not-is_walkable.ensures
          ∙ cause_absent sh s.t.now s.sort s.code s.events.now (sym (c.well_laid.ensures sh k) ∙ c.if-not-well_laid.false)
          (sym (c.is_walkable.ensures.0 sh k) ∙ c.if-not-is_walkable.true);
      code = tt;
    }

pub returns : goal.returns
returns c =
    let s = c.args in
    record {
      tests = λ sh k.
          cause_none sh s.t.now s.sort s.code s.events.now (sym (c.well_laid.ensures sh k) ∙ c.if-not-well_laid.false)
          (sym (c.is_walkable.ensures.0 sh k) ∙ c.if-not-is_walkable.false);
      code = c.is_walkable.ensures.1 c.if-not-is_walkable.false;
    }
