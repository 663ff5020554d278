-- `gateway::judge` meets its contract. Places and statement numbers are small, so that no cast loses a bit.
use native.Mathlib.Omega.{arith}
use mathlib.Core.Path.{◌≡◌, ap, sym, ◌∙◌}
use Rattle.tables.specs.declared.Judgement.TheVariants.{Broken}
use Rattle.std.specs.Prelude.{Ok}
use Rattle.gateway.proofs.Numbers.{judge_broken, judge_place}
use Rattle.gateway.proofs.judge.Goals as goal

pub overflow_cast-result : goal.overflow_cast-result
overflow_cast-result c =
    let a = c.args in
    let is = c.in-Ok-Broken.is in
    let broken : c.in-Ok-Broken.field-0 ≡ Broken c.in-Ok-Broken.k = rw is at c.in-Ok-Broken.field-0-is in
    omega (arith, judge_broken a.sheet.now a.tables.now c.in-Ok-Broken.k (sym c.judge-j.ensures ∙ is ∙ ap Ok broken))

pub overflow_add-result : goal.overflow_add-result
overflow_add-result c =
    let a = c.args in
    let is = c.in-Ok-Broken.is in
    let broken : c.in-Ok-Broken.field-0 ≡ Broken c.in-Ok-Broken.k = rw is at c.in-Ok-Broken.field-0-is in
    omega (arith, judge_broken a.sheet.now a.tables.now c.in-Ok-Broken.k (sym c.judge-j.ensures ∙ is ∙ ap Ok broken))

pub overflow_cast-r : goal.overflow_cast-r
overflow_cast-r c =
    let a = c.args in
    omega (arith, judge_place a.sheet.now a.tables.now c.in-Err.r (sym c.judge-j.ensures ∙ c.in-Err.is))
