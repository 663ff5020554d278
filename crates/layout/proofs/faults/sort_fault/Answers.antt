-- Each return is a case of `later`.
use native.Mathlib.Omega.{arith}
use mathlib.Core.Path.{ap, sym, ◌∙◌}
use Rattle.prelude.specs.Causes.{tested}
use Rattle.layout.proofs.Causes.{field_many, field_floor, field_ceiling, field_fine}
use Rattle.layout.proofs.faults.sort_fault.Goals as goal

pub returns-then-sorts-ge-MOST_SORTS : goal.returns-then-sorts-ge-MOST_SORTS
returns-then-sorts-ge-MOST_SORTS c sh e =
    ap tested (
    let a = c.args in field_many sh a.b0 a.b1 (omega arith))

pub returns-then-not-is_size : goal.returns-then-not-is_size
returns-then-not-is_size c sh e =
    ap tested (
    let a = c.args in
    field_floor sh a.b0 a.b1 (omega arith)
    (sym c.is_size.ensures ∙ c.if-not-is_size.true))

pub returns-then-not-is_size-2 : goal.returns-then-not-is_size-2
returns-then-not-is_size-2 c sh e =
    ap tested (
    let a = c.args in
    field_ceiling sh a.b0 a.b1 (omega arith)
    (sym c.is_size-2.ensures ∙ c.if-not-is_size-2.true))

pub returns : goal.returns
returns c sh e =
    ap tested (
    let a = c.args in
    field_fine sh a.b0 a.b1 (omega arith)
    (sym c.is_size.ensures
    ∙ c.if-not-is_size.false)
    (sym c.is_size-2.ensures ∙ c.if-not-is_size-2.false))
