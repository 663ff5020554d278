-- `walk::is_walkable` meets its contract. Each return is one law of proofs/Events.antt.
use native.Mathlib.Omega.{arith}
use mathlib.Core.Path.{refl, ◌∙◌}
use mathlib.Core.Bool.{false}
use Rattle.prelude.proofs.Tests.{true_not_false}
use Rattle.walk.proofs.Events.{sort_absent, code_absent, events_decide}
use Rattle.walk.proofs.is_walkable.Goals as goal

pub returns-then-p-sort : goal.returns-then-p-sort
returns-then-p-sort c =
    let s = c.args in
    (λ sh k. sort_absent sh s.p k s.t.now s.sort s.code s.events.now c.if-p-sort.true, λ e. absurd (true_not_false false e refl))

pub returns-then-wide-code : goal.returns-then-wide-code
returns-then-wide-code c =
    let sizes = c in
    let s = sizes.args in
    let read = sizes.sizes_of-sizes.ensures s.sort sizes.if-p-sort.false in
    (λ sh k. code_absent sh s.p k s.t.now s.sort s.code s.events.now (omega (arith, c.wide.ensures.0, read)), λ e. absurd (true_not_false false e refl))

pub returns : goal.returns
returns c =
    let code = c in
    let sizes = code in
    let s = sizes.args in
    let read = sizes.sizes_of-sizes.ensures s.sort sizes.if-p-sort.false in (
      λ sh k.
          c.all_stay.ensures sh k
          ∙ events_decide sh s.p k s.t.now s.sort s.code s.events.now sizes.if-p-sort.false (omega (arith, code.if-wide-code.false, code.wide.ensures.0, read)),
      λ e. omega (arith, code.if-wide-code.false, code.wide.ensures.1),
    )
