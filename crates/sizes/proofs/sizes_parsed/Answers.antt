-- `sizes::sizes_parsed` meets its contract.
use mathlib.Core.Path.{subst}
use Rattle.std.proofs.lemmas.Result.{err_from_is_err_and}
use Rattle.layout.specs.Packed.{view}
use Rattle.least_sizes.specs.LeastSizes.{LeastSizes}
use Rattle.sheet.proofs.Refusals.{ok_or_refuses}
use Rattle.sizes.proofs.Outcomes.{limited, searchable, short_sizes, none_sizes, least_sizes}
use Rattle.sizes.proofs.sizes_parsed.Goals as goal

pub returns-then-out-n : goal.returns-then-out-n
returns-then-out-n c q = rw c.at.ensures (short_sizes c.args.p q c.args.out.now c.if-out-n.true)

pub least_sizes-requires : goal.least_sizes-requires
least_sizes-requires c = searchable c.args.p c.requires

pub returns-in_err-sizes : goal.returns-in_err-sizes
returns-in_err-sizes c q =
    let e = err_from_is_err_and c.from_residual.result c.from_residual.ensures.1 in
    let none = c.in_err-sizes.ensures.ok_part in
    rw (e.1, e.2, ok_or_refuses _ _ _ c.in_err-sizes.ensures.value, c.at-2.ensures)
    (none_sizes c.args.p q c.args.out.now c.if-out-n.false (subst (LeastSizes (view c.args.p)) none c.least_sizes.ensures))

pub write_sizes-sum-requires : goal.write_sizes-sum-requires
write_sizes-sum-requires c = ((limited c.args.p c.requires).sorts, c.if-out-n.false)

pub returns : goal.returns
returns c q =
    let written = c.write_sizes-sum.ensures in
    least_sizes c.args.p q c.args.out.now c.if-out-n.false c.in_ok-sizes.sizes
    (subst (LeastSizes (view c.args.p)) c.in_ok-sizes.ensures.ok_part c.least_sizes.ensures) _ _ written.buffer written.sum
