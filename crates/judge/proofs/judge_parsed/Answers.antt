-- `judge::judge_parsed` meets its contract. Each return is one law of proofs/Replies.antt.
use mathlib.Core.Path.{ap, sym, ◌∙◌}
use Rattle.std.specs.Prelude.{Ok, Err}
use Rattle.prelude.specs.Lists.{at}
use Rattle.tables.proofs.Whole.{laying, copied_sizes, in_bounds_same}
use Rattle.judge.proofs.Replies.{judged_refused, judged_out, judged_statements}
use Rattle.judge.proofs.judge_parsed.Goals as goal

pub returns-then-not-well_laid : goal.returns-then-not-well_laid
returns-then-not-well_laid c =
    let s = c.args in
    let r = c.well_laid in
    λ sh k. ap Err c.at.ensures ∙ judged_refused sh s.t.now (sym (r.ensures sh k) ∙ c.if-not-well_laid.true)

pub returns-then-not-in_bounds : goal.returns-then-not-in_bounds
returns-then-not-in_bounds c =
    let s = c.args in
    let w = c.well_laid in
    let z = c.sizes_of-sizes in
    let r = c.in_bounds in
    λ sh k.
    judged_out sh s.t.now (sym (w.ensures sh k) ∙ c.if-not-well_laid.false)
    (in_bounds_same sh (at s.t.now) (at z.result) (copied_sizes sh s.p z.result s.t.now k z.ensures) ∙ sym (r.ensures sh k) ∙ c.if-not-in_bounds.true)

pub returns : goal.returns
returns c =
    let s = c.args in
    let w = c.well_laid in
    let z = c.sizes_of-sizes in
    let r = c.in_bounds in
    let o = c.extents-offsets in
    let d = c.codes_of-codes in
    λ sh k.
    let y = laying sh s.p z.result o.result s.t.now k z.ensures o.ensures in
    ap Ok (c.first_broken.ensures sh k)
    ∙ judged_statements sh s.t.now (at d.result) (sym (w.ensures sh k) ∙ c.if-not-well_laid.false)
    (in_bounds_same sh (at s.t.now) (at z.result) (copied_sizes sh s.p z.result s.t.now k z.ensures) ∙ sym (r.ensures sh k) ∙ c.if-not-in_bounds.false)
    (d.ensures sh y)
