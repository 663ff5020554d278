-- `tables::well_laid` meets its contract. Each test decides its part of the definition.
use mathlib.Core.Path.{sym, ◌∙◌}
use Rattle.tables.proofs.Whole.{laying, sizes_wrong, length_wrong, entries_decide}
use Rattle.tables.proofs.well_laid.Goals as goal

pub returns-then-not-sizes_right : goal.returns-then-not-sizes_right
returns-then-not-sizes_right c =
    let s = c.args in
    let r = c.sizes_right in
    λ sh k. sizes_wrong sh s.p s.t.now k (sym r.ensures ∙ c.if-not-sizes_right.true)

pub returns-then-t-offsets : goal.returns-then-t-offsets
returns-then-t-offsets c =
    let s = c.args in
    let z = c.sizes_of-sizes in
    let o = c.extents-offsets in
    λ sh k. length_wrong sh s.p s.t.now z.result o.result (laying sh s.p z.result o.result s.t.now k z.ensures o.ensures) c.if-t-offsets.true

pub returns : goal.returns
returns c =
    let s = c.args in
    let r = c.sizes_right in
    let z = c.sizes_of-sizes in
    let o = c.extents-offsets in
    λ sh k.
    let y = laying sh s.p z.result o.result s.t.now k z.ensures o.ensures in
    c.entries_right.ensures sh y
    ∙ entries_decide sh s.p s.t.now z.result o.result y (sym r.ensures ∙ c.if-not-sizes_right.false) c.if-t-offsets.false
