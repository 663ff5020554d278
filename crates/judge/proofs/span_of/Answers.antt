-- `judge::span_of` meets its contract. Each return is one law of proofs/Replies.antt.
use native.Mathlib.Omega.{arith}
use mathlib.Core.Path.{sym, ◌∙◌}
use Rattle.tables.proofs.Whole.{laying}
use Rattle.judge.proofs.Replies.{span_missing, span_refused, span_found}
use Rattle.judge.proofs.span_of.Goals as goal

pub returns-then-p-symbol : goal.returns-then-p-symbol
returns-then-p-symbol c =
    let s = c.args in
    λ sh k. span_missing sh s.p s.t.now s.symbol k c.if-p-symbol.true

pub returns-then-not-well_laid : goal.returns-then-not-well_laid
returns-then-not-well_laid c =
    let s = c.args in
    let r = c.well_laid in
    λ sh k. span_refused sh s.t.now s.symbol (sym (r.ensures sh k) ∙ c.if-not-well_laid.true)

pub returns : goal.returns
returns c =
    let s = c.args in
    let r = c.well_laid in
    let z = c.sizes_of-sizes in
    let o = c.extents-offsets in
    λ sh k.
    span_found sh s.p z.result o.result s.t.now s.symbol (laying sh s.p z.result o.result s.t.now k z.ensures o.ensures) (omega arith)
    (sym (r.ensures sh k) ∙ c.if-not-well_laid.false)
