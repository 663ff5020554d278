-- `tables::codes_of` meets its contract. The codes of the first i terms stand, and nothing behind them; `code_now` is the next one.
use native.Mathlib.Omega.{arith}
use mathlib.Core.Path.{◌≡◌, refl, ap, ◌∙◌}
use lib.ListN.{length-set}
use Rattle.prelude.specs.Lists.{at}
use Rattle.tables.proofs.TermCodes.{codes_none, codes_more, codes_all}
use Rattle.tables.proofs.codes_of.Goals as goal

pub loop-i-init : goal.loop-i-init
loop-i-init c =
    let s = c.args in
    (omega arith, refl, refl, codes_none s.p s.sizes s.offsets s.t.now 256)

pub loop-i-preserved : goal.loop-i-preserved
loop-i-preserved c =
    let s = c.args in
    let l = c.loop-i in
    let f = c.wide-f in
    let x = c.wide-x in
    let y = c.wide-y in (
      omega arith,
      refl,
      simp length-set l.invariant.2,
      codes_more s.p s.sizes s.offsets s.t.now l.i l.codes f.result x.result y.result c.entry_of.result l.invariant.3 l.invariant.2 (omega arith) (omega arith)
          f.ensures.0
          (x.ensures.0 ∙ ap (at l.codes) c.wide-a.ensures.0)
          (y.ensures.0 ∙ ap (at l.codes) c.wide-b.ensures.0)
          c.entry_of.ensures,
    )

pub returns : goal.returns
returns c =
    let s = c.args in
    let l = c.loop-i in
    let e : l.i ≡ s.p.terms = omega arith in
    codes_all s.p s.sizes s.offsets s.t.now l.codes (rw e at l.invariant.3)
