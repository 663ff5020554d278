-- The invariant: the sheet so far is known, and the records from here on decide.
use Rattle.sheet.proofs.Parser.{going_start, going_untotalled, going_accepted, going_nothing, going_refused, going_on, going_next}
use Rattle.layout.proofs.Records.{reading_long}
use native.Mathlib.Omega.{arith}
use mathlib.Core.Path.{ap, sym, ◌∙◌}
use mathlib.Core.Logic.{⊎_elim}
use Rattle.std.specs.Prelude.{Err}
use Rattle.sheet.specs.Verdict.{parsing}
use Rattle.sheet.proofs.parse.Goals as goal

pub returns-then-n-gt-MOST_BYTES : goal.returns-then-n-gt-MOST_BYTES
unfolding parsing
returns-then-n-gt-MOST_BYTES c = ap Err c.at.ensures ∙ ap parsing (sym (reading_long c.args.s.now c.if-n-gt-MOST_BYTES.true))

pub loop-at-init : goal.loop-at-init
loop-at-init c =
    going_start c.args.s.now c.nothing-p.result c.nothing-p.ensures
    c.if-n-gt-MOST_BYTES.false

-- the refusal of a record has its cause, and the position where it starts

pub returns-in-Err : goal.returns-in-Err
returns-in-Err c =
    let l = c.loop-at in
    ap Err c.at-in-Err.ensures ∙ going_refused c.args.s.now l.at l.p l.invariant c.loop-at-test.true c.in-Err.cause (c.in-Err.ensures l.invariant.known)

pub loop-at-smaller : goal.loop-at-smaller
loop-at-smaller c =
    let l = c.loop-at in
    let t = going_on c.args.s.now l.at l.p l.invariant c.loop-at-test.true c.in-Ok.taken (c.in-Ok.ensures l.invariant.known) in
    omega (arith, c.loop-at-test.true)

pub loop-at-preserved : goal.loop-at-preserved
loop-at-preserved c =
    let l = c.loop-at in
    going_next c.args.s.now l.at l.p l.invariant c.loop-at-test.true c.in-Ok.taken (c.in-Ok.ensures l.invariant.known)

pub returns-then-n-ne0 : goal.returns-then-n-ne0
unfolding parsing
returns-then-n-ne0 c =
    ap Err c.at-then-n-ne0.ensures
    ∙ ap parsing
    (going_untotalled c.args.s.now
    c.loop-at.at c.loop-at.p
    c.loop-at.invariant c.loop-at-test.false c.if-p-eq0.true c.if-n-ne0.true)

pub returns : goal.returns
returns c =
    let s = c.args.s.now in
    let l = c.loop-at in
    let done = c.loop-at-test.false in
    ⊎_elim
    (λ w. going_nothing s l.at l.p l.invariant done w.0 w.1)
    (λ w. going_accepted s l.at l.p l.invariant done w)
    c.else-p-eq0.either
