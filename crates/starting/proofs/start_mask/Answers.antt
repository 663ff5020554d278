-- `starting::start_mask` meets its contract.
use Rattle.knowledge.specs.Knows.{Labels, Same, Means}
use Rattle.knowledge.proofs.Keeping.{struck_step, struck_chain, label_code}
use Rattle.starting.proofs.Masks.{group_free}
use native.Mathlib.Omega.{arith}
use Rattle.starting.proofs.start_mask.Goals as goal

pub returns-then-code : goal.returns-then-code
returns-then-code c =
    let p = c.args in
    let i = p.i in
    let beyond = c.beyond in
    let right : Means (Labels p.known.now.labels) (Same c.wide.result i) = label_code p.known.now.labels i _ (omega (arith, p.terms.few)) c.wide.ensures.0 in
    struck_step (λ a f w. group_free _ i beyond.result a (right.means a f.labels) (beyond.ensures.beyond (a i) (f.small i) (rw c.wide-2.ensures.0 (f.range i (omega arith))))) c.strike.ensures

pub returns : goal.returns
returns c =
    let p = c.args in
    let i = p.i in
    let beyond = c.beyond in
    let right : Means (Labels p.known.now.labels) (Same c.wide.result i) = label_code p.known.now.labels i _ (omega (arith, p.terms.few)) c.wide.ensures.0 in
    let all_but = c.all_but in
    let again : Means (Labels p.known.now.labels) (Same c.wide-3.result i) = label_code p.known.now.labels i _ (omega (arith, p.terms.few)) c.wide-3.ensures.0 in
    struck_chain (struck_step (λ a f w. group_free _ i beyond.result a (right.means a f.labels) (beyond.ensures.beyond (a i) (f.small i) (rw c.wide-2.ensures.0 (f.range i (omega arith))))) c.strike.ensures)
    (struck_step (λ a f w. group_free _ i all_but.result a (again.means a f.labels) (λ b. all_but.ensures (rw (f.fixed i (omega arith) c.if-code.false) at b))) c.strike-2.ensures)
