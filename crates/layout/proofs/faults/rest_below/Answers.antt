-- By how many bytes there are.
use Prim.Native.Nat.{ℕ}
use native.Mathlib.Omega.{arith}
use mathlib.Core.Path.{ap, sym, ◌∙◌}
use mathlib.Core.Bool.{Bool, ◌&&◌}
use lib.Dec.{ltb}
use borrow.Author.Tests.{le-ltb, lt-ltb}
use Rattle.layout.proofs.AtMostTwo.{below_none, below_one, below_two}
use Rattle.layout.proofs.faults.rest_below.Goals as goal

pub returns-then-len-lt2 : goal.returns-then-len-lt2
returns-then-len-lt2 c = let a = c.args in below_none a.q a.n c.if-len-lt2.true

pub returns-then-len-lt3 : goal.returns-then-len-lt3
returns-then-len-lt3 c =
    let a = c.args in
    ap (λ (m : ℕ). ltb m a.n) c.wide-b1.ensures.0
    ∙ below_one a.q a.n c.if-len-lt2.false c.if-len-lt3.true

pub returns-then-n-b1 : goal.returns-then-n-b1
returns-then-n-b1 c =
    let a = c.args in
    sym
    (ap (λ (b : Bool). b && ltb a.q.b2 a.n)
    (le-ltb a.q.b1 a.n (omega (arith, c.if-n-b1.true, c.wide-b1.ensures.0))))
    ∙ below_two a.q a.n c.if-len-lt3.false

pub returns : goal.returns
returns c =
    let a = c.args in
    ap (λ (m : ℕ). ltb m a.n) c.wide-b2.ensures.0
    ∙ sym
    (ap (λ (b : Bool). b && ltb a.q.b2 a.n)
    (lt-ltb a.q.b1 a.n (omega (arith, c.if-n-b1.false, c.wide-b1.ensures.0))))
    ∙ below_two a.q a.n c.if-len-lt3.false
