-- An argument past the terms has no sort.
use native.Mathlib.Omega.{arith}
use borrow.Author.Tests.{lt-ltb, le-ltb}
use Rattle.layout.proofs.faults.sort_of.Goals as goal

pub returns-then-i-terms : goal.returns-then-i-terms
returns-then-i-terms c =
    let a = c.args in
    rw (c.wide-i.ensures.0, lt-ltb a.a a.terms (omega arith))

pub returns : goal.returns
returns c = let a = c.args in rw (le-ltb a.a a.terms (omega arith))
