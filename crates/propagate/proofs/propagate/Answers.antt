-- `propagate::propagate` meets its contract: what is known after the rules is true of every consistent extension, so a conflict leaves none.
use Prim.Native.Nat.{ℕ}
use native.Mathlib.Omega.{arith}
use Rattle.prelude.specs.Lists.{at}
use Rattle.logic.specs.Problem.{Consistent, Extends}
use Rattle.layout.specs.Packed.{view}
use Rattle.knowledge.specs.Knows.{Knows}
use Rattle.propagate.proofs.propagate.Goals as goal
use Rattle.propagate.proofs.propagate.Goals.{After-follow}

-- what is known after the rules
followed : (c : After-follow) (a : ℕ → ℕ) → Consistent (view c.args.p) (at c.args.sizes) a → Extends (view c.args.p) (at c.args.decided) a → Knows c.follow.new.known a
followed c a k x =
    let n = c.lesser.ensures in
    c.follow.ensures.kept a (record {
      lawful = record { small = c.requires.fit_mask a k; congruent = λ i j hi hj. k.congruent i j (omega arith) (omega arith) };
      range = λ i h. k.range i (omega arith);
      fixed = λ i h d. x i (omega arith) d;
    }) (c.requires.knowing a k x)

pub returns-in-Some : goal.returns-in-Some
returns-in-Some c =
    λ a k x.
    let end = followed ((goal.at.returns-in-Some c).After-follow) a k x in
    c.in-Some.ensures.1.means a (record { small = c.requires.fit_mask a k; masks = end.masks; marks = end.marks })

pub returns : goal.returns
returns c =
    λ a k x.
    let end = followed ((goal.at.returns c).After-follow) a k x in
    record { labels = end.labels; masks = c.spread-known.ensures.means a (record { labels = end.labels; masks = end.masks }); marks = end.marks }
