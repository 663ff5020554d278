-- `congruence::twin` meets its contract. No term below i has the key of j.
use borrow.Author.Count.{below_more}
use mathlib.Core.Path.{refl, sym, ◌∙◌}
use native.Mathlib.Omega.{arith}
use Rattle.congruence.proofs.Keys.{same_key, other_key}
use Rattle.congruence.proofs.twin.Goals as goal

pub returns-then-eq : goal.returns-then-eq
returns-then-eq c =
    let e = same_key c.key_of-here.result c.key_of-goal.result (sym c.eq.ensures ∙ c.if-eq.true) in
    record { bound = omega arith; alike = sym c.key_of-here.ensures ∙ e ∙ c.key_of-goal.ensures; none = c.loop-i.invariant }

pub loop-i-preserved : goal.loop-i-preserved
loop-i-preserved c =
    below_more _ _ c.loop-i.invariant (λ (e : _).
    other_key c.key_of-here.result c.key_of-goal.result (sym c.eq.ensures ∙ c.if-eq.false) (c.key_of-here.ensures ∙ e ∙ sym c.key_of-goal.ensures))

pub returns : goal.returns
returns c =
    record { bound = omega arith; alike = refl; none = λ k b. c.loop-i.invariant k (omega arith) }
