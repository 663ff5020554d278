-- `pigeonhole::strike_crowd` meets its contract.
use mathlib.Core.Path.{sym, subst}
use Rattle.pigeonhole.specs.Parts.{Gathered}
use Rattle.pigeonhole.proofs.Counting.{crowd_none}
use Rattle.pigeonhole.proofs.strike_crowd.Goals as goal

pub returns-then-pairs-k : goal.returns-then-pairs-k
returns-then-pairs-k c =
    let s = c.strike.ensures in
    let crowd = subst (Gathered _ _ _ _) (sym c.as_slice-chosen.ensures) c.gather-crowd.ensures in
    record {
      struck = record { kept = λ x k v. absurd (crowd_none _ _ _ _ c.as_slice-chosen.result.now _ x crowd c.pairs.ensures.0 c.if-pairs-k.true k) };
      labels = s.labels;
      marks = s.marks;
    }
