-- Each return is a case of `misplaced`.
use Prim.Native.Nat.{ℕ}
use native.Mathlib.Omega.{arith}
use mathlib.Core.Path.{ap, ◌∙◌}
use mathlib.Core.Bool.{not}
use lib.Dec.{eqb}
use Rattle.layout.specs.Layout.{kind_of}
use Rattle.layout.proofs.Causes.{misplaced_kind, misplaced_order, misplaced_after, placed_later, placed_first}
use Rattle.layout.proofs.faults.is_misplaced.Goals as goal

pub returns-then-rank-eq0 : goal.returns-then-rank-eq0
returns-then-rank-eq0 c sh e =
    let a = c.args in
    let k = c.rank_of-rank.ensures in
    let r = c.reached_by-reached.ensures sh e in misplaced_kind sh (kind_of a.kind) (omega arith)

pub returns-then-rank-reached : goal.returns-then-rank-reached
returns-then-rank-reached c sh e =
    let a = c.args in
    let k = c.rank_of-rank.ensures in
    let r = c.reached_by-reached.ensures sh e in
    misplaced_order sh (kind_of a.kind) (λ z. c.if-rank-eq0.false (k ∙ z)) (omega arith)

pub returns-then-ended : goal.returns-then-ended
returns-then-ended c sh e =
    let a = c.args in
    let k = c.rank_of-rank.ensures in
    let r = c.reached_by-reached.ensures sh e in misplaced_after sh (kind_of a.kind) (omega arith)

pub returns-then-reached-ne0 : goal.returns-then-reached-ne0
returns-then-reached-ne0 c sh e =
    let a = c.args in
    let k = c.rank_of-rank.ensures in
    let r = c.reached_by-reached.ensures sh e in
    placed_later sh (kind_of a.kind) (λ z. c.if-rank-eq0.false (k ∙ z)) (omega arith)
    (λ z. c.if-ended.false (r ∙ z)) (λ z. c.if-reached-ne0.true (r ∙ z))

pub returns : goal.returns
returns c sh e =
    let a = c.args in
    let k = c.rank_of-rank.ensures in
    let r = c.reached_by-reached.ensures sh e in
    ap (λ (n : ℕ). not (eqb n 1)) k
    ∙ placed_first sh (kind_of a.kind) (λ z. c.if-rank-eq0.false (k ∙ z)) (omega arith)
