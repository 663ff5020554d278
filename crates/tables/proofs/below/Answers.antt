-- `tables::below` meets its contract: what the test says of each place of the stretch.
use Rattle.std.proofs.Common.{rules, arith, ℕ, ◌+◌, ◌-◌, ◌<◌, ◌≤◌, ◌≡◌, ltb, true}
use Rattle.std.specs.Prelude.{IsTrue, ◌↔◌}
use Rattle.std.proofs.iter.runs.Sources.{ranges}
use Rattle.prelude.specs.Lists.{at}
use Rattle.tables.proofs.Slices.{every_below}
use Rattle.tables.proofs.below.Goals as goal

pub returns : goal.returns
returns c =
    let p = λ (k : ℕ). ltb (at c.args.t.now (c.args.from + k)) c.args.bound in
    let e : IsTrue c.all.result ↔ ((i : ℕ) → c.args.from ≤ i → i < c.args.from + c.args.n → ltb (at c.args.t.now i) c.args.bound ≡ true) = search (rules, ranges) in
    every_below c.all.result p c.args.n (
      λ y k s. e.0 y (c.args.from + k) (omega arith) (omega arith),
      λ f. e.1 (λ i low high. let j : c.args.from + (i - c.args.from) ≡ i = omega arith in rw j at (f (i - c.args.from) (omega arith))),
    )
