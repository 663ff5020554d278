-- `tables::sizes_right` meets its contract: what the test says of the first n bytes, it says of each place below n.
use Rattle.std.proofs.Common.{rules, ◌≡◌, length, true}
use Rattle.std.specs.Prelude.{IsTrue, EachIndex, slice_index, ◌↔◌}
use lib.ListN.{take}
use borrow.Author.Tests.{le-leb}
use Rattle.prelude.specs.Tests.{within}
use Rattle.tables.proofs.Slices.{every_taken}
use Rattle.tables.proofs.sizes_right.Goals as goal

pub returns-then-n-t : goal.returns-then-n-t
returns-then-n-t c =
    let l = take c.args.n c.args.t.now in
    let e : IsTrue c.all.result ↔ EachIndex l (λ k. within 1 16 (slice_index l k) ≡ true) = search rules in
    rw (le-leb c.args.n (length c.args.t.now) c.if-n-t.true) (every_taken c.all.result (within 1 16) c.args.t.now c.args.n c.if-n-t.true e)
