-- `words::count` meets its contract.
use native.Mathlib.Omega.{arith}
use mathlib.Core.Path.{◌≡◌, ap, ◌∙◌}
use mathlib.Core.List.{List}
use lib.Dec.{eqb}
use lib.ListN.{length, take}
use lib.Seq.{take-length}
use Prim.Native.Nat.{ℕ}
use Rattle.std.specs.List.{count_by}
use Rattle.words.proofs.Places.{many_counted}
use Rattle.words.proofs.count.Goals as goal

pub returns : goal.returns
returns c =
    let s = c.args.line.now in
    let l = c.loop-c in
    let end : l.c-index ≡ length s = omega (arith, c.loop-c-test.false, l.auto.c-index-end) in
    let whole : take l.c-index s ≡ s = ap (λ (n : ℕ). take n s) end ∙ take-length s in
    let blanks : l.blanks ≡ count_by (λ x. eqb x 32) s = l.invariant ∙ ap (λ (t : List ℕ). count_by (λ x. eqb x 32) t) whole in
    (omega (arith, blanks, many_counted s), omega arith)
