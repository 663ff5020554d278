-- `knowledge::single` meets its contract: the test after the guess says which mask it is.
use Prim.Native.Nat.{◌-◌}
use lib.Count.{count_trailing_zeros, trailing_le}
use Rattle.knowledge.proofs.Bits.{shl_one, bit_only}
use native.Mathlib.Omega.{arith}
use Rattle.knowledge.proofs.single.Goals as goal

pub overflow_cast-v : goal.overflow_cast-v
overflow_cast-v c = omega (arith, trailing_le 16 (65535 - c.args.w))

pub returns-then-w-v : goal.returns-then-w-v
returns-then-w-v c =
    let w = c.args.w in
    let v = count_trailing_zeros 16 (65535 - w) in
    let h = c.if-v-lt-MOST_CODES.true in
    (h, record { only = λ u hu b. bit_only v u h hu (λ g. b (rw (c.if-w-v.true, shl_one v 16 h) g)) })
