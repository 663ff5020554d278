-- `starting::beyond` meets its contract.
use Prim.Native.Nat.{◌≤◌}
use lib.Pow.{pow_mono, pow_pos}
use Rattle.knowledge.proofs.Bits.{bit_none, bit_from, shl_one}
use native.Mathlib.Omega.{arith}
use Rattle.starting.proofs.beyond.Goals as goal

pub returns-then-s-ge-MOST_SORTS : goal.returns-then-s-ge-MOST_SORTS
returns-then-s-ge-MOST_SORTS c = record { beyond = λ v h g. bit_none v }

pub returns-then-size-gt-MOST_CODES : goal.returns-then-size-gt-MOST_CODES
returns-then-size-gt-MOST_CODES c = record { beyond = λ v h g. bit_none v }

pub overflow_sub-result : goal.overflow_sub-result
overflow_sub-result c =
    let z = c.wide-size.result in
    rw (shl_one z 32 (omega arith)) (pow_mono {i = z} {j = 16} c.if-size-gt-MOST_CODES.false)

pub overflow_cast-result-2 : goal.overflow_cast-result-2
overflow_cast-result-2 c =
    let z = c.wide-size.result in
    rw (shl_one z 32 (omega arith)) (omega (arith, pow_pos z))

pub returns : goal.returns
returns c =
    let z = c.wide-size.result in
    rw (shl_one z 32 (omega arith)) (record {
      beyond = λ v h g b. let s : z ≤ v = bit_from z v c.if-size-gt-MOST_CODES.false h b in omega (arith, c.wide-size.ensures.0);
    })
