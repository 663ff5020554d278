-- `starting::all_but` meets its contract.
use Rattle.knowledge.proofs.Bits.{bit_none, bit_all_but, shl_one}
use native.Mathlib.Omega.{arith}
use Rattle.starting.proofs.all_but.Goals as goal

pub returns-then-v-ge-MOST_CODES : goal.returns-then-v-ge-MOST_CODES
returns-then-v-ge-MOST_CODES c = bit_none _

pub returns : goal.returns
returns c =
    let w = c.wide-v in
    rw (shl_one w.result 16 (omega arith), ← w.ensures.0) (bit_all_but w.result (omega arith))
