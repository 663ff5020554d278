-- `words::word` meets its contract.
use Prim.Native.Nat.{◌-◌}
use native.Mathlib.Omega.{arith}
use mathlib.Core.Path.{◌≡◌, ap}
use lib.ListN.{drop, length-take, length-drop}
use Rattle.words.specs.Words.{word_at}
use Rattle.words.proofs.Places.{word_next, word_ends}
use Rattle.words.proofs.word.Goals as goal

pub loop-i-init : goal.loop-i-init
loop-i-init c = let z : c.args.k - 0 ≡ c.args.k = omega arith in (omega arith, omega arith, ap (word_at c.args.line.now) z)

pub loop-i-preserved : goal.loop-i-preserved
loop-i-preserved c = let l = c.loop-i in (c.behind_word-from.ensures.0, omega arith, word_next c.args.line.now (drop l.from c.args.line.now) (drop c.behind_word-from.result c.args.line.now) c.args.k l.i c.loop-i-test.true c.behind_word-from.ensures.1 l.invariant.2)

pub returns : goal.returns
returns c =
    let l = c.loop-i in
    record {
      word = word_ends c.args.line.now l.from c.find_byte-end.result c.find_byte-end.ensures.0 c.args.k l.i c.loop-i-test.false l.invariant.2;
      short = simp (length-take, length-drop) (omega arith);
    }
