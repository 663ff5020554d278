-- `words::decode` meets its contract.
use native.Mathlib.Omega.{arith}
use Rattle.words.proofs.Values.{none_decoded, fits, next_decoded, all_decoded}
use Rattle.words.proofs.decode.Goals as goal

pub loop-n-init : goal.loop-n-init
loop-n-init c = none_decoded c.args.word.now c.args.out.now

pub bounds-out-n : goal.bounds-out-n
bounds-out-n c = let l = c.loop-n in fits c.args.word.now c.args.out.now l.out l.n l.invariant c.requires (omega arith)

pub loop-n-preserved : goal.loop-n-preserved
loop-n-preserved c = let l = c.loop-n in next_decoded c.args.word.now c.args.out.now l.out l.n l.invariant c.requires (omega arith) c.digit.result c.digit-in-loop-n.result c.digit.ensures c.digit-in-loop-n.ensures

pub shape_of-out : goal.shape_of-out
shape_of-out c = c.loop-n.invariant.long

pub returns : goal.returns
returns c = let l = c.loop-n in all_decoded c.args.word.now c.args.out.now l.out l.n l.invariant c.requires (omega arith)
