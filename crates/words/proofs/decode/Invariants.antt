-- `words::decode` meets its contract.
use Rattle.words.proofs.Values.{DecodedSoFar}
use Rattle.words.proofs.decode.Given as goal

abbrev pub invariant-loop-n : goal.invariant-loop-n
invariant-loop-n l = DecodedSoFar l.word l.initial.out l.out l.n
