-- `Known::mark_one` meets its contract.
use Prim.Native.Nat.{◌%◌}
use mathlib.Core.Path.{refl}
use Rattle.knowledge.proofs.Bits.{shl_one}
use Rattle.knowledge.proofs.Keeping.{marks_put}
use native.Mathlib.Omega.{arith}
use Rattle.knowledge.proofs.Known.mark_one.Goals as goal

pub returns : goal.returns
returns c =
    let p = c.args in
    record {
      marked = rw c.half_of-x.ensures.0 (marks_put p.self.now.marks p.a p.b _ (omega arith) (shl_one (p.b % 64) 64 (omega arith)));
      labels = refl;
      masks = refl;
    }
