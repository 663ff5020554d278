-- `text::put` meets its contract.
use native.Mathlib.Omega.{arith}
use Prim.Native.Nat.{ℕ, ◌+◌, ◌-◌, ◌≤◌}
use mathlib.Core.Path.{◌≡◌, sym, ap, ◌∙◌}
use mathlib.Core.List.{List, ◌++◌}
use lib.ListN.{length, drop}
use lib.Seq.{take-length}
use borrow.Rule.Slice.PartMut.{put_mid, mid_of}
use Rattle.prelude.specs.Pasted.{pasted}
use Rattle.prelude.proofs.Pasted.{pasted_tail}
use Rattle.text.proofs.put.Goals as goal

-- the word at the front of the lent tail, which came back
tail_written :
    (d : List ℕ) (i : ℕ) (s t : List ℕ) → i + length s ≤ length d → t ≡ s ++ drop (length s) (mid_of i (length d - i) d)
    → put_mid i (length d - i) d t ≡ pasted d i s
tail_written d i s t h e =
    ap (put_mid i (length d - i) d) (e ∙ ap (λ (l : List ℕ). l ++ drop (length s) (mid_of i (length d - i) d)) (sym (take-length s)))
    ∙ pasted_tail d i s h

pub returns : goal.returns
returns c =
    record {
      end = cc c.copy-n.ensures.0;
      within = omega arith;
      held = tail_written c.args.out.now c.args.at c.args.word.now _ c.requires c.copy-n.ensures.1;
    }
