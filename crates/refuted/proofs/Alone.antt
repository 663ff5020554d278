-- In the longest sheet every term is alone in its group, as a structure in which term i has the code i shows. So 127 is a group's number: labels of
-- fewer than seven bits are not enough.
use Rattle.std.specs.Prelude.{Ok}
use Prim.Native.Nat.{ℕ, ◌<◌, ◌+◌, min}
use native.Mathlib.Omega.{arith}
use mathlib.Core.Path.{◌≡◌, refl, ap, sym, ◌∙◌, subst}
use mathlib.Core.Bool.{Bool, true, false, cond}
use mathlib.Core.List.{List}
use lib.ListN.{get_or-replicate}
use lib.Dec.{eqb, lit<}
use Rattle.prelude.specs.Lists.{at, run}
use Rattle.prelude.proofs.Lists.{at_run}
use Rattle.logic.specs.Sheet.{no_literal}
use Rattle.logic.specs.Structure.{Structure, Interprets, SatisfiesSame, Holds, codes, code}
use Rattle.layout.specs.Encode.{encode}
use Rattle.longest_sheet.specs.LongestSheet.{longest_sheet}
use Rattle.longest_sheet.proofs.Longest.{longest_read}
use Rattle.congruence.specs.Forced.{Representative}
use Rattle.group.specs.Grouping.{grouping}
use Rattle.group.proofs.Replies.{answer_exactly}

pub longest_bytes : List ℕ
longest_bytes = encode longest_sheet

-- the name without arguments holds 0, each other one the code behind that of its first argument, up to 127
counting : Structure
counting = record { size = λ s. 128; table = λ f cs. cond (eqb f 0) 0 (min 127 (at cs 0 + 1)) }

counting_interprets : Interprets counting longest_sheet
unfolding counting
counting_interprets = record { nonempty = λ s b. omega arith; complete = λ f b cs fits. below (eqb f 0) (at cs 0) }
  where
    below : (b : Bool) (x : ℕ) → cond b 0 (min 127 (x + 1)) < 128
    below true x = omega arith
    below false x = omega arith

counting_codes : codes counting longest_sheet ≡ run 0 128
unfolding counting codes longest_sheet
counting_codes = refl

counted : (i : ℕ) → i < 128 → code counting longest_sheet i ≡ i
counted i b = ap (λ (l : List ℕ). at l i) counting_codes ∙ at_run 0 128 i b ∙ omega arith

-- each statement is that term 0 is itself
counting_same : SatisfiesSame counting longest_sheet
unfolding longest_sheet
counting_same k b e =
    subst (Holds (code counting longest_sheet)) (sym (get_or-replicate 128 k no_literal no_literal b)) refl

last_lowest : Representative longest_sheet 127 127
unfolding longest_sheet
last_lowest =
    record {
      there = lit< tt;
      forced = λ M interprets sat. refl;
      lowest = λ j less forced. omega (arith, sym (counted j (omega arith)) ∙ forced counting counting_interprets counting_same ∙ counted 127 (lit< tt));
    }

-- THEOREM: 127 is the number of a group
pub last_alone : grouping longest_bytes 127 ≡ Ok 127
unfolding longest_bytes longest_sheet
last_alone = (answer_exactly (encode longest_sheet) longest_sheet longest_read 127 (lit< tt) 127).1 last_lowest
