-- From the answers of the product to the answer line of a question; what the questions that lend a buffer share.
use Prim.Native.Nat.{ℕ, ◌-◌, ◌≤◌, min}
use native.Mathlib.Decide.{dec_lt}
use native.Mathlib.Omega.{arith}
use mathlib.Core.Path.{◌≡◌, sym, ap, ap₂, ◌∙◌}
use mathlib.Core.List.{List}
use lib.ListN.{take}
use lib.Dec.{ltb}
use borrow.Author.Tests.{lt-ltb, le-ltb}
use Rattle.std.specs.Prelude.{Ok, Err}
use Rattle.logic.specs.Sheet.{Sheet}
use Rattle.layout.specs.Layout.{accepted, reading}
use Rattle.layout.proofs.Answers.{accepted_well_formed}
use Rattle.sheet.specs.Verdict.{parsing}
use Rattle.layout.specs.Packed.{packed}
use Rattle.layout.specs.declared.Parsed.{Parsed}
use Rattle.tables.specs.Parts.{Packs}
use Rattle.prelude.specs.Pasted.{Wrote}
use Rattle.text.proofs.Lines.{renamed}
use Rattle.words.specs.declared.Complaint.{Complaint}
use Rattle.words.specs.Words.{word_at, bytes_of, Decoded}
use Rattle.words.specs.Complaints.{complaint_of}
use Rattle.judge.specs.Judge.{Stretch, Spans}
use Rattle.lines.specs.Lines.{complaint_line, stretch_line}
use Rattle.questions.specs.Questions.{bytes_at, complaint_or, unless_wrong, stretch_reply}

-- the bytes of word k, decoded
pub bytes_at_lem : (line : List ℕ) (k : ℕ) {w d : List ℕ} {n : ℕ} → Decoded w d n → w ≡ word_at line k → take n d ≡ bytes_at line k
bytes_at_lem line k d e = d.front ∙ ap bytes_of e

-- a question whose words are wrong has the complaint, any other its answer
module _ (kinds line a : List ℕ) {d d' : List ℕ} {r : ℕ} where
  pub complains : (wrong : Complaint) → Err wrong ≡ complaint_of kinds line → Wrote d 0 (complaint_line wrong) d' r → Wrote d 0 (unless_wrong kinds line a) d' r
  complains wrong e = renamed (ap (λ w. complaint_or w a) e)

  pub answers : Ok tt ≡ complaint_of kinds line → {x : List ℕ} → x ≡ a → Wrote d 0 x d' r → Wrote d 0 (unless_wrong kinds line a) d' r
  answers e p = renamed (p ∙ ap (λ w. complaint_or w a) e)

-- the line of a stretch, by its places
pub stretch_shown : (start end : ℕ) (s t : Stretch) → Spans start end s → s ≡ t → stretch_line start (end - start) ≡ stretch_reply t
stretch_shown start end s t p e =
    let many : end - start ≡ s.many = omega (arith, p.begins, p.ends) in
    ap₂ stretch_line p.begins many ∙ ap stretch_reply e

-- a lent buffer may be cut to the most that can be wanted: it is too short, or not, as before
pub cut_test : (room most wanted : ℕ) → wanted ≤ most → ltb (min room most) wanted ≡ ltb room wanted
cut_test room most wanted few =
    elim (dec_lt room wanted) [
      | yes h ↦ lt-ltb (min room most) wanted (omega arith) ∙ sym (lt-ltb room wanted h)
      | no h ↦ le-ltb (min room most) wanted (omega arith) ∙ sym (le-ltb room wanted (omega arith))
    ]

-- an accepted sheet, parsed
pub accepted_packs : (s : List ℕ) (p : Parsed) → Ok p ≡ parsing (reading s) → (sh : Sheet) → reading s ≡ accepted sh → Packs sh p
unfolding parsing
accepted_packs s p e sh r =
    let q : Ok p ≡ Ok (packed sh) = e ∙ ap parsing r in
    record { formed = accepted_well_formed s sh r; same = cc }
