-- From a parsed sheet to the bytes: it stands for the sheet that was read; and what the parser hands over decides judge and table of a name.
use Prim.Native.Nat.{ℕ, ◌≤◌}
use native.Mathlib.Omega.{arith}
use mathlib.Core.Path.{◌≡◌, refl, ap, sym, ◌∙◌}
use mathlib.Core.List.{List}
use lib.ListN.{length}
use Rattle.logic.specs.Sheet.{Sheet}
use Rattle.layout.specs.Layout.{reading, accepted}
use Rattle.layout.specs.Packed.{packed}
use Rattle.layout.specs.declared.Parsed.{Parsed}
use Rattle.sheet.specs.Verdict.{parsing, ReadFrom}
use Rattle.layout.proofs.Answers.{accepted_well_formed}
use Rattle.sheet.proofs.Verdicts.{Accepts, parsed_accepts, parsed_refuses}
use Rattle.tables.specs.declared.Judgement.{Judgement}
use Rattle.std.specs.Prelude.{Result, Ok, Err}
use Rattle.prelude.specs.declared.refusal.Refusal.{Refusal}
use Rattle.tables.specs.Parts.{Packs, Limited}
use Rattle.tables.proofs.Whole.{packs_limited}
use Rattle.judge.specs.Judge.{judged, judgement, stretch_of, table_of, Spans}
use Rattle.judge.proofs.Judged.{judgement_refused}
use Rattle.judge.proofs.Replies.{stretch_within}

-- the parsed sheet stands for the accepted one
stands : (s : List ℕ) (sh : Sheet) (p : Parsed) → reading s ≡ accepted sh → p ≡ packed sh → Packs sh p
stands s sh p reads same = record { formed = accepted_well_formed s sh reads; same = same }

pub read_packs : (p : Parsed) (q : ReadFrom p) → Packs q.sheet p
read_packs p q = stands q.bytes q.sheet p q.reads q.same

module _ (s : List ℕ) (p : Parsed) (e : Ok p ≡ parsing (reading s)) where
  pub parsed_packs : (a : Accepts s p) → Packs a.sheet p
  parsed_packs a = stands s a.sheet p a.reads a.same

  pub parsed_limited : Limited p
  parsed_limited = let a = parsed_accepts s p e in packs_limited a.sheet p (parsed_packs a)

  pub judge_accepted : (t : List ℕ) (r : Result Judgement Refusal) → ((sh : Sheet) → Packs sh p → r ≡ judged sh t) → r ≡ judgement s t
  unfolding judgement
  judge_accepted t r h =
      let a = parsed_accepts s p e in
      h a.sheet (parsed_packs a) ∙ rw a.reads refl

  -- a stretch by its ends lies in the tables
  pub table_accepted : (t : List ℕ) (f start end : ℕ) → ((sh : Sheet) → Packs sh p → Spans start end (stretch_of sh t f)) → Spans start end (table_of s t f) × (end ≤ length t)
  unfolding table_of
  table_accepted t f start end h =
      let a = parsed_accepts s p e in
      let k = h a.sheet (parsed_packs a) in
      rw a.reads (k, omega (arith, k.ends, stretch_within a.sheet t f))

module _ (s : List ℕ) (r : Refusal) (e : Err r ≡ parsing (reading s)) where
  pub judge_refused : (t : List ℕ) → Err r ≡ judgement s t
  judge_refused t = let a = parsed_refuses s r e in ap Err a.same ∙ sym (judgement_refused s t a.number a.place a.reads)

  pub table_refused : (t : List ℕ) (f : ℕ) → Spans 0 0 (table_of s t f)
  unfolding table_of
  table_refused t f = rw (parsed_refuses s r e).reads (record { begins = refl; ends = refl })
