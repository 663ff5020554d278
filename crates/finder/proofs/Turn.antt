-- Find is the two in turn: the sizes of the answer are those that sizes writes, and the answer is that at its own sizes.
use Prim.Native.Nat.{ℕ, ◌≤◌}
use native.Mathlib.Omega.{arith}
use mathlib.Core.Path.{◌≡◌, refl, ap, sym, ◌∙◌, subst}
use mathlib.Core.Bool.{false}
use mathlib.Core.List.{List}
use mathlib.Core.Option.{Option, none, some}
use lib.ListN.{length, take}
use Rattle.std.specs.Prelude.{Result, Ok, Err}
use Rattle.prelude.specs.Causes.{refusal}
use Rattle.logic.specs.Sheet.{Sheet}
use Rattle.logic.specs.WellFormed.{WellFormed}
use Rattle.layout.specs.Layout.{Reading, accepted, refused, reading}
use Rattle.layout.specs.declared.Parsed.{Parsed}
use Rattle.layout.proofs.Answers.{accepted_well_formed}
use Rattle.sheet.specs.Verdict.{ReadFrom}
use Rattle.tables.specs.Layout.{extent}
use Rattle.tables.specs.Parts.{Packs}
use Rattle.tables.proofs.Packing.{packs_views}
use Rattle.tables.proofs.Whole.{packs_limited}
use Rattle.judge.proofs.Questions.{read_packs}
use Rattle.answer.specs.Answer.{Entry, answer, sum}
use Rattle.answer.proofs.Listing.{answer_at_lem, answer_sizes}
use Rattle.sizes.specs.Sizing.{sizing, sizes_after, turned_down as Sizing·turnedDown}
use Rattle.sizes.proofs.Outcomes as sizes
use Rattle.sizes.proofs.Least as least
use Rattle.find_at.specs.Found.{Outcome, turned_down, answered, ceilings, short}
use Rattle.find_at.specs.FindAt.{finding_at, codes_after_at, tables_after_at, FindsAt}
use Rattle.prelude.specs.declared.refusal.Refusal.{Refusal}
use Rattle.find_at.proofs.Outcomes.{long_enough}
use Rattle.find_at.proofs.Buffers.{ExitAt}
use Rattle.find_at.proofs.Delivery.{exits_at}
use Rattle.finder.specs.Find.{Finds}
use Rattle.finder.specs.Turn.{result_of, buffer_of, InTurn, Enough}
use Rattle.finder.proofs.Outcomes.{outcome_refused, outcome_long}
use Rattle.finder.proofs.Buffers.{Exit, exit}

module _ (s : List ℕ) (n : ℕ) (zs cs ts : List ℕ) where
  abbrev z : List ℕ
  z = take n (sizes_after s zs)

  -- where sizes refuses with the number and place that find refuses with
  both_refused : (m i : ℕ) → sizing s (length zs) ≡ Err (refusal m i) → Exit s cs ts (turned_down m i) → InTurn s n zs cs ts
  both_refused m i q x =
      record {
        result = x.result ∙ sym (ap (λ (r : Result ℕ Refusal). result_of r (finding_at s z (length cs) (length ts))) q);
        codes = x.codes ∙ sym (ap (λ (r : Result ℕ Refusal). buffer_of r cs (codes_after_at s z cs ts)) q);
        tables = x.tables ∙ sym (ap (λ (r : Result ℕ Refusal). buffer_of r ts (tables_after_at s z cs ts)) q);
      }

  -- where sizes gives sizes at which find_at answers as find does
  both_found : (k : ℕ) (o : Outcome) → sizing s (length zs) ≡ Ok k → Exit s cs ts o → ExitAt s z cs ts o → InTurn s n zs cs ts
  both_found k o q x y =
      record {
        result = x.result ∙ sym y.result ∙ sym (ap (λ (r : Result ℕ Refusal). result_of r (finding_at s z (length cs) (length ts))) q);
        codes = x.codes ∙ sym y.codes ∙ sym (ap (λ (r : Result ℕ Refusal). buffer_of r cs (codes_after_at s z cs ts)) q);
        tables = x.tables ∙ sym y.tables ∙ sym (ap (λ (r : Result ℕ Refusal). buffer_of r ts (tables_after_at s z cs ts)) q);
      }

  -- THEOREM: find is the two in turn, of every call with buffers that suffice
  pub find_in_turn : Enough s n zs cs ts → InTurn s n zs cs ts
  find_in_turn h = by_reading (reading s) refl
    where
      by_answer : (sh : Sheet) → reading s ≡ accepted sh → (a : Option Entry) → answer sh ≡ a → InTurn s n zs cs ts
      by_answer sh q none a =
          both_refused 11 0
          (least.exits s zs sh q (omega (arith, h.sizes, h.fields sh q)) none a).result
          (exit s cs ts (turned_down 11 0) (outcome_long s sh none (length cs) (length ts) q (h.codes sh q) (h.tables sh q) a))
      by_answer sh q (some e) a =
          let w : WellFormed sh = accepted_well_formed s sh q in
          let room : length sh.bounds ≤ length zs = omega (arith, h.sizes, h.fields sh q) in
          let own : z ≡ e.sizes = ap (λ (k : ℕ). take k (sizes_after s zs)) (h.fields sh q) ∙ least.written s zs sh q room e a in
          both_found (sum e.sizes) (answered sh e)
          (least.exits s zs sh q room (some e) a).result
          (exit s cs ts (answered sh e) (outcome_long s sh (some e) (length cs) (length ts) q (h.codes sh q) (h.tables sh q) a))
          (rw own (exits_at sh w s e.sizes cs ts q (answer_sizes sh w e a) (h.codes sh q) (h.tables sh q) (some e) (answer_at_lem sh w e a)))

      by_reading : (r : Reading) → reading s ≡ r → InTurn s n zs cs ts
      by_reading (refused m i) q =
          both_refused m i
          (sizes.exit s zs (Sizing·turnedDown m i) (sizes.outcome_refused s m i (length zs) q)).result
          (exit s cs ts (turned_down m i) (outcome_refused s m i (length cs) (length ts) q))
      by_reading (accepted sh) q = by_answer sh q (answer sh) refl

  -- so a call of the two gives back and leaves what find does
  module _ (t : InTurn s n zs cs ts) where
    pub turn_refused : (e : Refusal) → sizing s (length zs) ≡ Err e → Finds s cs ts cs ts (Err e)
    turn_refused e q =
        record {
          result = sym (t.result ∙ ap (λ (r : Result ℕ Refusal). result_of r (finding_at s z (length cs) (length ts))) q);
          codes = sym (t.codes ∙ ap (λ (r : Result ℕ Refusal). buffer_of r cs (codes_after_at s z cs ts)) q);
          tables = sym (t.tables ∙ ap (λ (r : Result ℕ Refusal). buffer_of r ts (tables_after_at s z cs ts)) q);
        }

    pub turn_found : (k : ℕ) → sizing s (length zs) ≡ Ok k → (cs' ts' : List ℕ) (r : Result ℕ Refusal) → FindsAt s z cs ts cs' ts' r → Finds s cs ts cs' ts' r
    turn_found k q cs' ts' r f =
        record {
          result = f.result ∙ sym (t.result ∙ ap (λ (x : Result ℕ Refusal). result_of x (finding_at s z (length cs) (length ts))) q);
          codes = f.codes ∙ sym (t.codes ∙ ap (λ (x : Result ℕ Refusal). buffer_of x cs (codes_after_at s z cs ts)) q);
          tables = f.tables ∙ sym (t.tables ∙ ap (λ (x : Result ℕ Refusal). buffer_of x ts (tables_after_at s z cs ts)) q);
        }

-- of a parsed sheet: a byte for each of the most sorts, and buffers that were measured
pub parsed_enough : (p : Parsed) (q : ReadFrom p) (zs cs ts : List ℕ) → 8 ≤ length zs → short q.sheet (length cs) (length ts) ≡ false → Enough q.bytes p.sorts zs cs ts
parsed_enough p q zs cs ts most roomy =
    let k : Packs q.sheet p = read_packs p q in
    let room = long_enough q.sheet (length cs) (length ts) roomy in
    record {
      fields = λ sh r. (packs_views q.sheet p k).sorts ∙ ap (λ (x : Sheet). length x.bounds) (same sh r);
      sizes = omega (arith, (packs_limited q.sheet p k).sorts);
      codes = λ sh r. subst (λ (x : Sheet). length x.terms ≤ length cs) (same sh r) room.0;
      tables = λ sh r. subst (λ (x : Sheet). extent x (ceilings x) ≤ length ts) (same sh r) room.1;
    }
  where
    same : (sh : Sheet) → reading q.bytes ≡ accepted sh → q.sheet ≡ sh
    same sh r = let both : accepted q.sheet ≡ accepted sh = sym q.reads ∙ r in cc
