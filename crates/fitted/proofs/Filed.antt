-- A call that writes something has written the fitted sheet of the answer; read back it is that sheet, and find gives the old names the very same tables.
use Prim.Native.Nat.{ℕ, ◌≤◌}
use native.Mathlib.Omega.{arith}
use mathlib.Core.Path.{◌≡◌, refl, ap, sym, ◌∙◌, subst}
use mathlib.Core.Logic.{◌⊎◌, inl, inr, ◌↔◌}
use mathlib.Core.Bool.{Bool, true, false}
use mathlib.Core.List.{List}
use mathlib.Core.Option.{Option, none, some}
use native.Mathlib.Decide.{dec_lt}
use lib.ListN.{length, take, drop, length-take}
use lib.Seq.{take-append-le}
use Rattle.std.specs.Prelude.{Result, Ok, Err}
use Rattle.prelude.specs.Causes.{number_of, refusal}
use Rattle.prelude.specs.declared.refusal.Refusal.{Refusal}
use Rattle.logic.specs.Sheet.{Sheet}
use Rattle.logic.specs.WellFormed.{WellFormed}
use Rattle.layout.specs.Layout.{Reading, accepted, refused, reading, InSheet}
use Rattle.layout.specs.Encode.{encode}
use Rattle.layout.proofs.Answers.{accepted_well_formed, refused_number}
use Rattle.sheet.proofs.Refusals.{in_sheet, refused_in_sheet}
use Rattle.tables.specs.Layout.{extent, encoded}
use Rattle.prelude.specs.Lists.{fronted}
use Rattle.answer.specs.Answer.{Entry, answer, sum, structure_of}
use Rattle.answer.specs.Demand.{Hopeless}
use Rattle.answer.proofs.Demand.{demand}
use Rattle.find_at.specs.Found.{ceilings}
use Rattle.finder.specs.Find.{tables_after}
use Rattle.prelude.proofs.Fronted.{front_fronted, rest_fronted}
use Rattle.finder.proofs.Delivery.{exits, extended, written}
use Rattle.fitted_sheet.specs.FittedSheet.{too_many}
use Rattle.fitted_sheet.specs.Kept.{fitted_to, Kept}
use Rattle.fitted_sheet.proofs.Keeping.{fitted_kept}
use Rattle.fitted.specs.Filing.{Filing, turned_down, filed, filing, outcome, fits, fitting, buffer_in, buffer_after}
use Rattle.fitted.specs.Promise.{new_bytes, SameFound, Filed}
use Rattle.fitted.proofs.Filings.{outcome_refused, outcome_short, outcome_long, filing_passed, filing_few}

-- what a filed sheet is: the fitted sheet of the answer, which passes no limit
pub record FiledOf (s : List ℕ) (room : ℕ) (new : Sheet) : Type 0 where
  pub sheet : Sheet
  pub reads : reading s ≡ accepted sheet
  pub entry : Entry
  pub answers : answer sheet ≡ some entry
  pub few : too_many (fitted_to sheet entry) ≡ false
  pub same : new ≡ fitted_to sheet entry
  pub roomy : 2161 ≤ room

same_filed : (a b : Sheet) → filed a ≡ filed b → a ≡ b
same_filed a b e = cc

not_filed : (n i : ℕ) (new : Sheet) → turned_down n i ≡ filed new → ⊥
not_filed n i new e = let z : ◌≡◌ {A = ℕ} 0 1 = cc in omega arith

pub filed_of : (s : List ℕ) (room : ℕ) (new : Sheet) → outcome s room ≡ filed new → FiledOf s room new
filed_of s room new q = by_reading (reading s) refl
  where
    by_limits : (sh : Sheet) (e : Entry) → reading s ≡ accepted sh → 2161 ≤ room → answer sh ≡ some e → (b : Bool) → too_many (fitted_to sh e) ≡ b → FiledOf s room new
    by_limits sh e r h a true t = absurd (not_filed 14 0 new (sym (outcome_long s sh (some e) room r h a ∙ filing_passed sh e (sym t)) ∙ q))
    by_limits sh e r h a false t =
        record {
          sheet = sh;
          reads = r;
          entry = e;
          answers = a;
          few = t;
          same = same_filed new (fitted_to sh e) (sym q ∙ outcome_long s sh (some e) room r h a ∙ filing_few sh e t);
          roomy = h;
        }

    by_answer : (sh : Sheet) → reading s ≡ accepted sh → 2161 ≤ room → (a : Option Entry) → answer sh ≡ a → FiledOf s room new
    by_answer sh r h none a = absurd (not_filed 11 0 new (sym (outcome_long s sh none room r h a) ∙ q))
    by_answer sh r h (some e) a = by_limits sh e r h a (too_many (fitted_to sh e)) refl

    by_reading : (r : Reading) → reading s ≡ r → FiledOf s room new
    by_reading (refused n i) r = absurd (not_filed n i new (sym (outcome_refused s n i room r) ∙ q))
    by_reading (accepted sh) r =
        elim (dec_lt room 2161) [
          | yes h ↦ absurd (not_filed 10 0 new (sym (outcome_short s sh room r h) ∙ q))
          | no h ↦ by_answer sh r (omega arith) (answer sh) refl
        ]

-- a call that writes something files a sheet
record WroteSheet (s out : List ℕ) (n : ℕ) : Type 0 where
  new : Sheet
  files : outcome s (length out) ≡ filed new
  long : length (encode new) ≡ n
  buffer : buffer_after s out ≡ fronted (encode new) out

wrote : (s out : List ℕ) (n : ℕ) → fitting s (length out) ≡ Ok n → WroteSheet s out n
unfolding fitting buffer_after
wrote s out n e = step (outcome s (length out)) refl
  where
    step : (o : Filing) → outcome s (length out) ≡ o → WroteSheet s out n
    step (turned_down m i) q =
        let r : Err (refusal m i) ≡ Ok n = sym (ap fits q) ∙ e in cc
    step (filed new) q =
        let r : Ok (length (encode new)) ≡ Ok n = sym (ap fits q) ∙ e in
        record { new = new; files = q; long = cc; buffer = ap (λ (x : Filing). buffer_in x out) q }

-- THEOREM: what is written is the fitted sheet, and finding on it gives the same
pub files_kept : (s out : List ℕ) (n : ℕ) → fitting s (length out) ≡ Ok n → Filed s out n
files_kept s out n e =
    record {
      sheet = sh;
      reads = f.reads;
      entry = f.entry;
      answers = f.answers;
      few = f.few;
      accepts = ap reading bytes ∙ k.reads;
      short = omega (arith, w.long, ap (λ (x : Sheet). length (encode x)) f.same, k.short);
      behind =
          ap (drop n) w.buffer
          ∙ ap (λ (m : ℕ). drop m (fronted (encode w.new) out)) (sym w.long)
          ∙ rest_fronted (encode w.new) out
          ∙ ap (λ (m : ℕ). drop m out) w.long;
      same = again;
    }
  where
    w : WroteSheet s out n
    w = wrote s out n e

    f : FiledOf s (length out) w.new
    f = filed_of s (length out) w.new w.files

    sh : Sheet
    sh = f.sheet

    formed : WellFormed sh
    formed = accepted_well_formed s sh f.reads

    k : Kept sh f.entry
    k = fitted_kept sh formed f.entry f.answers f.few

    new : Sheet
    new = fitted_to sh f.entry

    bytes : new_bytes s out n ≡ encode new
    bytes =
        ap (take n) w.buffer
        ∙ ap (λ (m : ℕ). take m (fronted (encode w.new) out)) (sym w.long)
        ∙ front_fronted (encode w.new) out
        ∙ ap encode f.same

    new_reads : reading (new_bytes s out n) ≡ accepted new
    new_reads = ap reading bytes ∙ k.reads

    new_formed : WellFormed new
    new_formed = accepted_well_formed (new_bytes s out n) new new_reads

    again : (cs ts cs' ts' : List ℕ) → length sh.terms ≤ length cs → extent sh (ceilings sh) ≤ length ts → length new.terms ≤ length cs' → extent new (ceilings new) ≤ length ts' → SameFound sh s (new_bytes s out n) cs ts cs' ts'
    again cs ts cs' ts' a b c d =
        let old = exits sh formed s cs ts f.reads a b (some f.entry) f.answers in
        let now' = exits new new_formed (new_bytes s out n) cs' ts' new_reads c d (some k.found) k.answers in
        let E = encoded (structure_of sh f.entry) sh in
        let E' = encoded (structure_of new k.found) new in
        record {
          sum = now'.result ∙ ap (λ (l : List ℕ). Ok (sum l)) k.sizes ∙ sym old.result;
          tables =
              ap (λ (m : ℕ). take m (tables_after (new_bytes s out n) cs' ts')) (extended sh formed s cs ts f.reads a b f.entry f.answers)
              ∙ ap (take (length E)) now'.tables
              ∙ take-append-le (length E) E' (drop (length E') ts') (omega (arith, ap length k.tables, length-take (length E) E'))
              ∙ k.tables
              ∙ sym (written sh formed s cs ts f.reads a b f.entry f.answers);
        }

-- the number with which a call is turned down is that of its cause
pub turned_down_known : (s : List ℕ) (room m j : ℕ) → outcome s room ≡ turned_down m j → number_of (refusal m j).cause ≡ m
turned_down_known s room m j o = by_reading (reading s) refl
  where
    Known : Type 0
    Known = number_of (refusal m j).cause ≡ m

    show : (n i : ℕ) → number_of (refusal n 0).cause ≡ n → outcome s room ≡ turned_down n i → Known
    show n i known q =
        let z : turned_down n i ≡ turned_down m j = sym q ∙ o in
        let same : n ≡ m = cc in
        subst (λ (x : ℕ). number_of (refusal x 0).cause ≡ x) same known

    by_limits : (sh : Sheet) (x : Entry) → outcome s room ≡ filing sh (some x) → (b : Bool) → too_many (fitted_to sh x) ≡ b → Known
    by_limits sh x q true t = show 14 0 refl (q ∙ filing_passed sh x (sym t))
    by_limits sh x q false t = absurd (not_filed m j (fitted_to sh x) (sym o ∙ q ∙ filing_few sh x t))

    by_answer : (sh : Sheet) (a : Option Entry) → outcome s room ≡ filing sh a → Known
    by_answer sh none q = show 11 0 refl q
    by_answer sh (some x) q = by_limits sh x q (too_many (fitted_to sh x)) refl

    by_reading : (t : Reading) → reading s ≡ t → Known
    by_reading (refused n i) t = show n i (in_sheet n (refused_number s n i t)) (outcome_refused s n i room t)
    by_reading (accepted sh) t =
        elim (dec_lt room 2161) [
          | yes h ↦ show 10 0 refl (outcome_short s sh room t h)
          | no h ↦ by_answer sh (answer sh) (outcome_long s sh (answer sh) room t (omega arith) refl)
        ]

-- THEOREM: which causes it refuses with, and that the place is 0 from 10 on
pub refusal_number_lem : (s : List ℕ) (room : ℕ) (r : Refusal) → fitting s room ≡ Err r → InSheet (number_of r.cause) ⊎ (((number_of r.cause ≡ 10) ⊎ ((number_of r.cause ≡ 11) ⊎ (number_of r.cause ≡ 14))) × (r.place ≡ 0))
unfolding fitting
refusal_number_lem s room r e = by_reading (reading s) refl
  where
    Listed : Type 0
    Listed = InSheet (number_of r.cause) ⊎ (((number_of r.cause ≡ 10) ⊎ ((number_of r.cause ≡ 11) ⊎ (number_of r.cause ≡ 14))) × (r.place ≡ 0))

    -- a call that was turned down says so
    same : (m j : ℕ) → outcome s room ≡ turned_down m j → r ≡ refusal m j
    same m j q = let z : ◌≡◌ {A = Result ℕ Refusal} (Err r) (Err (refusal m j)) = sym e ∙ ap fits q in cc

    by_limits : (sh : Sheet) (x : Entry) → outcome s room ≡ filing sh (some x) → (b : Bool) → too_many (fitted_to sh x) ≡ b → Listed
    by_limits sh x q true t = rw (same 14 0 (q ∙ filing_passed sh x (sym t))) (inr (inr (inr refl), refl))
    by_limits sh x q false t =
        let z : ◌≡◌ {A = Result ℕ Refusal} (Err r) (Ok (length (encode (fitted_to sh x)))) = sym e ∙ ap fits (q ∙ filing_few sh x t) in cc

    by_answer : (sh : Sheet) → reading s ≡ accepted sh → 2161 ≤ room → (a : Option Entry) → answer sh ≡ a → Listed
    by_answer sh t h none a = rw (same 11 0 (outcome_long s sh none room t h a)) (inr (inr (inl refl), refl))
    by_answer sh t h (some x) a = by_limits sh x (outcome_long s sh (some x) room t h a) (too_many (fitted_to sh x)) refl

    by_reading : (t : Reading) → reading s ≡ t → Listed
    by_reading (refused m j) t = rw (same m j (outcome_refused s m j room t)) (inl (refused_in_sheet s m j t))
    by_reading (accepted sh) t =
        elim (dec_lt room 2161) [
          | yes h ↦ rw (same 10 0 (outcome_short s sh room t h)) (inr (inl refl, refl))
          | no h ↦ by_answer sh t (omega arith) (answer sh) refl
        ]

-- THEOREM: a refused call leaves the buffer as it was
pub refused_untouched : (s out : List ℕ) (r : Refusal) → fitting s (length out) ≡ Err r → buffer_after s out ≡ out
unfolding fitting buffer_after
refused_untouched s out r e = step (outcome s (length out)) refl
  where
    step : (o : Filing) → outcome s (length out) ≡ o → buffer_in (outcome s (length out)) out ≡ out
    step (turned_down m j) q = ap (λ (x : Filing). buffer_in x out) q
    step (filed new) q = let z : Ok (length (encode new)) ≡ Err r = sym (ap fits q) ∙ e in cc

-- THEOREM: cause 11 exactly when no candidate satisfies every statement, where the sheet is accepted and the buffer suffices
pub eleven_exactly : (s : List ℕ) (sh : Sheet) (room : ℕ) → reading s ≡ accepted sh → 2161 ≤ room → (fitting s room ≡ Err (refusal 11 0)) ↔ Hopeless sh
unfolding fitting
eleven_exactly s sh room q h = (λ f. (demand sh formed).refuses.0 (none_by (answer sh) refl f), λ n. ap fits (outcome_long s sh none room q h ((demand sh formed).refuses.1 n)))
  where
    formed : WellFormed sh
    formed = accepted_well_formed s sh q

    other : (e : Entry) (b : Bool) → too_many (fitted_to sh e) ≡ b → fits (filing sh (some e)) ≡ Err (refusal 11 0) → ⊥
    other e true t f =
        let r : ◌≡◌ {A = Result ℕ Refusal} (Err (refusal 14 0)) (Err (refusal 11 0)) = sym (ap fits (filing_passed sh e (sym t))) ∙ f in
        let z : refusal 14 0 ≡ refusal 11 0 = cc in
        let n : ◌≡◌ {A = ℕ} 14 11 = ap (λ (x : Refusal). number_of x.cause) z in
        omega arith
    other e false t f =
        let r : Ok (length (encode (fitted_to sh e))) ≡ Err (refusal 11 0) = sym (ap fits (filing_few sh e t)) ∙ f in cc

    none_by : (a : Option Entry) → answer sh ≡ a → fits (outcome s room) ≡ Err (refusal 11 0) → answer sh ≡ none
    none_by none a f = a
    none_by (some e) a f = absurd (other e (too_many (fitted_to sh e)) refl (sym (ap fits (outcome_long s sh (some e) room q h a)) ∙ f))
