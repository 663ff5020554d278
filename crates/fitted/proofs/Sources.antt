-- From find's answer to what the fitted sheet is built from: the answer's structure, its sizes, its offsets and its tables.
use Prim.Native.Nat.{ℕ, suc, ◌+◌, ◌≤◌, ◌<◌}
use native.Mathlib.Omega.{arith}
use mathlib.Core.Path.{◌≡◌, refl, ap, sym, ◌∙◌}
use mathlib.Core.Logic.{◌⊎◌, inl, inr}
use mathlib.Core.List.{List}
use mathlib.Core.Option.{none, some}
use lib.ListN.{length, drop, length-append, get_or-append}
use Rattle.std.specs.Prelude.{Result, Ok, Err}
use Rattle.prelude.specs.Causes.{refusal}
use Rattle.prelude.specs.declared.refusal.Refusal.{Refusal}
use Rattle.prelude.specs.Lists.{at, fronted}
use Rattle.prelude.proofs.Lists.{sum_to_grows}
use Rattle.logic.specs.Sheet.{Sheet, symbol_at}
use Rattle.logic.specs.WellFormed.{WellFormed}
use Rattle.logic.specs.Structure.{Structure}
use Rattle.logic.specs.Order.{sum_of}
use Rattle.layout.specs.declared.Parsed.{Parsed}
use Rattle.layout.proofs.Answers.{accepted_well_formed}
use Rattle.tables.specs.Layout.{cells, offset, extent, encoded}
use Rattle.tables.specs.Parts.{Extents}
use Rattle.tables.proofs.Packing.{packs_views}
use Rattle.tables.proofs.Offsets.{offset_same}
use Rattle.tables.proofs.Longest.{extent_few}
use Rattle.tables.proofs.Tables.{length_encoded, encoded_size, encoded_table}
use Rattle.answer.specs.Answer.{Entry, answer, structure_of}
use Rattle.answer.specs.Demand.{Answers}
use Rattle.answer.proofs.Lists.{found_or_none}
use Rattle.answer.proofs.Demand.{demand}
use Rattle.sheet.specs.Verdict.{ReadFrom}
use Rattle.find_at.specs.Found.{ceilings}
use Rattle.finder.specs.Find.{Finds}
use Rattle.finder.proofs.Outcomes.{outcome_long}
use Rattle.finder.proofs.Buffers.{exit}
use Rattle.judge.proofs.Questions.{read_packs}
use Rattle.assembling.specs.Parts.{Source, SizesOf, OffsetsOf, TablesOf}
use Rattle.fitted.specs.Parts.{Answered}

module _ (p : Parsed) (n : ℕ) (tables : List ℕ) (a : Answered p n tables) where
  abbrev sh : Sheet
  sh = a.sheet

  abbrev M : Structure
  M = structure_of sh a.entry

  abbrev w : WellFormed sh
  w = a.packs.formed

  pub given : Answers sh a.entry M
  given = (demand sh w).finds a.entry a.answers

  abbrev pub source : Source p
  source =
      record {
        sheet = sh;
        structure = M;
        packs = a.packs;
        interprets = given.candidate.interprets;
        small = λ s h. omega (arith, given.candidate.bounded.ceiling s h, (w.ceiling s h).1);
        most = omega (arith, given.candidate.bounded.total, w.total);
      }

  many_fields : p.sorts ≡ length sh.bounds
  many_fields = (packs_views sh p a.packs).sorts

  -- the bytes in front are those of the structure
  front_at : (i : ℕ) → i < length (encoded M sh) → at tables i ≡ at (encoded M sh) i
  front_at i h = ap (λ (l : List ℕ). at l i) a.front ∙ get_or-append (encoded M sh) (drop (length (encoded M sh)) a.before) 0 i h

  front_size : (s : ℕ) → s < length sh.bounds → at tables s ≡ M.size s
  front_size s h = front_at s (omega (arith, length_encoded M sh w)) ∙ encoded_size M sh w s h

  pub source_sizes : (size : ℕ → ℕ) → ((s : ℕ) → s < p.sorts → size s ≡ at tables s) → SizesOf source size
  source_sizes size e s h = e s (omega (arith, many_fields)) ∙ front_size s h

  pub source_offsets : (size : ℕ → ℕ) → SizesOf source size → (offsets : List ℕ) → Extents p size offsets → OffsetsOf source (at offsets)
  source_offsets size sz offsets x f h = x.offset sh a.packs f h ∙ offset_same sh w size M.size sz f h

  pub source_tables : TablesOf source tables
  source_tables =
      record {
        room = omega (arith, length_encoded M sh w, ap length a.front, length-append (encoded M sh) (drop (length (encoded M sh)) a.before));
        bytes = λ f k h l.
            front_at (offset sh M.size f + k) (omega (arith, length_encoded M sh w, sum_to_grows (suc f) (length sh.symbols) (λ g. cells M.size (symbol_at sh g).params) h))
            ∙ encoded_table M sh w f k h l;
      }

-- what find says of a sheet, with buffers that always suffice: no answer, or the answer with its sum, its tables in front
record Reported (p : Parsed) (q : ReadFrom p) (tables tables' : List ℕ) (r : Result ℕ Refusal) (e : Entry) : Type 0 where
  answers : answer q.sheet ≡ some e
  found : r ≡ Ok (sum_of (structure_of q.sheet e) q.sheet)
  front : tables' ≡ fronted (encoded (structure_of q.sheet e) q.sheet) tables

module _ (p : Parsed) (q : ReadFrom p) (cs ts cs' ts' : List ℕ) (r : Result ℕ Refusal) (many : length cs ≡ 128) (long : length ts ≡ 16392) (f : Finds q.bytes cs ts cs' ts' r) where
  formed : WellFormed q.sheet
  formed = accepted_well_formed q.bytes q.sheet q.reads

  reported : ((answer q.sheet ≡ none) × (r ≡ Err (refusal 11 0))) ⊎ ((e : Entry) × Reported p q ts ts' r e)
  reported = step (found_or_none (answer q.sheet))
    where
      room : extent q.sheet (ceilings q.sheet) ≤ length ts
      room = omega (arith, extent_few q.sheet formed (ceilings q.sheet) (λ s h. (formed.ceiling s h).1))

      step : (answer q.sheet ≡ none) ⊎ ((e : Entry) × (answer q.sheet ≡ some e)) → ((answer q.sheet ≡ none) × (r ≡ Err (refusal 11 0))) ⊎ ((e : Entry) × Reported p q ts ts' r e)
      step (inl z) =
          let x = exit q.bytes cs ts _ (outcome_long q.bytes q.sheet none (length cs) (length ts) q.reads (omega (arith, formed.terms)) room z) in
          inl (z, f.result ∙ x.result)
      step (inr z) =
          let x = exit q.bytes cs ts _ (outcome_long q.bytes q.sheet (some z.0) (length cs) (length ts) q.reads (omega (arith, formed.terms)) room z.1) in
          inr (
            z.0,
            record {
              answers = z.1;
              found = f.result ∙ x.result ∙ ap Ok (sym ((demand q.sheet formed).finds z.0 z.1).sum);
              front = f.tables ∙ x.tables;
            },
          )

  -- so a refusal is cause 11, as there is no answer
  pub report_refused : (x : Refusal) → r ≡ Err x → (answer q.sheet ≡ none) × (x ≡ refusal 11 0)
  report_refused x e = step reported
    where
      step : ((answer q.sheet ≡ none) × (r ≡ Err (refusal 11 0))) ⊎ ((y : Entry) × Reported p q ts ts' r y) → (answer q.sheet ≡ none) × (x ≡ refusal 11 0)
      step (inl z) = let y : ◌≡◌ {A = Result ℕ Refusal} (Err x) (Err (refusal 11 0)) = sym e ∙ z.1 in (z.0, cc)
      step (inr z) = let y : Err x ≡ Ok _ = sym e ∙ z.1.found in cc

  -- and what is found is the answer, with its sum and its tables
  pub report_found : (n : ℕ) → r ≡ Ok n → (a : Answered p n ts') × (a.sheet ≡ q.sheet)
  report_found n e = step reported
    where
      step : ((answer q.sheet ≡ none) × (r ≡ Err (refusal 11 0))) ⊎ ((x : Entry) × Reported p q ts ts' r x) → (a : Answered p n ts') × (a.sheet ≡ q.sheet)
      step (inl z) = let y : Ok n ≡ Err (refusal 11 0) = sym e ∙ z.1 in cc
      step (inr z) =
          let y : Ok n ≡ Ok (sum_of (structure_of q.sheet z.0) q.sheet) = sym e ∙ z.1.found in (
            record {
              sheet = q.sheet;
              entry = z.0;
              packs = read_packs p q;
              answers = z.1.answers;
              sum = cc;
              before = ts;
              front = z.1.front;
            },
            refl,
          )
