-- The replies of judge and the stretches of table of a name, by the tests over a parsed sheet.
use Prim.Native.Nat.{ℕ, suc, ◌+◌, ◌≤◌, ◌<◌}
use native.Mathlib.Numerals.{add-one}
use native.Mathlib.Decide.{dec_lt}
use native.Mathlib.Omega.{arith}
use mathlib.Core.Path.{◌≡◌, refl, ap, sym, ◌∙◌, fun_ext}
use mathlib.Core.Bool.{true, false}
use mathlib.Core.Logic.{inl, inr}
use mathlib.Core.List.{List}
use lib.ListN.{length}
use borrow.Author.Tests.{lt-ltb, le-ltb}
use Rattle.logic.specs.Sheet.{Sheet, symbol_at}
use Rattle.prelude.specs.Lists.{at}
use Rattle.prelude.proofs.Tests.{decided}
use Rattle.prelude.proofs.Lists.{sum_to_grows}
use Rattle.logic.specs.Structure.{code}
use Rattle.layout.specs.declared.Parsed.{Parsed}
use Rattle.std.specs.Prelude.{Option, Some, None, unwrap_or, Ok, Err}
use Rattle.prelude.specs.Causes.{refusal}
use Rattle.tables.specs.declared.Judgement.TheVariants.{OutOfBounds}
use Rattle.tables.specs.Layout.{cells, decoded}
use Rattle.tables.specs.Tests.{well_laid, in_bounds, statements}
use Rattle.tables.specs.Parts.{Packs, Laying}
use Rattle.tables.proofs.Laid.{well_laid_test}
use Rattle.tables.proofs.Packing.{symbols_packed}
use Rattle.tables.proofs.Whole.{laid_offset}
use Rattle.judge.proofs.Judged.{judged_by}
use Rattle.judge.specs.Judge.{judged, Stretch, stretch_of, Spans}
use Rattle.judge.specs.Parts.{Found}
use Rattle.judge.specs.declared.Span.{Span}

-- the replies of judge, by its tests
pub judged_refused : (sh : Sheet) (t : List ℕ) → well_laid sh t ≡ false → Err (refusal 12 0) ≡ judged sh t
judged_refused sh t e = sym (judged_by sh t false (in_bounds sh (at t)) e refl)

pub judged_out : (sh : Sheet) (t : List ℕ) → well_laid sh t ≡ true → in_bounds sh (at t) ≡ false → Ok OutOfBounds ≡ judged sh t
judged_out sh t e f = sym (judged_by sh t true false e f)

pub judged_statements : (sh : Sheet) (t : List ℕ) (c : ℕ → ℕ) → well_laid sh t ≡ true → in_bounds sh (at t) ≡ true → ((i : ℕ) → c i ≡ code (decoded sh t) sh i) → Ok (statements c 0 sh.literals) ≡ judged sh t
judged_statements sh t c e f h = ap (λ (g : ℕ → ℕ). Ok (statements g 0 sh.literals)) (fun_ext h) ∙ sym (judged_by sh t true true e f)

-- a stretch that may be nowhere, by its start and its end
pub found_spans : (o : Option Span) (r : Span) (s : Stretch) → r ≡ unwrap_or o (record { start = 0; end = 0 }) → Found o s → Spans r.start r.end s
found_spans None r s e k = rw e k
found_spans (Some x) r s e k = rw e k

-- the stretches of table of a name, by its tests
pub span_missing : (sh : Sheet) (p : Parsed) (t : List ℕ) (f : ℕ) → Packs sh p → p.symbols ≤ f → Spans 0 0 (stretch_of sh t f)
unfolding stretch_of
span_missing sh p t f k h =
    elim (decided (well_laid sh t)) [
      | inl e ↦ rw (e, le-ltb f (length sh.symbols) (omega (arith, symbols_packed sh p k))) (record { begins = refl; ends = refl })
      | inr e ↦ rw e (record { begins = refl; ends = refl })
    ]

pub span_refused : (sh : Sheet) (t : List ℕ) (f : ℕ) → well_laid sh t ≡ false → Spans 0 0 (stretch_of sh t f)
unfolding stretch_of
span_refused sh t f e = rw e (record { begins = refl; ends = refl })

pub span_found : (sh : Sheet) (p : Parsed) (sizes offsets t : List ℕ) (f : ℕ) → Laying sh p sizes offsets t → f < p.symbols → well_laid sh t ≡ true → Spans (at offsets f) (at offsets (f + 1)) (stretch_of sh t f)
unfolding stretch_of
span_found sh p sizes offsets t f y h e =
    let l : f < length sh.symbols = omega (arith, symbols_packed sh p y.packs) in
    let from = laid_offset sh p sizes offsets t y f (omega arith) in
    let to = laid_offset sh p sizes offsets t y (f + 1) (omega arith) in
    rw (e, lt-ltb f (length sh.symbols) l) (record { begins = from; ends = to ∙ rw (add-one f) (omega arith) })

-- the stretch of a table lies in the tables
pub stretch_within : (sh : Sheet) (t : List ℕ) (f : ℕ) → (stretch_of sh t f).start + (stretch_of sh t f).many ≤ length t
unfolding stretch_of
stretch_within sh t f =
    elim (decided (well_laid sh t)) [
      | inl e ↦
          elim (dec_lt f (length sh.symbols)) [
            | yes l ↦
                rw (e, lt-ltb f (length sh.symbols) l)
                (omega (arith, ((well_laid_test sh t).0 e).extent, sum_to_grows (suc f) (length sh.symbols) (λ g. cells (at t) (symbol_at sh g).params) l))
            | no l ↦ rw (e, le-ltb f (length sh.symbols) (omega arith)) (omega arith)
          ]
      | inr e ↦ rw e (omega arith)
    ]
