-- What find wrote can be printed: no table is left out, since the offsets that the written sizes give lie within the buffer.
use Prim.Native.Nat.{ℕ, ◌+◌, ◌≤◌, ◌<◌}
use native.Mathlib.Numerals.{add-one}
use native.Mathlib.Omega.{arith}
use mathlib.Core.Path.{◌≡◌, ap, sym, ◌∙◌}
use mathlib.Core.List.{List}
use lib.ListN.{length}
use Rattle.logic.specs.Sheet.{Sheet, symbol_at}
use Rattle.prelude.specs.Lists.{at}
use Rattle.prelude.proofs.Lists.{sum_to_grows}
use Rattle.logic.specs.WellFormed.{WellFormed}
use Rattle.layout.specs.declared.Parsed.{Parsed}
use Rattle.tables.specs.Layout.{cells, offset}
use Rattle.tables.specs.Parts.{Extents, Limited}
use Rattle.tables.proofs.Whole.{packs_limited}
use Rattle.tables.proofs.Packing.{packs_views, symbols_packed}
use Rattle.tables.proofs.Offsets.{offset_same}
use Rattle.tables.proofs.Longest.{few_cells}
use Rattle.sheet.specs.Verdict.{ReadFrom}
use Rattle.finder.specs.Find.{Finds}
use Rattle.std.specs.Prelude.{Result, Ok}
use Rattle.prelude.specs.declared.refusal.Refusal.{Refusal}
use Rattle.judge.proofs.Questions.{read_packs}
use Rattle.finder.proofs.Delivery.{found_whole}
use Rattle.find.specs.Parts.{Printable, Stretches}

-- what find found and wrote
pub found_printable : (p : Parsed) (q : ReadFrom p) (cs ts cs' ts' : List ℕ) (r : Result ℕ Refusal) (sum : ℕ) → Finds q.bytes cs ts cs' ts' r → r ≡ Ok sum → Printable p ts'
found_printable p q cs ts cs' ts' r sum f e =
    let whole = found_whole q.bytes cs ts q.sheet sum q.reads (sym f.result ∙ e) in
    rw f.tables (record { sheet = q.sheet; packs = read_packs p q; sizes = whole.0; room = whole.1 })

module _ (p : Parsed) (t : List ℕ) (b : Printable p t) where
  abbrev sh : Sheet
  sh = b.sheet

  w : WellFormed sh
  w = b.packs.formed

  pub limited : Limited p
  limited = packs_limited sh p b.packs

  pub sorts_there : p.sorts ≤ length t
  sorts_there = omega (arith, (packs_views sh p b.packs).sorts, b.room)

  module _ (sizes offsets : List ℕ) (same : (s : ℕ) → s < p.sorts → at sizes s ≡ at t s) (x : Extents p (at sizes) offsets) where
    -- the offsets are those of the sizes in front of the buffer
    placed : (f : ℕ) → f ≤ length sh.symbols → at offsets f ≡ offset sh (at t) f
    placed f h =
        x.offset sh b.packs f h
        ∙ offset_same sh w (at sizes) (at t) (λ s l. same s (omega (arith, (packs_views sh p b.packs).sorts))) f h

    next : (f : ℕ) → f < length sh.symbols → at offsets (f + 1) ≡ at offsets f + cells (at t) (symbol_at sh f).params
    next f h = placed (f + 1) (omega arith) ∙ ap (offset sh (at t)) (add-one f) ∙ omega (arith, placed f (omega arith))

    there : (f : ℕ) → f < p.symbols → f < length sh.symbols
    there f h = omega (arith, symbols_packed sh p b.packs)

    pub stretches : Stretches offsets p.symbols (length t)
    stretches =
        record {
          forward = λ f h. omega (arith, next f (there f h));
          within = λ f h.
              let l : f + 1 ≤ length sh.symbols = omega (arith, there f h) in
              omega (arith, placed (f + 1) l, sum_to_grows (f + 1) (length sh.symbols) (λ g. cells (at t) (symbol_at sh g).params) l, b.room);
          short = λ f h.
              omega (
                arith,
                next f (there f h),
                few_cells (length sh.bounds) (at t) (symbol_at sh f).params (w.arity f (there f h)) (w.params f (there f h)) b.sizes,
              );
        }
