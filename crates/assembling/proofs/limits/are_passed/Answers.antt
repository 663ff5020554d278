-- `assembling::limits::are_passed` meets its contract: the first count past its limit decides.
use native.Mathlib.Omega.{arith}
use mathlib.Core.Path.{ap}
use Prim.Native.Nat.{ℕ, ◌+◌, ◌-◌}
use Rattle.prelude.specs.Lists.{at, sum_to}
use Rattle.layout.specs.declared.Parsed.{Parsed}
use Rattle.tables.specs.Parts.{Limited}
use Rattle.tables.proofs.Packing.{packs_views, symbols_packed}
use Rattle.tables.proofs.Whole.{packs_limited}
use Rattle.assembling.specs.Parts.{Source, pairs}
use Rattle.assembling.proofs.Counting.{symbols_passed, terms_passed, literals_tested, cells_counted}
use Rattle.assembling.proofs.limits.are_passed.Goals as goal

limits : (p : Parsed) (t : Source p) → Limited p
limits p t = packs_limited t.sheet p t.packs

pub offset_bounds-offsets-old : goal.offset_bounds-offsets-old
offset_bounds-offsets-old c = omega (arith, (limits c.args.p c.requires.1.0).symbols)

pub bounds-offsets-old : goal.bounds-offsets-old
bounds-offsets-old c = omega (arith, (limits c.args.p c.requires.1.0).symbols)

pub overflow_sub-cells : goal.overflow_sub-cells
overflow_sub-cells c = omega (arith, cells_counted c.args.p c.requires.1.0 (at c.args.offsets) c.requires.1.1.0)

pub overflow_add-names : goal.overflow_add-names
overflow_add-names c = omega (arith, (limits c.args.p c.requires.1.0).symbols, c.requires.1.1.1, c.requires.1.0.most)

pub returns-then-names-gt-MOST_SYMBOLS : goal.returns-then-names-gt-MOST_SYMBOLS
returns-then-names-gt-MOST_SYMBOLS c t sz o e =
    symbols_passed c.args.p t (at c.args.sizes) sz (omega (arith, e, c.if-names-gt-MOST_SYMBOLS.true, symbols_packed t.sheet c.args.p t.packs))

pub overflow_add-expressions : goal.overflow_add-expressions
overflow_add-expressions c =
    omega (arith, c.requires.0 c.args.p.symbols, c.requires.1.1.1, c.requires.1.0.most)

pub returns-then-expressions-gt-MOST_TERMS : goal.returns-then-expressions-gt-MOST_TERMS
returns-then-expressions-gt-MOST_TERMS c t sz o e =
    let names = symbols_packed t.sheet c.args.p t.packs in
    terms_passed c.args.p t (at c.args.sizes) sz (omega (arith, e, c.if-names-gt-MOST_SYMBOLS.false, names)) (omega (arith, e, c.if-expressions-gt-MOST_TERMS.true, cells_counted c.args.p t (at c.args.offsets) o))

pub all_pairs-requires : goal.all_pairs-requires
all_pairs-requires c = omega (arith, (limits c.args.p c.requires.1.0).sorts)

pub overflow_add-statements : goal.overflow_add-statements
overflow_add-statements c =
    omega (arith, c.requires.0 c.args.p.symbols, c.all_pairs.ensures.1, (limits c.args.p c.requires.1.0).sorts)

pub returns : goal.returns
returns c t sz o e =
    let names = symbols_packed t.sheet c.args.p t.packs in
    let counted = cells_counted c.args.p t (at c.args.offsets) o in
    literals_tested c.args.p t (at c.args.sizes) sz (c.all_pairs.result + (at c.args.offsets c.args.p.symbols - c.args.p.sorts))
    (omega (arith, counted, c.all_pairs.ensures.0, ap (λ (n : ℕ). sum_to n (λ s. pairs (at c.args.sizes s))) (packs_views t.sheet c.args.p t.packs).sorts))
    (omega (arith, e, c.if-names-gt-MOST_SYMBOLS.false, names))
    (omega (arith, e, c.if-expressions-gt-MOST_TERMS.false, counted))
