-- `writing::fill_code` meets its contract: what is filled in is what the fills from here on say.
use Prim.Native.Nat.{ℕ, ◌+◌, ◌<◌}
use native.Mathlib.Omega.{arith}
use mathlib.Core.Path.{◌≡◌, ap, sym, ◌∙◌}
use mathlib.Core.Bool.{Bool, true, false, cond}
use mathlib.Core.Option.{Option, some, get_or}
use lib.ListN.{drop}
use lib.Dec.{eqb}
use borrow.Author.Tests.{eq-eqb, ne_eqb}
use Rattle.prelude.specs.Lists.{at}
use Rattle.logic.specs.Sheet.{Sheet}
use Rattle.layout.specs.declared.Parsed.{Parsed}
use Rattle.tables.specs.Parts.{Packs}
use Rattle.answer.specs.Answer.{fill_code}
use Rattle.writing.proofs.Keeping.{fill_step, fill_end}
use Rattle.writing.proofs.fill_code.Goals as goal

-- what the fills say, with the fill at hand apart
apart : (sh : Sheet) (p : Parsed) → Packs sh p → (c : ℕ → ℕ) (symbol k n : ℕ) → k < p.fills → n ≡ at p.filled k
    → get_or (fill_code c symbol sh.fills) 0 ≡ get_or (fill_code c symbol (drop k sh.fills)) 0 → (b : Bool) → eqb n symbol ≡ b
    → get_or (fill_code c symbol sh.fills) 0 ≡ get_or (cond b (some (c (at p.filler k))) (fill_code c symbol (drop (k + 1) sh.fills))) 0
apart sh p q c symbol k n more is so_far b e =
    so_far
    ∙ ap (λ (o : Option ℕ). get_or o 0) (fill_step sh p q c symbol k more)
    ∙ ap (λ (t : Bool). get_or (cond t (some (c (at p.filler k))) (fill_code c symbol (drop (k + 1) sh.fills))) 0)
    (ap (λ (x : ℕ). eqb x symbol) (sym is) ∙ e)

pub returns-then-wide-symbol : goal.returns-then-wide-symbol
returns-then-wide-symbol c sh q =
    ap (at c.args.codes) c.wide-i.ensures.0
    ∙ sym (apart sh c.args.p q (at c.args.codes) c.args.symbol c.loop-k.k c.wide.result c.loop-k-test.true c.wide.ensures.0 (c.loop-k.invariant.1 sh q) true (eq-eqb _ _ c.if-wide-symbol.true))

pub loop-k-preserved : goal.loop-k-preserved
loop-k-preserved c = (
  omega arith,
  λ sh q. apart sh c.args.p q (at c.args.codes) c.args.symbol c.loop-k.k c.wide.result c.loop-k-test.true c.wide.ensures.0 (c.loop-k.invariant.1 sh q) false (ne_eqb _ _ c.if-wide-symbol.false),
)

pub returns : goal.returns
returns c sh q = sym (c.loop-k.invariant.1 sh q ∙ fill_end sh c.args.p q (at c.args.codes) c.args.symbol c.loop-k.k c.loop-k-test.false)
