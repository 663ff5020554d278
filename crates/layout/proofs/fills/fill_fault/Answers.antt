-- Each return is a case of `later`.
use Prim.Native.Nat.{ℕ, ◌<◌}
use lib.ListN.{get_or}
use native.Mathlib.Omega.{arith}
use mathlib.Core.Path.{◌≡◌, ap, sym, ◌∙◌}
use Rattle.logic.specs.Sheet.{symbol_at, sort_at}
use Rattle.prelude.specs.Causes.{tested}
use Rattle.layout.specs.Parts.{PartRead}
use Rattle.layout.proofs.Pack.{contents}
use Rattle.layout.proofs.Causes.{fill_many, fill_symbol, fill_term, fill_sorts, fill_again, fill_fine}
use Rattle.layout.proofs.fills.fill_fault.Goals as goal
use Rattle.layout.specs.declared.Parsed.{Parsed}

-- the two fields, as the arrays have them
sort_of : (p : Parsed) (k : PartRead p) (b i : ℕ) → i ≡ b → b < p.terms → get_or p.sort i 0 ≡ sort_at k.sheet b
sort_of p k b i e l =
    let h = contents p k.sheet k.same in
    ap (λ (j : ℕ). get_or p.sort j 0) e ∙ h.sort b (omega arith)

result_of_lem : (p : Parsed) (k : PartRead p) (b i : ℕ) → i ≡ b → b < p.symbols → get_or p.result i 0 ≡ (symbol_at k.sheet b).result
result_of_lem p k b i e l =
    let h = contents p k.sheet k.same in
    ap (λ (j : ℕ). get_or p.result j 0) e ∙ h.result b (omega arith)

pub returns-then-p-ge-MOST_FILLS : goal.returns-then-p-ge-MOST_FILLS
returns-then-p-ge-MOST_FILLS c k =
    ap tested (
    let a = c.args in
    let h = contents a.p k.sheet k.same in fill_many k.sheet a.b0 a.b1 (omega arith))

pub returns-then-p-f : goal.returns-then-p-f
returns-then-p-f c k =
    ap tested (
    let a = c.args in
    let h = contents a.p k.sheet k.same in fill_symbol k.sheet a.b0 a.b1 (omega arith) (omega arith))

pub returns-then-p-i : goal.returns-then-p-i
returns-then-p-i c k =
    ap tested (
    let a = c.args in
    let h = contents a.p k.sheet k.same in
    fill_term k.sheet a.b0 a.b1 (omega arith) (omega arith) (omega arith))

pub bounds-p-i : goal.bounds-p-i
bounds-p-i c =
    let m = c in
    let h = contents m.args.p m.requires.sheet m.requires.same in
    let n = m.requires.sofar.terms in
    omega arith

pub bounds-p-f : goal.bounds-p-f
bounds-p-f c =
    let m = c in
    let h = contents m.args.p m.requires.sheet m.requires.same in
    let n = m.requires.sofar.symbols in
    omega arith

pub is_filled-again-requires : goal.is_filled-again-requires
is_filled-again-requires c = c.requires

pub returns-then-apart : goal.returns-then-apart
returns-then-apart c k =
    ap tested (
    let a = c.args in
    let h = contents a.p k.sheet k.same in
    fill_sorts k.sheet a.b0 a.b1 (omega arith) (omega arith) (omega arith)
    (λ z. c.if-apart.true (sort_of a.p k a.b1 c.wide-i.result c.wide-i.ensures.0 (omega arith) ∙ z ∙ sym (result_of_lem a.p k a.b0 c.wide-f.result c.wide-f.ensures.0 (omega arith)))))

pub returns-then-again : goal.returns-then-again
returns-then-again c k =
    ap tested (
    let x = c in
    let a = x.args in
    let h = contents a.p k.sheet k.same in
    fill_again k.sheet a.b0 a.b1 (omega arith) (omega arith) (omega arith)
    (sym (sort_of a.p k a.b1 x.wide-i.result x.wide-i.ensures.0 (omega arith)) ∙ c.if-apart.false ∙ result_of_lem a.p k a.b0 x.wide-f.result x.wide-f.ensures.0 (omega arith))
    (sym (x.is_filled-again.ensures k) ∙ c.if-again.true))

pub returns : goal.returns
returns c k =
    ap tested (
    let x = c in
    let a = x.args in
    let h = contents a.p k.sheet k.same in
    fill_fine k.sheet a.b0 a.b1 (omega arith) (omega arith) (omega arith)
    (sym (sort_of a.p k a.b1 x.wide-i.result x.wide-i.ensures.0 (omega arith)) ∙ c.if-apart.false ∙ result_of_lem a.p k a.b0 x.wide-f.result x.wide-f.ensures.0 (omega arith))
    (sym (x.is_filled-again.ensures k) ∙ c.if-again.false))
