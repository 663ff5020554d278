-- An entry more in the arrays of the terms.
use Prim.Native.Nat.{ℕ}
use native.Mathlib.Omega.{arith}
use mathlib.Core.Path.{ap, sym, ◌∙◌}
use Rattle.layout.specs.declared.Parsed.{Parsed}
use Rattle.logic.specs.Sheet.{symbol_at}
use lib.ListN.{get_or}
use Rattle.layout.proofs.Pack.{contents, more_term, term_packed}
use Rattle.layout.specs.Packed.{packed, first}
use Rattle.layout.proofs.AtMostTwo.{args_of, args_first, args_second}
use Rattle.layout.proofs.grow.with_term.Goals as goal

pub returns : goal.returns
returns c sh e there =
    let a = c.args in
    let h = contents a.p sh e in
    let s = (symbol_at sh a.q.b0).result in
    ap (λ (x : ℕ). more_term a.p a.q.b0 a.q.b1 a.q.b2 x)
    (ap (λ (i : ℕ). get_or a.p.result i 0) c.wide-f.ensures.0 ∙ h.result a.q.b0 there)
    ∙ ap (λ (p : Parsed). more_term p a.q.b0 a.q.b1 a.q.b2 s) e
    ∙ ap (λ (x : ℕ). more_term (packed sh) a.q.b0 x a.q.b2 s) (sym (args_first a.q))
    ∙ ap (λ (x : ℕ). more_term (packed sh) a.q.b0 (first (args_of a.q)) x s)
    (sym (args_second a.q))
    ∙ term_packed sh (record { symbol = a.q.b0; args = args_of a.q }) (omega arith)
