-- An entry more in the arrays of the symbols.
use Prim.Native.Nat.{ℕ}
use native.Mathlib.Omega.{arith}
use mathlib.Core.Path.{ap, sym, ◌∙◌}
use Rattle.layout.specs.declared.Parsed.{Parsed}
use Rattle.layout.proofs.Pack.{contents, more_symbol, symbol_packed}
use Rattle.layout.specs.Packed.{packed, first}
use Rattle.layout.proofs.AtMostTwo.{args_of, args_first, args_second}
use Rattle.layout.proofs.grow.with_symbol.Goals as goal

pub returns : goal.returns
returns c sh e none =
    let a = c.args in
    let h = contents a.p sh e in
    ap (λ (p : Parsed). more_symbol p a.q.b0 a.q.b1 a.q.b2) e
    ∙ ap (λ (x : ℕ). more_symbol (packed sh) a.q.b0 x a.q.b2) (sym (args_first a.q))
    ∙ ap (λ (x : ℕ). more_symbol (packed sh) a.q.b0 (first (args_of a.q)) x) (sym (args_second a.q))
    ∙ symbol_packed sh (record { result = a.q.b0; params = args_of a.q }) (omega arith) none
