-- `assembling::cells::with_table_sames` meets its contract: the statements of the cells passed stand behind those that were there.
use Prim.Native.Nat.{ℕ, ◌+◌}
use native.Mathlib.Omega.{arith}
use mathlib.Core.Path.{◌≡◌, refl, ap, ◌∙◌}
use mathlib.Core.Bool.{true}
use mathlib.Core.List.{[], ◌∷◌}
use lib.ListN.{length}
use Rattle.prelude.specs.Lists.{at, collect}
use Rattle.prelude.proofs.Collect.{length_singles}
use Rattle.layout.specs.Packed.{packed}
use Rattle.fitted_sheet.specs.FittedSheet.{same}
use Rattle.assembling.specs.Parts.{more_literals}
use Rattle.assembling.proofs.Growing.{literals_none, literals_next, literals_count}
use Rattle.assembling.proofs.cells.with_table_sames.Invariants.{one}
use Rattle.assembling.proofs.cells.with_table_sames.Goals as goal

pub loop-k-init : goal.loop-k-init
loop-k-init c =
    let a = c.args in
    literals_none a.q (λ i. one a.first (at a.starts a.s) a.cells.now i ∷ [])

pub code_term-right-requires : goal.code_term-right-requires
code_term-right-requires c =
    let l = c.loop-k in
    (omega (arith, c.requires), rw c.wide.ensures.0 (c.requires.4 l.k (omega arith)))

pub with_literal-out-requires : goal.with_literal-out-requires
with_literal-out-requires c =
    let l = c.loop-k in
    omega (
      arith,
      c.requires,
      literals_count c.args.q (λ i. one c.args.first (at c.args.starts c.args.s) c.args.cells.now i ∷ []) l.k l.out c.requires.0 l.invariant,
      length_singles l.k (one c.args.first (at c.args.starts c.args.s) c.args.cells.now),
    )

pub loop-k-preserved : goal.loop-k-preserved
loop-k-preserved c =
    let l = c.loop-k in
    literals_next c.args.q (λ i. one c.args.first (at c.args.starts c.args.s) c.args.cells.now i ∷ []) l.k l.out c.with_literal-out.result l.invariant
    (λ b.
    c.with_literal-out.ensures b.sheet true b.same refl
    ∙ ap (λ (n : ℕ). packed (more_literals b.sheet (same (c.args.first + l.k) n ∷ [])))
    (c.code_term-right.ensures ∙ ap (λ (n : ℕ). at c.args.starts c.args.s + n) c.wide.ensures.0))

pub returns : goal.returns
returns c b =
    let l = c.loop-k in
    let a = c.args in
    let last : l.k ≡ length a.cells.now = omega arith in
    l.invariant b ∙ ap (λ (n : ℕ). packed (more_literals b.sheet (collect n (λ i. one a.first (at a.starts a.s) a.cells.now i ∷ [])))) last
