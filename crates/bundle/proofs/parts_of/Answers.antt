-- `bundle::parts_of` meets its contract.
use Prim.Native.Nat.{ℕ, ◌+◌, ◌<◌}
use native.Mathlib.Omega.{arith}
use mathlib.Core.Path.{◌≡◌, refl, ap, sym, ◌∙◌}
use mathlib.Core.Bool.{Bool, true, false}
use mathlib.Core.List.{List}
use lib.ListN.{length, length-set}
use Rattle.records.specs.Record.{cut}
use Rattle.records.specs.Step.{step_at, behind, stepped}
use Rattle.records.specs.declared.Step.TheVariants.{Record}
use Rattle.records.specs.declared.Stepped.{Stepped}
use Rattle.records.proofs.Steps.{step_uncut}
use Rattle.bundle.proofs.Located.{reached_start, reached_end, reached_none, reached_cut, reached_other, reached_ninth, reached_next}
use Rattle.bundle.proofs.parts_of.Goals as goal
use Rattle.bundle.proofs.parts_of.Goals.{then-kind-ne-SHEET_KIND-via-then-kind-ne-SHEET_KIND, then-kind-ne-SHEET_KIND-via-else-kind-ne-SHEET_KIND+then-many-eq-MOST_SHEETS}

-- what stands at a position, from what `record_at` gave: no whole record, so it is cut short
is_cut : (s : List ℕ) (i : ℕ) (r : Stepped) → r ≡ stepped s i → i < length s → ((kind start len : ℕ) → r.step ≡ Record kind start len → ⊥) → (b : Bool) → cut s i ≡ b → b ≡ true
is_cut s i r e h n true z = refl
is_cut s i r e h n false z = absurd (n _ _ _ (ap (λ (x : Stepped). x.step) e ∙ step_uncut s i h z))

-- a whole record: what stands there, and the position behind it
module _ (s : List ℕ) (i : ℕ) (r : Stepped) (e : r ≡ stepped s i) (kind start len : ℕ) (is : r.step ≡ Record kind start len) where
  whole : step_at s i ≡ Record kind start len
  whole = sym (ap (λ (x : Stepped). x.step) e) ∙ is

  behind_is : start + len ≡ r.behind
  behind_is = sym (ap (λ (x : Stepped). x.behind) e ∙ ap (behind i) whole)

pub loop-at-init : goal.loop-at-init
loop-at-init c = (reached_start c.args.s.now _ _, refl, refl)

pub returns-in_default : goal.returns-in_default
returns-in_default c =
    let l = c.loop-at in
    let s = c.args.s.now in
    let h : l.at < length s = omega arith in
    reached_cut s l.at l.many l.starts l.ends l.invariant.0 h
    (is_cut s l.at c.record_at-found.result c.record_at-found.ensures h c.in_default.not-Record (cut s l.at) refl)

pub returns-then-kind-ne-SHEET_KIND : goal.returns-then-kind-ne-SHEET_KIND
returns-then-kind-ne-SHEET_KIND c =
    let l = c.loop-at in
    let s = c.args.s.now in
    let w = whole s l.at c.record_at-found.result c.record_at-found.ensures _ _ _ c.in-Record.is in
    elim c.then-kind-ne-SHEET_KIND.branch [
      | then-kind-ne-SHEET_KIND-via-then-kind-ne-SHEET_KIND x ↦ reached_other s l.at l.many l.starts l.ends l.invariant.0 _ _ _ w x.if-kind-ne-SHEET_KIND.true
      | then-kind-ne-SHEET_KIND-via-else-kind-ne-SHEET_KIND+then-many-eq-MOST_SHEETS x ↦
          reached_ninth s l.at l.many l.starts l.ends l.invariant.0 _ _ _ w x.if-many-eq-MOST_SHEETS.true
    ]

pub loop-at-preserved : goal.loop-at-preserved
loop-at-preserved c =
    let l = c.loop-at in
    let s = c.args.s.now in
    let r = c.record_at-found.result in
    let e = c.record_at-found.ensures in (
      reached_next s l.at l.many l.starts l.ends l.invariant.0 _ _ _ (whole s l.at r e _ _ _ c.in-Record.is) c.if-kind-ne-SHEET_KIND.false c.if-many-eq-MOST_SHEETS.false l.invariant.1 l.invariant.2 _
          (behind_is s l.at r e _ _ _ c.in-Record.is),
      length-set l.starts l.many _ ∙ l.invariant.1,
      length-set l.ends l.many _ ∙ l.invariant.2,
    )

pub returns-then-many-eq0 : goal.returns-then-many-eq0
returns-then-many-eq0 c =
    let l = c.loop-at in
    reached_none c.args.s.now l.at l.many l.starts l.ends l.invariant.0 c.loop-at-test.false c.if-many-eq0.true

pub returns : goal.returns
returns c =
    let l = c.loop-at in
    let found = reached_end c.args.s.now l.at l.many l.starts l.ends l.invariant.0 c.loop-at-test.false in
    (omega (arith, found.many), found)
