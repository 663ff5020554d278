-- What the tests of cause 15 say, of a sheet and of its parsed arrays; and the code after an event, as the parsed offsets give it.
use Prim.Native.Nat.{ℕ, ◌+◌, ◌*◌, ◌≤◌, ◌<◌}
use native.Mathlib.Decide.{ℕ_discrete}
use native.Mathlib.Omega.{arith}
use mathlib.Core.Path.{◌≡◌, refl, ap, ap₂, sym, ◌∙◌, subst}
use mathlib.Core.Bool.{Bool, true, false}
use mathlib.Core.Logic.{inl, inr, ◌↔◌}
use mathlib.Core.List.{List, [], ◌∷◌}
use lib.ListN.{length}
use lib.Dec.{eqb}
use borrow.Author.Tests.{ltb-true, lt-ltb, eqb-true, eq-eqb, ne_eqb}
use Rattle.std.specs.Prelude.{Ok, Err}
use Rattle.prelude.specs.Causes.{refusal}
use Rattle.prelude.specs.Limits.{missing}
use Rattle.prelude.specs.Lists.{at}
use Rattle.prelude.specs.Tests.{same_list}
use Rattle.prelude.proofs.Tests.{decided, both_true, and_both, every_true, true_every, same_list_same, same_same_list}
use Rattle.logic.specs.Sheet.{Sheet, symbol_at}
use Rattle.layout.specs.Packed.{first, second}
use Rattle.layout.specs.declared.Parsed.{Parsed}
use Rattle.tables.specs.Layout.{offset, place, decoded}
use Rattle.tables.specs.Parts.{Packs, Laying, width}
use Rattle.tables.specs.Tests.{well_laid}
use Rattle.tables.proofs.Packing.{one_param, packs_views, symbols_packed, result_packed, param0_packed, param1_packed, params_below_8}
use Rattle.tables.proofs.Whole.{laid_offset}
use Rattle.walk.specs.Walk.{stays_in, all_stay, walkable}
use Rattle.walk.specs.Promise.{StaysIn, Walkable}
use Rattle.walk.specs.Parts.{admitted}

pub stays_in_test : (sh : Sheet) (s f : ℕ) → (stays_in sh s f ≡ true) ↔ StaysIn sh s f
stays_in_test sh s f = (
  λ e.
      let a = and_both _ _ e in
      let b = and_both _ _ a.0 in
      record { there = ltb-true _ _ b.0; gives = eqb-true _ _ b.1; takes = same_list_same _ _ a.1 },
  λ y.
      both_true _ _ (both_true _ _ (lt-ltb _ _ y.there) (eq-eqb _ _ y.gives))
      (subst (λ (ps : List ℕ). same_list ps (s ∷ []) ≡ true) (sym y.takes) (same_same_list (s ∷ []))),
)

pub all_stay_test : (sh : Sheet) (s : ℕ) (fs : List ℕ) → (all_stay sh s fs ≡ true) ↔ ((k : ℕ) → k < length fs → StaysIn sh s (at fs k))
all_stay_test sh s fs =
    (λ e k h. (stays_in_test sh s (at fs k)).0 (every_true _ _ e k h), λ y. true_every _ _ (λ k h. (stays_in_test sh s (at fs k)).1 (y k h)))

module _ (sh : Sheet) (t : List ℕ) (s c : ℕ) (fs : List ℕ) where
  -- the test of cause 15 is true exactly when the cause does not apply
  pub walkable_test : (walkable sh t s c fs ≡ true) ↔ Walkable sh t s c fs
  unfolding walkable
  walkable_test = (
    λ e.
        let a = and_both _ _ e in
        let b = and_both _ _ a.0 in
        record { sort = ltb-true _ _ b.0; code = ltb-true _ _ b.1; event = (all_stay_test sh s fs).0 a.1 },
    λ w. both_true _ _ (both_true _ _ (lt-ltb _ _ w.sort) (lt-ltb _ _ w.code)) ((all_stay_test sh s fs).1 w.event),
  )

  pub not_walkable : (Walkable sh t s c fs → ⊥) → walkable sh t s c fs ≡ false
  not_walkable h =
      elim (decided (walkable sh t s c fs)) [
        | inl e ↦ absurd (h (walkable_test.0 e))
        | inr e ↦ e
      ]

  -- the causes 12 and 15, by the tests
  pub cause_malformed : well_laid sh t ≡ false → Err (refusal 12 0) ≡ admitted sh t s c fs
  cause_malformed e = rw e refl

  pub cause_absent : well_laid sh t ≡ true → walkable sh t s c fs ≡ false → Err (refusal 15 0) ≡ admitted sh t s c fs
  cause_absent e w = rw (e, w) refl

  pub cause_none : well_laid sh t ≡ true → walkable sh t s c fs ≡ true → Ok tt ≡ admitted sh t s c fs
  cause_none e w = rw (e, w) refl

  -- and what it says that neither applies
  pub none_cause : (u : Unit {0}) → Ok u ≡ admitted sh t s c fs → (well_laid sh t ≡ true) × (walkable sh t s c fs ≡ true)
  none_cause u z = by (well_laid sh t) (walkable sh t s c fs) refl refl
    where
      by : (a b : Bool) → well_laid sh t ≡ a → walkable sh t s c fs ≡ b → (well_laid sh t ≡ true) × (walkable sh t s c fs ≡ true)
      by true true e f = (e, f)
      by true false e f = let never : Ok u ≡ Err (refusal 15 0) = z ∙ sym (cause_absent e f) in absurd cc
      by false b e f = let never : Ok u ≡ Err (refusal 12 0) = z ∙ sym (cause_malformed e) in absurd cc

-- the test of cause 15, by the parsed sheet and the sizes that were copied from the tables
module _ (sh : Sheet) (p : Parsed) (k : Packs sh p) (t : List ℕ) (s c : ℕ) (fs : List ℕ) where
  pub sort_absent : p.sorts ≤ s → false ≡ walkable sh t s c fs
  sort_absent h = sym (not_walkable sh t s c fs (λ w. omega (arith, w.sort, (packs_views sh p k).sorts)))

  pub code_absent : at t s ≤ c → false ≡ walkable sh t s c fs
  code_absent h = sym (not_walkable sh t s c fs (λ w. omega (arith, w.code)))

  pub events_decide : s < p.sorts → c < at t s → all_stay sh s fs ≡ walkable sh t s c fs
  unfolding walkable
  events_decide h l = rw (lt-ltb s (length sh.bounds) (omega (arith, (packs_views sh p k).sorts)), lt-ltb c (at t s) l) refl

-- an event, by the parsed arrays
module _ (sh : Sheet) (p : Parsed) (k : Packs sh p) (s f : ℕ) where
  not_stays : (StaysIn sh s f → ⊥) → false ≡ stays_in sh s f
  not_stays h =
      elim (decided (stays_in sh s f)) [
        | inl e ↦ absurd (h ((stays_in_test sh s f).0 e))
        | inr e ↦ sym e
      ]

  pub event_absent : p.symbols ≤ f → false ≡ stays_in sh s f
  event_absent h = not_stays (λ y. omega (arith, y.there, symbols_packed sh p k))

  pub event_gives_other : (at p.result f ≡ s → ⊥) → false ≡ stays_in sh s f
  event_gives_other h = not_stays (λ y. h (result_packed sh p k f y.there ∙ y.gives))

  pub event_takes_other : (at p.param0 f ≡ s → ⊥) → false ≡ stays_in sh s f
  event_takes_other h = not_stays (λ y. h (param0_packed sh p k f y.there ∙ ap first y.takes))

  event_takes_more : (at p.param1 f ≡ missing → ⊥) → false ≡ stays_in sh s f
  event_takes_more h = not_stays (λ y. h (param1_packed sh p k f y.there ∙ ap second y.takes))

  event_stays : f < p.symbols → at p.result f ≡ s → at p.param0 f ≡ s → at p.param1 f ≡ missing → true ≡ stays_in sh s f
  event_stays h r a b =
      let there : f < length sh.symbols = omega (arith, symbols_packed sh p k) in
      let gives : (symbol_at sh f).result ≡ s = sym (result_packed sh p k f there) ∙ r in
      sym ((stays_in_test sh s f).1
      (record {
        there = there;
        gives = gives;
        takes =
            one_param (symbol_at sh f).params s (params_below_8 sh p k f there) (omega (arith, gives, k.formed.result f there, k.formed.sorts))
            (sym (param1_packed sh p k f there) ∙ b) (sym (param0_packed sh p k f there) ∙ a);
      }))

  -- where the symbol is there and gives and takes the sort first, it stays exactly when it takes nothing more
  pub event_decides : f < p.symbols → at p.result f ≡ s → at p.param0 f ≡ s → eqb (at p.param1 f) missing ≡ stays_in sh s f
  event_decides h r a =
      elim (ℕ_discrete (at p.param1 f) missing) [
        | yes b ↦ eq-eqb _ _ b ∙ event_stays h r a b
        | no b ↦ ne_eqb _ _ b ∙ event_takes_more b
      ]

-- the code after an event, as it is read by the parsed arrays, is the cell of its symbol's table, which has a row for each code
pub code_after :
    (sh : Sheet) (p : Parsed) (sizes offsets t param1 : List ℕ) (s f c g x v : ℕ) → Laying sh p sizes offsets t → StaysIn sh s f → param1 ≡ p.param1 → g ≡ f → x ≡ c
    → (g < 64 → v ≡ at t (at offsets g + (x * width (at sizes) (at param1 g) + 0))) → v ≡ (decoded sh t).table f (c ∷ [])
code_after sh p sizes offsets t param1 s f c g x v y e ep ef ec h =
    let none : at param1 g ≡ missing = ap₂ at ep ef ∙ param1_packed sh p y.packs f e.there ∙ ap second e.takes in
    let start : at offsets g ≡ offset sh (at t) f = ap (at offsets) ef ∙ laid_offset sh p sizes offsets t y f (omega (arith, e.there)) in
    let row : x * width (at sizes) (at param1 g) + 0 ≡ place (at t) (symbol_at sh f).params (c ∷ []) = rw (none, e.takes, ec) refl in
    h (omega (arith, e.there, y.packs.formed.symbols)) ∙ ap₂ (λ (m n : ℕ). at t (m + n)) start row
