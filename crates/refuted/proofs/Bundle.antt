-- The wrong programs of request (i) are refuted by what every call promises (`Promised` of bundle).
use Rattle.std.specs.Prelude.{Err}
use Rattle.prelude.specs.Causes.{refusal}
use Prim.Native.Nat.{ℕ, ◌≤◌}
use native.Mathlib.Omega.{arith}
use mathlib.Core.Path.{◌≡◌, refl, ap, sym, ◌∙◌}
use mathlib.Core.Logic.{◌⊎◌, inl, inr}
use mathlib.Core.List.{List}
use Rattle.layout.specs.Layout.{InSheet}
use Rattle.layout.proofs.Answers.{refused_number}
use Rattle.sheet.proofs.Refusals.{in_sheet_known}
use Rattle.bundle.specs.Bundle.{Refused, bundling}
use Rattle.bundle.specs.Promise.{sheet_at, RefusedAlone}
use Rattle.bundle.proofs.Located.{parts_start}
use Rattle.bundle.proofs.Smallest.{sum_or_refusal}
use Rattle.bundle.proofs.Promised.{promised, answered_refused}
use Rattle.refuted.specs.WrongBundle.{BundleProgram, MeetsBundle, StopsAtLimit, PlaceWithinSheet, ReadsFirst, NineteenForNone, RefutedBundle}

module _ (p : BundleProgram) (meets : MeetsBundle p) where
  -- the contract, of a call that is turned down
  stock : (s : List ℕ) (limit n i : ℕ) → 1 ≤ n → n ≤ 19 → p s limit ≡ Err (refusal n i) → (bundling s limit).stock ≡ Refused n i
  stock s limit n i a b e = answered_refused s limit n i a b (sym (meets s limit) ∙ e)

  not_stops_at_limit : StopsAtLimit p → ⊥
  not_stops_at_limit c =
      let x = (promised c.bytes c.limit).exceeds.0 (stock c.bytes c.limit 19 0 (omega arith) (omega arith) c.nineteen) in
      sum_or_refusal (sheet_at c.bytes c.first.which) _ _ _ (x.1.own c.first.which c.first.there) c.first.alone

  -- the numbers with which a sheet is refused
  alone_known : (s : List ℕ) (n i : ℕ) → RefusedAlone s n i → (1 ≤ n) × (n ≤ 19)
  alone_known s n i (inl q) = in_sheet_known n (refused_number s n i q)
  alone_known s n i (inr x) = (omega (arith, x.3), omega (arith, x.3))

  not_place_within_sheet : PlaceWithinSheet p → ⊥
  not_place_within_sheet c =
      let k = alone_known (sheet_at c.bytes c.first.which) c.number c.first.place c.first.alone in
      let r : Refused c.number c.place ≡ Refused c.number c.first.place = sym ((promised c.bytes c.limit).decides c.number c.place c.first) ∙ stock c.bytes c.limit c.number c.first.place k.0 k.1 c.within in
      let same : c.place ≡ c.first.place = cc in
      omega (arith, same, c.first.counted, parts_start c.bytes c.first.which c.first.there)

  not_reads_first : ReadsFirst p → ⊥
  not_reads_first c = by c.sheets
    where
      same : 1 ≤ c.number → c.number ≤ 19 → 18 ≡ c.number
      same a b =
          let r : Refused 18 0 ≡ Refused c.number c.place = sym ((promised c.bytes c.limit).at_fault.1 c.faulty) ∙ stock c.bytes c.limit c.number c.place a b c.answered in
          cc

      by : InSheet c.number ⊎ (c.number ≡ 11) → ⊥
      by (inl (inl w)) = let e = same (omega arith) (omega arith) in omega arith
      by (inl (inr w)) = let e = same (omega arith) (omega arith) in omega arith
      by (inr w) = let e = same (omega arith) (omega arith) in omega arith

  not_nineteen_for_none : NineteenForNone p → ⊥
  not_nineteen_for_none c =
      let x = (promised c.bytes c.limit).exceeds.0 (stock c.bytes c.limit 19 0 (omega arith) (omega arith) c.nineteen) in
      sum_or_refusal (sheet_at c.bytes c.which) _ 11 0 (x.1.own c.which c.there) (inr (c.sheet, c.reads, c.hopeless, refl, refl))

-- THEOREM: none of the wrong programs of request (i) meets the contract of bundle
pub refuted_bundle : RefutedBundle
refuted_bundle =
    record {
      stops_at_limit = not_stops_at_limit;
      place_within_sheet = not_place_within_sheet;
      reads_first = not_reads_first;
      nineteen_for_none = not_nineteen_for_none;
    }
