-- Floors, ceilings, total, differ statements and fills play no part: sheets with the same symbols, terms and same statements have the same groups.
use Prim.Native.Nat.{ℕ, ◌<◌}
use native.Mathlib.Omega.{arith}
use mathlib.Core.Path.{◌≡◌, refl, ap, sym, ◌∙◌, subst}
use mathlib.Core.List.{List, []}
use lib.ListN.{length, get_or}
use Rattle.logic.specs.Sheet.{Sheet, Symbol, Literal, literal_at, no_symbol, without_fills}
use Rattle.prelude.specs.Lists.{at}
use Rattle.logic.specs.Structure.{Structure, InSorts, Interprets, SatisfiesSame, codes_from, codes, Holds}
use Rattle.logic.specs.WellFormed.{WellFormed}
use Rattle.logic.proofs.Codes.{holds_same}
use Rattle.congruence.specs.Closure.{group_of}
use Rattle.congruence.specs.Forced.{Forced, SameIn, SameStatements}
use Rattle.congruence.proofs.Closing.{group_representative, group_exactly}

-- what `Interprets` asks of the tables, by the list that it reads
abbrev Complete : Structure → List Symbol → Type 0
Complete M fs = (f : ℕ) → f < length fs → (cs : List ℕ) → InSorts M.size (get_or fs f no_symbol).params cs → M.table f cs < M.size (get_or fs f no_symbol).result

module _ (sh other : Sheet) (sorts : length sh.bounds ≡ length other.bounds) (symbols : sh.symbols ≡ other.symbols) (terms : sh.terms ≡ other.terms) where
  one_code : (M : Structure) (i : ℕ) → at (codes M sh) i ≡ at (codes M other) i
  unfolding codes
  one_code M i = ap (λ ts. at (codes_from M [] ts) i) terms

  -- further statements keep what is forced
  pub forced_kept : SameIn sh other → (a b : ℕ) → Forced sh a b → Forced other a b
  forced_kept within a b forced M interprets sat =
      let complete = subst (λ (fs : List Symbol). Complete M fs) (sym symbols) interprets.complete in
      let own : Interprets M sh = record { nonempty = λ s h. interprets.nonempty s (omega arith); complete = complete } in
      let holds : SatisfiesSame M sh = λ k h e.
      let r = within k h e in
      let there = sat r.0 r.1 (ap (λ (x : Literal). x.equal) r.2 ∙ e) in
      holds_same (at (codes M other)) (at (codes M sh)) (literal_at sh k) (sym (one_code M _)) (sym (one_code M _)) (subst (Holds (at (codes M other))) r.2 there) in
      sym (one_code M a) ∙ forced M own holds ∙ one_code M b

-- LAW: such sheets have the same groups
pub group_alike : (sh other : Sheet) → SameStatements sh other → WellFormed sh → WellFormed other → (e : ℕ) → e < length sh.terms → group_of sh e ≡ group_of other e
group_alike sh other same w v e b =
    let count = ap length same.terms in
    let r = group_representative other v e (omega arith) in
    let to = forced_kept sh other same.sorts same.symbols same.terms same.there in
    let from = forced_kept other sh (sym same.sorts) (sym same.symbols) (sym same.terms) same.back in
    (group_exactly sh w e (group_of other e) b).1
    (record { there = omega (arith, r.there); forced = from _ _ r.forced; lowest = λ j h f. r.lowest j h (to _ _ f) })

-- so it is of a sheet and the sheet without its fills
pub without_fills_lem : (sh : Sheet) → SameStatements sh (without_fills sh)
without_fills_lem sh =
    record {
      sorts = refl;
      symbols = refl;
      terms = refl;
      there = λ k h e. (k, h, refl);
      back = λ k h e. (k, h, refl);
    }
