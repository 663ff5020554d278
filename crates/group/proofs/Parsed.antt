-- A parsed sheet and the groups of its terms.
use Prim.Native.Nat.{ℕ, ◌<◌}
use mathlib.Core.Path.{◌≡◌, ap, ◌∙◌}
use mathlib.Core.List.{List}
use lib.ListN.{length}
use Rattle.logic.specs.Sheet.{sort_at}
use Rattle.logic.specs.WellFormed.{WellFormed}
use Rattle.prelude.specs.Lists.{at}
use Rattle.layout.specs.Layout.{reading}
use Rattle.layout.specs.Packed.{packed, view}
use Rattle.layout.specs.declared.Parsed.{Parsed}
use Rattle.layout.proofs.Answers.{accepted_well_formed}
use Rattle.layout.proofs.View.{packed_views}
use Rattle.sheet.specs.Verdict.{parsing}
use Rattle.std.specs.Prelude.{Ok}
use Rattle.sheet.proofs.Verdicts.{Accepts, parsed_accepts}
use Rattle.congruence.specs.Closure.{group_of}
use Rattle.congruence.specs.Groups.{Groups, Closable}
use Rattle.congruence.specs.Forced.{Labelled}
use Rattle.congruence.proofs.Structures.{views_closable}
use Rattle.congruence.proofs.Closing.{labels_unique, groups_labelled}

module _ (s : List ℕ) (p : Parsed) (q : Ok p ≡ parsing (reading s)) where
  pub parsed_sheet : Accepts s p
  parsed_sheet = parsed_accepts s p q

  formed : WellFormed parsed_sheet.sheet
  formed = accepted_well_formed s parsed_sheet.sheet parsed_sheet.reads

  pub parsed_terms : p.terms ≡ length parsed_sheet.sheet.terms
  parsed_terms = ap (λ (x : Parsed). x.terms) parsed_sheet.same ∙ (packed_views parsed_sheet.sheet).terms

  pub parsed_sort : (i : ℕ) → i < length parsed_sheet.sheet.terms → at p.sort i ≡ sort_at parsed_sheet.sheet i
  parsed_sort i b = ap (λ (x : Parsed). at x.sort i) parsed_sheet.same ∙ (packed_views parsed_sheet.sheet).sort i b

  pub parsed_closable : Closable (view p)
  parsed_closable = rw parsed_sheet.same (views_closable parsed_sheet.sheet formed (view (packed parsed_sheet.sheet)) (packed_views parsed_sheet.sheet))

  -- labels that name the groups are the groups' numbers
  pub parsed_group : (l : ℕ → ℕ) → Groups (view p) l → (i : ℕ) → i < length parsed_sheet.sheet.terms → l i ≡ group_of parsed_sheet.sheet i
  parsed_group l g = labels_unique parsed_sheet.sheet formed l (rw parsed_sheet.same at g)

  -- THEOREM: every label of a parsed sheet is below 128 and is its group's lowest number
  pub parsed_labelled : (l : ℕ → ℕ) → Groups (view p) l → Labelled parsed_sheet.sheet l
  parsed_labelled l g = groups_labelled parsed_sheet.sheet formed l (rw parsed_sheet.same at g)
