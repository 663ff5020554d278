-- The wrong programs of request (d): what a program that meets the contract has written is read as the fitted sheet of the answer, and that sheet has what each of them lacks.
use Prim.Native.Nat.{ℕ, ◌<◌}
use mathlib.Core.Path.{◌≡◌, ap, sym, ◌∙◌}
use mathlib.Core.Bool.{true≢false}
use mathlib.Core.List.{List}
use mathlib.Core.Option.{some}
use lib.ListN.{length, take}
use Rattle.logic.specs.Sheet.{Sheet, Bound, Literal, Term, literal_at, no_literal}
use Rattle.layout.specs.Layout.{accepted, reading}
use Rattle.answer.specs.Answer.{Entry, answer}
use Rattle.answer.proofs.Lists.{Mem}
use Rattle.fitted_sheet.specs.FittedSheet.{too_many}
use Rattle.fitted_sheet.specs.Kept.{fitted_to}
use Rattle.fitted_sheet.proofs.Members.{place_of}
use Rattle.fitted_sheet.proofs.Entries.{codes_differ, cell_same, bound_of, cell_term_lem, differ_stated, same_stated}
use Rattle.fitted.specs.Promise.{Filed}
use Rattle.fitted.proofs.Filed.{files_kept}
use Rattle.refuted.specs.WrongFitted.{FittedProgram, MeetsFitted, WritingCall, answer_of, ReadsAs, Unsaid, LeavesOutDiffer, FloorStays, CodesFromZero, SwapsRowAndColumn, WritesTooMany, RefutedFitted}

same_sheet : (a b : Sheet) → accepted a ≡ accepted b → a ≡ b
same_sheet a b e = cc

same_entry : (a b : Entry) → some a ≡ some b → a ≡ b
same_entry a b e = cc

module _ (p : FittedProgram) (meets : MeetsFitted p) where
  -- the call has filed the fitted sheet of its own answer
  module _ (c : WritingCall p) where
    kept : Filed c.bytes c.out c.many
    kept = files_kept c.bytes c.out c.many (sym (meets c.bytes c.out).result ∙ c.wrote)

    own : fitted_to kept.sheet kept.entry ≡ fitted_to c.old c.entry
    own =
        let sheets : kept.sheet ≡ c.old = same_sheet kept.sheet c.old (sym kept.reads ∙ c.reads) in
        let entries : kept.entry ≡ c.entry = same_entry kept.entry c.entry (sym kept.answers ∙ ap answer sheets ∙ c.answers) in
        cc (sheets, entries)

    -- and that is what the bytes are read as
    reads_as : ReadsAs p c (fitted_to c.old c.entry)
    reads_as = ap (λ (b : List ℕ). reading (take c.many b)) (meets c.bytes c.out).buffer ∙ kept.accepts ∙ ap accepted own

    -- so no statement of the fitted sheet is missing
    said : (l : Literal) → Mem l (fitted_to c.old c.entry).literals → Unsaid p c l → ⊥
    said l m none =
        let r : (k : ℕ) × (k < length (fitted_to c.old c.entry).literals) × (literal_at (fitted_to c.old c.entry) k ≡ l) =
        place_of no_literal l (fitted_to c.old c.entry).literals m in
        none (fitted_to c.old c.entry) reads_as r.0 r.1 r.2

  not_leaves_out : LeavesOutDiffer p → ⊥
  not_leaves_out (c, s, i, j, h, l, b, none) =
      said c (codes_differ (answer_of p c) s i j) (differ_stated c.old (answer_of p c) s i j h l b) none

  not_floor_stays : FloorStays p → ⊥
  not_floor_stays (c, s, h, wrong) =
      wrong (fitted_to c.old c.entry) (reads_as c) (ap (λ (x : Bound). x.floor) (bound_of c.old (answer_of p c) s h))

  not_from_zero : CodesFromZero p → ⊥
  not_from_zero (c, f, cs, inside, none) =
      said c (cell_same c.old (answer_of p c) f cs) (same_stated c.old (answer_of p c) f cs inside) none

  not_swaps : SwapsRowAndColumn p → ⊥
  not_swaps (c, f, cs, inside, wrong) =
      wrong (fitted_to c.old c.entry) (reads_as c) (ap (λ (x : Term). x.args) (cell_term_lem c.old (answer_of p c) f cs inside))

  not_writes : WritesTooMany p → ⊥
  not_writes (c, many) = true≢false (sym many ∙ ap too_many (sym (own c)) ∙ (kept c).few)

-- THEOREM: the wrong programs of request (d) are refuted
pub refuted_fitted : RefutedFitted
refuted_fitted =
    record {
      leaves_out_differ = not_leaves_out;
      floor_stays = not_floor_stays;
      codes_from_zero = not_from_zero;
      swaps_row_and_column = not_swaps;
      writes_too_many = not_writes;
    }
