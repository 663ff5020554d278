-- None of the wrong programs of specs/WrongPrograms.antt meets its contract. A worked sheet refutes most of them: what the contract says of it is not
-- what the wrong program does. An 11 before looking, an invented sum and what is wrong in some cell are refuted at every call, by demand 3.
use Rattle.std.specs.Prelude.{Result, Ok, Err}
use Rattle.prelude.specs.Causes.{refusal}
use Rattle.prelude.specs.declared.refusal.Refusal.{Refusal}
use Prim.Native.Nat.{ℕ, ◌≤◌, ◌<◌}
use native.Mathlib.Decide.{dec_lt}
use native.Mathlib.Omega.{arith}
use mathlib.Core.Path.{◌≡◌, refl, ap, sym, ◌∙◌, subst}
use mathlib.Core.Logic.{inl, inr}
use mathlib.Core.List.{List, [], ◌∷◌, map}
use mathlib.Core.Option.{some}
use lib.ListN.{length}
use lib.Dec.{lit<, lit≤}
use lib.Seq.{get_or-take}
use Rattle.logic.specs.Sheet.{Sheet, symbol_at, term_at}
use Rattle.logic.specs.WellFormed.{WellFormed}
use Rattle.logic.specs.Structure.{InSorts}
use Rattle.logic.proofs.Meaning.{of_one_argument}
use Rattle.prelude.specs.Lists.{at, sum_to, fronted}
use Rattle.prelude.proofs.Lists.{sum_to_same}
use Rattle.layout.specs.Layout.{Reading, accepted, refused, reading, read_from, cause}
use Rattle.sheet.specs.Verdict.{verdict}
use Rattle.sheet.proofs.Refusals.{same_number, in_sheet}
use Rattle.layout.proofs.Answers.{accepted_well_formed, refused_not, refused_number}
use Rattle.tables.specs.Layout.{extent}
use Rattle.tables.specs.Tests.{well_laid, in_bounds}
use Rattle.tables.specs.declared.Judgement.{Judgement}
use Rattle.tables.specs.declared.Judgement.TheVariants.{Fits, OutOfBounds}
use Rattle.tables.proofs.Laid.{well_laid_test}
use Rattle.judge.specs.Judge.{judged, judgement}
use Rattle.forced.proofs.Fixed.{no_fixed_reply}
use Rattle.group.proofs.Replies.{answer_exactly, number_named, number_small}
use Rattle.group.proofs.NoPart.{answered_alike}
use Rattle.group.proofs.Worked as group-worked
use Rattle.find_at.specs.Found.{turned_down, ceilings}
use Rattle.finder.specs.Find.{outcome}
use Rattle.answer.specs.Answer.{Entry, answer}
use Rattle.answer.specs.Demand.{Answers, Hopeless, Unreached, ToItself, Unfilled}
use Rattle.answer.proofs.Rules.{answers_only, cell_of_term}
use Rattle.find_at.specs.Promise.{codes_written, tables_written}
use Rattle.finder.specs.Promise.{Delivered}
use Rattle.worked.specs.Worked.{Row, row1, row2, row5, row13, Shows}
use Rattle.worked.proofs.Worked.{sheet_of, worked}
use Rattle.worked.proofs.EmptySheet.{empty_sheet}
use Rattle.finder.proofs.Outcomes.{outcome_refused, outcome_short}
use Rattle.finder.proofs.Buffers.{exit}
use Rattle.finder.proofs.Delivery.{accepted_promised, delivered_by}
use Rattle.refuted.specs.WrongPrograms.{FindProgram, MeetsFind, LetThrough, ElevenForAll, NeverLooks, ElevenBeforeLooking, SameTables, NoCodeWritten, NoTableWritten, OtherSizesZero, OtherCodesZero, FoundCall, InventedSum, structure_from, FreeCell, symbol_of, held_in, KeepsAcross, KeepsOfTwo, Overwrites, StillZero, FillsReached, FilledCell, filling_of, FillWins, FillsWithNumber, TakesSecondFill, ReadProgram, MeetsRead, RefusesEverySheet, RefusesNoBytes, SixteenBeforeSeven, JudgeProgram, MeetsJudge, FixedJudgement, PassesTablesForNoBytes, GroupProgram, MeetsGroup, GivesItself, GivesHighest, OneRound, CountsDiffer, SixBits, HighestBit, Refuted}
use Rattle.refuted.proofs.Alone.{longest_bytes, last_alone}

-- ---- the worked sheets that refute
one_field : Shows row1
one_field = worked.0

no_sizes : Shows row2
no_sizes = worked.1.0

two_codes : Shows row5
two_codes = worked.1.1.1.1.0

two_fields : Shows row13
two_fields = worked.1.1.1.1.1.1.1.1.1.1.1.1.0

-- a blank buffer, long enough for each of these rows
abbrev blank : List ℕ
blank = 0 ∷ 0 ∷ 0 ∷ 0 ∷ 0 ∷ 0 ∷ []

one_field_through : LetThrough row1.sheet blank blank
unfolding reading read_from cause
one_field_through = record { sheet = sheet_of row1; reads = refl; codes_fit = lit≤ tt; tables_fit = lit≤ tt }

no_sizes_through : LetThrough row2.sheet blank blank
unfolding reading read_from cause
no_sizes_through = record { sheet = sheet_of row2; reads = refl; codes_fit = lit≤ tt; tables_fit = lit≤ tt }

two_fields_read : reading row13.sheet ≡ accepted (sheet_of row13)
unfolding reading read_from cause
two_fields_read = refl

-- 0 is not another number
differ : {n : ℕ} → 0 < n → n ≡ 0 → ⊥
differ h e = omega arith

found_not_refused : {n : ℕ} {r : Refusal} → Ok n ≡ Err r → ⊥
found_not_refused e = cc

-- ---- find
module _ (p : FindProgram) (meets : MeetsFind p) where
  -- what a program that meets the contract does at a worked sheet
  module _ (r : Row) (k : Shows r) (codes_fit : r.code_bytes ≤ 6) (tables_fit : r.table_bytes ≤ 6) where
    result_of_lem : p.result r.sheet blank blank ≡ r.result
    result_of_lem = (meets r.sheet blank blank).result ∙ (k.shown blank blank codes_fit tables_fit).result

    codes_of : p.codes r.sheet blank blank ≡ fronted r.codes blank
    codes_of = (meets r.sheet blank blank).codes ∙ (k.shown blank blank codes_fit tables_fit).codes

    tables_of : p.tables r.sheet blank blank ≡ fronted r.tables blank
    tables_of = (meets r.sheet blank blank).tables ∙ (k.shown blank blank codes_fit tables_fit).tables

  one_found : p.result row1.sheet blank blank ≡ Ok 1
  one_found = result_of_lem row1 one_field (lit≤ tt) (lit≤ tt)

  two_found : p.result row5.sheet blank blank ≡ Ok 2
  two_found = result_of_lem row5 two_codes (lit≤ tt) (lit≤ tt)

  four_found : p.result row13.sheet blank blank ≡ Ok 4
  four_found = result_of_lem row13 two_fields (lit≤ tt) (lit≤ tt)

  not_eleven_for_all : ElevenForAll p → ⊥
  not_eleven_for_all wrong = found_not_refused (sym one_found ∙ wrong row1.sheet blank blank one_field_through)

  not_never_looks : NeverLooks p → ⊥
  not_never_looks wrong =
      found_not_refused
      (sym one_found ∙ wrong row1.sheet blank blank row2.sheet blank blank one_field_through no_sizes_through ∙ result_of_lem row2 no_sizes (lit≤ tt) (lit≤ tt))

  not_same_tables : SameTables p → ⊥
  not_same_tables wrong =
      let one = sym (tables_of row1 one_field (lit≤ tt) (lit≤ tt)) ∙ wrong.same row1.sheet blank blank 1 one_found in
      let two = sym (tables_of row5 two_codes (lit≤ tt) (lit≤ tt)) ∙ wrong.same row5.sheet blank blank 2 two_found in
      let z : ◌≡◌ {A = ℕ} 1 2 = ap (λ (l : List ℕ). at l 0) (one ∙ sym two) in
      omega arith

  not_no_code_written : NoCodeWritten p → ⊥
  not_no_code_written wrong =
      differ (lit< tt) (ap (λ (l : List ℕ). at l 1) (sym (codes_of row5 two_codes (lit≤ tt) (lit≤ tt)) ∙ wrong row5.sheet blank blank 2 two_found))

  not_no_table_written : NoTableWritten p → ⊥
  not_no_table_written wrong =
      differ (lit< tt) (ap (λ (l : List ℕ). at l 0) (sym (tables_of row1 one_field (lit≤ tt) (lit≤ tt)) ∙ wrong row1.sheet blank blank 1 one_found))

  not_other_sizes_zero : OtherSizesZero p → ⊥
  unfolding reading read_from cause
  not_other_sizes_zero wrong =
      differ (lit< tt)
      (ap (λ (l : List ℕ). at l 1) (sym (tables_of row13 two_fields (lit≤ tt) (lit≤ tt)))
      ∙ wrong row13.sheet blank blank (sheet_of row13) 4 two_fields_read four_found 1 (lit≤ tt) (lit< tt))

  not_other_codes_zero : OtherCodesZero p → ⊥
  unfolding reading read_from cause
  not_other_codes_zero wrong =
      differ (lit< tt)
      (ap (λ (l : List ℕ). at l 3) (sym (codes_of row13 two_fields (lit≤ tt) (lit≤ tt)))
      ∙ wrong row13.sheet blank blank (sheet_of row13) 4 two_fields_read four_found 3 (lit< tt) (lit≤ tt))

  module _ (s cs ts : List ℕ) where
    abbrev gives : Result ℕ Refusal
    gives = p.result s cs ts

    turned_down_lem : (n i : ℕ) → outcome s (length cs) (length ts) ≡ turned_down n i → gives ≡ Err (refusal n i)
    turned_down_lem n i q = (meets s cs ts).result ∙ (exit s cs ts (turned_down n i) q).result

    -- the buffers suffice where the answer is not 10
    room : (sh : Sheet) → reading s ≡ accepted sh → (gives ≡ Err (refusal 10 0) → ⊥) → (length sh.terms ≤ length cs) × (extent sh (ceilings sh) ≤ length ts)
    room sh reads enough =
        elim (dec_lt (length cs) (length sh.terms)) [
          | yes h ↦ absurd (enough (turned_down_lem 10 0 (outcome_short s sh (length cs) (length ts) reads (inl h))))
          | no codes_fit ↦
              elim (dec_lt (length ts) (extent sh (ceilings sh))) [
                | yes h ↦ absurd (enough (turned_down_lem 10 0 (outcome_short s sh (length cs) (length ts) reads (inr h))))
                | no tables_fit ↦ (omega arith, omega arith)
              ]
        ]

    -- 11 is answered only where no candidate satisfies every statement
    pub eleven_hopeless : gives ≡ Err (refusal 11 0) → (k : LetThrough s cs ts) × Hopeless k.sheet
    eleven_hopeless e = go (reading s) refl
      where
        go : (R : Reading) → reading s ≡ R → (k : LetThrough s cs ts) × Hopeless k.sheet
        go (refused n i) q =
            let r : ◌≡◌ {A = Result ℕ Refusal} (Err (refusal n i)) (Err (refusal 11 0)) = sym (turned_down_lem n i (outcome_refused s n i (length cs) (length ts) q)) ∙ e in
            let same : n ≡ 11 = sym (in_sheet n (refused_number s n i q)) ∙ same_number (refusal n i) (refusal 11 0) r in
            absurd (refused_not s n i 11 q (inr (omega arith)) same)
        go (accepted sh) q =
            let r = room sh q (λ d. let z : 10 ≡ 11 = same_number {A = ℕ} (refusal 10 0) (refusal 11 0) (sym d ∙ e) in omega arith) in
            (record { sheet = sh; reads = q; codes_fit = r.0; tables_fit = r.1 }, (accepted_promised s cs ts sh q r.0 r.1).refuses.0 (sym (meets s cs ts).result ∙ e))

    -- what is found is delivered
    pub delivered : (sh : Sheet) (n : ℕ) → reading s ≡ accepted sh → gives ≡ Ok n → Delivered sh n (codes_written sh (p.codes s cs ts)) (tables_written sh (p.tables s cs ts))
    delivered sh n reads found =
        let r = room sh reads (λ d. found_not_refused (sym found ∙ d)) in
        rw ((meets s cs ts).codes, (meets s cs ts).tables)
        ((accepted_promised s cs ts sh reads r.0 r.1).delivers n (sym (meets s cs ts).result ∙ found))

  not_eleven_before_looking : ElevenBeforeLooking p → ⊥
  not_eleven_before_looking wrong =
      let r = eleven_hopeless wrong.sheet wrong.codes wrong.tables wrong.eleven in
      wrong.unlooked r.0 r.1

  module _ (c : FoundCall p) where
    formed : WellFormed c.read
    formed = accepted_well_formed c.sheet c.read c.reads

    given : Delivered c.read c.sum (codes_written c.read (p.codes c.sheet c.codes c.tables)) (tables_written c.read (p.tables c.sheet c.codes c.tables))
    given = delivered c.sheet c.codes c.tables c.read c.sum c.reads c.found

    -- the sum found is that of the sizes written
    sum_written : c.sum ≡ sum_to (length c.read.bounds) (at (p.tables c.sheet c.codes c.tables))
    sum_written =
        let bytes = p.tables c.sheet c.codes c.tables in
        given.sum
        ∙ sum_to_same (length c.read.bounds) (at (tables_written c.read bytes)) (at bytes) (λ i h. get_or-take (extent c.read (at bytes)) bytes i 0 (omega arith))

    -- the tables written answer with the answer, so that an expression's cell holds its code there
    code_written : (e : Entry) → answer c.read ≡ some e → (i : ℕ) → i < length c.read.terms → (structure_from p c).table (term_at c.read i).symbol (map (at e.codes) (term_at c.read i).args) ≡ at e.codes i
    code_written e q i h =
        sym (cell_of_term c.read formed e (structure_from p c) (own _ (delivered_by c.read c.sum _ _ given).answers) i h)
      where
        own : (d : Entry) → Answers c.read d (structure_from p c) → Answers c.read e (structure_from p c)
        own d a =
            let both : some e ≡ some d = sym q ∙ answers_only c.read formed d (structure_from p c) a in
            let one : e ≡ d = cc in
            rw one a

  not_invented_sum : InventedSum p → ⊥
  not_invented_sum wrong = wrong.1 (sum_written wrong.0)

  -- what demand 3 says of a cell that no expression reaches
  module _ (c : FreeCell p) where
    zero_elsewhere : (ToItself c.call.read c.symbol → ⊥) → Unfilled c.call.read c.symbol → held_in p c ≡ 0
    zero_elsewhere other none = (given c.call).unreached.zero c.symbol c.there other none c.args c.inside c.free

    own_kept : ToItself c.call.read c.symbol → held_in p c ≡ at c.args 0
    own_kept itself =
        of_one_argument (structure_from p c.call).size (symbol_of p c).result (symbol_of p c).params itself
        (λ xs. Unreached c.call.read (structure_from p c.call) c.symbol xs → (structure_from p c.call).table c.symbol xs ≡ at xs 0)
        (λ x l free. (given c.call).unreached.kept c.symbol c.there itself x l free) c.args c.inside c.free

  not_keeps_across : KeepsAcross p → ⊥
  not_keeps_across wrong =
      let c = wrong.0 in
      wrong.6 (zero_elsewhere c (λ itself. wrong.4 (heads wrong.2 (symbol_of p c).result (sym wrong.3 ∙ itself))) wrong.1)
    where
      heads : (s r : ℕ) → s ∷ [] ≡ r ∷ [] → s ≡ r
      heads s r e = cc

  not_keeps_of_two : KeepsOfTwo p → ⊥
  not_keeps_of_two wrong =
      wrong.4 (zero_elsewhere wrong.0 (λ itself. let one = ap length itself in omega (arith, wrong.2)) wrong.1)

  not_overwrites : Overwrites p → ⊥
  not_overwrites wrong = wrong.5 (code_written wrong.0 wrong.1 wrong.2 wrong.3 wrong.4)

  not_still_zero : StillZero p → ⊥
  not_still_zero wrong = wrong.3 (sym (own_kept wrong.0 wrong.1) ∙ wrong.2)

  -- what it says of one whose name has a fill
  filled_in : (c : FilledCell p) → (ToItself c.cell.call.read c.cell.symbol → ⊥) → held_in p c.cell ≡ filling_of p c
  filled_in c other =
      let sh = c.cell.call.read in
      let M = structure_from p c.cell.call in
      subst (λ (f : ℕ). (ToItself sh f → ⊥) → InSorts M.size (symbol_at sh f).params c.cell.args → Unreached sh M f c.cell.args → M.table f c.cell.args ≡ filling_of p c) c.same
      (λ o i free. (given c.cell.call).unreached.filled c.fill c.given o c.cell.args i free) other c.cell.inside c.cell.free

  not_fills_reached : FillsReached p → ⊥
  not_fills_reached wrong = wrong.9 (sym wrong.8 ∙ code_written wrong.0 wrong.1 wrong.2 wrong.3 wrong.4)

  not_fill_wins : FillWins p → ⊥
  not_fill_wins wrong = wrong.3 (sym wrong.2 ∙ own_kept wrong.0.cell wrong.1)

  not_fills_with_number : FillsWithNumber p → ⊥
  not_fills_with_number wrong = wrong.3 (sym wrong.2 ∙ filled_in wrong.0 wrong.1)

  not_takes_second_fill : TakesSecondFill p → ⊥
  not_takes_second_fill wrong =
      let s = wrong.0 in
      let cs = wrong.1 in
      let ts = wrong.2 in
      let r : Err (refusal 16 wrong.3) ≡ Ok wrong.5 =
      sym (exit s cs ts (turned_down 16 wrong.3) (outcome_refused s 16 wrong.3 (length cs) (length ts) wrong.4)).result ∙ sym (meets s cs ts).result ∙ wrong.6 in
      let z : ◌≡◌ {A = ℕ} 0 1 = cc in
      omega arith

-- ---- read
row1_accepted : verdict (reading row1.sheet) ≡ Ok tt
unfolding verdict reading read_from cause
row1_accepted = refl

not_refuses_every_sheet : (p : ReadProgram) → MeetsRead p → RefusesEverySheet p → ⊥
not_refuses_every_sheet p meets wrong =
    let r = wrong row1.sheet in
    let e : Ok tt ≡ Err (refusal r.0 r.1) = sym row1_accepted ∙ sym (meets row1.sheet) ∙ r.2 in
    let z : ◌≡◌ {A = ℕ} 0 1 = cc in
    omega arith

not_refuses_no_bytes : (p : ReadProgram) → MeetsRead p → RefusesNoBytes p → ⊥
unfolding verdict
not_refuses_no_bytes p meets wrong =
    let e : Ok tt ≡ Err (refusal wrong.0 wrong.1) = sym (ap verdict empty_sheet.reads) ∙ sym (meets []) ∙ wrong.2 in
    let z : ◌≡◌ {A = ℕ} 0 1 = cc in
    omega arith

not_sixteen_before_seven : (p : ReadProgram) → MeetsRead p → SixteenBeforeSeven p → ⊥
unfolding verdict
not_sixteen_before_seven p meets wrong =
    let s = wrong.0 in
    let z : ◌≡◌ {A = ℕ} 7 16 = same_number {A = Unit {0}} (refusal 7 wrong.1) (refusal 16 wrong.3) (sym (ap verdict wrong.2) ∙ sym (meets s) ∙ wrong.4) in
    omega arith

-- ---- judge
-- tables of one field that has one code, and two: the first fit, the second are out of bounds
row1_fits : judgement row1.sheet (1 ∷ []) ≡ Ok Fits
unfolding judgement judged well_laid in_bounds reading read_from cause
row1_fits = refl

row1_out : judgement row1.sheet (2 ∷ []) ≡ Ok OutOfBounds
unfolding judgement judged well_laid in_bounds reading read_from cause
row1_out = refl

not_fixed_judgement : (p : JudgeProgram) (r : Result Judgement Refusal) → MeetsJudge p → FixedJudgement p r → ⊥
unfolding well_laid reading read_from cause
not_fixed_judgement p r meets wrong =
    let fits : Ok Fits ≡ r = sym row1_fits ∙ sym (meets row1.sheet (1 ∷ [])) ∙ wrong row1.sheet (1 ∷ []) (sheet_of row1) refl ((well_laid_test (sheet_of row1) (1 ∷ [])).0 refl) in
    let out : Ok OutOfBounds ≡ r = sym row1_out ∙ sym (meets row1.sheet (2 ∷ [])) ∙ wrong row1.sheet (2 ∷ []) (sheet_of row1) refl ((well_laid_test (sheet_of row1) (2 ∷ [])).0 refl) in
    let z : ◌≡◌ {A = ℕ} 0 1 = cc in
    omega arith

not_passes_tables_for_no_bytes : (p : JudgeProgram) → MeetsJudge p → PassesTablesForNoBytes p → ⊥
not_passes_tables_for_no_bytes p meets wrong = wrong.1 ((empty_sheet.fits wrong.0).0 (sym (meets [] wrong.0) ∙ wrong.2))

-- ---- group
-- worked sheet 10, in which expression 2 is forced together with 0
not_gives_itself : (p : GroupProgram) → MeetsGroup p → GivesItself p → ⊥
not_gives_itself p meets wrong =
    let lower = (group-worked.answers_twice).2 in
    let n = number_named group-worked.twice 2 0 lower in
    let e : ◌≡◌ {A = Result ℕ Refusal} (Ok 2) (Ok 0) = sym (wrong group-worked.twice n.sheet 2 n.reads n.there) ∙ meets group-worked.twice 2 ∙ lower in
    let z : ◌≡◌ {A = ℕ} 2 0 = cc in
    omega arith

not_gives_highest : (p : GroupProgram) → MeetsGroup p → GivesHighest p → ⊥
not_gives_highest p meets wrong =
    let lower = (group-worked.answers_twice).2 in
    let n = number_named group-worked.twice 2 0 lower in
    let forced = ((answer_exactly group-worked.twice n.sheet n.reads 2 n.there 0).0 lower).forced in
    let own = meets group-worked.twice 0 ∙ (group-worked.answers_twice).0 in
    omega (arith, wrong group-worked.twice n.sheet 0 0 n.reads (omega (arith, n.there)) own 2 n.there (λ M interprets sat. sym (forced M interprets sat)))

-- worked sheet 11
not_one_round : (p : GroupProgram) → MeetsGroup p → OneRound p → ⊥
not_one_round p meets wrong =
    let lower = group-worked.answers_repeatedly in
    let n = number_named group-worked.repeatedly 1 0 lower in
    let e = sym (wrong group-worked.repeatedly n.sheet 1 n.reads n.there) ∙ meets group-worked.repeatedly 1 ∙ lower in
    let one : ◌≡◌ {A = Result ℕ Refusal} (Ok 1) (Ok 0) = sym (ap Ok (group-worked.one_round n.sheet n.reads)) ∙ e in
    let z : ◌≡◌ {A = ℕ} 1 0 = cc in
    omega arith

not_counts_differ : (p : GroupProgram) → MeetsGroup p → CountsDiffer p → ⊥
not_counts_differ p meets wrong =
    let alike = answered_alike wrong.read wrong.read_other wrong.same wrong.sheet wrong.other wrong.term wrong.reads wrong.reads_other in
    wrong.differs (meets wrong.sheet wrong.term ∙ alike ∙ sym (meets wrong.other wrong.term))

-- the longest sheet
not_six_bits : (p : GroupProgram) → MeetsGroup p → SixBits p → ⊥
not_six_bits p meets wrong = omega (arith, wrong longest_bytes 127 127 (meets longest_bytes 127 ∙ last_alone))

not_highest_bit : (p : GroupProgram) → MeetsGroup p → HighestBit p → ⊥
not_highest_bit p meets wrong = omega (arith, wrong.4, number_small wrong.0 wrong.1 wrong.2 (sym (meets wrong.0 wrong.1) ∙ wrong.3))

-- THEOREM: the wrong programs are refuted
pub refuted : Refuted
refuted =
    record {
      eleven_for_all = not_eleven_for_all;
      never_looks = not_never_looks;
      eleven_before_looking = not_eleven_before_looking;
      same_tables = not_same_tables;
      no_code_written = not_no_code_written;
      no_table_written = not_no_table_written;
      other_sizes_zero = not_other_sizes_zero;
      other_codes_zero = not_other_codes_zero;
      invented_sum = not_invented_sum;
      keeps_across = not_keeps_across;
      keeps_of_two = not_keeps_of_two;
      overwrites = not_overwrites;
      still_zero = not_still_zero;
      fills_reached = not_fills_reached;
      fill_wins = not_fill_wins;
      fills_with_number = not_fills_with_number;
      takes_second_fill = not_takes_second_fill;
      refuses_every_sheet = not_refuses_every_sheet;
      refuses_no_bytes = not_refuses_no_bytes;
      sixteen_before_seven = not_sixteen_before_seven;
      fixed_judgement = not_fixed_judgement;
      passes_tables_for_no_bytes = not_passes_tables_for_no_bytes;
      fixed_forcing = λ p r meets wrong. no_fixed_reply r (λ s sh a b q t. sym (wrong s a b sh q t) ∙ meets s a b);
      gives_itself = not_gives_itself;
      gives_highest = not_gives_highest;
      one_round = not_one_round;
      counts_differ = not_counts_differ;
      six_bits = not_six_bits;
      highest_bit = not_highest_bit;
    }
