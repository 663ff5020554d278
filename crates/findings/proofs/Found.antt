-- What find or find_at left, and the line that shows it; and that buffers longer than they can need make no difference.
use Prim.Native.Nat.{ℕ, ◌≤◌, min}
use native.Mathlib.Omega.{arith}
use mathlib.Core.Path.{◌≡◌, refl, sym, ap, ap₂, ◌∙◌, subst}
use mathlib.Core.Bool.{Bool, true, false, ◌||◌}
use mathlib.Core.List.{List}
use mathlib.Core.Option.{Option, none, some}
use lib.ListN.{length, take, drop, length-append}
use Rattle.std.specs.Prelude.{Result, Ok, Err, IsOk}
use Rattle.prelude.specs.Causes.{number_of, cause_of, refusal}
use Rattle.prelude.specs.declared.refusal.Refusal.{Refusal}
use Rattle.logic.specs.Sheet.{Sheet}
use Rattle.logic.specs.WellFormed.{WellFormed}
use Rattle.logic.proofs.Meaning.{length_codes}
use Rattle.prelude.specs.Lists.{at, fronted}
use Rattle.layout.specs.Layout.{Reading, accepted, refused, reading}
use Rattle.layout.proofs.Answers.{accepted_well_formed, refused_number}
use Rattle.sheet.specs.Verdict.{parsing}
use Rattle.layout.specs.declared.Parsed.{Parsed}
use Rattle.sheet.proofs.Refusals.{in_sheet}
use Rattle.tables.specs.Layout.{extent, encoded}
use Rattle.tables.specs.Parts.{Packs}
use Rattle.tables.proofs.Packing.{packs_views}
use Rattle.tables.proofs.Longest.{extent_few}
use Rattle.answer.specs.Answer.{Entry, answer_at, answer, sum, structure_of}
use Rattle.answer.specs.Demand.{AnswersAt}
use Rattle.answer.proofs.Listing.{answer_at_lem, answer_sizes}
use Rattle.answer.proofs.Demand.{demand_at}
use Rattle.find_at.specs.Found.{Outcome, turned_down, answered, ceilings, short, answering, finds, codes_in, tables_in}
use Rattle.find_at.specs.FindAt.{candidate_sizes, at_sizes, consider_at, outcome_at, finding_at, codes_after_at, tables_after_at}
use Rattle.find_at.proofs.Sizes.{candidate_sizes_test}
use Rattle.find_at.proofs.Delivery.{told, written, whole}
use Rattle.finder.specs.Find.{consider, outcome, finding, codes_after, tables_after}
use Rattle.text.specs.Text.{answer_line}
use Rattle.lines.specs.Lines.{refusal_line}
use Rattle.questions.proofs.Asking.{cut_test, accepted_packs}
use Rattle.findings.specs.Findings.{find_line}
use Rattle.findings.specs.Parts.{Own, Leaves}

-- what the test of both buffers makes of a call on a sheet that was read
abbrev branch : Bool → Outcome → Outcome
branch b o = elim b [ true ↦ turned_down 10 0 | false ↦ o ]

-- buffers longer than can be needed make no difference
cut_short : (sh : Sheet) → WellFormed sh → (nc nt : ℕ) → short sh (min nc 128) (min nt 16392) ≡ short sh nc nt
cut_short sh w nc nt =
    ap₂ (λ (a b : Bool). a || b) (cut_test nc 128 (length sh.terms) w.terms)
    (cut_test nt 16392 (extent sh (ceilings sh)) (extent_few sh w (ceilings sh) (λ i b. (w.ceiling i b).1)))

pub cut_outcome : (s : List ℕ) (nc nt : ℕ) → outcome s (min nc 128) (min nt 16392) ≡ outcome s nc nt
unfolding outcome
cut_outcome s nc nt = step (reading s) refl
  where
    step : (r : Reading) → reading s ≡ r → consider r (min nc 128) (min nt 16392) ≡ consider r nc nt
    step (refused n i) q = refl
    step (accepted sh) q = ap (λ (b : Bool). branch b (answering sh (answer sh))) (cut_short sh (accepted_well_formed s sh q) nc nt)

pub cut_outcome_at : (s z : List ℕ) (nc nt : ℕ) → outcome_at s z (min nc 128) (min nt 16392) ≡ outcome_at s z nc nt
unfolding outcome_at
cut_outcome_at s z nc nt = step (reading s) refl
  where
    step : (r : Reading) → reading s ≡ r → consider_at r z (min nc 128) (min nt 16392) ≡ consider_at r z nc nt
    step (refused n i) q = refl
    step (accepted sh) q = ap (λ (b : Bool). branch b (at_sizes sh z)) (cut_short sh (accepted_well_formed s sh q) nc nt)

-- an answer is one to the sheet that was read
abbrev Answered : Sheet → Entry → Type 0
Answered sh e = (z : List ℕ) × AnswersAt sh z e (structure_of sh e)

module _ (s : List ℕ) (t : Sheet) (e : Entry) where
  own_answer : (sh : Sheet) → reading s ≡ accepted sh → (a : Option Entry) → ((d : Entry) → a ≡ some d → Answered sh d) → answering sh a ≡ answered t e → Own s t e
  own_answer sh q none given g = let no : ◌≡◌ {A = ℕ} 0 1 = cc in absurd (omega arith)
  own_answer sh q (some d) given g =
      let same : sh ≡ t = cc in
      let entry : d ≡ e = cc in
      let own : Own s sh d = record { reads = q; sizes = (given d refl).0; answers = (given d refl).1 } in
      subst (λ (x : Sheet). Own s x e) same (subst (λ (x : Entry). Own s sh x) entry own)

  own_found : (nc nt : ℕ) → outcome s nc nt ≡ answered t e → Own s t e
  unfolding outcome
  own_found nc nt f = step (reading s) refl f
    where
      given : (sh : Sheet) → WellFormed sh → (d : Entry) → answer sh ≡ some d → Answered sh d
      given sh w d a = (d.sizes, (demand_at sh w d.sizes (answer_sizes sh w d a)).finds d (answer_at_lem sh w d a))

      tested : (sh : Sheet) → reading s ≡ accepted sh → (b : Bool) → branch b (answering sh (answer sh)) ≡ answered t e → Own s t e
      tested sh q true g = let no : ◌≡◌ {A = ℕ} 0 1 = cc in absurd (omega arith)
      tested sh q false g = own_answer sh q (answer sh) (given sh (accepted_well_formed s sh q)) g

      step : (r : Reading) → reading s ≡ r → consider r nc nt ≡ answered t e → Own s t e
      step (refused n i) q g = let no : ◌≡◌ {A = ℕ} 0 1 = cc in absurd (omega arith)
      step (accepted sh) q g = tested sh q (short sh nc nt) g

  own_found_at : (z : List ℕ) (nc nt : ℕ) → outcome_at s z nc nt ≡ answered t e → Own s t e
  unfolding outcome_at
  own_found_at z nc nt f = step (reading s) refl f
    where
      right : (sh : Sheet) → reading s ≡ accepted sh → (b : Bool) → candidate_sizes sh z ≡ b → elim b as (λ x. Outcome) [ true ↦ answering sh (answer_at sh z) | false ↦ turned_down 17 0 ] ≡ answered t e → Own s t e
      right sh q true k g = own_answer sh q (answer_at sh z) (λ d a. (z, (demand_at sh (accepted_well_formed s sh q) z ((candidate_sizes_test sh z).0 k)).finds d a)) g
      right sh q false k g = let no : ◌≡◌ {A = ℕ} 0 1 = cc in absurd (omega arith)

      tested : (sh : Sheet) → reading s ≡ accepted sh → (b : Bool) → branch b (at_sizes sh z) ≡ answered t e → Own s t e
      tested sh q true g = let no : ◌≡◌ {A = ℕ} 0 1 = cc in absurd (omega arith)
      tested sh q false g = right sh q (candidate_sizes sh z) refl g

      step : (r : Reading) → reading s ≡ r → consider_at r z nc nt ≡ answered t e → Own s t e
      step (refused n i) q g = let no : ◌≡◌ {A = ℕ} 0 1 = cc in absurd (omega arith)
      step (accepted sh) q g = tested sh q (short sh nc nt) g

-- a call is turned down with the number of a cause
module _ (s : List ℕ) (n i : ℕ) where
  number_known : (m j : ℕ) → turned_down m j ≡ turned_down n i → number_of (cause_of m) ≡ m → number_of (cause_of n) ≡ n
  number_known m j e k = let same : m ≡ n = cc in subst (λ (x : ℕ). number_of (cause_of x) ≡ x) same k

  known_answering : (sh : Sheet) (a : Option Entry) → answering sh a ≡ turned_down n i → number_of (cause_of n) ≡ n
  known_answering sh none g = number_known 11 0 g refl
  known_answering sh (some d) g = cc

  known_found : (nc nt : ℕ) → outcome s nc nt ≡ turned_down n i → number_of (cause_of n) ≡ n
  unfolding outcome
  known_found nc nt f = step (reading s) refl f
    where
      tested : (sh : Sheet) (b : Bool) → branch b (answering sh (answer sh)) ≡ turned_down n i → number_of (cause_of n) ≡ n
      tested sh true g = number_known 10 0 g refl
      tested sh false g = known_answering sh (answer sh) g

      step : (r : Reading) → reading s ≡ r → consider r nc nt ≡ turned_down n i → number_of (cause_of n) ≡ n
      step (refused m j) q g = number_known m j g (in_sheet m (refused_number s m j q))
      step (accepted sh) q g = tested sh (short sh nc nt) g

  known_found_at : (z : List ℕ) (nc nt : ℕ) → outcome_at s z nc nt ≡ turned_down n i → number_of (cause_of n) ≡ n
  unfolding outcome_at
  known_found_at z nc nt f = step (reading s) refl f
    where
      right : (sh : Sheet) (b : Bool) → elim b as (λ x. Outcome) [ true ↦ answering sh (answer_at sh z) | false ↦ turned_down 17 0 ] ≡ turned_down n i → number_of (cause_of n) ≡ n
      right sh true g = known_answering sh (answer_at sh z) g
      right sh false g = number_known 17 0 g refl

      tested : (sh : Sheet) (b : Bool) → branch b (at_sizes sh z) ≡ turned_down n i → number_of (cause_of n) ≡ n
      tested sh true g = number_known 10 0 g refl
      tested sh false g = right sh (candidate_sizes sh z) g

      step : (r : Reading) → reading s ≡ r → consider_at r z nc nt ≡ turned_down n i → number_of (cause_of n) ≡ n
      step (refused m j) q g = number_known m j g (in_sheet m (refused_number s m j q))
      step (accepted sh) q g = tested sh (short sh nc nt) g

-- what a call leaves, by its contract
pub find_leaves : (s cs ts cs' ts' : List ℕ) (r : Result ℕ Refusal) → r ≡ finding s (length cs) (length ts) → cs' ≡ codes_after s cs ts → ts' ≡ tables_after s cs ts → Leaves s (outcome s (length cs) (length ts)) r cs' ts'
unfolding finding codes_after tables_after
find_leaves s cs ts cs' ts' r a b c =
    record {
      codes_before = cs;
      tables_before = ts;
      result = a;
      codes = b;
      tables = c;
      own = λ sh e. own_found s sh e (length cs) (length ts);
      known = λ n i. known_found s n i (length cs) (length ts);
    }

pub find_at_leaves : (s z cs ts cs' ts' : List ℕ) (r : Result ℕ Refusal) → r ≡ finding_at s z (length cs) (length ts) → cs' ≡ codes_after_at s z cs ts → ts' ≡ tables_after_at s z cs ts → Leaves s (outcome_at s z (length cs) (length ts)) r cs' ts'
unfolding finding_at codes_after_at tables_after_at
find_at_leaves s z cs ts cs' ts' r a b c =
    record {
      codes_before = cs;
      tables_before = ts;
      result = a;
      codes = b;
      tables = c;
      own = λ sh e. own_found_at s sh e z (length cs) (length ts);
      known = λ n i. known_found_at s n i z (length cs) (length ts);
    }

-- a refusal's line
pub refused_line : (s : List ℕ) (o : Outcome) (r : Result ℕ Refusal) (cs ts : List ℕ) → Leaves s o r cs ts → (q : Refusal) → r ≡ Err q → refusal_line (number_of q.cause) q.place ≡ find_line o
refused_line s o r cs ts l q e = step o refl (sym l.result ∙ e)
  where
    step : (x : Outcome) → o ≡ x → finds x ≡ Err q → refusal_line (number_of q.cause) q.place ≡ find_line o
    step (turned_down m j) y f =
        let same : q ≡ refusal m j = cc in
        ap (λ (p : Refusal). refusal_line (number_of p.cause) p.place) same
        ∙ ap (λ (n : ℕ). refusal_line n j) (l.known m j y)
        ∙ ap find_line (sym y)
    step (answered sh d) y f = cc

-- where something was found: the sheet, the entry, and the sum of its sizes
record Has (o : Outcome) (n : ℕ) : Type 0 where
  sheet : Sheet
  entry : Entry
  is : o ≡ answered sheet entry
  total : sum entry.sizes ≡ n

has : (o : Outcome) (n : ℕ) → finds o ≡ Ok n → Has o n
has (turned_down m i) n q = cc
has (answered sh e) n q = record { sheet = sh; entry = e; is = refl; total = cc }

-- something was found on a sheet that is accepted
pub parse_ok : (s : List ℕ) (o : Outcome) (r : Result ℕ Refusal) (cs ts : List ℕ) → Leaves s o r cs ts → (n : ℕ) → r ≡ Ok n → (x : Result Parsed Refusal) → x ≡ parsing (reading s) → IsOk x
unfolding parsing
parse_ok s o r cs ts l n e x f =
    let h = has o n (sym l.result ∙ e) in
    subst (λ (y : Result Parsed Refusal). IsOk y) (sym (f ∙ ap parsing (l.own h.sheet h.entry h.is).reads)) refl

-- what was found stands in front of both buffers, and the answer's line shows it; the sheet is parsed anew, to see how far it goes
module _ (s : List ℕ) (o : Outcome) (r : Result ℕ Refusal) (cs ts : List ℕ) (l : Leaves s o r cs ts) (n : ℕ) (e : r ≡ Ok n) (p : Parsed) (x : Ok p ≡ parsing (reading s)) where
  found : Has o n
  found = has o n (sym l.result ∙ e)

  abbrev sh : Sheet
  sh = found.sheet

  own : Own s sh found.entry
  own = l.own sh found.entry found.is

  formed : WellFormed sh
  formed = accepted_well_formed s sh own.reads

  packs : Packs sh p
  packs = accepted_packs s p x sh own.reads

  codes_front : cs ≡ fronted found.entry.codes l.codes_before
  codes_front = l.codes ∙ ap (λ (y : Outcome). codes_in y l.codes_before) found.is

  tables_front : ts ≡ fronted (encoded (structure_of sh found.entry) sh) l.tables_before
  tables_front = l.tables ∙ ap (λ (y : Outcome). tables_in y l.tables_before) found.is

  terms : p.terms ≡ length sh.terms
  terms = (packs_views sh p packs).terms

  long : length found.entry.codes ≡ length sh.terms
  long = ap length (sym own.answers.codes) ∙ length_codes (structure_of sh found.entry) sh

  pub codes_shown : p.terms ≤ length cs
  codes_shown =
      omega (arith, terms, long, ap length codes_front, length-append found.entry.codes (drop (length found.entry.codes) l.codes_before))

  codes_told : take p.terms cs ≡ found.entry.codes
  codes_told =
      ap (λ (m : ℕ). take m cs) terms ∙ told sh formed own.sizes found.entry own.answers l.codes_before l.tables_before cs ts codes_front tables_front

  module _ (end : ℕ) (y : (t : Sheet) → Packs t p → end ≡ extent t (at ts)) where
    pub tables_shown : end ≤ length ts
    tables_shown =
        omega (arith, y sh packs, (whole sh formed own.sizes found.entry own.answers l.codes_before l.tables_before cs ts codes_front tables_front).1)

    tables_told : take end ts ≡ encoded (structure_of sh found.entry) sh
    tables_told =
        ap (λ (m : ℕ). take m ts) (y sh packs)
        ∙ written sh formed own.sizes found.entry own.answers l.codes_before l.tables_before cs ts codes_front tables_front

    pub found_line : answer_line n (take p.terms cs) (take end ts) ≡ find_line o
    found_line =
        ap (λ (m : ℕ). answer_line m (take p.terms cs) (take end ts)) (sym found.total)
        ∙ ap₂ (answer_line (sum found.entry.sizes)) codes_told tables_told
        ∙ ap find_line (sym found.is)
