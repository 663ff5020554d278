-- What becomes of a call, case by case, and what that makes of the result and the buffer; by what the search shows of a parsed sheet.
use Prim.Native.Nat.{ℕ, ◌≤◌, ◌<◌}
use native.Mathlib.Omega.{arith}
use mathlib.Core.Path.{◌≡◌, refl, ap, sym, ◌∙◌}
use mathlib.Core.Bool.{Bool, true, false}
use mathlib.Core.List.{List}
use Rattle.std.specs.Prelude.{Result, Ok, Err}
use Rattle.prelude.specs.Causes.{refusal}
use mathlib.Core.Option.{Option, none, some}
use lib.ListN.{length}
use borrow.Author.Tests.{le-ltb, lt-ltb}
use Rattle.prelude.specs.Lists.{at, sum_to, firsts, fronted}
use Rattle.logic.specs.Sheet.{Sheet}
use Rattle.layout.specs.Layout.{Reading, accepted, refused, reading}
use Rattle.layout.specs.Packed.{view}
use Rattle.layout.specs.Views.{Views}
use Rattle.layout.specs.declared.Parsed.{Parsed}
use Rattle.sheet.specs.Verdict.{ReadFrom, parsing}
use Rattle.sheet.proofs.Verdicts.{parsed_refuses}
use Rattle.tables.specs.Parts.{Packs, Limited}
use Rattle.tables.proofs.Packing.{packs_views}
use Rattle.tables.proofs.Whole.{packs_limited}
use Rattle.consistency.specs.Searchable.{Searchable}
use Rattle.judge.proofs.Questions.{read_packs}
use Rattle.answer.specs.Answer.{Entry, answer, sum}
use Rattle.answer.proofs.Joint.{unsatisfiable_none, least_sizes_answer}
use Rattle.answer.proofs.Listing.{sum_firsts}
use Rattle.answer.proofs.Searchable.{packs_searchable}
use Rattle.logic.specs.Problem.{Unsatisfiable}
use Rattle.least_sizes.specs.LeastSizes.{Least}
use Rattle.sizes.specs.Sizing.{Outcome, turned_down, sized, answering, consider, outcome, gives, sizing, sizes_in, sizes_after, Sizes}
use Rattle.prelude.specs.declared.refusal.Refusal.{Refusal}

-- a sheet that is refused
pub outcome_refused : (s : List ℕ) (n i room : ℕ) → reading s ≡ refused n i → outcome s room ≡ turned_down n i
unfolding outcome
outcome_refused s n i room q = ap (λ (r : Reading). consider r room) q

abbrev branch : Sheet → Bool → Outcome
branch sh b = elim b [ true ↦ turned_down 10 0 | false ↦ answering (answer sh) ]

-- cause 10
pub outcome_short : (s : List ℕ) (sh : Sheet) (room : ℕ) → reading s ≡ accepted sh → room < length sh.bounds → outcome s room ≡ turned_down 10 0
unfolding outcome
outcome_short s sh room q h = ap (λ (r : Reading). consider r room) q ∙ ap (branch sh) (lt-ltb room (length sh.bounds) h)

-- cause 11, or the sizes
pub outcome_long : (s : List ℕ) (sh : Sheet) (a : Option Entry) (room : ℕ) → reading s ≡ accepted sh → length sh.bounds ≤ room → answer sh ≡ a → outcome s room ≡ answering a
unfolding outcome
outcome_long s sh a room q h e = ap (λ (r : Reading). consider r room) q ∙ ap (branch sh) (le-ltb room (length sh.bounds) h) ∙ ap answering e

-- result and buffer by what became of the call
pub record Exit (s out : List ℕ) (o : Outcome) : Type 0 where
  pub result : sizing s (length out) ≡ gives o
  pub buffer : sizes_after s out ≡ sizes_in o out

pub exit : (s out : List ℕ) (o : Outcome) → outcome s (length out) ≡ o → Exit s out o
unfolding sizing sizes_after
exit s out o q = record { result = ap gives q; buffer = ap (λ (x : Outcome). sizes_in x out) q }

outcome_sizes : (s out out' : List ℕ) (r : Result ℕ Refusal) (o : Outcome) → outcome s (length out) ≡ o → r ≡ gives o → out' ≡ sizes_in o out → Sizes s out out' r
outcome_sizes s out out' r o q a b = let x = exit s out o q in record { result = a ∙ sym x.result; buffer = b ∙ sym x.buffer }

-- a refusal leaves the buffer
pub refusal_sizes : (s out : List ℕ) (n i : ℕ) → outcome s (length out) ≡ turned_down n i → Sizes s out out (Err (refusal n i))
refusal_sizes s out n i q = outcome_sizes s out out (Err (refusal n i)) (turned_down n i) q refl refl

-- what the parser refuses
pub parse_refused : (s out : List ℕ) (r : Refusal) → Err r ≡ parsing (reading s) → Sizes s out out (Err r)
parse_refused s out r e =
    let a = parsed_refuses s r e in
    rw a.same (refusal_sizes s out a.number a.place (outcome_refused s a.number a.place (length out) a.reads))

module _ (p : Parsed) (q : ReadFrom p) where
  abbrev sh : Sheet
  sh = q.sheet

  abbrev packs : Packs sh p
  packs = read_packs p q

  views : Views sh (view p)
  views = packs_views sh p packs

  pub limited : Limited p
  limited = packs_limited sh p packs

  pub searchable : Searchable p
  searchable = packs_searchable sh p packs

  module _ (out : List ℕ) where
    -- cause 10
    pub short_sizes : length out < p.sorts → Sizes q.bytes out out (Err (refusal 10 0))
    short_sizes h = refusal_sizes q.bytes out 10 0 (outcome_short q.bytes sh (length out) q.reads (omega (arith, views.sorts)))

    module _ (room : p.sorts ≤ length out) where
      fits : length sh.bounds ≤ length out
      fits = omega (arith, views.sorts)

      -- cause 11
      pub none_sizes : Unsatisfiable (view p) → Sizes q.bytes out out (Err (refusal 11 0))
      none_sizes n =
          refusal_sizes q.bytes out 11 0
          (outcome_long q.bytes sh none (length out) q.reads fits (unsatisfiable_none sh (view p) packs.formed views n))

      -- the least sizes are those of the answer
      pub least_sizes : (size : List ℕ) → Least (view p) (at size) → (out' : List ℕ) (n : ℕ) → out' ≡ fronted (firsts p.sorts (at size)) out → n ≡ sum_to p.sorts (at size) → Sizes q.bytes out out' (Ok n)
      least_sizes size l out' n b s =
          let c = l.satisfiable in
          let e = least_sizes_answer sh (view p) packs.formed views (at size) c.0 l.allowed c.1 (λ size' c' a k. (l.first size' a (c', k)).sum) (λ size' c' a k. (l.first size' a (c', k)).places) in
          let same : firsts p.sorts (at size) ≡ e.0.sizes = ap (λ (k : ℕ). firsts k (at size)) views.sorts ∙ sym e.2 in
          outcome_sizes q.bytes out out' (Ok n) (sized e.0.sizes)
          (outcome_long q.bytes sh (some e.0) (length out) q.reads fits e.1)
          (ap Ok (s ∙ sym (sum_firsts p.sorts (at size)) ∙ ap sum same))
          (b ∙ ap (λ (x : List ℕ). fronted x out) same)
