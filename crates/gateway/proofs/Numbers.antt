-- Sums, places and statement numbers are small, so that every answer fits one number of 32 bits.
use Prim.Native.Nat.{ℕ, ◌≤◌, ◌<◌}
use native.Mathlib.Decide.{dec_le}
use native.Mathlib.Omega.{arith}
use mathlib.Core.Path.{◌≡◌, refl, ap}
use mathlib.Core.Bool.{Bool, true, false}
use mathlib.Core.List.{List}
use mathlib.Core.Option.{Option, none, some}
use lib.ListN.{length}
use lib.Dec.{ltb}
use Rattle.std.specs.Prelude.{Ok, Err}
use Rattle.prelude.specs.Causes.{refusal}
use Rattle.prelude.specs.declared.refusal.Refusal.{Refusal}
use Rattle.layout.specs.Layout.{Reading, accepted, refused, reading}
use Rattle.layout.proofs.Answers.{refused_place, accepted_well_formed}
use Rattle.layout.proofs.Records.{reading_long}
use Rattle.logic.specs.Sheet.{Sheet}
use Rattle.answer.specs.Answer.{Entry, answer, answer_at, sum}
use Rattle.answer.specs.Demand.{CandidateSizes}
use Rattle.answer.proofs.Demand.{accepted_demand, accepted_demand_at}
use Rattle.sizes.specs.Sizing.{Outcome as Sizing-as-Outcome, answering as Sizing·answering, consider as Sizing·consider, outcome as Sizing·outcome, gives, sizing}
use Rattle.find_at.specs.Found.{Outcome, short, answering, finds}
use Rattle.find_at.specs.FindAt.{candidate_sizes, consider_at, outcome_at, finding_at}
use Rattle.find_at.proofs.Sizes.{candidate_sizes_test}
use Rattle.finder.specs.Find.{consider, outcome, finding}
use Rattle.judge.specs.Judge.{judgement, judged_of}
use Rattle.judge.proofs.Judged.{judged_says}
use Rattle.tables.specs.declared.Judgement.TheVariants.{Broken}
use Rattle.gateway.specs.Number.{Small}

-- a refused sheet's place is small
pub reading_place : (s : List ℕ) (n i : ℕ) → reading s ≡ refused n i → i ≤ 4096
reading_place s n i e = by (dec_le (length s) 4096)
  where
    by : Dec (length s ≤ 4096) → i ≤ 4096
    by (yes h) = omega (arith, refused_place s n i e)
    by (no h) = let z : i ≡ 0 = cc (reading_long s (omega arith)) in omega arith

pub judge_place : (s t : List ℕ) (r : Refusal) → judgement s t ≡ Err r → r.place < 65536
unfolding judgement
judge_place s t r e = by (reading s) refl e
  where
    by : (x : Reading) → reading s ≡ x → judged_of x t ≡ Err r → r.place < 65536
    by (accepted sh) q z = omega (arith, ((judged_says sh t (Err r)).0 z).1)
    by (refused m j) q z =
        let same : refusal m j ≡ r = cc in
        omega (arith, reading_place s m j q, ap (λ (y : Refusal). y.place) same)

pub judge_broken : (s t : List ℕ) (k : ℕ) → judgement s t ≡ Ok (Broken k) → k < 128
unfolding judgement
judge_broken s t k e = by (reading s) refl e
  where
    by : (r : Reading) → reading s ≡ r → judged_of r t ≡ Ok (Broken k) → k < 128
    by (accepted sh) q z = omega (arith, ((judged_says sh t (Ok (Broken k))).0 z).2, (accepted_well_formed s sh q).literals)
    by (refused m j) q z = cc

-- Find, sizes and find_at go the same way: a refused sheet, then refusals whose place is 0, then the sum of an answer. P holds of what comes of a call
-- where it holds of each of these.
module _ {A : Type 0} (P : A → Type 0) where
  by_reading : (s : List ℕ) (go : Reading → A) → ((n i : ℕ) → i < 65536 → P (go (refused n i))) → ((sh : Sheet) → reading s ≡ accepted sh → P (go (accepted sh))) → P (go (reading s))
  by_reading s go down on = by (reading s) refl
    where
      by : (r : Reading) → reading s ≡ r → P (go r)
      by (refused n i) q = down n i (omega (arith, reading_place s n i q))
      by (accepted sh) q = on sh q

  by_test : (b : Bool) (x y : A) → (b ≡ true → P x) → (b ≡ false → P y) → P (elim b as (λ z. A) [ true ↦ x | false ↦ y ])
  by_test true x y h k = h refl
  by_test false x y h k = k refl

  by_answer : (a : Option Entry) (go : Option Entry → A) → P (go none) → ((e : Entry) → a ≡ some e → P (go (some e))) → P (go a)
  by_answer none go h k = h
  by_answer (some e) go h k = k e refl

-- the sum of an answer, and of one at given sizes, is at most the greatest total
module _ (s : List ℕ) (sh : Sheet) (q : reading s ≡ accepted sh) where
  answer_sum : (e : Entry) → answer sh ≡ some e → sum e.sizes ≤ 128
  answer_sum e p =
      let a = (accepted_demand s sh q).finds e p in
      omega (arith, a.sum, a.candidate.bounded.total, (accepted_well_formed s sh q).total)

  answer_at_sum : (z : List ℕ) → CandidateSizes sh z → (e : Entry) → answer_at sh z ≡ some e → sum e.sizes ≤ 128
  answer_at_sum z c e p =
      let a = (accepted_demand_at s sh q z c).finds e p in
      omega (arith, a.sum, a.candidate.bounded.total, (accepted_well_formed s sh q).total)

-- of what find and find_at make of an outcome
abbrev SmallFound : Outcome → Type 0
SmallFound o = Small (finds o)

pub find_small : (s : List ℕ) (nc nt : ℕ) → Small (finding s nc nt)
unfolding finding outcome
find_small s nc nt =
    by_reading SmallFound s (λ r. consider r nc nt) (λ n i h. h)
    (λ sh q. by_test SmallFound (short sh nc nt) _ _ (λ t. omega arith)
    (λ t. by_answer SmallFound (answer sh) (answering sh) (omega arith) (answer_sum s sh q)))

pub find_at_small : (s z : List ℕ) (nc nt : ℕ) → Small (finding_at s z nc nt)
unfolding finding_at outcome_at
find_at_small s z nc nt =
    by_reading SmallFound s (λ r. consider_at r z nc nt) (λ n i h. h)
    (λ sh q. by_test SmallFound (short sh nc nt) _ _ (λ t. omega arith)
    (λ t. by_test SmallFound (candidate_sizes sh z) _ _
    (λ u. by_answer SmallFound (answer_at sh z) (answering sh) (omega arith) (answer_at_sum s sh q z ((candidate_sizes_test sh z).0 u)))
    (λ u. omega arith)))

-- of what sizes makes of an outcome
abbrev SmallSized : Sizing-as-Outcome → Type 0
SmallSized o = Small (gives o)

pub sizes_small : (s : List ℕ) (room : ℕ) → Small (sizing s room)
unfolding sizing Sizing·outcome
sizes_small s room =
    by_reading SmallSized s (λ r. Sizing·consider r room) (λ n i h. h)
    (λ sh q. by_test SmallSized (ltb room (length sh.bounds)) _ _ (λ t. omega arith)
    (λ t. by_answer SmallSized (answer sh) Sizing·answering (omega arith) (answer_sum s sh q)))
