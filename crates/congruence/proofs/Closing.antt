-- The labels that the definition of the closure computes name the groups, so that `together` is `Forced` and the number of a group is its
-- lowest-numbered term. Each statement and each round is a step that makes groups one soundly; a round joins all terms that were alike before
-- it, so that labels which it leaves as they are are closed; and every other round leaves fewer groups.
use Prim.Native.Nat.{ℕ, zero, suc, ◌≤◌, ◌<◌, ◌+◌}
use native.Mathlib.Numerals.{add-one}
use native.Mathlib.Omega.{arith}
use native.Mathlib.Decide.{dec_lt, ℕ_discrete}
use mathlib.Core.Path.{◌≡◌, refl, ap, sym, ◌∙◌, subst}
use mathlib.Core.Bool.{Bool, true, false, false≢true, cond}
use mathlib.Core.Logic.{◌↔◌, ◌⊎◌, inl, inr}
use mathlib.Core.List.{List, [], ◌∷◌, map}
use lib.ListN.{length, length-map, get_or-eq_default}
use lib.Seq.{ext_get_or}
use lib.Dec.{eqb}
use borrow.Author.Tests.{eq-eqb, ne_eqb, eqb-true}
use Rattle.logic.specs.Sheet.{Sheet, term_at, literal_at}
use Rattle.prelude.specs.Tests.{Each, same_list}
use Rattle.prelude.specs.Lists.{at, sum_to, run}
use Rattle.prelude.proofs.Tests.{and_both, same_list_same, same_same_list}
use Rattle.prelude.proofs.Lists.{map_each, length_run, at_run, sum_to_monotone, sum_to_equal}
use Rattle.logic.specs.WellFormed.{WellFormed}
use Rattle.logic.specs.Problem.{Problem}
use Rattle.layout.specs.Packed.{packed, view, bit}
use Rattle.layout.specs.Views.{Views}
use Rattle.layout.proofs.AtMostTwo.{each_weaken, pair_map}
use Rattle.layout.proofs.View.{packed_views}
use Rattle.congruence.specs.Closure.{join, join_sides, alike, join_alike, for_each, stated, round, rounds, labels, group_of, together}
use Rattle.congruence.specs.Forced.{Forced, Representative, Labelled}
use Rattle.congruence.specs.Groups.{Lowest, Groups}
use Rattle.congruence.specs.Parts.{Joined, named, key, Closed, Coarsening}
use Rattle.congruence.specs.declared.Key.{Key}
use Rattle.congruence.proofs.Labels.{joined_map, joined_together, joined_step, step_none, step_more}
use Rattle.congruence.proofs.Sweeps.{named_there, StatedTo, stated_none, stated_same, stated_differ, stated_kept, labels_group, groups_unique}
use Rattle.congruence.proofs.Structures.{views_closable, same_arity, rule_sound, forced_labels, labels_forced}

join_joined : (l : List ℕ) (i j : ℕ) → Joined (at l) i j (at (join i j l))
join_joined l i j = joined_map l (join i j l) i j _ _ refl refl refl

-- what holds before the first turn, and is handed on by each, holds after the last
for_each_lem : (Holds : ℕ → List ℕ → Type 0) (f : ℕ → List ℕ → List ℕ) (l : List ℕ) (n : ℕ) → Holds 0 l → ((k : ℕ) → k < n → (m : List ℕ) → Holds k m → Holds (k + 1) (f k m)) → Holds n (for_each n f l)
for_each_lem Holds f l zero start more = start
for_each_lem Holds f l (suc n) start more =
    subst (λ (k : ℕ). Holds k (f n (for_each n f l))) (add-one n)
    (more n (omega arith) (for_each n f l) (for_each_lem Holds f l n start (λ k b. more k (omega arith))))

-- The number of labels stays.
length_for_each : (f : ℕ → List ℕ → List ℕ) → ((k : ℕ) (m : List ℕ) → length (f k m) ≡ length m) → (n : ℕ) (l : List ℕ) → length (for_each n f l) ≡ length l
length_for_each f keeps zero l = refl
length_for_each f keeps (suc n) l = keeps n (for_each n f l) ∙ length_for_each f keeps n l

length_join_if : (b : Bool) (i j : ℕ) (l : List ℕ) → length (cond b (join i j l) l) ≡ length l
length_join_if true i j l = length-map l _
length_join_if false i j l = refl

length_stated : (sh : Sheet) → length (stated sh) ≡ length sh.terms
unfolding stated
length_stated sh =
    length_for_each (λ k. join_sides (literal_at sh k)) (λ k m. length_join_if (literal_at sh k).equal _ _ m) (length sh.literals) _
    ∙ length_run 0 (length sh.terms)

length_round : (sh : Sheet) (l : List ℕ) → length (round sh l) ≡ length l
unfolding round
length_round sh l =
    length_for_each (λ j. for_each j (λ i. join_alike sh i j))
    (λ j. length_for_each (λ i. join_alike sh i j) (λ i m. length_join_if (alike sh m i j) i j m) j)
    (length sh.terms) l

-- At the start each term has its own number.
start_cases : (n i : ℕ) → (at (run 0 n) i ≡ i) ⊎ (at (run 0 n) i ≡ 0)
start_cases n i =
    elim (dec_lt i n) [
      | yes h ↦ inl (at_run 0 n i h ∙ omega arith)
      | no h ↦ inr (get_or-eq_default (run 0 n) 0 (omega (arith, length_run 0 n)))
    ]

start_lowest : (n : ℕ) → Lowest (at (run 0 n))
start_lowest n =
    let first : at (run 0 n) 0 ≡ 0 = elim (start_cases n 0) [ inl e ↦ e | inr e ↦ e ] in
    record {
      below = λ i b. elim (start_cases n i) [ inl e ↦ omega arith | inr e ↦ omega arith ];
      self = λ i b. elim (start_cases n i) [ inl e ↦ ap (at (run 0 n)) e | inr e ↦ ap (at (run 0 n)) e ∙ first ∙ sym e ];
    }

-- The number of groups: of the terms whose label is their own number.
own : (ℕ → ℕ) → ℕ → ℕ
own l k = cond (eqb (l k) k) 1 0

own_label : (l : ℕ → ℕ) (k : ℕ) → l k ≡ k → own l k ≡ 1
unfolding own
own_label l k e = rw (eq-eqb (l k) k e)

other_label : (l : ℕ → ℕ) (k : ℕ) → (l k ≡ k → ⊥) → own l k ≡ 0
unfolding own
other_label l k h = rw (ne_eqb (l k) k h)

abbrev group_count : ℕ → (ℕ → ℕ) → ℕ
group_count n l = sum_to n (own l)

most_groups : (n : ℕ) (l : ℕ → ℕ) → group_count n l ≤ n
most_groups zero l = omega arith
most_groups (suc n) l =
    elim (ℕ_discrete (l n) n) [
      | yes e ↦ omega (arith, most_groups n l, own_label l n e)
      | no e ↦ omega (arith, most_groups n l, other_label l n e)
    ]

-- a step leaves no more groups, and where it leaves as many it has changed no label
module _ (P : Problem) (l m : ℕ → ℕ) (step : Coarsening P l m) (low : Lowest l) (n : ℕ) (small : n ≤ 128) where
  own_lower : (k : ℕ) → k < n → own m k ≤ own l k
  own_lower k b =
      elim (ℕ_discrete (m k) k) [
        | yes e ↦ omega (arith, own_label m k e, own_label l k (omega (arith, step.lower k (omega arith), low.below k (omega arith))))
        | no e ↦ omega (arith, other_label m k e)
      ]

  no_more_groups : group_count n m ≤ group_count n l
  no_more_groups = sum_to_monotone n (own m) (own l) own_lower

  as_many_groups : group_count n m ≡ group_count n l → (k : ℕ) → k < n → m k ≡ l k
  as_many_groups e k b =
      let under = low.below k (omega arith) in
      let lower = step.lower k (omega arith) in
      let again = low.self k (omega arith) in
      let moved : m (l k) ≡ m k = step.coarser (l k) k (omega arith) (omega arith) again in
      let as_before : own m (l k) ≡ own l (l k) = sum_to_equal n (own m) (own l) own_lower e (l k) (omega arith) in
      elim (ℕ_discrete (m (l k)) (l k)) [
        | yes h ↦ sym moved ∙ h
        | no h ↦ absurd (omega (arith, other_label m (l k) h, own_label l (l k) again))
      ]

-- Terms of one symbol, with arguments of equal labels.
abbrev Alike : Sheet → (ℕ → ℕ) → ℕ → ℕ → Type 0
Alike sh l i j = ((term_at sh i).symbol ≡ (term_at sh j).symbol) × (map l (term_at sh i).args ≡ map l (term_at sh j).args)

alike_true : (sh : Sheet) (l : List ℕ) (i j : ℕ) → alike sh l i j ≡ true → Alike sh (at l) i j
alike_true sh l i j e = let h = and_both _ _ e in (eqb-true _ _ h.0, same_list_same _ _ h.1)

true_alike : (sh : Sheet) (l : List ℕ) (i j : ℕ) → Alike sh (at l) i j → alike sh l i j ≡ true
true_alike sh l i j h =
    rw (eq-eqb (term_at sh i).symbol (term_at sh j).symbol h.0)
    (subst (λ (x : List ℕ). same_list (map (at l) (term_at sh i).args) x ≡ true) h.1 (same_same_list (map (at l) (term_at sh i).args)))

map_coarser : (n : ℕ) (l m : ℕ → ℕ) → ((a b : ℕ) → a < n → b < n → l a ≡ l b → m a ≡ m b) → (xs ys : List ℕ) → Each (λ a. a < n) xs → Each (λ a. a < n) ys → map l xs ≡ map l ys → map m xs ≡ map m ys
map_coarser n l m coarser [] [] u v e = refl
map_coarser n l m coarser [] (y ∷ ys) u v e = let z : ◌≡◌ {A = ℕ} 0 1 = cc in absurd (omega arith)
map_coarser n l m coarser (x ∷ xs) [] u v e = let z : ◌≡◌ {A = ℕ} 0 1 = cc in absurd (omega arith)
map_coarser n l m coarser (x ∷ xs) (y ∷ ys) u v e =
    let heads : l x ≡ l y = cc in
    let tails : map l xs ≡ map l ys = cc in
    cc (coarser x y u.0 v.0 heads, map_coarser n l m coarser xs ys u.1 v.1 tails)

module _ (sh : Sheet) (w : WellFormed sh) (P : Problem) (v : Views sh P) where
  args_there : (i n : ℕ) → i < length sh.terms → length sh.terms ≤ n → Each (λ a. a < n) (term_at sh i).args
  args_there i n b h = each_weaken i n (term_at sh i).args (omega arith) (w.args i b)

  alike_kept : (l m : ℕ → ℕ) → Coarsening P l m → (i j : ℕ) → i < length sh.terms → j < length sh.terms → Alike sh l i j → Alike sh m i j
  alike_kept l m step i j bi bj h =
      (h.0, map_coarser 128 l m step.coarser (term_at sh i).args (term_at sh j).args (args_there i 128 bi w.terms) (args_there j 128 bj w.terms) h.1)

  -- terms with one key are alike
  key_alike : (l : ℕ → ℕ) (i j : ℕ) → i < length sh.terms → j < length sh.terms → key P l i ≡ key P l j → Alike sh l i j
  key_alike l i j bi bj e =
      let n = v.terms in
      let c : ℕ → ℕ = named P.terms l in
      let xs = (term_at sh i).args in
      let ys = (term_at sh j).args in
      let symbols = sym (v.symbol i bi) ∙ ap (λ (x : Key). x.symbol) e ∙ v.symbol j bj in
      let arity = same_arity sh w P v i j bi bj symbols in
      let firsts = sym (ap c (v.arg0 i bi)) ∙ ap (λ (x : Key). x.first) e ∙ ap c (v.arg0 j bj) in
      let seconds = sym (ap c (v.arg1 i bi)) ∙ ap (λ (x : Key). x.second) e ∙ ap c (v.arg1 j bj) in
      let there : (k : ℕ) → k < length sh.terms → map c (term_at sh k).args ≡ map l (term_at sh k).args = λ k b. map_each c l (λ a. a < P.terms) (named_there P.terms l) (term_at sh k).args (args_there k P.terms b (omega arith)) in
      (symbols, sym (there i bi) ∙ pair_map c xs ys arity.0 arity.1 firsts seconds ∙ there j bj)

  -- the same statements hold of the labels that they make
  stated_all : StatedTo P (at (run 0 (length sh.terms))) (length sh.literals) (at (stated sh))
  unfolding stated
  stated_all =
      for_each_lem (λ k m. StatedTo P (at (run 0 (length sh.terms))) k (at m)) (λ k. join_sides (literal_at sh k)) (run 0 (length sh.terms)) (length sh.literals) (stated_none P _)
      (λ k b m so. more k b m so (literal_at sh k).equal refl)
    where
      more : (k : ℕ) → k < length sh.literals → (m : List ℕ) → StatedTo P (at (run 0 (length sh.terms))) k (at m) → (e : Bool) → (literal_at sh k).equal ≡ e → StatedTo P (at (run 0 (length sh.terms))) (k + 1) (at (join_sides (literal_at sh k) m))
      more k b m so true e =
          let count = v.literals in
          rw e
          (stated_same P (views_closable sh w P v) k (omega arith) _ (at m) so (literal_at sh k).left (literal_at sh k).right _
          (v.equal k b ∙ ap bit e) (sym (v.left k b)) (sym (v.right k b)) (join_joined m _ _))
      more k b m so false e =
          let count = v.literals in
          rw e (stated_differ P (views_closable sh w P v) k (omega arith) _ (at m) so (λ one. omega (arith, v.equal k b, ap bit e)))

  -- the congruence rule on two terms
  abbrev Ruled : List ℕ → ℕ → ℕ → List ℕ → Type 0
  Ruled l i j m = Coarsening P (at l) (at m) × (Alike sh (at l) i j → at m i ≡ at m j)

  ruled : (l : List ℕ) (i j : ℕ) → i < length sh.terms → j < length sh.terms → Ruled l i j (join_alike sh i j l)
  ruled l i j bi bj = go (alike sh l i j) refl
    where
      go : (b : Bool) → alike sh l i j ≡ b → Ruled l i j (join_alike sh i j l)
      go true e =
          let n = v.terms in
          let small = w.terms in
          let h = alike_true sh l i j e in
          rw e (
            joined_step (at l) (at (join i j l)) i j (join_joined l i j) P (omega arith) (omega arith) (omega arith)
                (λ c models keeps. rule_sound sh w P v (at l) c models (λ a b. keeps a (omega arith)) i j bi bj h.0 h.1),
            λ _. joined_together (at l) (at (join i j l)) i j (join_joined l i j) (omega arith) (omega arith),
          )
      go false e = rw e (step_none P (at l), λ h. absurd (false≢true (sym e ∙ true_alike sh l i j h)))

  -- a term with the earlier ones, in a round that began with the labels l
  row : (l m : List ℕ) (j : ℕ) → j < length sh.terms → Coarsening P (at l) (at m) → Coarsening P (at m) (at (for_each j (λ i. join_alike sh i j) m)) × ((i : ℕ) → i < j → Alike sh (at l) i j → at (for_each j (λ i. join_alike sh i j) m) i ≡ at (for_each j (λ i. join_alike sh i j) m) j)
  row l m j b before =
      for_each_lem (λ k r. Coarsening P (at m) (at r) × ((i : ℕ) → i < k → Alike sh (at l) i j → at r i ≡ at r j)) (λ i. join_alike sh i j) m j
      (step_none P (at m), λ i none. absurd (omega arith))
      (λ k low r so.
      let small = w.terms in
      let now = ruled r k j (omega arith) b in
      let since = step_more P (at l) (at m) (at r) before so.0 in (
        step_more P (at m) (at r) (at (join_alike sh k j r)) so.0 now.0,
        λ i below h.
            elim (dec_lt i k) [
              | yes earlier ↦ now.0.coarser i j (omega arith) (omega arith) (so.1 i earlier h)
              | no last ↦
                  let e : i ≡ k = omega arith in
                  rw e (now.1 (alike_kept (at l) (at r) since k j (omega arith) b (rw e at h)))
            ],
      ))

  -- a round joins all terms that were alike before it
  abbrev Rounded : List ℕ → ℕ → List ℕ → Type 0
  Rounded l n m = Coarsening P (at l) (at m) × ((j : ℕ) → j < n → (i : ℕ) → i < j → Alike sh (at l) i j → at m i ≡ at m j)

  rounded : (l : List ℕ) → Rounded l (length sh.terms) (round sh l)
  unfolding round
  rounded l =
      for_each_lem (Rounded l) (λ j. for_each j (λ i. join_alike sh i j)) l (length sh.terms)
      (step_none P (at l), λ j none. absurd (omega arith))
      (λ k b m so.
      let small = w.terms in
      let next : List ℕ = for_each k (λ i. join_alike sh i k) m in
      let now = row l m k b so.0 in (
        step_more P (at l) (at m) (at next) so.0 now.0,
        λ j below i less h.
            elim (dec_lt j k) [
              | yes earlier ↦ now.0.coarser i j (omega arith) (omega arith) (so.1 j earlier i less h)
              | no last ↦ let e : j ≡ k = omega arith in rw e (now.1 i (omega arith) (rw e at h))
            ],
      ))

  -- labels that a round leaves as they are are closed
  unchanged_closed : (l : List ℕ) → round sh l ≡ l → Closed P (at l)
  unchanged_closed l e i j bi bj h =
      let n = v.terms in
      let joins : (y : ℕ) → y < length sh.terms → (x : ℕ) → x < y → Alike sh (at l) x y → at l x ≡ at l y =
      λ y b x less a. subst (λ (m : List ℕ). at m x ≡ at m y) e ((rounded l).1 y b x less a) in
      elim (dec_lt i j) [
        | yes less ↦ joins j (omega arith) i less (key_alike (at l) i j (omega arith) (omega arith) h)
        | no not-less ↦
            elim (dec_lt j i) [
              | yes less ↦ sym (joins i (omega arith) j less (key_alike (at l) j i (omega arith) (omega arith) (sym h)))
              | no equal ↦ let same : i ≡ j = omega arith in ap (at l) same
            ]
      ]

  -- a round changes nothing, or leaves fewer groups
  round_cases : (l : List ℕ) → length l ≡ length sh.terms → Lowest (at l) → (round sh l ≡ l) ⊎ (group_count (length sh.terms) (at (round sh l)) < group_count (length sh.terms) (at l))
  round_cases l long low =
      let step = (rounded l).0 in
      let lower = no_more_groups P (at l) (at (round sh l)) step low (length sh.terms) w.terms in
      elim (dec_lt (group_count (length sh.terms) (at (round sh l))) (group_count (length sh.terms) (at l))) [
        | yes fewer ↦ inr fewer
        | no as_many ↦
            let same = as_many_groups P (at l) (at (round sh l)) step low (length sh.terms) w.terms (omega arith) in
            inl (ext_get_or 0 (round sh l) l (length_round sh l) (λ k b. same k (omega (arith, length_round sh l))))
      ]

  rounds_stop : (n : ℕ) (l : List ℕ) → same_list (round sh l) l ≡ true → rounds (suc n) sh l ≡ l
  unfolding rounds
  rounds_stop n l e = rw (e, rounds)

  rounds_on : (n : ℕ) (l : List ℕ) → same_list (round sh l) l ≡ false → rounds (suc n) sh l ≡ rounds n sh (round sh l)
  unfolding rounds
  rounds_on n l e = rw (e, rounds)

  -- as many rounds as there are groups are enough
  abbrev Saturated : List ℕ → List ℕ → Type 0
  Saturated l m = Coarsening P (at l) (at m) × Closed P (at m)

  abbrev Enough : ℕ → Type 0
  Enough n = (l : List ℕ) → length l ≡ length sh.terms → Lowest (at l) → group_count (length sh.terms) (at l) ≤ n → Saturated l (rounds n sh l)

  rounds_more : (n : ℕ) → Enough n → Enough (suc n)
  rounds_more n enough l long low few = go (same_list (round sh l) l) refl
    where
      go : (b : Bool) → same_list (round sh l) l ≡ b → Saturated l (rounds (suc n) sh l)
      go true e = rw (rounds_stop n l e) (step_none P (at l), unchanged_closed l (same_list_same (round sh l) l e))
      go false e =
          elim (round_cases l long low) [
            | inl same ↦ absurd (false≢true (sym e ∙ subst (λ (m : List ℕ). same_list m l ≡ true) (sym same) (same_same_list l)))
            | inr fewer ↦
                let step = (rounded l).0 in
                let rest = enough (round sh l) (length_round sh l ∙ long) (step.lowest low) (omega arith) in
                rw (rounds_on n l e) (step_more P (at l) (at (round sh l)) (at (rounds n sh (round sh l))) step rest.0, rest.1)
          ]

  rounds_none : Enough 0
  unfolding rounds
  rounds_none l long low few =
      elim (round_cases l long low) [
        | inl same ↦ (step_none P (at l), unchanged_closed l same)
        | inr fewer ↦ absurd (omega arith)
      ]

  rounds_enough : (n : ℕ) → Enough n
  rounds_enough zero = rounds_none
  rounds_enough (suc n) = rounds_more n (rounds_enough n)

  closure_groups : Groups P (at (labels sh))
  unfolding labels
  closure_groups =
      let n = length sh.terms in
      let terms = v.terms in
      let literals = v.literals in
      let start : ℕ → ℕ = at (run 0 n) in
      let low = start_lowest n in
      let fits = views_closable sh w P v in
      let first = stated_all in
      let rest = rounds_enough n (stated sh) (length_stated sh) (first.step.lowest low) (most_groups n (at (stated sh))) in
      labels_group P fits start (at (labels sh)) low (λ k b. at_run 0 n k (omega arith) ∙ omega arith)
      (step_more P start (at (stated sh)) (at (labels sh)) first.step rest.0)
      (stated_kept P fits (at (stated sh)) (at (labels sh)) (λ k b e. first.stated k (omega arith) e) rest.0)
      rest.1

-- LAW: a group has one number
pub representative_unique : (sh : Sheet) (e k m : ℕ) → Representative sh e k → Representative sh e m → k ≡ m
representative_unique sh e k m r t =
    elim (dec_lt k m) [
      | yes h ↦ absurd (t.lowest k h r.forced)
      | no h ↦
          elim (dec_lt m k) [
            | yes g ↦ absurd (r.lowest m g t.forced)
            | no g ↦ omega arith
          ]
    ]

module _ (sh : Sheet) (w : WellFormed sh) where
  -- the labels name the groups, and no others do
  pub labels_groups : Groups (view (packed sh)) (at (labels sh))
  labels_groups = closure_groups sh w (view (packed sh)) (packed_views sh)

  pub labels_unique : (l : ℕ → ℕ) → Groups (view (packed sh)) l → (i : ℕ) → i < length sh.terms → l i ≡ group_of sh i
  labels_unique l g i b =
      groups_unique (view (packed sh)) l (at (labels sh)) (views_closable sh w (view (packed sh)) (packed_views sh)).terms g labels_groups i
      (omega (arith, (packed_views sh).terms))

  -- two terms lie in one group exactly when every structure that satisfies the same statements gives them one code
  pub together_exactly : (a b : ℕ) → a < length sh.terms → b < length sh.terms → (together sh a b ≡ true) ↔ Forced sh a b
  together_exactly a b x y = (
    λ e. labels_forced sh w (view (packed sh)) (packed_views sh) (at (labels sh)) labels_groups a b x y (eqb-true _ _ e),
    λ f. eq-eqb _ _ (forced_labels sh w (view (packed sh)) (packed_views sh) (at (labels sh)) labels_groups a b x y f),
  )

  -- THEOREM: the number of a term's group is the group's lowest-numbered term
  pub group_representative : (e : ℕ) → e < length sh.terms → Representative sh e (group_of sh e)
  group_representative e b =
      let small = w.terms in
      let low = labels_groups.lowest in
      let under = low.below e (omega arith) in
      let there : group_of sh e < length sh.terms = omega arith in
      record {
        there = there;
        forced = (together_exactly (group_of sh e) e there b).0 (eq-eqb _ _ (low.self e (omega arith)));
        lowest = λ j less forced. omega (arith, low.below j (omega arith), eqb-true (group_of sh j) (group_of sh e) ((together_exactly j e (omega arith) b).1 forced));
      }

  -- and it is the only number with that property
  pub group_exactly : (e k : ℕ) → e < length sh.terms → (group_of sh e ≡ k) ↔ Representative sh e k
  group_exactly e k b = (
    λ q. subst (Representative sh e) q (group_representative e b),
    λ r. representative_unique sh e (group_of sh e) k (group_representative e b) r,
  )

  -- THEOREM: labels that name the groups are below 128, and each is its group's lowest-numbered term
  pub groups_labelled : (l : ℕ → ℕ) → Groups (view (packed sh)) l → Labelled sh l
  groups_labelled l g =
      record {
        small = λ i b. omega (arith, g.lowest.below i b);
        number = λ e b. (group_exactly e (l e) b).0 (sym (labels_unique l g e b));
      }
