-- The joint between the search and the definition of the answer. `Consistent` and `Fits` say the same of sizes and codes, the one of the functions
-- that view a sheet, the other of its lists, once codes past the terms are cut off; so the least sizes with consistent codes are those of the soonest
-- that fits, and the first consistent codes at given sizes are the answer at these.
use Prim.Native.Nat.{ℕ, zero, suc, ◌≤◌, ◌<◌}
use mathlib.Core.Path.{◌≡◌, refl, ap, sym, ◌∙◌, subst}
use mathlib.Core.Bool.{Bool, true, false}
use mathlib.Core.Logic.{inl, inr}
use mathlib.Core.List.{List, [], ◌∷◌, map}
use mathlib.Core.Option.{none, some}
use lib.ListN.{length, get_or, length-map, get_or-map, get_or-eq_default}
use native.Mathlib.Omega.{arith}
use Rattle.logic.specs.Sheet.{Sheet, symbol_at, term_at, literal_at, sort_at}
use Rattle.prelude.specs.Tests.{Each}
use Rattle.prelude.specs.Lists.{at, sum_to, firsts}
use Rattle.prelude.proofs.Lists.{length_firsts, at_firsts, firsts_same, sum_to_same}
use Rattle.logic.specs.WellFormed.{WellFormed}
use Rattle.logic.specs.Structure.{Bounded, Agree}
use Rattle.logic.specs.Order.{Before, NotAfter}
use Rattle.logic.specs.Problem.{Problem, WellSorted, Allowed, Consistent, Unsatisfiable}
use Rattle.logic.proofs.Meaning.{few_arguments}
use Rattle.logic.proofs.Orders.{not_after}
use Rattle.layout.specs.Packed.{bit}
use Rattle.layout.specs.Views.{Views}
use Rattle.layout.proofs.AtMostTwo.{pair_map}
use Rattle.answer.specs.Answer.{Entry, entry_of, answer_at, answer, sum}
use Rattle.answer.proofs.Lists.{found_or_none}
use Rattle.answer.proofs.Solving.{solution_same}
use Rattle.answer.proofs.Listing.{Fits, Chosen, chosen, none_fits, nothing_fits, nothing_at, soonest_at, sum_firsts}

-- Arguments by place: the one at place k, 255 where it is missing.
abbrev argument : List ℕ → ℕ → ℕ
argument l k = get_or l k 255

-- a number below 128 is no missing argument
argument_there : (l : List ℕ) (k : ℕ) → argument l k < 128 → k < length l
argument_there [] k h = absurd (omega arith)
argument_there (a ∷ l) zero h = omega arith
argument_there (a ∷ l) (suc k) h = let m : k < length l = argument_there l k h in omega arith

argument_earlier : (i : ℕ) (l : List ℕ) (k : ℕ) → Each (λ a. a < i) l → k < length l → argument l k < i
argument_earlier i [] k e h = absurd (omega arith)
argument_earlier i (a ∷ l) zero e h = e.0
argument_earlier i (a ∷ l) (suc k) e h = argument_earlier i l k e.1 (omega arith)

-- equal values of the arguments, as lists and by place
same_at_lem : (f : ℕ → ℕ) (l m : List ℕ) (k : ℕ) → map f l ≡ map f m → f (argument l k) ≡ f (argument m k)
same_at_lem f l m k e = sym (get_or-map f l k 255) ∙ ap (λ (x : List ℕ). get_or x k (f 255)) e ∙ get_or-map f m k 255

-- bounds speak only of the sizes of the sheet's sorts
pub bounded_same : (sh : Sheet) (size size' : ℕ → ℕ) → ((s : ℕ) → s < length sh.bounds → size s ≡ size' s) → Bounded sh size → Bounded sh size'
bounded_same sh size size' same b =
    record {
      floor = λ s h. omega (arith, same s h, b.floor s h);
      ceiling = λ s h. omega (arith, same s h, b.ceiling s h);
      total = omega (arith, sum_to_same (length sh.bounds) size size' same, b.total);
    }

module _ (sh : Sheet) (P : Problem) (w : WellFormed sh) (v : Views sh P) where
  -- a term of the one view is a term of the other
  there : (i : ℕ) → i < P.terms → i < length sh.terms
  there i h = omega (arith, v.terms)

  few : P.terms ≤ 128
  few = omega (arith, v.terms, w.terms)

  same_symbol : (i j : ℕ) → i < P.terms → j < P.terms → P.symbol i ≡ P.symbol j → (term_at sh i).symbol ≡ (term_at sh j).symbol
  same_symbol i j h k e = sym (v.symbol i (there i h)) ∙ e ∙ v.symbol j (there j k)

  same_sorts : (i j : ℕ) → i < P.terms → j < P.terms → P.symbol i ≡ P.symbol j → map (sort_at sh) (term_at sh i).args ≡ map (sort_at sh) (term_at sh j).args
  same_sorts i j h k e =
      w.arg_sorts i (there i h) ∙ ap (λ (f : ℕ). (symbol_at sh f).params) (same_symbol i j h k e) ∙ sym (w.arg_sorts j (there j k))

  same_arity : (i j : ℕ) → i < P.terms → j < P.terms → P.symbol i ≡ P.symbol j → length (term_at sh i).args ≡ length (term_at sh j).args
  same_arity i j h k e =
      sym (length-map (term_at sh i).args (sort_at sh)) ∙ ap length (same_sorts i j h k e) ∙ length-map (term_at sh j).args (sort_at sh)

  -- what holds of the argument at place k, x i being that of term i
  module _ (k : ℕ) (x : ℕ → ℕ) (is : (i : ℕ) → i < length sh.terms → x i ≡ argument (term_at sh i).args k) where
    earlier : (i : ℕ) → i < P.terms → x i < P.terms → x i < i
    earlier i h l =
        rw (is i (there i h))
        (argument_earlier i (term_at sh i).args k (w.args i (there i h)) (argument_there (term_at sh i).args k (omega (arith, few, is i (there i h)))))

    there_too : (i j : ℕ) → i < P.terms → j < P.terms → P.symbol i ≡ P.symbol j → x i < P.terms → x j < P.terms
    there_too i j h l e m =
        let inside : k < length (term_at sh i).args = argument_there (term_at sh i).args k (omega (arith, few, is i (there i h))) in
        omega (arith, is j (there j l), argument_earlier j (term_at sh j).args k (w.args j (there j l)) (omega (arith, same_arity i j h l e)))

    same_sort : (i j : ℕ) → i < P.terms → j < P.terms → P.symbol i ≡ P.symbol j → x i < P.terms → P.sort (x i) ≡ P.sort (x j)
    same_sort i j h l e m =
        v.sort (x i) (there (x i) m)
        ∙ ap (sort_at sh) (is i (there i h))
        ∙ same_at_lem (sort_at sh) (term_at sh i).args (term_at sh j).args k (same_sorts i j h l e)
        ∙ sym (ap (sort_at sh) (is j (there j l)))
        ∙ sym (v.sort (x j) (there (x j) (there_too i j h l e m)))

  literal : (k : ℕ) → k < P.literals → k < length sh.literals
  literal k h = omega (arith, v.literals)

  pub well_sorted : WellSorted P
  well_sorted =
      record {
        sort = λ i h. omega (arith, v.sort i (there i h), v.sorts, w.result (term_at sh i).symbol (w.symbol i (there i h)));
        result = λ i j h l e.
            v.sort i (there i h) ∙ ap (λ (f : ℕ). (symbol_at sh f).result) (same_symbol i j h l e) ∙ sym (v.sort j (there j l));
        earlier0 = earlier 0 P.arg0 v.arg0;
        earlier1 = earlier 1 P.arg1 v.arg1;
        there0 = there_too 0 P.arg0 v.arg0;
        there1 = there_too 1 P.arg1 v.arg1;
        sort0 = same_sort 0 P.arg0 v.arg0;
        sort1 = same_sort 1 P.arg1 v.arg1;
        left = λ k h. omega (arith, v.terms, v.left k (literal k h), w.left k (literal k h));
        right = λ k h. omega (arith, v.terms, v.right k (literal k h), w.right k (literal k h));
        sides = λ k h.
            ap P.sort (v.left k (literal k h)) ∙ v.sort (literal_at sh k).left (w.left k (literal k h))
            ∙ w.sides k (literal k h)
            ∙ sym (v.sort (literal_at sh k).right (w.right k (literal k h))) ∙ sym (ap P.sort (v.right k (literal k h)));
      }

  -- What is consistent at sizes that are allowed, fits; and the other way round, with codes that are 0 past the terms.
  allowed_bounded : (size : ℕ → ℕ) → Allowed P size → Bounded sh size
  allowed_bounded size a =
      record {
        floor = λ s h. omega (arith, v.floor s h, a.floor s (omega (arith, v.sorts)));
        ceiling = λ s h. omega (arith, v.ceiling s h, a.ceiling s (omega (arith, v.sorts)));
        total = rw (← v.sorts, ← v.total) a.total;
      }

  pub bounded_allowed : (size : ℕ → ℕ) → Bounded sh size → Allowed P size
  bounded_allowed size b =
      record {
        floor = λ s h. let l : s < length sh.bounds = omega (arith, v.sorts) in omega (arith, v.floor s l, b.floor s l);
        ceiling = λ s h. let l : s < length sh.bounds = omega (arith, v.sorts) in omega (arith, v.ceiling s l, b.ceiling s l);
        total = rw (v.sorts, v.total) b.total;
      }

  met : (size c : ℕ → ℕ) → Consistent P size c → (k : ℕ) → k < length sh.literals → (b : Bool) → P.equal k ≡ bit b → Agree b (c (literal_at sh k).left) (c (literal_at sh k).right)
  met size c x k h true e = sym (ap c (v.left k h)) ∙ x.same k (omega (arith, v.literals)) e ∙ ap c (v.right k h)
  met size c x k h false e = λ q. x.differ k (omega (arith, v.literals)) e (ap c (v.left k h) ∙ q ∙ sym (ap c (v.right k h)))

  pub consistent_fits : (size c : ℕ → ℕ) → Allowed P size → Consistent P size c → Fits sh size c
  consistent_fits size c a x =
      record {
        bounded = allowed_bounded size a;
        range = λ i h. rw (← v.sort i h) (x.range i (omega (arith, v.terms)));
        solution = record {
          congruent = λ i j h l p q.
              x.congruent i j (omega (arith, v.terms)) (omega (arith, v.terms)) (v.symbol i h ∙ p ∙ sym (v.symbol j l))
              (ap c (v.arg0 i h) ∙ same_at_lem c (term_at sh i).args (term_at sh j).args 0 q ∙ sym (ap c (v.arg0 j l)))
              (ap c (v.arg1 i h) ∙ same_at_lem c (term_at sh i).args (term_at sh j).args 1 q ∙ sym (ap c (v.arg1 j l)));
          meets = λ k h. met size c x k h (literal_at sh k).equal (v.equal k h);
        };
      }

  equal_is : (c : ℕ → ℕ) (k : ℕ) (b : Bool) → P.equal k ≡ bit b → P.equal k ≡ 1 → Agree b (c (literal_at sh k).left) (c (literal_at sh k).right) → c (literal_at sh k).left ≡ c (literal_at sh k).right
  equal_is c k true e f m = m
  equal_is c k false e f m = absurd (omega arith)

  unequal_is : (c : ℕ → ℕ) (k : ℕ) (b : Bool) → P.equal k ≡ bit b → P.equal k ≡ 0 → Agree b (c (literal_at sh k).left) (c (literal_at sh k).right) → c (literal_at sh k).left ≡ c (literal_at sh k).right → ⊥
  unequal_is c k true e f m q = omega arith
  unequal_is c k false e f m q = m q

  pub fits_consistent : (size c : ℕ → ℕ) → Fits sh size c → ((i : ℕ) → length sh.terms ≤ i → c i ≡ 0) → Consistent P size c
  fits_consistent size c f past =
      record {
        range = λ i h. rw (v.sort i (there i h)) (f.range i (there i h));
        none = λ i h. past i (omega (arith, v.terms));
        congruent = λ i j h l p q r.
            f.solution.congruent i j (there i h) (there j l) (same_symbol i j h l p)
            (pair_map c (term_at sh i).args (term_at sh j).args (same_arity i j h l p) (few_arguments sh w i (there i h))
            (sym (ap c (v.arg0 i (there i h))) ∙ q ∙ ap c (v.arg0 j (there j l)))
            (sym (ap c (v.arg1 i (there i h))) ∙ r ∙ ap c (v.arg1 j (there j l))));
        same = λ k h e.
            ap c (v.left k (literal k h))
            ∙ equal_is c k (literal_at sh k).equal (v.equal k (literal k h)) e (f.solution.meets k (literal k h))
            ∙ sym (ap c (v.right k (literal k h)));
        differ = λ k h e q.
            unequal_is c k (literal_at sh k).equal (v.equal k (literal k h)) e (f.solution.meets k (literal k h))
            (sym (ap c (v.left k (literal k h))) ∙ q ∙ ap c (v.right k (literal k h)));
      }

  -- codes cut off after the terms
  cut_off : (ℕ → ℕ) → ℕ → ℕ
  cut_off c = at (firsts (length sh.terms) c)

  cut_same : (c : ℕ → ℕ) (i : ℕ) → i < length sh.terms → c i ≡ cut_off c i
  unfolding cut_off
  cut_same c i h = sym (at_firsts (length sh.terms) c i h)

  cut_past : (c : ℕ → ℕ) (i : ℕ) → length sh.terms ≤ i → cut_off c i ≡ 0
  unfolding cut_off
  cut_past c i h = get_or-eq_default (firsts (length sh.terms) c) 0 (omega (arith, length_firsts (length sh.terms) c))

  cut_consistent : (size size' c : ℕ → ℕ) → Fits sh size c → ((s : ℕ) → s < length sh.bounds → size s ≡ size' s) → Consistent P size' (cut_off c)
  cut_consistent size size' c f same =
      fits_consistent size' (cut_off c)
      (record {
        bounded = bounded_same sh size size' same f.bounded;
        range = λ i h. omega (arith, cut_same c i h, f.range i h, same (sort_at sh i) (w.result (term_at sh i).symbol (w.symbol i h)));
        solution = solution_same sh w c (cut_off c) (cut_same c) f.solution;
      })
      (cut_past c)

  -- THE JOINT: nothing consistent means no answer
  pub unsatisfiable_none : Unsatisfiable P → answer sh ≡ none
  unsatisfiable_none h =
      nothing_fits sh w
      (λ size c f. h size (cut_off c) (bounded_allowed size f.bounded) (cut_consistent size size c f (λ s l. refl)))

  -- the sizes of two lists of first values
  same_firsts : (size size' : ℕ → ℕ) → firsts (length sh.bounds) size ≡ firsts (length sh.bounds) size' → (s : ℕ) → s < length sh.bounds → size s ≡ size' s
  same_firsts size size' e s h =
      sym (at_firsts (length sh.bounds) size s h) ∙ ap (λ (l : List ℕ). at l s) e ∙ at_firsts (length sh.bounds) size' s h

  -- THE JOINT: the sizes of the answer are the least with consistent codes
  pub least_sizes_answer :
      (size c : ℕ → ℕ) → Allowed P size → Consistent P size c
      → ((size' c' : ℕ → ℕ) → Allowed P size' → Consistent P size' c' → sum_to P.sorts size ≤ sum_to P.sorts size')
      → ((size' c' : ℕ → ℕ) → Allowed P size' → Consistent P size' c' → sum_to P.sorts size' ≡ sum_to P.sorts size → NotAfter P.sorts size size')
      → (e : Entry) × (answer sh ≡ some e) × (e.sizes ≡ firsts (length sh.bounds) size)
  least_sizes_answer size c a x least first =
      elim (found_or_none (answer sh)) [
        | inl q ↦ absurd (none_fits sh w q size c f)
        | inr r ↦ (r.0, r.1, same r.0 (chosen sh w r.0 r.1))
      ]
    where
      f : Fits sh size c
      f = consistent_fits size c a x

      same : (e : Entry) → Chosen sh e → e.sizes ≡ firsts (length sh.bounds) size
      same e k =
          let a' : Allowed P (at e.sizes) = bounded_allowed (at e.sizes) k.fits.bounded in
          let x' : Consistent P (at e.sizes) (cut_off (at e.codes)) = cut_consistent (at e.sizes) (at e.sizes) (at e.codes) k.fits (λ i h. refl) in
          let sums : sum (firsts (length sh.bounds) size) ≡ sum_to (length sh.bounds) size = sum_firsts (length sh.bounds) size in
          let sums' : sum_to (length sh.bounds) (at e.sizes) ≡ sum e.sizes = sym (sum_firsts (length sh.bounds) (at e.sizes)) ∙ ap sum k.sizes in
          elim (k.first size c f) [
            | inl q ↦ sym (ap (λ (d : Entry). d.sizes) q)
            | inr s ↦
                elim s [
                  | inl l ↦
                      let b : sum_to (length sh.bounds) size ≤ sum_to (length sh.bounds) (at e.sizes) = rw (← v.sorts) (least (at e.sizes) (cut_off (at e.codes)) a' x') in
                      absurd (omega arith)
                  | inr l ↦
                      elim l.1 [
                        | inl b ↦
                            absurd (not_after (length sh.bounds) size (at e.sizes)
                            (subst (λ (n : ℕ). NotAfter n size (at e.sizes)) v.sorts (first (at e.sizes) (cut_off (at e.codes)) a' x' (rw v.sorts (sums' ∙ l.0 ∙ sums))))
                            (rw k.sizes b))
                        | inr b ↦ b.0
                      ]
                ]
          ]

  -- THE JOINT AT GIVEN SIZES: nothing consistent means no answer at these sizes
  pub none_consistent_none : (size : ℕ → ℕ) → Allowed P size → ((c : ℕ → ℕ) → Consistent P size c → ⊥) → answer_at sh (firsts (length sh.bounds) size) ≡ none
  none_consistent_none size a h =
      nothing_at sh w (firsts (length sh.bounds) size)
      (record {
        many = length_firsts (length sh.bounds) size;
        bounded = bounded_same sh size (at (firsts (length sh.bounds) size)) (λ s l. sym (at_firsts (length sh.bounds) size s l)) (allowed_bounded size a);
      })
      (λ size' c f same. h (cut_off c) (cut_consistent size' size c f (same_firsts size' size same)))

  -- and the first consistent codes are the answer at their sizes
  pub first_codes_answer :
      (size c : ℕ → ℕ) → Allowed P size → Consistent P size c → ((c' : ℕ → ℕ) → Consistent P size c' → NotAfter P.terms c c')
      → answer_at sh (firsts (length sh.bounds) size) ≡ some (entry_of sh size c)
  first_codes_answer size c a x first =
      soonest_at sh w size c (consistent_fits size c a x)
      (λ size' c' f same b.
      not_after (length sh.terms) c (cut_off c')
      (subst (λ (n : ℕ). NotAfter n c (cut_off c')) v.terms (first (cut_off c') (cut_consistent size' size c' f (same_firsts size' size same))))
      (subst (λ (k : List ℕ). Before k (firsts (length sh.terms) c)) (firsts_same (length sh.terms) c' (cut_off c') (cut_same c')) b))
