-- Labels and structures: the groups of a sheet's terms are what every structure forces. One way the codes of a structure are a model; the
-- other way the labels are the codes of a structure, all of whose sizes are 128. And terms of two sorts are never forced together.
use Prim.Native.Nat.{ℕ, zero, suc, ◌≤◌, ◌<◌}
use native.Mathlib.Omega.{arith}
use native.Mathlib.Decide.{dec_lt, ℕ_discrete}
use mathlib.Core.Path.{◌≡◌, refl, ap, sym, ◌∙◌}
use mathlib.Core.Bool.{Bool, true, false}
use mathlib.Core.Logic.{◌⊎◌, inl, inr}
use mathlib.Core.List.{List, [], ◌∷◌, map, List-discrete}
use lib.ListN.{length, length-map}
use Rattle.logic.specs.Sheet.{Sheet, symbol_at, term_at, literal_at, sort_at}
use Rattle.logic.specs.Structure.{Structure, Interprets, SatisfiesSame, Agree, code}
use Rattle.prelude.specs.Tests.{Each}
use Rattle.logic.specs.WellFormed.{WellFormed}
use Rattle.logic.specs.Problem.{Problem}
use Rattle.logic.proofs.Meaning.{code_congruent, codes_own, few_arguments}
use Rattle.layout.specs.Packed.{first, second, bit}
use Rattle.layout.specs.Views.{Views}
use Rattle.layout.proofs.AtMostTwo.{each_weaken, pair_map}
use Rattle.congruence.specs.Groups.{Models, Entails, Groups, Closable}
use Rattle.congruence.specs.Forced.{Forced}

-- arguments with equal labels have equal codes where codes keep to the labels; a missing one is missing on both sides
module _ (n : ℕ) (l c : ℕ → ℕ) (keeps : (a : ℕ) → a < n → c (l a) ≡ c a) where
  first_equal : (xs ys : List ℕ) → Each (λ a. a < n) xs → Each (λ a. a < n) ys → map l xs ≡ map l ys → c (first xs) ≡ c (first ys)
  first_equal [] [] u v e = refl
  first_equal [] (y ∷ ys) u v e = let z : ◌≡◌ {A = ℕ} 0 1 = cc in absurd (omega arith)
  first_equal (x ∷ xs) [] u v e = let z : ◌≡◌ {A = ℕ} 0 1 = cc in absurd (omega arith)
  first_equal (x ∷ xs) (y ∷ ys) u v e =
      let heads : l x ≡ l y = cc in
      sym (keeps x u.0) ∙ ap c heads ∙ keeps y v.0

  second_equal : (xs ys : List ℕ) → Each (λ a. a < n) xs → Each (λ a. a < n) ys → map l xs ≡ map l ys → c (second xs) ≡ c (second ys)
  second_equal [] [] u v e = refl
  second_equal [] (y ∷ ys) u v e = let z : ◌≡◌ {A = ℕ} 0 1 = cc in absurd (omega arith)
  second_equal (x ∷ xs) [] u v e = let z : ◌≡◌ {A = ℕ} 0 1 = cc in absurd (omega arith)
  second_equal (x ∷ xs) (y ∷ ys) u v e =
      let tails : map l xs ≡ map l ys = cc in
      first_equal xs ys u.1 v.1 tails

bit_true : (b : Bool) → bit b ≡ 1 → b ≡ true
bit_true true e = refl
bit_true false e = absurd (omega arith)

agree_true : (b : Bool) (x y : ℕ) → b ≡ true → Agree b x y → x ≡ y
agree_true true x y e h = h
agree_true false x y e h = let z : ◌≡◌ {A = ℕ} 0 1 = cc in absurd (omega arith)

true_agree : (b : Bool) (x y : ℕ) → b ≡ true → x ≡ y → Agree b x y
true_agree true x y e h = h
true_agree false x y e h = let z : ◌≡◌ {A = ℕ} 0 1 = cc in absurd (omega arith)

module _ (sh : Sheet) (w : WellFormed sh) (P : Problem) (v : Views sh P) where
  pub views_closable : Closable P
  views_closable =
      let n = v.terms in
      let m = v.literals in
      record {
        terms = omega (arith, w.terms);
        literals = omega (arith, w.literals);
        left = λ k b. omega (arith, v.left k (omega arith), w.left k (omega arith));
        right = λ k b. omega (arith, v.right k (omega arith), w.right k (omega arith));
      }

  pub same_arity : (i j : ℕ) → i < length sh.terms → j < length sh.terms → (term_at sh i).symbol ≡ (term_at sh j).symbol → (length (term_at sh i).args ≡ length (term_at sh j).args) × (length (term_at sh i).args ≤ 2)
  same_arity i j bi bj e =
      let ei = sym (length-map (term_at sh i).args (sort_at sh)) ∙ ap length (w.arg_sorts i bi) in
      let ej = sym (length-map (term_at sh j).args (sort_at sh)) ∙ ap length (w.arg_sorts j bj) in
      let same = ap (λ f. length (symbol_at sh f).params) e in
      (ei ∙ same ∙ sym ej, few_arguments sh w i bi)

  -- the codes of a structure that satisfies the same statements are a model
  codes_model : (M : Structure) → SatisfiesSame M sh → Models P (code M sh)
  codes_model M sat =
      let n = v.terms in
      let m = v.literals in
      record {
        congruent = λ i j bi bj f x y.
            let ci : i < length sh.terms = omega arith in
            let cj : j < length sh.terms = omega arith in
            let symbols : (term_at sh i).symbol ≡ (term_at sh j).symbol = sym (v.symbol i ci) ∙ f ∙ v.symbol j cj in
            let arity = same_arity i j ci cj symbols in
            let x' : code M sh (first (term_at sh i).args) ≡ code M sh (first (term_at sh j).args) = ap (code M sh) (sym (v.arg0 i ci)) ∙ x ∙ ap (code M sh) (v.arg0 j cj) in
            let y' : code M sh (second (term_at sh i).args) ≡ code M sh (second (term_at sh j).args) = ap (code M sh) (sym (v.arg1 i ci)) ∙ y ∙ ap (code M sh) (v.arg1 j cj) in
            let args = pair_map (code M sh) (term_at sh i).args (term_at sh j).args arity.0 arity.1 x' y' in
            code_congruent M sh w i j ci cj symbols args;
        same = λ k b e.
            let c : k < length sh.literals = omega arith in
            let equal = bit_true (literal_at sh k).equal (sym (v.equal k c) ∙ e) in
            ap (code M sh) (v.left k c) ∙ agree_true _ _ _ equal (sat k c equal) ∙ ap (code M sh) (sym (v.right k c));
      }

  -- the congruence rule is sound: where codes keep to labels, terms of one symbol whose arguments have equal labels have equal codes
  pub rule_sound : (l c : ℕ → ℕ) → Models P c → ((a : ℕ) → a < length sh.terms → c (l a) ≡ c a) → (i j : ℕ) → i < length sh.terms → j < length sh.terms → (term_at sh i).symbol ≡ (term_at sh j).symbol → map l (term_at sh i).args ≡ map l (term_at sh j).args → c i ≡ c j
  rule_sound l c models kept i j bi bj f e =
      let n = v.terms in
      let xs = each_weaken i (length sh.terms) (term_at sh i).args (omega arith) (w.args i bi) in
      let ys = each_weaken j (length sh.terms) (term_at sh j).args (omega arith) (w.args j bj) in
      models.congruent i j (omega arith) (omega arith) (v.symbol i bi ∙ f ∙ sym (v.symbol j bj))
      (ap c (v.arg0 i bi) ∙ first_equal (length sh.terms) l c kept (term_at sh i).args (term_at sh j).args xs ys e ∙ ap c (sym (v.arg0 j bj)))
      (ap c (v.arg1 i bi) ∙ second_equal (length sh.terms) l c kept (term_at sh i).args (term_at sh j).args xs ys e ∙ ap c (sym (v.arg1 j bj)))

  pub entails_forced : (i j : ℕ) → Entails P i j → Forced sh i j
  entails_forced i j e M interprets sat = e (code M sh) (codes_model M sat)

  module _ (l : ℕ → ℕ) (g : Groups P l) where
    keeps_labels : (c : ℕ → ℕ) → Models P c → (a : ℕ) → a < length sh.terms → c (l a) ≡ c a
    keeps_labels c models a b =
        let n = v.terms in
        let small : l a < P.terms = omega (arith, w.terms, g.lowest.below a (omega (arith, w.terms))) in
        g.sound (l a) a small (omega arith) (g.lowest.self a (omega (arith, w.terms))) c models

    -- terms of one symbol with equal argument labels have one label
    labels_closed : (i j : ℕ) → i < length sh.terms → j < length sh.terms → (term_at sh i).symbol ≡ (term_at sh j).symbol → map l (term_at sh i).args ≡ map l (term_at sh j).args → l i ≡ l j
    labels_closed i j bi bj f e =
        let n = v.terms in
        g.complete i j (omega arith) (omega arith) (λ c models. rule_sound l c models (keeps_labels c models) i j bi bj f e)

    -- a term below n with this symbol and these labels as arguments, or the proof that there is none
    abbrev Reached : ℕ → List ℕ → ℕ → Type 0
    Reached f cs m = ((term_at sh m).symbol ≡ f) × (map l (term_at sh m).args ≡ cs)

    abbrev Search : ℕ → List ℕ → ℕ → Type 0
    Search f cs n = ((m : ℕ) × (m < n) × Reached f cs m) ⊎ ((m : ℕ) → m < n → Reached f cs m → ⊥)

    reached? : (f : ℕ) (cs : List ℕ) (m : ℕ) → Dec (Reached f cs m)
    reached? f cs m =
        elim (ℕ_discrete (term_at sh m).symbol f) [
          | yes e ↦
              elim (List-discrete ℕ_discrete (map l (term_at sh m).args) cs) [
                | yes d ↦ yes (e, d)
                | no d ↦ no (λ r. d r.1)
              ]
          | no e ↦ no (λ r. e r.0)
        ]

    search_more : (f : ℕ) (cs : List ℕ) (n : ℕ) → Dec (Reached f cs n) → Search f cs n → Search f cs (suc n)
    search_more f cs n (yes r) s = inl (n, omega arith, r)
    search_more f cs n (no r) (inl s) = inl (s.0, omega (arith, s.1), s.2)
    search_more f cs n (no r) (inr s) =
        inr (λ m b h.
        elim (dec_lt m n) [
          | yes d ↦ s m d h
          | no d ↦ let e : m ≡ n = omega arith in r (rw e at h)
        ])

    searched : (f : ℕ) (cs : List ℕ) (n : ℕ) → Search f cs n
    searched f cs zero = inr (λ m b h. omega arith)
    searched f cs (suc n) = search_more f cs n (reached? f cs n) (searched f cs n)

    found : {f : ℕ} {cs : List ℕ} {n : ℕ} → Search f cs n → ℕ
    found (inl s) = l s.0
    found (inr s) = 0

    -- the structure whose codes are the labels: a symbol's table holds the label of a term that reaches the cell, and 0 where none does
    labelled : Structure
    labelled = record { size = λ s. 128; table = λ f cs. found (searched f cs (length sh.terms)) }

    found_small : (f : ℕ) (cs : List ℕ) (s : Search f cs (length sh.terms)) → found s < 128
    unfolding found
    found_small f cs (inl s) = omega (arith, s.1, w.terms, g.lowest.below s.0 (omega (arith, s.1, w.terms)))
    found_small f cs (inr s) = omega arith

    found_label : (i : ℕ) → i < length sh.terms → (s : Search (term_at sh i).symbol (map l (term_at sh i).args) (length sh.terms)) → found s ≡ l i
    unfolding found
    found_label i b (inl s) = labels_closed s.0 i s.1 b s.2.0 s.2.1
    found_label i b (inr s) = absurd (s i b (refl, refl))

    labelled_interprets : Interprets labelled sh
    unfolding labelled
    labelled_interprets = record { nonempty = λ s b. omega arith; complete = λ f b cs fits. found_small f cs (searched f cs (length sh.terms)) }

    labelled_codes : (i : ℕ) → i < length sh.terms → code labelled sh i ≡ l i
    unfolding labelled
    labelled_codes =
        codes_own labelled sh w l
        (λ i h. sym (found_label i h (searched (term_at sh i).symbol (map l (term_at sh i).args) (length sh.terms))))

    labelled_same : SatisfiesSame labelled sh
    labelled_same k b e =
        let n = v.terms in
        let m = v.literals in
        let left = w.left k b in
        let right = w.right k b in
        let labels : l (literal_at sh k).left ≡ l (literal_at sh k).right =
        g.complete _ _ (omega arith) (omega arith) (λ c models.
        ap c (sym (v.left k b)) ∙ models.same k (omega arith) (v.equal k b ∙ ap bit e) ∙ ap c (v.right k b)) in
        true_agree _ _ _ e (labelled_codes _ left ∙ labels ∙ sym (labelled_codes _ right))

    -- equal labels exactly where every structure that satisfies the same statements gives equal codes
    pub forced_labels : (i j : ℕ) → i < length sh.terms → j < length sh.terms → Forced sh i j → l i ≡ l j
    forced_labels i j bi bj forced = sym (labelled_codes i bi) ∙ forced labelled labelled_interprets labelled_same ∙ labelled_codes j bj

    pub labels_forced : (i j : ℕ) → i < length sh.terms → j < length sh.terms → l i ≡ l j → Forced sh i j
    labels_forced i j bi bj e = let n = v.terms in entails_forced i j (g.sound i j (omega arith) (omega arith) e)

-- LAW: what is forced together is of one sort: where every cell holds the number of its symbol's sort, each term has the number of its sort as its
-- code, and every same statement holds.
module _ (sh : Sheet) (w : WellFormed sh) where
  by_sort : Structure
  by_sort = record { size = λ s. suc s; table = λ f cs. (symbol_at sh f).result }

  by_sort_interprets : Interprets by_sort sh
  unfolding by_sort
  by_sort_interprets = record { nonempty = λ s b. omega arith; complete = λ f b cs fits. omega arith }

  by_sort_codes : (i : ℕ) → i < length sh.terms → code by_sort sh i ≡ sort_at sh i
  unfolding by_sort
  by_sort_codes = codes_own by_sort sh w (sort_at sh) (λ i h. refl)

  by_sort_same : SatisfiesSame by_sort sh
  by_sort_same k b e = true_agree _ _ _ e (by_sort_codes _ (w.left k b) ∙ w.sides k b ∙ sym (by_sort_codes _ (w.right k b)))

  pub forced_one_sort : (i j : ℕ) → i < length sh.terms → j < length sh.terms → Forced sh i j → sort_at sh i ≡ sort_at sh j
  forced_one_sort i j bi bj forced = sym (by_sort_codes i bi) ∙ forced by_sort by_sort_interprets by_sort_same ∙ by_sort_codes j bj
