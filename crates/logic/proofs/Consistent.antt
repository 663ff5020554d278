-- Laws of consistent codes: larger sizes keep them, codes equal place by place share them, and swapping two codes of a sort
-- keeps them.
use Prim.Native.Nat.{ℕ, ◌≤◌, ◌<◌}
use mathlib.Core.Path.{◌≡◌, refl, sym, ap, subst, fun_ext, ◌∙◌}
use mathlib.Core.Bool.{Bool, true, false, ◌&&◌, false≢true, cond}
use native.Mathlib.Omega.{arith}
use native.Mathlib.Decide.{dec_lt}
use lib.Dec.{ltb, eqb}
use borrow.Author.Tests.{lt-ltb, le-ltb, eqb-true, eqb-false, eq-eqb, ne_eqb}
use Rattle.logic.specs.Problem.{Problem, WellSorted, Consistent, Extends}

module _ (P : Problem) where
  -- larger sizes keep codes consistent
  pub larger_sizes : (small large c : ℕ → ℕ) → WellSorted P → ((s : ℕ) → s < P.sorts → small s ≤ large s) → Consistent P small c → Consistent P large c
  larger_sizes small large c w le k =
      record {
        range = λ i h. let r = k.range i h in let l = le (P.sort i) (w.sort i h) in omega arith;
        none = k.none;
        congruent = k.congruent;
        same = k.same;
        differ = k.differ;
      }

  -- codes that are equal at every term are consistent together
  pub equal_codes : (size c d : ℕ → ℕ) → ((i : ℕ) → i < P.terms → c i ≡ d i) → ((i : ℕ) → P.terms ≤ i → d i ≡ 0) → Consistent P size c → Consistent P size d
  equal_codes size c d same none k = subst (Consistent P size) (fun_ext each) k
    where
      each : (i : ℕ) → c i ≡ d i
      each i =
          elim (dec_lt i P.terms) [
            | yes h ↦ same i h
            | no h ↦ let l : P.terms ≤ i = omega arith in k.none i l ∙ sym (none i l)
          ]

-- no decided term of sort s has the code v
abbrev pub Unused : Problem → (ℕ → ℕ) → ℕ → ℕ → Type 0
Unused P q s v = (j : ℕ) → j < P.terms → P.sort j ≡ s → q j ≡ v → ⊥

-- u and v change places
abbrev exchange : ℕ → ℕ → ℕ → ℕ
exchange u v x = cond (eqb x u) v (cond (eqb x v) u x)

exchange_first : (u v : ℕ) → exchange u v u ≡ v
exchange_first u v = rw (eq-eqb u u refl)

exchange_second : (u v : ℕ) → exchange u v v ≡ u
exchange_second u v = go (eqb v u) refl
  where
    go : (b : Bool) → eqb v u ≡ b → exchange u v v ≡ u
    go true e = rw e (eqb-true v u e)
    go false e = rw (e, eq-eqb v v refl)

exchange_other : (u v x : ℕ) → (x ≡ u → ⊥) → (x ≡ v → ⊥) → exchange u v x ≡ x
exchange_other u v x a b = rw (ne_eqb x u a, ne_eqb x v b)

exchange_twice : (u v x : ℕ) → exchange u v (exchange u v x) ≡ x
exchange_twice u v x = go (eqb x u) refl (eqb x v) refl
  where
    go : (a : Bool) → eqb x u ≡ a → (b : Bool) → eqb x v ≡ b → exchange u v (exchange u v x) ≡ x
    go true e b f = let h = eqb-true x u e in subst (λ (y : ℕ). exchange u v (exchange u v y) ≡ y) (sym h) (rw (exchange_first u v) (exchange_second u v))
    go false e true f = let h = eqb-true x v f in subst (λ (y : ℕ). exchange u v (exchange u v y) ≡ y) (sym h) (rw (exchange_second u v) (exchange_first u v))
    go false e false f =
        let h = exchange_other u v x (eqb-false x u e) (eqb-false x v f) in
        ap (exchange u v) h ∙ h

exchange_below : (u v x n : ℕ) → u < n → v < n → x < n → exchange u v x < n
exchange_below u v x n a b c = go (eqb x u) (eqb x v)
  where
    go : (s t : Bool) → cond s v (cond t u x) < n
    go true t = b
    go false true = a
    go false false = c

-- two choices by one test are equal exactly when their arguments are
choice_same : (u v a b : ℕ) (s t : Bool) → s ≡ t → a ≡ b → cond s (exchange u v a) a ≡ cond t (exchange u v b) b
choice_same u v a b s t e h = rw (e, h)

choice_back : (u v a b : ℕ) (s t : Bool) → s ≡ t → cond s (exchange u v a) a ≡ cond t (exchange u v b) b → a ≡ b
choice_back u v a b true true e h = sym (exchange_twice u v a) ∙ ap (exchange u v) h ∙ exchange_twice u v b
choice_back u v a b true false e h = absurd (false≢true (sym e))
choice_back u v a b false true e h = absurd (false≢true e)
choice_back u v a b false false e h = h

module _ (P : Problem) (s u v : ℕ) where
  -- term i is there and of sort s
  abbrev member : ℕ → Bool
  member i = ltb i P.terms && eqb (P.sort i) s

  -- the codes with u and v swapped in sort s
  unfoldable pub swapped : (ℕ → ℕ) → ℕ → ℕ
  swapped c i = cond (member i) (exchange u v (c i)) (c i)

  member_out : (i : ℕ) → P.terms ≤ i → member i ≡ false
  member_out i h = rw (le-ltb i P.terms h)

  member_in : (i : ℕ) → i < P.terms → member i ≡ eqb (P.sort i) s
  member_in i h = rw (lt-ltb i P.terms h)

  member_alike : (i j : ℕ) → (i < P.terms → j < P.terms) → (j < P.terms → i < P.terms) → (i < P.terms → P.sort i ≡ P.sort j) → member i ≡ member j
  member_alike i j to from sorts =
      elim (dec_lt i P.terms) [
        | yes h ↦ member_in i h ∙ ap (λ (x : ℕ). eqb x s) (sorts h) ∙ sym (member_in j (to h))
        | no h ↦ member_out i (omega arith) ∙ sym (member_out j (outside h))
      ]
    where
      outside : (i < P.terms → ⊥) → P.terms ≤ j
      outside h = elim (dec_lt j P.terms) [ yes l ↦ absurd (h (from l)) | no l ↦ omega arith ]

  module _ (size c : ℕ → ℕ) (w : WellSorted P) (lu : u < size s) (lv : v < size s) (k : Consistent P size c) where
    alike0 : (i j : ℕ) → i < P.terms → j < P.terms → P.symbol i ≡ P.symbol j → member (P.arg0 i) ≡ member (P.arg0 j)
    alike0 i j hi hj e =
        member_alike (P.arg0 i) (P.arg0 j) (w.there0 i j hi hj e) (w.there0 j i hj hi (sym e)) (w.sort0 i j hi hj e)

    alike1 : (i j : ℕ) → i < P.terms → j < P.terms → P.symbol i ≡ P.symbol j → member (P.arg1 i) ≡ member (P.arg1 j)
    alike1 i j hi hj e =
        member_alike (P.arg1 i) (P.arg1 j) (w.there1 i j hi hj e) (w.there1 j i hj hi (sym e)) (w.sort1 i j hi hj e)

    alike_terms : (i j : ℕ) → i < P.terms → j < P.terms → P.sort i ≡ P.sort j → member i ≡ member j
    alike_terms i j hi hj e = member_alike i j (λ h. hj) (λ h. hi) (λ h. e)

    swapped_range : (i : ℕ) → i < P.terms → swapped c i < size (P.sort i)
    unfolding swapped
    swapped_range i h = go (eqb (P.sort i) s) refl
      where
        go : (b : Bool) → eqb (P.sort i) s ≡ b → cond (member i) (exchange u v (c i)) (c i) < size (P.sort i)
        go true e =
            let f = eqb-true (P.sort i) s e in
            rw (member_in i h, e) (rw f (exchange_below u v (c i) (size s) lu lv (rw f at (k.range i h))))
        go false e = rw (member_in i h, e) (k.range i h)

    -- swapping two codes of a sort keeps codes consistent
    pub swapped_consistent : Consistent P size (swapped c)
    unfolding swapped
    swapped_consistent =
        record {
          range = swapped_range;
          none = λ i h. rw (member_out i h) (k.none i h);
          congruent = λ i j hi hj e a b.
              choice_same u v (c i) (c j) (member i) (member j) (alike_terms i j hi hj (w.result i j hi hj e))
              (k.congruent i j hi hj e
              (choice_back u v (c (P.arg0 i)) (c (P.arg0 j)) (member (P.arg0 i)) (member (P.arg0 j)) (alike0 i j hi hj e) a)
              (choice_back u v (c (P.arg1 i)) (c (P.arg1 j)) (member (P.arg1 i)) (member (P.arg1 j)) (alike1 i j hi hj e) b));
          same = λ n h e.
              let l = w.left n h in
              let r = w.right n h in
              choice_same u v (c (P.left n)) (c (P.right n)) (member (P.left n)) (member (P.right n)) (alike_terms (P.left n) (P.right n) l r (w.sides n h)) (k.same n h e);
          differ = λ n h e f.
              let l = w.left n h in
              let r = w.right n h in
              k.differ n h e
              (choice_back u v (c (P.left n)) (c (P.right n)) (member (P.left n)) (member (P.right n)) (alike_terms (P.left n) (P.right n) l r (w.sides n h)) f);
        }

  -- the codes that swapping leaves alone, and those that it exchanges
  pub swapped_second : (c : ℕ → ℕ) (i : ℕ) → i < P.terms → P.sort i ≡ s → c i ≡ v → swapped c i ≡ u
  unfolding swapped
  swapped_second c i h e f = rw (member_in i h, eq-eqb (P.sort i) s e) (rw f (exchange_second u v))

  pub swapped_extends : (q c : ℕ → ℕ) → Unused P q s u → Unused P q s v → Extends P q c → Extends P q (swapped c)
  unfolding swapped
  swapped_extends q c nu nv x i h d = go (eqb (P.sort i) s) refl
    where
      go : (b : Bool) → eqb (P.sort i) s ≡ b → cond (member i) (exchange u v (c i)) (c i) ≡ q i
      go true e =
          let f = eqb-true (P.sort i) s e in
          let y = x i h d in
          rw (member_in i h, e) (exchange_other u v (c i) (λ g. nu i h f (sym y ∙ g)) (λ g. nv i h f (sym y ∙ g)) ∙ y)
      go false e = rw (member_in i h, e) (x i h d)
