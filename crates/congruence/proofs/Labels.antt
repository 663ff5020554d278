-- Making two groups one: what it does to labels, and that it is sound.
use Prim.Native.Nat.{ℕ, ◌≤◌, ◌<◌, min, max}
use native.Mathlib.Omega.{arith}
use native.Mathlib.Decide.{dec_le, ℕ_discrete}
use mathlib.Core.Path.{◌≡◌, ap, sym, ◌∙◌, subst}
use mathlib.Core.Logic.{◌⊎◌, inl, inr}
use mathlib.Core.List.{List, map}
use lib.ListN.{get_or, get_or-map}
use borrow.Author.Tests.{eq-eqb, ne_eqb}
use Rattle.logic.specs.Problem.{Problem}
use Rattle.prelude.specs.Lists.{at}
use Rattle.congruence.specs.Closure.{relabel}
use Rattle.congruence.specs.Groups.{Models, Lowest}
use Rattle.congruence.specs.Parts.{Joined, Keeps, Coarsening}

pub relabel_hit : (lo hi x : ℕ) → x ≡ hi → relabel lo hi x ≡ lo
relabel_hit lo hi x h = rw (eq-eqb x hi h)

pub relabel_miss : (lo hi x : ℕ) → (x ≡ hi → ⊥) → relabel lo hi x ≡ x
relabel_miss lo hi x h = rw (ne_eqb x hi h)

relabel_zero : (lo hi : ℕ) → lo ≤ hi → relabel lo hi 0 ≡ 0
relabel_zero lo hi h =
    elim (ℕ_discrete 0 hi) [
      | yes e ↦ relabel_hit lo hi 0 e ∙ omega arith
      | no n ↦ relabel_miss lo hi 0 n
    ]

-- labels relabelled from the higher of two to the lower; past the end of the list there is 0 before and after
pub joined_map : (l r : List ℕ) (i j lo hi : ℕ) → min (at l i) (at l j) ≡ lo → max (at l i) (at l j) ≡ hi → r ≡ map (relabel lo hi) l → Joined (at l) i j (at r)
joined_map l r i j lo hi low high e k b =
    rw (low, high, e)
    (subst (λ (d : ℕ). get_or (map (relabel lo hi) l) k d ≡ relabel lo hi (at l k)) (relabel_zero lo hi (omega arith))
    (get_or-map (relabel lo hi) l k 0))

pub joined_none : (l : List ℕ) (i j : ℕ) → at l i ≡ at l j → Joined (at l) i j (at l)
joined_none l i j e k b =
    elim (ℕ_discrete (at l k) (max (at l i) (at l j))) [
      | yes h ↦ let x : at l k ≡ min (at l i) (at l j) = omega arith in x ∙ sym (relabel_hit _ _ _ h)
      | no h ↦ sym (relabel_miss _ _ _ h)
    ]

module _ (l m : ℕ → ℕ) (i j : ℕ) (h : Joined l i j m) where
  -- a term of the higher label has the lower one now, and every other keeps its label
  pub joined_cases : (k : ℕ) → k < 128 → ((l k ≡ max (l i) (l j)) × (m k ≡ min (l i) (l j))) ⊎ ((l k ≡ max (l i) (l j) → ⊥) × (m k ≡ l k))
  joined_cases k b =
      elim (ℕ_discrete (l k) (max (l i) (l j))) [
        | yes e ↦ inl (e, h k b ∙ relabel_hit _ _ _ e)
        | no n ↦ inr (n, h k b ∙ relabel_miss _ _ _ n)
      ]

  pub joined_lower : (k : ℕ) → k < 128 → m k ≤ l k
  joined_lower k b = elim (joined_cases k b) [ inl e ↦ omega arith | inr e ↦ omega arith ]

  pub joined_coarser : (x y : ℕ) → x < 128 → y < 128 → l x ≡ l y → m x ≡ m y
  joined_coarser x y bx by e = h x bx ∙ ap (relabel (min (l i) (l j)) (max (l i) (l j))) e ∙ sym (h y by)

  pub joined_together : i < 128 → j < 128 → m i ≡ m j
  joined_together bi bj =
      elim (joined_cases i bi) [
        | inl e ↦ elim (joined_cases j bj) [ inl f ↦ omega arith | inr f ↦ omega arith ]
        | inr e ↦ elim (joined_cases j bj) [ inl f ↦ omega arith | inr f ↦ omega arith ]
      ]

  lower_label : Lowest l → i < 128 → j < 128 → l (min (l i) (l j)) ≡ min (l i) (l j)
  lower_label low bi bj =
      elim (dec_le (l i) (l j)) [
        | yes le ↦ let e : min (l i) (l j) ≡ l i = omega arith in rw e (low.self i bi)
        | no gt ↦ let e : min (l i) (l j) ≡ l j = omega arith in rw e (low.self j bj)
      ]

  joined_self : Lowest l → i < 128 → j < 128 → (k : ℕ) → k < 128 → m (m k) ≡ m k
  joined_self low bi bj k b =
      let under = low.below i bi in
      let known = lower_label low bi bj in
      let small : l k < 128 = omega (arith, low.below k b) in
      let again = low.self k b in
      elim (joined_cases k b) [
        | inl e ↦
            let stays : m (min (l i) (l j)) ≡ min (l i) (l j) = elim (joined_cases (min (l i) (l j)) (omega arith)) [ inl f ↦ f.1 | inr f ↦ f.1 ∙ known ] in
            ap m e.1 ∙ stays ∙ sym e.1
        | inr e ↦
            let stays : m (l k) ≡ l k = elim (joined_cases (l k) small) [ inl f ↦ absurd (e.0 (sym again ∙ f.0)) | inr f ↦ f.1 ∙ again ] in
            ap m e.1 ∙ stays ∙ sym e.1
      ]

  pub joined_lowest : i < 128 → j < 128 → Lowest l → Lowest m
  joined_lowest bi bj low =
      record { below = λ k b. omega (arith, joined_lower k b, low.below k b); self = joined_self low bi bj }

  -- codes that keep to l and are equal at i and j keep to m
  pub joined_keeps : (P : Problem) (c : ℕ → ℕ) → P.terms ≤ 128 → i < P.terms → j < P.terms → c i ≡ c j → Keeps P l c → Keeps P m c
  joined_keeps P c n bi bj e keeps k b =
      let ends : c (l i) ≡ c (l j) = keeps i bi ∙ e ∙ sym (keeps j bj) in
      let sides : c (min (l i) (l j)) ≡ c (max (l i) (l j)) =
      elim (dec_le (l i) (l j)) [
        | yes le ↦ let x : min (l i) (l j) ≡ l i = omega arith in let y : max (l i) (l j) ≡ l j = omega arith in rw (x, y) ends
        | no gt ↦ let x : min (l i) (l j) ≡ l j = omega arith in let y : max (l i) (l j) ≡ l i = omega arith in rw (x, y) (sym ends)
      ] in
      elim (joined_cases k (omega arith)) [
        | inl f ↦ ap c f.1 ∙ sides ∙ ap c (sym f.0) ∙ keeps k b
        | inr f ↦ ap c f.1 ∙ keeps k b
      ]

  pub joined_step : (P : Problem) → P.terms ≤ 128 → i < P.terms → j < P.terms → ((c : ℕ → ℕ) → Models P c → Keeps P l c → c i ≡ c j) → Coarsening P l m
  joined_step P n bi bj forced =
      record {
        lower = joined_lower;
        coarser = joined_coarser;
        lowest = joined_lowest (omega arith) (omega arith);
        sound = λ c models keeps. joined_keeps P c n bi bj (forced c models keeps) keeps;
      }

pub step_none : (P : Problem) (l : ℕ → ℕ) → Coarsening P l l
step_none P l =
    record { lower = λ k b. omega arith; coarser = λ i j bi bj e. e; lowest = λ low. low; sound = λ c models keeps. keeps }

pub step_more : (P : Problem) (l m n : ℕ → ℕ) → Coarsening P l m → Coarsening P m n → Coarsening P l n
step_more P l m n s t =
    record {
      lower = λ k b. omega (arith, s.lower k b, t.lower k b);
      coarser = λ i j bi bj e. t.coarser i j bi bj (s.coarser i j bi bj e);
      lowest = λ low. t.lowest (s.lowest low);
      sound = λ c models keeps. t.sound c models (s.sound c models keeps);
    }
