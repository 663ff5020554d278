-- Sweeps of the congruence rule: they are sound, and labels that a sweep leaves as they are name the groups.
use Prim.Native.Nat.{ℕ, ◌≤◌, ◌<◌, ◌+◌}
use native.Mathlib.Omega.{arith}
use native.Mathlib.Decide.{dec_lt}
use mathlib.Core.Path.{◌≡◌, ap, sym, ◌∙◌}
use borrow.Author.Tests.{lt-ltb, le-ltb}
use Rattle.logic.specs.Problem.{Problem}
use Rattle.congruence.specs.Groups.{Models, Entails, Lowest, Groups, Closable}
use Rattle.congruence.specs.Parts.{Joined, named, key, Twin, Keeps, Closed, Coarsening, Stated, Swept}
use Rattle.congruence.specs.declared.Key.{Key}
use Rattle.congruence.proofs.Labels.{joined_together, joined_step, step_none, step_more}

pub named_there : (n : ℕ) (l : ℕ → ℕ) (a : ℕ) → a < n → named n l a ≡ l a
named_there n l a h = rw (lt-ltb a n h)

pub named_missing : (n : ℕ) (l : ℕ → ℕ) (a : ℕ) → n ≤ a → named n l a ≡ a
named_missing n l a h = rw (le-ltb a n h)

-- labels that agree name arguments alike, and give terms the same keys
named_agree : (n : ℕ) (l m : ℕ → ℕ) → ((k : ℕ) → k < n → m k ≡ l k) → (a : ℕ) → named n m a ≡ named n l a
named_agree n l m agree a =
    elim (dec_lt a n) [
      | yes h ↦ named_there n m a h ∙ agree a h ∙ sym (named_there n l a h)
      | no h ↦ let b : n ≤ a = omega arith in named_missing n m a b ∙ sym (named_missing n l a b)
    ]

key_agree : (P : Problem) (l m : ℕ → ℕ) → ((k : ℕ) → k < P.terms → m k ≡ l k) → (i : ℕ) → key P m i ≡ key P l i
key_agree P l m agree i =
    λ q. record {
      symbol = P.symbol i;
      first = named_agree P.terms l m agree (P.arg0 i) q;
      second = named_agree P.terms l m agree (P.arg1 i) q;
    }

-- codes that keep to the labels do not tell an argument from its label
keeps_named : (P : Problem) (l c : ℕ → ℕ) → Keeps P l c → (a : ℕ) → c (named P.terms l a) ≡ c a
keeps_named P l c keeps a =
    elim (dec_lt a P.terms) [
      | yes h ↦ ap c (named_there P.terms l a h) ∙ keeps a h
      | no h ↦ ap c (named_missing P.terms l a (omega arith))
    ]

-- the congruence rule is sound
pub alike_sound : (P : Problem) (l : ℕ → ℕ) (i j : ℕ) → i < P.terms → j < P.terms → key P l i ≡ key P l j → (c : ℕ → ℕ) → Models P c → Keeps P l c → c i ≡ c j
alike_sound P l i j bi bj e c models keeps =
    models.congruent i j bi bj (ap (λ (x : Key). x.symbol) e)
    (sym (keeps_named P l c keeps (P.arg0 i)) ∙ ap (λ (x : Key). c x.first) e ∙ keeps_named P l c keeps (P.arg0 j))
    (sym (keeps_named P l c keeps (P.arg1 i)) ∙ ap (λ (x : Key). c x.second) e ∙ keeps_named P l c keeps (P.arg1 j))

-- the first term with the key of j has its label
abbrev Labelled : Problem → (ℕ → ℕ) → ℕ → Type 0
Labelled P l j = (t : ℕ) × Twin P l j t × (l t ≡ l j)

labelled_closed : (P : Problem) (l : ℕ → ℕ) → ((j : ℕ) → j < P.terms → Labelled P l j) → Closed P l
labelled_closed P l all i j bi bj e =
    let s = all i bi in
    let t = all j bj in
    let x = s.0 in
    let y = t.0 in
    let same : x ≡ y =
    elim (dec_lt x y) [
      | yes h ↦ absurd (t.1.none x h (s.1.alike ∙ e))
      | no h ↦
          elim (dec_lt y x) [
            | yes g ↦ absurd (s.1.none y g (t.1.alike ∙ sym e))
            | no g ↦ omega arith
          ]
    ] in
    sym s.2 ∙ ap l same ∙ t.2

-- a sweep so far: where it changed nothing, the terms below j have the labels of their twins
pub record SweptTo (P : Problem) (l : ℕ → ℕ) (j : ℕ) (m : ℕ → ℕ) : Type 0 where
  pub step : Coarsening P l m
  pub labelled : ((k : ℕ) → k < 128 → m k ≡ l k) → (i : ℕ) → i < j → Labelled P l i

pub swept_none : (P : Problem) (l : ℕ → ℕ) → SweptTo P l 0 l
swept_none P l = record { step = step_none P l; labelled = λ same i b. absurd (omega arith) }

module _ (P : Problem) (n : P.terms ≤ 128) (l : ℕ → ℕ) where
  twin_agree : (m : ℕ → ℕ) → ((k : ℕ) → k < 128 → m k ≡ l k) → (j t : ℕ) → Twin P m j t → Twin P l j t
  twin_agree m same j t first =
      let keys = key_agree P l m (λ k b. same k (omega arith)) in
      record {
        bound = first.bound;
        alike = sym (keys t) ∙ first.alike ∙ keys j;
        none = λ k b e. first.none k b (keys k ∙ e ∙ sym (keys j));
      }

  pub swept_more : (j t : ℕ) (m m' : ℕ → ℕ) → j < P.terms → SweptTo P l j m → Twin P m j t → Joined m t j m' → SweptTo P l (j + 1) m'
  swept_more j t m m' b so first joined =
      let there : t < P.terms = omega (arith, first.bound) in
      let more : Coarsening P m m' = joined_step m m' t j joined P n there b (alike_sound P m t j there b first.alike) in
      let together : m' t ≡ m' j = joined_together m m' t j joined (omega arith) (omega arith) in
      record {
        step = step_more P l m m' so.step more;
        labelled = λ same i below.
            let before : (k : ℕ) → k < 128 → m k ≡ l k = λ k small. omega (arith, so.step.lower k small, more.lower k small, same k small) in
            elim (dec_lt i j) [
              | yes h ↦ so.labelled before i h
              | no h ↦
                  let e : i ≡ j = omega arith in
                  rw e (t, twin_agree m before j t first, sym (same t (omega arith)) ∙ together ∙ same j (omega arith))
            ];
      }

  pub swept_all : (m : ℕ → ℕ) → SweptTo P l P.terms m → Swept P l m
  swept_all m so =
      record {
        step = so.step;
        closed = λ same i j bi bj e.
            let keys = key_agree P l m (λ k b. same k (omega arith)) in
            same i (omega arith) ∙ labelled_closed P l (so.labelled same) i j bi bj (sym (keys i) ∙ e ∙ keys j) ∙ sym (same j (omega arith));
      }

-- the same statements below k have been seen to
pub record StatedTo (P : Problem) (l : ℕ → ℕ) (k : ℕ) (m : ℕ → ℕ) : Type 0 where
  pub step : Coarsening P l m
  pub stated : (x : ℕ) → x < k → P.equal x ≡ 1 → m (P.left x) ≡ m (P.right x)

pub stated_none : (P : Problem) (l : ℕ → ℕ) → StatedTo P l 0 l
stated_none P l = record { step = step_none P l; stated = λ x b. absurd (omega arith) }

module _ (P : Problem) (fits : Closable P) (k : ℕ) (b : k < P.literals) (l m : ℕ → ℕ) (so : StatedTo P l k m) where
  -- the sides i and j of a same statement made one
  pub stated_same : (i j : ℕ) (m' : ℕ → ℕ) → P.equal k ≡ 1 → i ≡ P.left k → j ≡ P.right k → Joined m i j m' → StatedTo P l (k + 1) m'
  stated_same i j m' equal left right joined =
      let n = fits.terms in
      let i-there : i < P.terms = omega (arith, fits.left k b) in
      let j-there : j < P.terms = omega (arith, fits.right k b) in
      let more : Coarsening P m m' = joined_step m m' i j joined P n i-there j-there (λ c models keeps. ap c left ∙ models.same k b equal ∙ ap c (sym right)) in
      record {
        step = step_more P l m m' so.step more;
        stated = λ x small e.
            elim (dec_lt x k) [
              | yes h ↦ more.coarser (P.left x) (P.right x) (omega (arith, fits.left x (omega arith))) (omega (arith, fits.right x (omega arith))) (so.stated x h e)
              | no h ↦
                  let eq : x ≡ k = omega arith in
                  rw (eq, ← left, ← right) (joined_together m m' i j joined (omega arith) (omega arith))
            ];
      }

  -- a differ statement plays no part
  pub stated_differ : (P.equal k ≡ 1 → ⊥) → StatedTo P l (k + 1) m
  stated_differ differ =
      record {
        step = so.step;
        stated = λ x small e.
            elim (dec_lt x k) [
              | yes h ↦ so.stated x h e
              | no h ↦ let eq : x ≡ k = omega arith in absurd (differ (rw eq at e))
            ];
      }

-- statements that hold of labels hold after a step
pub stated_kept : (P : Problem) → Closable P → (l m : ℕ → ℕ) → Stated P l → Coarsening P l m → Stated P m
stated_kept P fits l m stated step k b e =
    let n = fits.terms in
    step.coarser (P.left k) (P.right k) (omega (arith, fits.left k b)) (omega (arith, fits.right k b)) (stated k b e)

-- closed labels in which the same statements hold are themselves codes that meet everything, so that they tell apart what is not entailed; each term
-- was alone at the start, where its label is its own number
module _ (P : Problem) (fits : Closable P) (start l : ℕ → ℕ) (low : Lowest start) (own : (k : ℕ) → k < P.terms → start k ≡ k) (step : Coarsening P start l) (stated : Stated P l) (closed : Closed P l) where
  label_codes : ℕ → ℕ
  label_codes = named P.terms l

  own_codes : (i : ℕ) → i < P.terms → label_codes i ≡ l i
  unfolding label_codes
  own_codes i b = named_there P.terms l i b

  labels_model : Models P label_codes
  unfolding label_codes
  labels_model =
      record {
        congruent = λ i j bi bj f x y. own_codes i bi ∙ closed i j bi bj (λ q. record { symbol = f q; first = x q; second = y q }) ∙ sym (own_codes j bj);
        same = λ k b e. own_codes (P.left k) (fits.left k b) ∙ stated k b e ∙ sym (own_codes (P.right k) (fits.right k b));
      }

  pub labels_group : Groups P l
  labels_group =
      let n = fits.terms in
      let complete : (i j : ℕ) → i < P.terms → j < P.terms → Entails P i j → l i ≡ l j =
      λ i j bi bj e. sym (own_codes i bi) ∙ e label_codes labels_model ∙ own_codes j bj in
      let lowest = step.lowest low in
      record {
        sound = λ i j bi bj e c models.
            let kept = step.sound c models (λ k b. ap c (own k b)) in
            sym (kept i bi) ∙ ap c e ∙ kept j bj;
        complete = complete;
        lowest = lowest;
        least = λ i j bi bj e. omega (arith, complete i j bi bj e, lowest.below j (omega arith));
      }

-- there is only one way to name the groups
groups_lower : (P : Problem) (l m : ℕ → ℕ) → P.terms ≤ 128 → Groups P l → Groups P m → (i : ℕ) → i < P.terms → m i ≤ l i
groups_lower P l m n g h i b =
    let there : l i < P.terms = omega (arith, g.lowest.below i (omega arith)) in
    h.least i (l i) b there (g.sound i (l i) b there (sym (g.lowest.self i (omega arith))))

pub groups_unique : (P : Problem) (l m : ℕ → ℕ) → P.terms ≤ 128 → Groups P l → Groups P m → (i : ℕ) → i < P.terms → l i ≡ m i
groups_unique P l m n g h i b = omega (arith, groups_lower P l m n g h i b, groups_lower P m l n h g i b)

pub own_lowest : (l : ℕ → ℕ) → ((k : ℕ) → k < 128 → l k ≡ k) → Lowest l
own_lowest l own = record { below = λ k b. omega (arith, own k b); self = λ k b. ap l (own k b) }
