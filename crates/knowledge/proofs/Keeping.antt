-- What each step does to knowledge: the combinators that carry loops, and one law for each change of an array.
use Prim.Native.Nat.{ℕ, ◌+◌, ◌*◌, ◌/◌, ◌%◌, ◌^◌, ◌<◌}
use mathlib.Core.Path.{◌≡◌, refl, sym, ap, ◌∙◌}
use mathlib.Core.List.{List}
use mathlib.Core.Logic.{inl, inr}
use native.Mathlib.Omega.{arith}
use lib.ListN.{set}
use lib.Bits.{bit_or}
use Rattle.prelude.specs.Lists.{at}
use Rattle.prelude.proofs.Lists.{at_set}
use Rattle.knowledge.specs.declared.Known.{Known}
use Rattle.knowledge.specs.Knows.{Bit, Labels, Masks, Marks, Knows, SmallCodes, Same, Differ, Means, Kept, Struck, Marked}
use Rattle.knowledge.proofs.Bits.{bit_or_lem, bit_pow, bit_full}

-- nothing changes
pub stay : {If A : (ℕ → ℕ) → Type 0} → Kept If A A
stay = record { kept = λ c i a. a }

pub chain : {If A B D : (ℕ → ℕ) → Type 0} → Kept If A B → Kept If B D → Kept If A D
chain p q = record { kept = λ c i a. q.kept c i (p.kept c i a) }

-- a rule whose condition follows from what is known already
pub step : {If Con A B : (ℕ → ℕ) → Type 0} → ((c : ℕ → ℕ) → If c → A c → Con c) → Kept Con A B → Kept If A B
step f q = record { kept = λ c i a. q.kept c (f c i a) a }

pub step_from : {If Con A B D : (ℕ → ℕ) → Type 0} → Kept If A B → ((c : ℕ → ℕ) → If c → B c → Con c) → Kept Con B D → Kept If A D
step_from p f q = chain p (step f q)

-- what changes the labels alone
pub in_labels : {If : (ℕ → ℕ) → Type 0} {k : Known} {l : List ℕ} → Kept If (Labels k.labels) (Labels l) → Kept If (Knows k) (Knows (record { labels = l; masks = k.masks; marks = k.marks }))
in_labels q = record { kept = λ c i a. record { labels = q.kept c i a.labels; masks = a.masks; marks = a.marks } }

-- what strikes codes out
module _ {If : (ℕ → ℕ) → Type 0} {k : Known} where
  pub struck_none : Struck If k k
  struck_none = record { struck = stay; labels = refl; marks = refl }

  pub struck_chain : {k' k'' : Known} → Struck If k k' → Struck If k' k'' → Struck If k k''
  struck_chain p q = record { struck = chain p.struck q.struck; labels = q.labels ∙ p.labels; marks = q.marks ∙ p.marks }

  pub struck_step : {Con : (ℕ → ℕ) → Type 0} {k' : Known} → ((c : ℕ → ℕ) → If c → Masks k.masks c → Con c) → Struck Con k k' → Struck If k k'
  struck_step f q = record { struck = step f q.struck; labels = q.labels; marks = q.marks }

  pub in_masks : {Con : (ℕ → ℕ) → Type 0} {k' : Known} → ((c : ℕ → ℕ) → If c → Knows k c → Con c) → Struck Con k k' → Kept If (Knows k) (Knows k')
  in_masks f q = record {
    kept = λ c i a. record { labels = rw q.labels a.labels; masks = q.struck.kept c (f c i a) a.masks; marks = rw q.marks a.marks };
  }

-- what marks pairs
module _ {If : (ℕ → ℕ) → Type 0} {k : Known} where
  pub marked_none : Marked If k k
  marked_none = record { marked = stay; labels = refl; masks = refl }

  pub marked_chain : {k' k'' : Known} → Marked If k k' → Marked If k' k'' → Marked If k k''
  marked_chain p q = record { marked = chain p.marked q.marked; labels = q.labels ∙ p.labels; masks = q.masks ∙ p.masks }

  pub marked_step : {Con : (ℕ → ℕ) → Type 0} {k' : Known} → ((c : ℕ → ℕ) → If c → Marks k.marks c → Con c) → Marked Con k k' → Marked If k k'
  marked_step f q = record { marked = step f q.marked; labels = q.labels; masks = q.masks }

  pub in_marks : {Con : (ℕ → ℕ) → Type 0} {k' : Known} → ((c : ℕ → ℕ) → If c → Knows k c → Con c) → Marked Con k k' → Kept If (Knows k) (Knows k')
  in_marks f q = record {
    kept = λ c i a. record { labels = rw q.labels a.labels; masks = rw q.masks a.masks; marks = q.marked.kept c (f c i a) a.marks };
  }

-- a term's label has the term's code, and so has the label as a number
pub label_code : (l : List ℕ) (i g : ℕ) → i < 128 → g ≡ at l i → Means (Labels l) (Same g i)
label_code l i g h e = record { means = λ c k. ap c e ∙ k i h }

pub same_number : (l : List ℕ) (g x i : ℕ) → g ≡ x → Means (Labels l) (Same x i) → Means (Labels l) (Same g i)
same_number l g x i e m = record { means = λ c k. ap c e ∙ m.means c k }

-- a store of the label of a term of the same code
pub labels_set : (l : List ℕ) (k x : ℕ) → Kept (Same x k) (Labels l) (Labels (set l k x))
labels_set l k x =
    record {
      kept = λ c s h i hi.
          elim (at_set l k x i) [ inl e ↦ ap c e ∙ h i hi | inr e ↦ ap c e.1 ∙ s ∙ ap c (sym e.0) ];
    }

-- the codes of s go into a mask in which the term's code is not
pub masks_set : (w : List ℕ) (k s : ℕ) → Kept (λ c. Bit s (c k) → ⊥) (Masks w) (Masks (set w k (bit_or (at w k) s)))
masks_set w k s =
    record {
      kept = λ c d h i b.
          elim (at_set w k (bit_or (at w k) s) i) [
            | inl e ↦ h i (rw e at b)
            | inr e ↦
                let b' : Bit (bit_or (at w k) s) (c k) = rw (e.1, ap c e.0) at b in
                elim (bit_or_lem (at w k) s (c k) b') [ inl g ↦ h k g | inr g ↦ d g ]
          ];
    }

-- the place of column b in row a
pub row_of : (a b : ℕ) → b < 128 → (2 * a + b / 64) / 2 ≡ a
row_of a b h = omega arith

pub column_of_lem : (a b : ℕ) → b < 128 → (2 * a + b / 64) % 2 * 64 + b % 64 ≡ b
column_of_lem a b h = omega arith

pub marks_read : (m : List ℕ) (a b : ℕ) → b < 128 → Bit (at m (2 * a + b / 64)) (b % 64) → Means (Marks m) (Differ a b)
marks_read m a b h bit =
    record {
      means = λ c k e. k (2 * a + b / 64) (b % 64) (omega arith) bit (ap c (row_of a b h) ∙ e ∙ ap c (sym (column_of_lem a b h)));
    }

pub marks_put : (m : List ℕ) (a b s : ℕ) → b < 128 → s ≡ 2 ^ (b % 64)
    → Kept (Differ a b) (Marks m) (Marks (set m (2 * a + b / 64) (bit_or (at m (2 * a + b / 64)) s)))
marks_put m a b s hb hs =
    record {
      kept = λ c d k y v hv bit e.
          let x : ℕ = 2 * a + b / 64 in
          elim (at_set m x (bit_or (at m x) s) y) [
            | inl n ↦ k y v hv (rw n at bit) e
            | inr n ↦
                let bit' : Bit (bit_or (at m x) s) v = rw n.1 at bit in
                let e' : c (x / 2) ≡ c (x % 2 * 64 + v) = rw n.0 at e in
                elim (bit_or_lem (at m x) s v bit') [
                  | inl g ↦ k x v hv g e'
                  | inr g ↦
                      let w : v ≡ b % 64 = bit_pow (b % 64) v (rw hs at g) in
                      let e'' : c (x / 2) ≡ c (x % 2 * 64 + b % 64) = rw w at e' in
                      d (ap c (sym (row_of a b hb)) ∙ e'' ∙ ap c (column_of_lem a b hb))
                ]
          ];
    }

pub differ_sym : (a b : ℕ) (c : ℕ → ℕ) → Differ a b c → Differ b a c
differ_sym a b c d e = d (sym e)

-- no code is left to two terms whose masks together strike out all of them
pub masks_apart : (x y a b : ℕ) → bit_or x y ≡ 65535 → (c : ℕ → ℕ) → SmallCodes c → (Bit x (c a) → ⊥) → (Bit y (c b) → ⊥) → Differ a b c
masks_apart x y a b full c s p q e =
    elim (bit_or_lem x y (c a) (rw full (bit_full (c a) (s a)))) [ inl g ↦ p g | inr g ↦ q (rw e at g) ]
