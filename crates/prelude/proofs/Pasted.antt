-- Laws of a list written into a buffer: its length, what lies around it, two written one behind the other, one byte, and a lent stretch or tail that came back.
use Prim.Native.Nat.{ℕ, ◌+◌, ◌-◌, ◌≤◌, ◌<◌}
use native.Mathlib.Nat.{le_of_eq, add-zero, add_assoc}
use native.Mathlib.Numerals.{add-one}
use native.Mathlib.Omega.{arith}
use mathlib.Core.Path.{◌≡◌, refl, sym, ap, ◌∙◌}
use mathlib.Core.List.{List, [], ◌∷◌, ◌++◌, append_assoc, append-nil}
use lib.ListN.{length, take, drop, set, length-append, length-drop, drop_of_length-le, take-append-drop}
use lib.Seq.{take_all, take-length, take_at, drop_at, drop-drop, set_split, length-take-le, get_or-take, get_or-drop}
use borrow.Rule.Slice.PartMut.{put_mid, mid_of}
use Rattle.prelude.specs.Lists.{at}
use Rattle.prelude.specs.Pasted.{pasted, Wrote}

pub length_pasted : (d : List ℕ) (i : ℕ) (s : List ℕ) → i + length s ≤ length d → length (pasted d i s) ≡ length d
length_pasted d i s h =
    simp (length-append, length-drop, length-take-le i d (omega arith)) (omega arith)

-- one byte
pub pasted_one : (d : List ℕ) (i v : ℕ) → i < length d → set d i v ≡ pasted d i (v ∷ [])
pasted_one d i v h = set_split d i v h ∙ ap (λ (n : ℕ). take i d ++ v ∷ drop n d) (sym (add-one i))

-- the front of what was written, and what lies behind it
front : (d : List ℕ) (i : ℕ) (s : List ℕ) → i + length s ≤ length d → take (i + length s) (pasted d i s) ≡ take i d ++ s
front d i s h =
    ap (take (i + length s)) (sym (append_assoc (take i d) s (drop (i + length s) d)))
    ∙ take_at (take i d ++ s) (drop (i + length s) d) (i + length s) (simp (length-append, length-take-le i d (omega arith)))

pub pasted_behind : (d : List ℕ) (i : ℕ) (s : List ℕ) → i + length s ≤ length d → drop (i + length s) (pasted d i s) ≡ drop (i + length s) d
pasted_behind d i s h =
    ap (drop (i + length s)) (sym (append_assoc (take i d) s (drop (i + length s) d)))
    ∙ drop_at (take i d ++ s) (drop (i + length s) d) (i + length s) (simp (length-append, length-take-le i d (omega arith)))

behind : (d : List ℕ) (i : ℕ) (s : List ℕ) (n : ℕ) → i + length s ≤ length d → drop (i + length s + n) (pasted d i s) ≡ drop (i + length s + n) d
behind d i s n h =
    sym (drop-drop n (i + length s) (pasted d i s))
    ∙ ap (drop n) (pasted_behind d i s h)
    ∙ drop-drop n (i + length s) d

-- what lies before it, and the list itself
pub pasted_before : (d : List ℕ) (i : ℕ) (s : List ℕ) → i ≤ length d → take i (pasted d i s) ≡ take i d
pasted_before d i s h = take_at (take i d) (s ++ drop (i + length s) d) i (length-take-le i d h)

pub pasted_there : (d : List ℕ) (i : ℕ) (s : List ℕ) → i ≤ length d → take (length s) (drop i (pasted d i s)) ≡ s
pasted_there d i s h =
    ap (take (length s)) (drop_at (take i d) (s ++ drop (i + length s) d) i (length-take-le i d h))
    ∙ take_at s (drop (i + length s) d) (length s) refl

pub at_pasted : (d : List ℕ) (i : ℕ) (s : List ℕ) (k : ℕ) → i ≤ length d → k < length s → at (pasted d i s) (i + k) ≡ at s k
at_pasted d i s k h l =
    sym (get_or-drop i (pasted d i s) k 0)
    ∙ sym (get_or-take (length s) (drop i (pasted d i s)) k 0 l)
    ∙ ap (λ (x : List ℕ). at x k) (pasted_there d i s h)

-- a list behind another is their concatenation
pub pasted_more :
    (d : List ℕ) (i : ℕ) (s t : List ℕ) → i + length s ≤ length d → pasted (pasted d i s) (i + length s) t ≡ pasted d i (s ++ t)
pasted_more d i s t h =
    ap (λ (l : List ℕ). l ++ (t ++ drop (i + length s + length t) (pasted d i s))) (front d i s h)
    ∙ ap (λ (l : List ℕ). (take i d ++ s) ++ (t ++ l)) (behind d i s (length t) h)
    ∙ append_assoc (take i d) s (t ++ drop (i + length s + length t) d)
    ∙ ap (λ (l : List ℕ). take i d ++ l) (sym (append_assoc s t (drop (i + length s + length t) d)))
    ∙ ap (λ (n : ℕ). take i d ++ ((s ++ t) ++ drop n d)) (add_assoc i (length s) (length t) ∙ ap (λ (n : ℕ). i + n) (sym (length-append s t)))

-- nothing written
pub pasted_none : (d : List ℕ) (i : ℕ) → pasted d i [] ≡ d
pasted_none d i = ap (λ (n : ℕ). take i d ++ drop n d) (add-zero i) ∙ take-append-drop i d

-- a list that fills a lent stretch that came back
pub pasted_stretch : (d : List ℕ) (i e : ℕ) (s : List ℕ) → e ≡ i + length s → put_mid i (e - i) d s ≡ pasted d i s
pasted_stretch d i e s h =
    let n : i + (e - i) ≡ i + length s = omega arith in
    ap (λ (l : List ℕ). take i d ++ (s ++ l)) (drop-drop (e - i) i d ∙ ap (λ (m : ℕ). drop m d) n)

-- a list written at the front of a lent tail that came back
pub pasted_tail :
    (d : List ℕ) (i : ℕ) (s : List ℕ) → i + length s ≤ length d
    → put_mid i (length d - i) d (take (length s) s ++ drop (length s) (mid_of i (length d - i) d)) ≡ pasted d i s
pasted_tail d i s h =
    rw (
      take-length s,
      take_all (length d - i) (drop i d) (le_of_eq (length-drop i d)),
      drop-drop (length s) i d,
      drop_of_length-le (drop i d) (le_of_eq (length-drop i d)),
      append-nil,
    )

pub wrote_none : (d : List ℕ) (i : ℕ) → i ≤ length d → Wrote d i [] d i
wrote_none d i h = record { end = omega arith; within = h; held = sym (pasted_none d i) }

-- two writings, one behind the other
module _ (d : List ℕ) (i : ℕ) (s d' : List ℕ) (e : ℕ) (room : i + length s ≤ length d) (w : Wrote d i s d' e) where
  pub wrote_length : length d' ≡ length d
  wrote_length = ap length w.held ∙ length_pasted d i s room

  pub wrote_then : (t d'' : List ℕ) (r : ℕ) → Wrote d' e t d'' r → Wrote d i (s ++ t) d'' r
  wrote_then t d'' r v =
      record {
        end = omega (arith, w.end, v.end, length-append s t);
        within = omega (arith, v.within, wrote_length);
        held =
            v.held
            ∙ ap (λ (l : List ℕ). pasted l e t) w.held
            ∙ ap (λ (k : ℕ). pasted (pasted d i s) k t) w.end
            ∙ pasted_more d i s t room;
      }

pub wrote_both :
    {d : List ℕ} {i : ℕ} {s d' : List ℕ} {e : ℕ} {t d'' : List ℕ} {r : ℕ} → Wrote d i s d' e → Wrote d' e t d'' r → Wrote d i (s ++ t) d'' r
wrote_both {d} {i} {s} {d'} {e} {t} {d''} {r} w v = wrote_then d i s d' e (omega (arith, w.end, w.within)) w t d'' r v

pub wrote_three :
    (d : List ℕ) (i : ℕ) (s t u : List ℕ) {d₁ d₂ d₃ : List ℕ} {e₁ e₂ e₃ : ℕ} → i + (length s + length t) ≤ length d
    → Wrote d i s d₁ e₁ → Wrote d₁ e₁ t d₂ e₂ → Wrote d₂ e₂ u d₃ e₃ → Wrote d i (s ++ t ++ u) d₃ e₃
wrote_three d i s t u {d₁} {d₂} {d₃} {e₁} {e₂} {e₃} room v w x =
    wrote_then d i (s ++ t) d₂ e₂ (simp length-append room) (wrote_then d i s d₁ e₁ (omega arith) v t d₂ e₂ w) u d₃ e₃ x

pub wrote_four :
    (d : List ℕ) (i : ℕ) (s t u v : List ℕ) {d₁ d₂ d₃ d₄ : List ℕ} {e₁ e₂ e₃ e₄ : ℕ} → i + (length s + length t + length u) ≤ length d
    → Wrote d i s d₁ e₁ → Wrote d₁ e₁ t d₂ e₂ → Wrote d₂ e₂ u d₃ e₃ → Wrote d₃ e₃ v d₄ e₄ → Wrote d i (s ++ t ++ u ++ v) d₄ e₄
wrote_four d i s t u v {d₁} {d₂} {d₃} {d₄} {e₁} {e₂} {e₃} {e₄} room w x y z =
    wrote_then d i (s ++ t ++ u) d₃ e₃ (simp length-append room) (wrote_three d i s t u (omega arith) w x y) v d₄ e₄ z
