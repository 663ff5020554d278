-- A line by its length, and without its carriage return; what is cut of an over-long line changes no reply.
use Prim.Native.Nat.{ℕ, suc, ◌-◌, ◌≤◌, ◌<◌}
use native.Mathlib.Omega.{arith}
use mathlib.Core.Path.{◌≡◌, refl, sym, ap, ap₂, ◌∙◌}
use mathlib.Core.Bool.{Bool, true, false, cond}
use mathlib.Core.List.{List, [], ◌∷◌}
use lib.ListN.{length, take, get_or, length-take}
use lib.Dec.{ltb, eqb}
use borrow.Author.Tests.{eq-eqb, ne_eqb, lt-ltb, le-ltb}
use Rattle.lines.specs.Lines.{empty_line, long_line}
use Rattle.replies.specs.Reply.{without_return, most_characters, asked, sized, reply}

-- a line by its length
module _ (s t : List ℕ) (e : s ≡ t) where
  abbrev choice : Bool → Bool → List ℕ
  choice none long = cond none empty_line (cond long long_line (asked s))

  pub sized_empty : length s ≡ 0 → empty_line ≡ sized t
  sized_empty h = ap (λ (b : Bool). choice b (ltb most_characters (length s))) (sym (eq-eqb (length s) 0 h)) ∙ ap sized e

  pub sized_long : (length s ≡ 0 → ⊥) → most_characters < length s → long_line ≡ sized t
  sized_long h l = ap₂ choice (sym (ne_eqb (length s) 0 h)) (sym (lt-ltb most_characters (length s) l)) ∙ ap sized e

  pub sized_asked : (length s ≡ 0 → ⊥) → length s ≤ most_characters → asked s ≡ sized t
  sized_asked h l = ap₂ choice (sym (ne_eqb (length s) 0 h)) (sym (le-ltb most_characters (length s) l)) ∙ ap sized e

-- a line without its carriage return
pub return_none : (l : List ℕ) → length l ≡ 0 → l ≡ without_return l
unfolding without_return
return_none [] h = refl
return_none (c ∷ l) h = absurd (omega arith)

module _ (l : List ℕ) where
  abbrev cut : Bool → List ℕ
  cut b = cond b (take (length l - 1) l) l

  pub return_cut : get_or l (length l - 1) 0 ≡ 13 → take (length l - 1) l ≡ without_return l
  unfolding without_return
  return_cut h = ap cut (sym (eq-eqb (get_or l (length l - 1) 0) 13 h))

  pub return_kept : (get_or l (length l - 1) 0 ≡ 13 → ⊥) → l ≡ without_return l
  unfolding without_return
  return_kept h = ap cut (sym (ne_eqb (get_or l (length l - 1) 0) 13 h))

  pub return_long : length l ≤ suc (length (without_return l))
  unfolding without_return
  return_long = kept (eqb (get_or l (length l - 1) 0) 13)
    where
      kept : (b : Bool) → length l ≤ suc (length (cut b))
      kept true = omega (arith, length-take (length l - 1) l)
      kept false = omega arith

-- the program holds 262,146 characters of a line: what is cut changes no answer
long_reply : (l : List ℕ) → 262146 ≤ length l → long_line ≡ reply l
unfolding reply
long_reply l h = sized_long (without_return l) (without_return l) refl (λ z. omega (arith, return_long l)) (omega (arith, return_long l))

pub cut_reply : (l : List ℕ) → 262146 ≤ length l → reply (take 262146 l) ≡ reply l
cut_reply l h = sym (long_reply (take 262146 l) (omega (arith, length-take 262146 l))) ∙ long_reply l h
