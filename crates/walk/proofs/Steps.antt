-- Laws of a walk through a structure: its length, where it ends, two walks in turn, that no code leaves the sort, and one event more.
use Prim.Native.Nat.{ℕ, zero, suc, ◌+◌, ◌<◌}
use native.Mathlib.Nat.{not-suc-le-zero, le_of_suc-le-suc}
use native.Mathlib.Numerals.{add-one}
use native.Mathlib.Omega.{arith}
use mathlib.Core.Path.{◌≡◌, refl, ap, sym, ◌∙◌, subst}
use mathlib.Core.List.{List, [], ◌∷◌, ◌++◌}
use lib.ListN.{length, take, set}
use lib.Seq.{take-suc, take-suc-set, take-length}
use Rattle.prelude.specs.Lists.{at}
use Rattle.logic.specs.Sheet.{Sheet}
use Rattle.logic.specs.Structure.{Structure, InSorts, Interprets}
use Rattle.walk.specs.Walk.{walk, end}
use Rattle.walk.specs.Promise.{StaysIn}

module _ (M : Structure) where
  -- a code for each event
  pub length_walk : (c : ℕ) (fs : List ℕ) → length (walk M c fs) ≡ length fs
  length_walk c [] = refl
  length_walk c (f ∷ fs) = ap suc (length_walk (M.table f (c ∷ [])) fs)

  -- THEOREM: a walk over two lists one after the other is the walk over the first and then the second from where it ended
  pub walk_both : (c : ℕ) (fs gs : List ℕ) → walk M c (fs ++ gs) ≡ walk M c fs ++ walk M (end M c fs) gs
  walk_both c [] gs = refl
  walk_both c (f ∷ fs) gs = ap (λ (l : List ℕ). M.table f (c ∷ []) ∷ l) (walk_both (M.table f (c ∷ [])) fs gs)

  pub end_both : (c : ℕ) (fs gs : List ℕ) → end M c (fs ++ gs) ≡ end M (end M c fs) gs
  end_both c [] gs = refl
  end_both c (f ∷ fs) gs = end_both (M.table f (c ∷ [])) fs gs

  -- the code where a walk ends stands last in it; without an event it is the starting code
  pub end_last : (c : ℕ) (fs : List ℕ) → end M c fs ≡ at (c ∷ walk M c fs) (length fs)
  end_last c [] = refl
  end_last c (f ∷ fs) = end_last (M.table f (c ∷ [])) fs

  -- each code is what its event's table holds at the code where the events before it end
  pub walk_at : (c : ℕ) (fs : List ℕ) (k : ℕ) → k < length fs → at (walk M c fs) k ≡ M.table (at fs k) (end M c (take k fs) ∷ [])
  walk_at c [] k h = absurd (not-suc-le-zero h)
  walk_at c (f ∷ fs) zero h = refl
  walk_at c (f ∷ fs) (suc k) h = walk_at (M.table f (c ∷ [])) fs k (le_of_suc-le-suc h)

-- THEOREM: each code of a walk whose events stay in a sort is below the sort's size, and so is the code where it ends
module _ (sh : Sheet) (M : Structure) (i : Interprets M sh) (s : ℕ) where
  step_below : (c f : ℕ) → c < M.size s → StaysIn sh s f → M.table f (c ∷ []) < M.size s
  step_below c f h y =
      subst (λ (r : ℕ). M.table f (c ∷ []) < M.size r) y.gives
      (i.complete f y.there (c ∷ []) (subst (λ (ss : List ℕ). InSorts M.size ss (c ∷ [])) (sym y.takes) (h, tt)))

  pub walk_below : (c : ℕ) (fs : List ℕ) → c < M.size s → ((k : ℕ) → k < length fs → StaysIn sh s (at fs k)) → (k : ℕ) → k < length fs → at (walk M c fs) k < M.size s
  walk_below c [] h e k b = absurd (not-suc-le-zero b)
  walk_below c (f ∷ fs) h e zero b = step_below c f h (e 0 b)
  walk_below c (f ∷ fs) h e (suc k) b =
      walk_below (M.table f (c ∷ [])) fs (step_below c f h (e 0 (omega arith))) (λ j l. e (suc j) (omega arith)) k (le_of_suc-le-suc b)

  pub end_below : (c : ℕ) (fs : List ℕ) → c < M.size s → ((k : ℕ) → k < length fs → StaysIn sh s (at fs k)) → end M c fs < M.size s
  end_below c [] h e = h
  end_below c (f ∷ fs) h e = end_below (M.table f (c ∷ [])) fs (step_below c f h (e 0 (omega arith))) (λ j l. e (suc j) (omega arith))

-- the codes of the first k events stand in front of a list, and the walk is at this code
pub record WalkedTo (M : Structure) (c : ℕ) (fs out : List ℕ) (k x : ℕ) : Type 0 where
  pub stand : take k out ≡ walk M c (take k fs)
  pub reached : x ≡ end M c (take k fs)

module _ (M : Structure) (c : ℕ) (fs out : List ℕ) where
  pub walked_none : WalkedTo M c fs out 0 c
  walked_none = record { stand = refl; reached = refl }

  pub walked_more : (k a v : ℕ) → k < length fs → k < length out → WalkedTo M c fs out k a → v ≡ M.table (at fs k) (a ∷ []) → WalkedTo M c fs (set out k v) (k + 1) v
  walked_more k a v h l w e =
      let next : v ≡ M.table (at fs k) (end M c (take k fs) ∷ []) = e ∙ ap (λ (x : ℕ). M.table (at fs k) (x ∷ [])) w.reached in
      let more : take (k + 1) fs ≡ take k fs ++ (at fs k ∷ []) = ap (λ (n : ℕ). take n fs) (add-one k) ∙ take-suc fs k 0 h in
      record {
        stand =
            ap (λ (n : ℕ). take n (set out k v)) (add-one k)
            ∙ take-suc-set out k v l
            ∙ ap (λ (x : List ℕ). x ++ (v ∷ [])) w.stand
            ∙ ap (λ (x : ℕ). walk M c (take k fs) ++ (x ∷ [])) next
            ∙ sym (walk_both M c (take k fs) (at fs k ∷ []))
            ∙ ap (walk M c) (sym more);
        reached = next ∙ sym (end_both M c (take k fs) (at fs k ∷ [])) ∙ ap (end M c) (sym more);
      }

  pub walked_all : (a : ℕ) → length out ≡ length fs → WalkedTo M c fs out (length fs) a → out ≡ walk M c fs
  walked_all a h w = sym (take-length out) ∙ ap (λ (n : ℕ). take n out) h ∙ w.stand ∙ ap (walk M c) (take-length fs)
