-- What `solves` tests, place by place; and what the tables made from codes hold.
use Prim.Native.Nat.{ℕ, zero, suc, ◌+◌, ◌<◌}
use mathlib.Core.Path.{◌≡◌, refl, ap, ap₂, sym, ◌∙◌, subst}
use mathlib.Core.Bool.{Bool, true, false, not, ◌||◌, false≢true, cond}
use mathlib.Core.Logic.{inl, inr}
use mathlib.Core.List.{List, [], ◌∷◌, map}
use mathlib.Core.Option.{none, some}
use lib.ListN.{length, get_or}
use lib.Dec.{eqb}
use native.Mathlib.Omega.{arith}
use borrow.Author.Tests.{eqb-true, eq-eqb}
use Rattle.logic.specs.Sheet.{Sheet, Term, Literal, term_at, literal_at, no_term, no_literal}
use Rattle.logic.specs.WellFormed.{WellFormed}
use Rattle.prelude.specs.Tests.{same_list}
use Rattle.prelude.specs.Lists.{at}
use Rattle.prelude.proofs.Tests.{and_both, same_list_same, same_same_list, decided, both_true}
use Rattle.prelude.proofs.Lists.{map_each}
use Rattle.logic.specs.Structure.{Holds}
use Rattle.logic.proofs.Codes.{holds_same}
use Rattle.tables.specs.Tests.{holds}
use Rattle.tables.proofs.Tests.{holds_true, holds_false}
use Rattle.answer.specs.Answer.{Cell, cell_of, cells_from, reached_cells, compatible, functional, all_hold, solves, cell_at}
use Rattle.answer.proofs.Lists.{Mem}

-- two cells with one key hold one code
abbrev Agreed : Cell → Cell → Type 0
Agreed x y = x.key ≡ y.key → x.code ≡ y.code

agreed : (k l : List ℕ) (a b : ℕ) → (not (same_list k l) || eqb a b) ≡ true → k ≡ l → a ≡ b
agreed k l a b e p = eqb-true a b (step (same_list k l) (subst (λ (m : List ℕ). same_list k m ≡ true) p (same_same_list k)) e)
  where
    step : (s : Bool) → s ≡ true → (not s || eqb a b) ≡ true → eqb a b ≡ true
    step true t h = h
    step false t h = absurd (false≢true t)

agreeing : (k l : List ℕ) (a b : ℕ) → (k ≡ l → a ≡ b) → (not (same_list k l) || eqb a b) ≡ true
agreeing k l a b h = step (same_list k l) refl
  where
    step : (s : Bool) → same_list k l ≡ s → (not s || eqb a b) ≡ true
    step true t = eq-eqb a b (h (same_list_same k l t))
    step false t = refl

compatible_all : (x : Cell) (xs : List Cell) → compatible x xs ≡ true → (y : Cell) → Mem y xs → Agreed x y
compatible_all x [] e y m = absurd m
compatible_all x (z ∷ xs) e y m =
    let p : _ = and_both (not (same_list x.key z.key) || eqb x.code z.code) (compatible x xs) e in
    elim m [
      | inl q ↦ rw q (agreed x.key z.key x.code z.code p.0)
      | inr n ↦ compatible_all x xs p.1 y n
    ]

all_compatible : (x : Cell) (xs : List Cell) → ((y : Cell) → Mem y xs → Agreed x y) → compatible x xs ≡ true
all_compatible x [] h = refl
all_compatible x (z ∷ xs) h =
    both_true (not (same_list x.key z.key) || eqb x.code z.code) (compatible x xs)
    (agreeing x.key z.key x.code z.code (h z (inl refl)))
    (all_compatible x xs (λ y m. h y (inr m)))

functional_all : (xs : List Cell) → functional xs ≡ true → (x y : Cell) → Mem x xs → Mem y xs → Agreed x y
functional_all [] e x y m n = absurd m
functional_all (z ∷ xs) e x y m n = step (and_both (compatible z xs) (functional xs) e) m n (functional_all xs)
  where
    step : (compatible z xs ≡ true) × (functional xs ≡ true) → Mem x (z ∷ xs) → Mem y (z ∷ xs) → (functional xs ≡ true → (a b : Cell) → Mem a xs → Mem b xs → Agreed a b) → Agreed x y
    step p (inl q) (inl r) h k = ap (λ (a : Cell). a.code) (q ∙ sym r)
    step p (inl q) (inr r) h k = ap (λ (a : Cell). a.code) q ∙ compatible_all z xs p.0 y r (sym (ap (λ (a : Cell). a.key) q) ∙ k)
    step p (inr q) (inl r) h k =
        sym (compatible_all z xs p.0 x q (sym (k ∙ ap (λ (a : Cell). a.key) r))) ∙ sym (ap (λ (a : Cell). a.code) r)
    step p (inr q) (inr r) h k = h p.1 x y q r k

all_functional : (xs : List Cell) → ((x y : Cell) → Mem x xs → Mem y xs → Agreed x y) → functional xs ≡ true
all_functional [] h = refl
all_functional (z ∷ xs) h =
    both_true (compatible z xs) (functional xs)
    (all_compatible z xs (λ y m. h z y (inl refl) (inr m)))
    (all_functional xs (λ x y m n. h x y (inr m) (inr n)))

-- the cells that the terms reach, by the terms' numbers
cell_mem : (c : ℕ → ℕ) (i : ℕ) (ts : List Term) (k n : ℕ) → k < length ts → n ≡ i + k → Mem (cell_of c n (get_or ts k no_term)) (cells_from c i ts)
cell_mem c i [] k n h e = absurd (omega arith)
cell_mem c i (t ∷ ts) zero n h e = let m : n ≡ i = omega arith in inl (ap (λ (j : ℕ). cell_of c j t) m)
cell_mem c i (t ∷ ts) (suc k) n h e = inr (cell_mem c (suc i) ts k n (omega arith) (omega arith))

-- the term that reaches a cell
record Reaching (c : ℕ → ℕ) (i : ℕ) (ts : List Term) (x : Cell) : Type 0 where
  number : ℕ
  place : ℕ
  inside : place < length ts
  numbered : number ≡ i + place
  is : x ≡ cell_of c number (get_or ts place no_term)

mem_cell : (c : ℕ → ℕ) (i : ℕ) (ts : List Term) (x : Cell) → Mem x (cells_from c i ts) → Reaching c i ts x
mem_cell c i [] x m = absurd m
mem_cell c i (t ∷ ts) x (inl e) = record { number = i; place = 0; inside = omega arith; numbered = omega arith; is = e }
mem_cell c i (t ∷ ts) x (inr m) =
    let r : Reaching c (suc i) ts x = mem_cell c (suc i) ts x m in
    record { number = r.number; place = suc r.place; inside = omega arith; numbered = omega arith; is = r.is }

-- the codes c solve the sheet
pub record Solution (sh : Sheet) (c : ℕ → ℕ) : Type 0 where
  pub congruent : (i j : ℕ) → i < length sh.terms → j < length sh.terms → (term_at sh i).symbol ≡ (term_at sh j).symbol → map c (term_at sh i).args ≡ map c (term_at sh j).args → c i ≡ c j
  pub meets : (k : ℕ) → k < length sh.literals → Holds c (literal_at sh k)

hold_true : (c : ℕ → ℕ) (l : Literal) → Holds c l → holds c l ≡ true
hold_true c l h = elim (decided (holds c l)) [ inl e ↦ e | inr e ↦ absurd (holds_false c l e h) ]

all_hold_lem : (c : ℕ → ℕ) (ls : List Literal) → all_hold c ls ≡ true → (k : ℕ) → k < length ls → Holds c (get_or ls k no_literal)
all_hold_lem c [] e k h = absurd (omega arith)
all_hold_lem c (l ∷ ls) e zero h = holds_true c l (and_both (holds c l) (all_hold c ls) e).0
all_hold_lem c (l ∷ ls) e (suc k) h = all_hold_lem c ls (and_both (holds c l) (all_hold c ls) e).1 k (omega arith)

hold_all : (c : ℕ → ℕ) (ls : List Literal) → ((k : ℕ) → k < length ls → Holds c (get_or ls k no_literal)) → all_hold c ls ≡ true
hold_all c [] h = refl
hold_all c (l ∷ ls) h =
    both_true (holds c l) (all_hold c ls)
    (hold_true c l (h 0 (omega arith)))
    (hold_all c ls (λ k b. h (suc k) (omega arith)))

pub solved : (sh : Sheet) (cs : List ℕ) → solves sh cs ≡ true → Solution sh (at cs)
unfolding solves
solved sh cs e =
    let p : (functional (reached_cells sh cs) ≡ true) × (all_hold (at cs) sh.literals ≡ true) =
    and_both (functional (reached_cells sh cs)) (all_hold (at cs) sh.literals) e in
    record {
      congruent = λ i j h k q r.
          functional_all (reached_cells sh cs) p.0 (cell_of (at cs) i (term_at sh i)) (cell_of (at cs) j (term_at sh j))
          (cell_mem (at cs) 0 sh.terms i i h (omega arith))
          (cell_mem (at cs) 0 sh.terms j j k (omega arith))
          (ap₂ (λ (a : ℕ) (l : List ℕ). a ∷ l) q r);
      meets = all_hold_lem (at cs) sh.literals p.1;
    }

cons_head : (x y : ℕ) (xs ys : List ℕ) → x ∷ xs ≡ y ∷ ys → x ≡ y
cons_head x y xs ys e = cc

cons_tail : (x y : ℕ) (xs ys : List ℕ) → x ∷ xs ≡ y ∷ ys → xs ≡ ys
cons_tail x y xs ys e = cc

-- the term that reaches a cell of the sheet
record ReachedBy (sh : Sheet) (c : ℕ → ℕ) (x : Cell) : Type 0 where
  number : ℕ
  there : number < length sh.terms
  is : x ≡ cell_of c number (term_at sh number)

reached_by : (sh : Sheet) (c : ℕ → ℕ) (x : Cell) → Mem x (cells_from c 0 sh.terms) → ReachedBy sh c x
reached_by sh c x m =
    let r : Reaching c 0 sh.terms x = mem_cell c 0 sh.terms x m in
    let e : r.number ≡ r.place = omega arith in
    record {
      number = r.place;
      there = r.inside;
      is = r.is ∙ ap (λ (n : ℕ). cell_of c n (term_at sh r.place)) e;
    }

pub solving : (sh : Sheet) (cs : List ℕ) → Solution sh (at cs) → solves sh cs ≡ true
unfolding solves
solving sh cs s =
    both_true (functional (reached_cells sh cs)) (all_hold (at cs) sh.literals)
    (all_functional (reached_cells sh cs) one)
    (hold_all (at cs) sh.literals s.meets)
  where
    one : (x y : Cell) → Mem x (reached_cells sh cs) → Mem y (reached_cells sh cs) → Agreed x y
    one x y m n k =
        let a : ReachedBy sh (at cs) x = reached_by sh (at cs) x m in
        let b : ReachedBy sh (at cs) y = reached_by sh (at cs) y n in
        let keys : (term_at sh a.number).symbol ∷ map (at cs) (term_at sh a.number).args ≡ (term_at sh b.number).symbol ∷ map (at cs) (term_at sh b.number).args =
        sym (ap (λ (z : Cell). z.key) a.is) ∙ k ∙ ap (λ (z : Cell). z.key) b.is in
        ap (λ (z : Cell). z.code) a.is
        ∙ s.congruent a.number b.number a.there b.there (cons_head _ _ _ _ keys) (cons_tail _ _ _ _ keys)
        ∙ sym (ap (λ (z : Cell). z.code) b.is)

-- codes that agree with c on the terms solve what c solves
pub solution_same : (sh : Sheet) → WellFormed sh → (c d : ℕ → ℕ) → ((i : ℕ) → i < length sh.terms → c i ≡ d i) → Solution sh c → Solution sh d
solution_same sh w c d same s =
    record {
      congruent = λ i j h k p q.
          sym (same i h) ∙ s.congruent i j h k p (args i h ∙ q ∙ sym (args j k)) ∙ same j k;
      meets = λ k h.
          holds_same c d (literal_at sh k) (same (literal_at sh k).left (w.left k h)) (same (literal_at sh k).right (w.right k h)) (s.meets k h);
    }
  where
    args : (i : ℕ) → i < length sh.terms → map c (term_at sh i).args ≡ map d (term_at sh i).args
    args i h = map_each c d (λ a. a < i) (λ a l. same a (omega arith)) (term_at sh i).args (w.args i h)

-- What tables made from codes hold: looking a key up among cells gives the code of a cell with this key, or nothing where there is none.
record Kept (key : List ℕ) (xs : List Cell) (v : ℕ) : Type 0 where
  cell : Cell
  member : Mem cell xs
  keyed : cell.key ≡ key
  coded : cell.code ≡ v

kept : (key : List ℕ) (xs : List Cell) (v : ℕ) → cell_at key xs ≡ some v → Kept key xs v
kept key [] v e = let z : ◌≡◌ {A = ℕ} 0 1 = cc in absurd (omega arith)
kept key (x ∷ xs) v e = step (same_list x.key key) refl e (kept key xs v)
  where
    step : (b : Bool) → same_list x.key key ≡ b → cond b (some x.code) (cell_at key xs) ≡ some v → (cell_at key xs ≡ some v → Kept key xs v) → Kept key (x ∷ xs) v
    step true t f r = record { cell = x; member = inl refl; keyed = same_list_same x.key key t; coded = cc }
    step false t f r =
        let g : Kept key xs v = r f in
        record { cell = g.cell; member = inr g.member; keyed = g.keyed; coded = g.coded }

not_kept : (key : List ℕ) (xs : List Cell) → cell_at key xs ≡ none → (x : Cell) → Mem x xs → x.key ≡ key → ⊥
not_kept key [] e x m k = m
not_kept key (y ∷ xs) e x m k = step (same_list y.key key) refl e m (not_kept key xs)
  where
    step : (b : Bool) → same_list y.key key ≡ b → cond b (some y.code) (cell_at key xs) ≡ none → Mem x (y ∷ xs) → (cell_at key xs ≡ none → (z : Cell) → Mem z xs → z.key ≡ key → ⊥) → ⊥
    step true t f n r = let z : ◌≡◌ {A = ℕ} 0 1 = cc in omega arith
    step false t f (inl q) r =
        false≢true (sym t ∙ subst (λ (l : List ℕ). same_list y.key l ≡ true) (sym (ap (λ (z : Cell). z.key) q) ∙ k) (same_same_list y.key))
    step false t f (inr q) r = r f x q k

-- the term whose code a table holds at the codes xs
pub record TermOf (sh : Sheet) (c : ℕ → ℕ) (g : ℕ) (xs : List ℕ) (v : ℕ) : Type 0 where
  pub number : ℕ
  pub there : number < length sh.terms
  pub symbol : (term_at sh number).symbol ≡ g
  pub args : map c (term_at sh number).args ≡ xs
  pub code : c number ≡ v

pub term_of : (sh : Sheet) (c : ℕ → ℕ) (g : ℕ) (xs : List ℕ) (v : ℕ) → cell_at (g ∷ xs) (cells_from c 0 sh.terms) ≡ some v → TermOf sh c g xs v
term_of sh c g xs v e =
    let k : Kept (g ∷ xs) (cells_from c 0 sh.terms) v = kept (g ∷ xs) (cells_from c 0 sh.terms) v e in
    let r : ReachedBy sh c k.cell = reached_by sh c k.cell k.member in
    let keys : (cell_of c r.number (term_at sh r.number)).key ≡ g ∷ xs = sym (ap (λ (x : Cell). x.key) r.is) ∙ k.keyed in
    record {
      number = r.number;
      there = r.there;
      symbol = cons_head _ _ _ _ keys;
      args = cons_tail _ _ _ _ keys;
      code = sym (ap (λ (x : Cell). x.code) r.is) ∙ k.coded;
    }

-- a term's own cell is not empty
pub own_cell : (sh : Sheet) (c : ℕ → ℕ) (i : ℕ) → i < length sh.terms → cell_at (cell_of c i (term_at sh i)).key (cells_from c 0 sh.terms) ≡ none → ⊥
own_cell sh c i h e =
    not_kept (cell_of c i (term_at sh i)).key (cells_from c 0 sh.terms) e (cell_of c i (term_at sh i)) (cell_mem c 0 sh.terms i i h (omega arith)) refl
