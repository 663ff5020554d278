-- A record by its kind: the payload's shape, and what follows where no cause applies.
use Prim.Native.Nat.{ℕ, ◌<◌}
use native.Mathlib.Omega.{arith}
use mathlib.Core.Path.{◌≡◌, ap, sym, ◌∙◌, subst}
use mathlib.Core.Bool.{false, ◌||◌}
use mathlib.Core.List.{List, [], ◌∷◌}
use lib.ListN.{length, get_or, take}
use lib.Dec.{ltb}
use borrow.Author.Tests.{ltb-true, ltb-false, leb-false, not-false}
use Rattle.logic.specs.Sheet.{Sheet}
use Rattle.layout.specs.Layout.{kind_of, wrong_length, add}
use Rattle.layout.specs.Parts.{payload_bytes, later, Good}
use Rattle.layout.specs.declared.Payload.{Payload}
use Rattle.layout.proofs.Causes.{Placed, placed, Clear, clear, no_terms}
use Rattle.prelude.proofs.Tests.{and_both, or_both}
use Rattle.layout.proofs.AtMostTwo.{front}

-- kinds of one length only
pub fixed : (m n : ℕ) → (ltb n m || ltb m n) ≡ false → n ≡ m
fixed m n e =
    let h = or_both (ltb n m) (ltb m n) e in
    let x = ltb-false n m h.0 in
    let y = ltb-false m n h.1 in
    omega arith

pub two_bytes_lem : (q : Payload) → q.len ≡ 2 → payload_bytes q ≡ q.b0 ∷ q.b1 ∷ []
two_bytes_lem q e = ap (λ (n : ℕ). take n (q.b0 ∷ q.b1 ∷ q.b2 ∷ [])) e

pub one_byte : (q : Payload) → q.len ≡ 1 → payload_bytes q ≡ q.b0 ∷ []
one_byte q e = ap (λ (n : ℕ). take n (q.b0 ∷ q.b1 ∷ q.b2 ∷ [])) e

-- a kind's number and a payload may be replaced by equal ones
pub later_at : (sh : Sheet) (k n : ℕ) (p p' : List ℕ) → k ≡ n → p' ≡ p → later sh (kind_of n) p ≡ later sh (kind_of k) p'
later_at sh k n p p' e e' = sym (ap (λ (x : ℕ). later sh (kind_of x) p') e ∙ ap (later sh (kind_of n)) e')

pub add_at : (sh : Sheet) (k n : ℕ) (p p' : List ℕ) → k ≡ n → p' ≡ p → add sh (kind_of n) p ≡ add sh (kind_of k) p'
add_at sh k n p p' e e' = sym (ap (λ (x : ℕ). add sh (kind_of x) p') e ∙ ap (add sh (kind_of n)) e')

pub good_at : (sh : Sheet) (k n : ℕ) (q : Payload) → k ≡ n → Good sh k q → Good sh n q
good_at sh k n q e g = subst (λ (x : ℕ). Good sh x q) e g

pub sized_at : (k n m : ℕ) → k ≡ n → wrong_length k m ≡ false → wrong_length n m ≡ false
sized_at k n m e w = subst (λ (x : ℕ). wrong_length x m ≡ false) e w

module _ (sh : Sheet) (n : ℕ) (q : Payload) (g : Good sh n q) where
  pub good_clear : Clear sh (kind_of n) (payload_bytes q)
  good_clear = clear sh (kind_of n) (payload_bytes q) g.none

  pub good_placed : Placed sh (kind_of n)
  good_placed = placed sh (kind_of n) g.placed

-- what adding needs, kind by kind
pub field_room : (sh : Sheet) (q : Payload) → Good sh 1 q → length sh.bounds < 8
field_room sh q g = leb-false 8 (length sh.bounds) (good_clear sh 1 q g).room

pub name_room : (sh : Sheet) (q : Payload) → Good sh 2 q → length sh.symbols < 64
name_room sh q g = leb-false 64 (length sh.symbols) (good_clear sh 2 q g).room

pub name_early : (sh : Sheet) (q : Payload) → Good sh 2 q → length sh.terms ≡ 0
name_early sh q g = let h = (good_placed sh 2 q g).order in no_terms sh (omega arith)

pub term_room : (sh : Sheet) (q : Payload) → Good sh 3 q → length sh.terms < 128
term_room sh q g = leb-false 128 (length sh.terms) (good_clear sh 3 q g).room

pub term_there : (sh : Sheet) (q : Payload) → Good sh 3 q → q.b0 < length sh.symbols
term_there sh q g =
    let h = (good_clear sh 3 q g).range in
    let e = front q in
    ltb-true q.b0 (length sh.symbols)
    (ap (λ (p : List ℕ). ltb (get_or p 0 0) (length sh.symbols)) (sym e)
    ∙ (and_both (ltb (get_or (payload_bytes q) 0 0) (length sh.symbols)) _ (not-false _ h)).0)

pub literal_room : (sh : Sheet) (q : Payload) → Good sh 4 q → length sh.literals < 128
literal_room sh q g = leb-false 128 (length sh.literals) (good_clear sh 4 q g).room

pub literal_room' : (sh : Sheet) (q : Payload) → Good sh 5 q → length sh.literals < 128
literal_room' sh q g = leb-false 128 (length sh.literals) (good_clear sh 5 q g).room

pub fill_room : (sh : Sheet) (q : Payload) → Good sh 7 q → length sh.fills < 64
fill_room sh q g = leb-false 64 (length sh.fills) (good_clear sh 7 q g).room
