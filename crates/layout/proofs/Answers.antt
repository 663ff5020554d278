-- What every answer to "read" says, by the layout alone: a sheet is accepted exactly when it is the encoding of a well-formed one, and has
-- at most 2,545 bytes; a refusal has a number from 1 to 9, or 16, and a place in the sheet.
use Prim.Native.Nat.{ℕ, zero, suc, ◌+◌, ◌≤◌}
use native.Mathlib.Omega.{arith}
use mathlib.Core.Logic.{◌↔◌, ◌⊎◌, inl, inr}
use mathlib.Core.Path.{◌≡◌, refl, ap, sym, ◌∙◌, subst}
use mathlib.Core.Bool.{Bool, true, false, not, ◌&&◌, cond}
use mathlib.Core.List.{List}
use lib.ListN.{length, take, drop}
use lib.Seq.{take_all}
use lib.Dec.{leb, ltb, eqb}
use borrow.Author.Tests.{leb-true, leb-false, eqb-true, eqb-false, eq-eqb, not-false}
use Rattle.logic.specs.Sheet.{Sheet, without_fills}
use Rattle.logic.specs.WellFormed.{WellFormed, Ended}
use Rattle.layout.specs.Layout
use Rattle.layout.specs.Layout.{kind_of, cause, accepted, refused, ended, read_from, reading, empty, misplaced, wrong_length, too_many, out_of_range, ill_sorted, repeated, refilled, InSheet}
use Rattle.records.specs.Record.{kind_at, length_at, payload_at}
use Rattle.layout.specs.Encode.{encode}
use Rattle.records.specs.Step.{step_at}
use Rattle.layout.specs.Parts.{SoFar, fault_of, fault_at}
use Rattle.records.specs.declared.Step.{Step}
use Rattle.records.specs.declared.Step.TheVariants.{Record, Cut, End}
use Rattle.layout.proofs.Causes.{reached_6}
use Rattle.layout.proofs.Growing.{grown, empty_sofar, fine}
use Rattle.layout.proofs.Longest.{encode_longest}
use Rattle.layout.proofs.Encoding.{encode_read}
use Rattle.layout.proofs.Written.{encode_empty, encode_some, encode_next}
use Rattle.layout.proofs.Records.{from_end, from_fault, from_good, fault_none}
use Rattle.records.proofs.Steps.{uncut}

-- ---- refusals
-- a number of the causes of one record, or 0
abbrev OfRecord : ℕ → Type 0
OfRecord n = (n ≤ 8) ⊎ (n ≡ 16)

cause_number : (sh : Sheet) (k : ℕ) (p : List ℕ) → OfRecord (cause sh k p)
unfolding cause
cause_number sh k p = go (misplaced sh (kind_of k)) (wrong_length k (length p)) (too_many sh (kind_of k)) (out_of_range sh (kind_of k) p) (ill_sorted sh (kind_of k) p) (repeated sh (kind_of k) p) (refilled sh (kind_of k) p)
  where
    go : (a b c d e f g : Bool) → OfRecord (cond a 3 (cond b 4 (cond c 5 (cond d 6 (cond e 7 (cond f 8 (cond g 16 0)))))))
    go true b c d e f g = inl (omega arith)
    go false true c d e f g = inl (omega arith)
    go false false true d e f g = inl (omega arith)
    go false false false true e f g = inl (omega arith)
    go false false false false true f g = inl (omega arith)
    go false false false false false true g = inl (omega arith)
    go false false false false false false true = inr refl
    go false false false false false false false = inl (omega arith)

fault_number : (s : List ℕ) (i : ℕ) (sh : Sheet) → OfRecord (fault_at s i sh)
fault_number s i sh = go (step_at s i)
  where
    go : (x : Step) → OfRecord (fault_of s sh x)
    go (Record kind start len) = cause_number sh kind (take len (drop start s))
    go Cut = inl (omega arith)
    go End = inl (omega arith)

-- a number of the table and a place in the sheet
pub record Listed (s : List ℕ) (n i : ℕ) : Type 0 where
  pub number : InSheet n
  pub place : i ≤ length s

same_number : (n m i j : ℕ) → refused n i ≡ refused m j → (n ≡ m) × (i ≡ j)
same_number n m i j e = (cc, cc)

never : (sh : Sheet) (n i : ℕ) → accepted sh ≡ refused n i → ⊥
never sh n i e = let z : ◌≡◌ {A = ℕ} 0 1 = cc in omega arith

positive : (m : ℕ) → (m ≡ 0 → ⊥) → 1 ≤ m
positive zero h = absurd (h refl)
positive (suc m) h = omega arith

ended_listed : (s : List ℕ) (sh : Sheet) (m j : ℕ) → ended s sh ≡ refused m j → Listed s m j
ended_listed s sh m j e = go (eqb sh.total 0 && not (eqb (length s) 0)) e
  where
    go : (b : Bool) → cond b (refused 9 (length s)) (accepted sh) ≡ refused m j → Listed s m j
    go true z = let y = same_number 9 m (length s) j z in record { number = inl (omega arith); place = omega arith }
    go false z = absurd (never sh m j z)

from_listed : (n : ℕ) (s : List ℕ) (i : ℕ) (sh : Sheet) (m j : ℕ) → read_from n s i sh ≡ refused m j → Listed s m j
unfolding read_from
from_listed zero s i sh m j e = ended_listed s sh m j e
from_listed (suc n) s i sh m j e =
    go (leb (length s) i) (eqb (fault_at s i sh) 0) refl refl (λ i sh. from_listed n s i sh m j)
  where
    go : (a b : Bool) → leb (length s) i ≡ a → eqb (fault_at s i sh) 0 ≡ b
        → ((i : ℕ) (sh : Sheet) → read_from n s i sh ≡ refused m j → Listed s m j) → Listed s m j
    go true b ea eb next = ended_listed s sh m j (sym (from_end (suc n) s i sh (leb-true (length s) i ea)) ∙ e)
    go false true ea eb next =
        next (i + 4 + length_at s i) (Layout.add sh (kind_of (kind_at s i)) (payload_at s i))
        (sym (from_good n s i sh (leb-false (length s) i ea) (eqb-true (fault_at s i sh) 0 eb)) ∙ e)
    go false false ea eb next =
        let inside = leb-false (length s) i ea in
        let bad = eqb-false (fault_at s i sh) 0 eb in
        let y = same_number (fault_at s i sh) m i j (sym (from_fault n s i sh inside bad) ∙ e) in
        record { number = number (fault_number s i sh) y.0 (positive m (λ q. bad (y.0 ∙ q))); place = omega arith }
      where
        number : OfRecord (fault_at s i sh) → fault_at s i sh ≡ m → 1 ≤ m → InSheet m
        number (inl few) q least = inl (omega arith)
        number (inr sixteen) q least = inr (sym q ∙ sixteen)

pub refused_listed : (s : List ℕ) (n i : ℕ) → reading s ≡ refused n i → Listed s n i
unfolding reading
refused_listed s n i e = go (ltb 4096 (length s)) e
  where
    go : (b : Bool) → cond b (refused 1 0) (read_from (length s) s 0 empty) ≡ refused n i → Listed s n i
    go true z = let y = same_number 1 n 0 i z in record { number = inl (omega arith); place = omega arith }
    go false z = from_listed (length s) s 0 empty n i z

pub refused_number : (s : List ℕ) (n i : ℕ) → reading s ≡ refused n i → InSheet n
refused_number s n i e = (refused_listed s n i e).number

-- so it is not 0, nor a number that only a question has
pub refused_not : (s : List ℕ) (n i m : ℕ) → reading s ≡ refused n i → (m ≡ 0) ⊎ ((10 ≤ m) × (m ≤ 15)) → n ≡ m → ⊥
refused_not s n i m e h q = go (refused_number s n i e) h
  where
    go : InSheet n → (m ≡ 0) ⊎ ((10 ≤ m) × (m ≤ 15)) → ⊥
    go (inl x) (inl y) = omega arith
    go (inl x) (inr y) = omega arith
    go (inr x) (inl y) = omega arith
    go (inr x) (inr y) = omega arith

pub refused_place : (s : List ℕ) (n i : ℕ) → reading s ≡ refused n i → i ≤ length s
refused_place s n i e = (refused_listed s n i e).place

-- ---- accepted sheets
-- what an accepted sheet has come to: without a total it has no bytes
record ReadTo (s : List ℕ) (sh : Sheet) : Type 0 where
  sofar : SoFar sh
  total : sh.total ≡ 0 → length s ≡ 0
  bytes : s ≡ encode sh

same_sheet : (sh sh' : Sheet) → accepted sh ≡ accepted sh' → sh ≡ sh'
same_sheet sh sh' e = cc

ended_read : (s : List ℕ) (sh sh' : Sheet) → SoFar sh → s ≡ encode sh → ended s sh ≡ accepted sh' → ReadTo s sh'
ended_read s sh sh' so b e = go (eqb sh.total 0 && not (eqb (length s) 0)) refl e
  where
    bare : (eqb sh.total 0 && not (eqb (length s) 0)) ≡ false → sh.total ≡ 0 → length s ≡ 0
    bare ex z = eqb-true (length s) 0 (not-false (eqb (length s) 0) (sym (ap (λ (x : Bool). x && not (eqb (length s) 0)) (eq-eqb sh.total 0 z)) ∙ ex))

    go : (x : Bool) → (eqb sh.total 0 && not (eqb (length s) 0)) ≡ x → cond x (refused 9 (length s)) (accepted sh) ≡ accepted sh' → ReadTo s sh'
    go true ex z = absurd (never sh' 9 (length s) (sym z))
    go false ex z = subst (λ (y : Sheet). ReadTo s y) (same_sheet sh sh' z) (record { sofar = so; total = bare ex; bytes = b })

from_read : (n : ℕ) (s : List ℕ) (i : ℕ) (sh sh' : Sheet) → length s ≤ i + n → take i s ≡ encode sh → SoFar sh → read_from n s i sh ≡ accepted sh' → ReadTo s sh'
unfolding read_from
from_read zero s i sh sh' enough b so e = ended_read s sh sh' so (sym (take_all i s (omega arith)) ∙ b) e
from_read (suc n) s i sh sh' enough b so e =
    go (leb (length s) i) (eqb (fault_at s i sh) 0) refl refl (λ i sh. from_read n s i sh sh')
  where
    go : (x y : Bool) → leb (length s) i ≡ x → eqb (fault_at s i sh) 0 ≡ y
        → ((i : ℕ) (sh : Sheet) → length s ≤ i + n → take i s ≡ encode sh → SoFar sh → read_from n s i sh ≡ accepted sh' → ReadTo s sh') → ReadTo s sh'
    go true y ex ey next =
        let h = leb-true (length s) i ex in
        ended_read s sh sh' so (sym (take_all i s h) ∙ b) (sym (from_end (suc n) s i sh h) ∙ e)
    go false true ex ey next =
        let h = leb-false (length s) i ex in
        let good = eqb-true (fault_at s i sh) 0 ey in
        let none = fault_none s i sh h good in
        next (i + 4 + length_at s i) (Layout.add sh (kind_of (kind_at s i)) (payload_at s i)) (omega arith)
        (encode_next s i sh (uncut s i none.0) (fine sh (kind_at s i) (payload_at s i) none.1) b)
        (grown sh so (kind_at s i) (payload_at s i) none.1)
        (sym (from_good n s i sh h good) ∙ e)
    go false false ex ey next =
        absurd (never sh' (fault_at s i sh) i (sym e ∙ from_fault n s i sh (leb-false (length s) i ex) (eqb-false (fault_at s i sh) 0 ey)))

read_to : (s : List ℕ) (sh : Sheet) → reading s ≡ accepted sh → ReadTo s sh
unfolding reading
read_to s sh e = go (ltb 4096 (length s)) e
  where
    go : (b : Bool) → cond b (refused 1 0) (read_from (length s) s 0 empty) ≡ accepted sh → ReadTo s sh
    go true z = absurd (never sh 1 0 (sym z))
    go false z = from_read (length s) s 0 empty sh (omega arith) (sym encode_empty) empty_sofar z

-- an accepted sheet has a total exactly where it has a sort
accepted_ended : (s : List ℕ) (sh : Sheet) → ReadTo s sh → Ended sh
accepted_ended s sh w = (
  λ h. positive sh.total (λ z. encode_some sh h (sym (ap length w.bytes) ∙ w.total z)),
  λ h. w.sofar.stage (let last = reached_6 sh (λ z. omega arith) in omega arith),
)

-- an accepted sheet is well formed
pub accepted_well_formed : (s : List ℕ) (sh : Sheet) → reading s ≡ accepted sh → WellFormed sh
accepted_well_formed s sh e =
    let w = read_to s sh e in
    let so = w.sofar in
    record {
      stage = accepted_ended s sh w;
      sorts = so.sorts;
      symbols = so.symbols;
      terms = so.terms;
      literals = so.literals;
      floor = so.floor;
      ceiling = so.ceiling;
      total = so.total;
      result = so.result;
      params = so.params;
      arity = so.arity;
      symbol = so.symbol;
      args = so.args;
      arg_sorts = so.arg_sorts;
      distinct = so.distinct;
      left = so.left;
      right = so.right;
      sides = so.sides;
      fills = so.fills;
      filled = so.filled;
      filler = so.filler;
      fill_sort = so.fill_sort;
      once = so.once;
    }

-- and its bytes are its encoding
pub accepted_encode : (s : List ℕ) (sh : Sheet) → reading s ≡ accepted sh → s ≡ encode sh
accepted_encode s sh e = (read_to s sh e).bytes

-- so a sheet is accepted exactly when it is the encoding of a well-formed one
pub accepted_exactly : (s : List ℕ) (sh : Sheet) → (reading s ≡ accepted sh) ↔ (WellFormed sh × (s ≡ encode sh))
accepted_exactly s sh = (
  λ e. (accepted_well_formed s sh e, accepted_encode s sh e),
  λ h. ap reading h.1 ∙ encode_read sh h.0,
)

-- an accepted sheet has at most 2,545 bytes
pub longest_sheet_lem : (s : List ℕ) (sh : Sheet) → reading s ≡ accepted sh → length s ≤ 2545
longest_sheet_lem s sh e =
    let w = accepted_well_formed s sh e in
    omega (arith, ap length (accepted_encode s sh e), encode_longest sh w, w.fills)

-- without its fills an accepted sheet is another, whose bytes are its encoding
pub unfilled_formed : (sh : Sheet) → WellFormed sh → WellFormed (without_fills sh)
unfilled_formed sh w =
    record {
      stage = w.stage;
      sorts = w.sorts;
      symbols = w.symbols;
      terms = w.terms;
      literals = w.literals;
      fills = omega arith;
      floor = w.floor;
      ceiling = w.ceiling;
      total = w.total;
      result = w.result;
      params = w.params;
      arity = w.arity;
      symbol = w.symbol;
      args = w.args;
      arg_sorts = w.arg_sorts;
      distinct = w.distinct;
      left = w.left;
      right = w.right;
      sides = w.sides;
      filled = λ k h. absurd (omega arith);
      filler = λ k h. absurd (omega arith);
      fill_sort = λ k h. absurd (omega arith);
      once = λ k m h h' e. absurd (omega arith);
    }

pub unfilled_read : (s : List ℕ) (sh : Sheet) → reading s ≡ accepted sh → reading (encode (without_fills sh)) ≡ accepted (without_fills sh)
unfilled_read s sh e = encode_read (without_fills sh) (unfilled_formed sh (accepted_well_formed s sh e))
