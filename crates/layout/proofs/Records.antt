-- One record, from the position where it stands to the sheet that it leaves; and the records one after the other.
use Prim.Native.Nat.{ℕ, zero, suc, ◌+◌, ◌≤◌, ◌<◌}
use native.Mathlib.Omega.{arith}
use mathlib.Core.Path.{◌≡◌, refl, ap, sym, ◌∙◌}
use mathlib.Core.Bool.{Bool, true, false}
use mathlib.Core.List.{List, [], ◌∷◌}
use lib.ListN.{length, take}
use lib.Dec.{ltb}
use borrow.Author.Tests.{ltb-false, lt-ltb, le-leb, lt-leb, eq-eqb, ne_eqb}
use Rattle.prelude.proofs.Tests.{or_both}
use Rattle.logic.specs.Sheet.{Sheet}
use Rattle.records.specs.Record.{cut, kind_at, length_at, payload_at}
use Rattle.records.specs.Step.{step_cause}
use Rattle.records.specs.declared.Step.TheVariants.{Cut}
use Rattle.records.proofs.Steps.{step_uncut}
use Rattle.layout.specs.Layout
use Rattle.layout.specs.Layout.{kind_of, misplaced, wrong_length, cause, refused, ended, read_from, reading}
use Rattle.layout.specs.Parts.{payload_bytes, later, fault_of, fault_at}
use Rattle.layout.specs.declared.Payload.{Payload}
use Rattle.layout.proofs.Causes.{placed, ranked}

-- the causes in their order
pub cause_3 : (sh : Sheet) (k : ℕ) (p : List ℕ) → misplaced sh (kind_of k) ≡ true → 3 ≡ cause sh k p
unfolding cause
cause_3 sh k p e = rw e

pub cause_4 : (sh : Sheet) (k : ℕ) (p : List ℕ) → misplaced sh (kind_of k) ≡ false → wrong_length k (length p) ≡ true → 4 ≡ cause sh k p
unfolding cause
cause_4 sh k p a b = rw (a, b)

pub cause_later : (sh : Sheet) (k : ℕ) (p : List ℕ) → misplaced sh (kind_of k) ≡ false → wrong_length k (length p) ≡ false → later sh (kind_of k) p ≡ cause sh k p
unfolding cause
cause_later sh k p a b = rw (a, b)

-- a record in its place has a kind, and one of an allowed length has one to three bytes
pub kind_known : (sh : Sheet) (k : ℕ) → misplaced sh (kind_of k) ≡ false → (1 ≤ k) × (k ≤ 7)
kind_known sh k e = ranked k (placed sh (kind_of k) e).known

pub one_to_three : (k n : ℕ) → 1 ≤ k → k ≤ 7 → wrong_length k n ≡ false → (1 ≤ n) × (n ≤ 3)
one_to_three k n a b e = go k a b (or_both (ltb n (Layout.shortest k)) (ltb (Layout.longest k) n) e)
  where
    go : (k : ℕ) → 1 ≤ k → k ≤ 7 → (ltb n (Layout.shortest k) ≡ false) × (ltb (Layout.longest k) n ≡ false) → (1 ≤ n) × (n ≤ 3)
    go zero a b e = absurd (omega arith)
    go (suc zero) a b e = let x = ltb-false n 2 e.0 in let y = ltb-false 2 n e.1 in omega arith
    go (suc (suc zero)) a b e = let x = ltb-false n 1 e.0 in let y = ltb-false 3 n e.1 in omega arith
    go (suc (suc (suc zero))) a b e = let x = ltb-false n 1 e.0 in let y = ltb-false 3 n e.1 in omega arith
    go (suc (suc (suc (suc zero)))) a b e = let x = ltb-false n 2 e.0 in let y = ltb-false 2 n e.1 in omega arith
    go (suc (suc (suc (suc (suc zero))))) a b e = let x = ltb-false n 2 e.0 in let y = ltb-false 2 n e.1 in omega arith
    go (suc (suc (suc (suc (suc (suc zero)))))) a b e = let x = ltb-false n 1 e.0 in let y = ltb-false 1 n e.1 in omega arith
    go (suc (suc (suc (suc (suc (suc (suc zero))))))) a b e = let x = ltb-false n 2 e.0 in let y = ltb-false 2 n e.1 in omega arith
    go (suc (suc (suc (suc (suc (suc (suc (suc k)))))))) a b e = absurd (omega arith)

pub length_bytes : (q : Payload) → length (payload_bytes q) ≡ q.len
length_bytes q = go q.len q.short.most
  where
    go : (n : ℕ) → n ≤ 3 → length (take n (q.b0 ∷ q.b1 ∷ q.b2 ∷ [])) ≡ n
    go zero e = refl
    go (suc zero) e = refl
    go (suc (suc zero)) e = refl
    go (suc (suc (suc zero))) e = refl
    go (suc (suc (suc (suc n)))) e = absurd (omega arith)

-- what the causes 3 and 4 and the reading of the payload have shown of a record of kind number k, payload p and bytes q
pub record Tested (sh : Sheet) (k : ℕ) (p : List ℕ) (q : Payload) : Type 0 where
  pub placed : misplaced sh (kind_of k) ≡ false
  pub sized : wrong_length k (length p) ≡ false
  pub bytes : payload_bytes q ≡ p

module _ (sh : Sheet) (k : ℕ) (p : List ℕ) (q : Payload) (t : Tested sh k p q) where
  pub tested_sized : wrong_length k q.len ≡ false
  tested_sized = ap (wrong_length k) (sym (length_bytes q) ∙ ap length t.bytes) ∙ t.sized

  pub tested_cause : later sh (kind_of k) (payload_bytes q) ≡ cause sh k p
  tested_cause = ap (later sh (kind_of k)) t.bytes ∙ cause_later sh k p t.placed t.sized

-- the fault at a position before the end: the record there is cut short or whole
module _ (s : List ℕ) (i : ℕ) (sh : Sheet) (h : i < length s) where
  pub fault_cut : cut s i ≡ true → step_cause Cut ≡ fault_at s i sh
  fault_cut e = rw (lt-leb (length s) i h, e)

  pub fault_whole : cut s i ≡ false → fault_at s i sh ≡ cause sh (kind_at s i) (payload_at s i)
  fault_whole e = ap (fault_of s sh) (step_uncut s i h e)

  pub fault_none : fault_at s i sh ≡ 0 → (cut s i ≡ false) × (cause sh (kind_at s i) (payload_at s i) ≡ 0)
  fault_none e = go (cut s i) refl
    where
      go : (b : Bool) → cut s i ≡ b → (cut s i ≡ false) × (cause sh (kind_at s i) (payload_at s i) ≡ 0)
      go true eb = let z = fault_cut eb in absurd (omega arith)
      go false eb = (eb, sym (fault_whole eb) ∙ e)

-- the records from a position on: none is left, one is faulty, one is good
pub from_end : (n : ℕ) (s : List ℕ) (i : ℕ) (sh : Sheet) → length s ≤ i → read_from n s i sh ≡ ended s sh
unfolding read_from
from_end zero s i sh h = refl
from_end (suc n) s i sh h = rw (le-leb (length s) i h, read_from)

pub from_fault : (n : ℕ) (s : List ℕ) (i : ℕ) (sh : Sheet) → i < length s → (fault_at s i sh ≡ 0 → ⊥) → read_from (suc n) s i sh ≡ refused (fault_at s i sh) i
unfolding read_from
from_fault n s i sh h bad = go (cut s i) refl
  where
    go : (b : Bool) → cut s i ≡ b → read_from (suc n) s i sh ≡ refused (fault_at s i sh) i
    go true e = rw (lt-leb (length s) i h, e, read_from)
    go false e =
        rw (lt-leb (length s) i h, e, read_from)
        (rw (ne_eqb (cause sh (kind_at s i) (payload_at s i)) 0 (λ z. bad (fault_whole s i sh h e ∙ z)), read_from))

pub from_good : (n : ℕ) (s : List ℕ) (i : ℕ) (sh : Sheet) → i < length s → fault_at s i sh ≡ 0
    → read_from (suc n) s i sh ≡ read_from n s (i + 4 + length_at s i) (Layout.add sh (kind_of (kind_at s i)) (payload_at s i))
unfolding read_from
from_good n s i sh h good =
    let z = fault_none s i sh h good in
    rw (lt-leb (length s) i h, z.0, read_from) (rw (eq-eqb (cause sh (kind_at s i) (payload_at s i)) 0 z.1, read_from))

-- a sheet of too many bytes
pub reading_long : (s : List ℕ) → 4096 < length s → reading s ≡ refused 1 0
unfolding reading
reading_long s h = rw (lt-ltb 4096 (length s) h)
