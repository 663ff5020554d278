-- The parser at a position: a record taken there, and what is left of the sheet.
use Prim.Native.Nat.{ℕ, zero, suc, ◌+◌, ◌≤◌, ◌<◌}
use native.Mathlib.Omega.{arith}
use mathlib.Core.Path.{◌≡◌, refl, ap, sym, ◌∙◌, subst}
use mathlib.Core.Bool.{Bool, true, false, not, ◌&&◌, cond}
use mathlib.Core.List.{List}
use lib.ListN.{length, take, drop}
use lib.Dec.{eqb}
use borrow.Author.Tests.{le-ltb, eq-eqb, ne_eqb}
use Rattle.std.specs.Prelude.{Result, Ok, Err}
use Rattle.prelude.specs.Causes.{cause_of, tested}
use Rattle.prelude.specs.declared.refusal.Cause.{Cause}
use Rattle.logic.specs.Sheet.{Sheet}
use Rattle.records.specs.Record.{cut, kind_at, length_at, payload_at}
use Rattle.records.specs.Step.{step_at, behind}
use Rattle.records.proofs.Steps.{Whole, behind_whole}
use Rattle.layout.specs.Layout.{kind_of, cause, add, accepted, refused, ended, read_from, reading, empty}
use Rattle.layout.specs.Packed.{packed}
use Rattle.layout.specs.Parts.{PartRead, fault_at}
use Rattle.layout.specs.declared.Parsed.{Parsed}
use Rattle.layout.proofs.Growing.{grown, empty_sofar}
use Rattle.layout.proofs.Pack.{contents}
use Rattle.layout.proofs.Records.{fault_whole, fault_none, from_end, from_fault, from_good}
use Rattle.sheet.specs.Verdict.{parsing}
use Rattle.sheet.specs.Parts.{taken}
use Rattle.sheet.specs.declared.Taken.{Taken}

-- a record that is taken has no cause, and one that is not has it
pub taken_ok : (n next k : ℕ) (b : List ℕ) (sh : Sheet) (r : Taken) → Ok r ≡ taken n next k b sh
    → (n ≡ 0) × (r ≡ record { next = next; sheet = packed (add sh (kind_of k) b) })
taken_ok zero next k b sh r e = (refl, cc)
taken_ok (suc n) next k b sh r e = (cc, cc)

pub taken_err : (n next k : ℕ) (b : List ℕ) (sh : Sheet) (x : Cause) → Err x ≡ taken n next k b sh → (n ≡ 0 → ⊥) × (x ≡ cause_of n)
taken_err zero next k b sh x e = ((λ z. cc), cc)
taken_err (suc n) next k b sh x e = ((λ z. omega arith), cc)

-- what a test finds is what the record gives
pub tested_taken : (n next k : ℕ) (b : List ℕ) (sh : Sheet) (x : Cause) → Err x ≡ tested n → Err x ≡ taken n next k b sh
tested_taken zero next k b sh x e = cc
tested_taken (suc n) next k b sh x e = cc

pub took_at : (s : List ℕ) (i : ℕ) (sh : Sheet) (r : Result Taken Cause) (a b d n : ℕ) → i < length s → Whole s i a b d → n ≡ behind i (step_at s i)
    → r ≡ taken (cause sh a (take d (drop b s))) n a (take d (drop b s)) sh
    → r ≡ taken (fault_at s i sh) (behind i (step_at s i)) (kind_at s i) (payload_at s i) sh
took_at s i sh r a b d n h w e t =
    subst (λ (x : ℕ). r ≡ taken (cause sh x (payload_at s i)) n x (payload_at s i) sh) w.kind
    (subst (λ (x : ℕ). r ≡ taken (cause sh a (take (length_at s i) (drop x s))) n a (take (length_at s i) (drop x s)) sh) w.start
    (subst (λ (x : ℕ). r ≡ taken (cause sh a (take x (drop b s))) n a (take x (drop b s)) sh) w.len t))
    ∙ ap (λ (x : ℕ). taken x n (kind_at s i) (payload_at s i) sh) (sym (fault_whole s i sh h w.whole))
    ∙ ap (λ (x : ℕ). taken (fault_at s i sh) x (kind_at s i) (payload_at s i) sh) e

-- the parser at a position: the sheet so far is known, and what is left of the sheet decides
pub record Going (s : List ℕ) (i : ℕ) (p : Parsed) : Type 0 where
  pub known : PartRead p
  pub most : ℕ
  pub enough : length s ≤ i + most
  pub rest : read_from most s i known.sheet ≡ reading s

pub going_start : (s : List ℕ) (p : Parsed) → p ≡ packed empty → length s ≤ 4096 → Going s 0 p
unfolding reading
going_start s p e h =
    record {
      known = record { sheet = empty; same = e; sofar = empty_sofar };
      most = length s;
      enough = omega arith;
      rest = rw (le-ltb 4096 (length s) h);
    }

module _ (s : List ℕ) (i : ℕ) (p : Parsed) (g : Going s i p) where
  pub going_end : length s ≤ i → ended s g.known.sheet ≡ reading s
  going_end h = sym (from_end g.most s i g.known.sheet h) ∙ g.rest

  module _ (h : i < length s) where
    left : (m : ℕ) × (g.most ≡ suc m)
    left = go g.most refl
      where
        go : (n : ℕ) → g.most ≡ n → (m : ℕ) × (g.most ≡ suc m)
        go zero e = let z = g.enough in absurd (omega arith)
        go (suc m) e = (m, e)

    pub going_refused : (x : Cause) → Err x ≡ taken (fault_at s i g.known.sheet) (behind i (step_at s i)) (kind_at s i) (payload_at s i) g.known.sheet
        → Err (record { cause = x; place = i }) ≡ parsing (reading s)
    unfolding parsing
    going_refused x t =
        let y = taken_err (fault_at s i g.known.sheet) (behind i (step_at s i)) (kind_at s i) (payload_at s i) g.known.sheet x t in
        ap (λ (c : Cause). Err (record { cause = c; place = i })) y.1
        ∙ ap parsing
        (sym (from_fault left.0 s i g.known.sheet h y.0)
        ∙ ap (λ (n : ℕ). read_from n s i g.known.sheet) (sym left.1)
        ∙ g.rest)

    module _ (r : Taken) (t : Ok r ≡ taken (fault_at s i g.known.sheet) (behind i (step_at s i)) (kind_at s i) (payload_at s i) g.known.sheet) where
      fine : (fault_at s i g.known.sheet ≡ 0) × (r ≡ record { next = behind i (step_at s i); sheet = packed (add g.known.sheet (kind_of (kind_at s i)) (payload_at s i)) })
      fine = taken_ok (fault_at s i g.known.sheet) (behind i (step_at s i)) (kind_at s i) (payload_at s i) g.known.sheet r t

      -- a good record is whole, and the parser goes on at its end
      good : (cut s i ≡ false) × (cause g.known.sheet (kind_at s i) (payload_at s i) ≡ 0)
      good = fault_none s i g.known.sheet h fine.0

      pub going_on : r.next ≡ i + 4 + length_at s i
      going_on = ap (λ (x : Taken). x.next) fine.1 ∙ behind_whole s i h good.0

      pub going_next : Going s r.next r.sheet
      going_next =
          record {
            known =
                record {
                  sheet = add g.known.sheet (kind_of (kind_at s i)) (payload_at s i);
                  same = ap (λ (x : Taken). x.sheet) fine.1;
                  sofar = grown g.known.sheet g.known.sofar (kind_at s i) (payload_at s i) good.1;
                };
            most = left.0;
            enough = let z = g.enough in let y = going_on in let x = left.1 in omega arith;
            rest =
                ap (λ (n : ℕ). read_from left.0 s n (add g.known.sheet (kind_of (kind_at s i)) (payload_at s i))) going_on
                ∙ sym (from_good left.0 s i g.known.sheet h fine.0)
                ∙ ap (λ (n : ℕ). read_from n s i g.known.sheet) (sym left.1)
                ∙ g.rest;
          }

-- at the end
module _ (s : List ℕ) (i : ℕ) (p : Parsed) (g : Going s i p) (h : length s ≤ i) where
  total_read : p.total ≡ g.known.sheet.total
  total_read = (contents p g.known.sheet g.known.same).total

  ending : (b : Bool) → (eqb p.total 0 && not (eqb (length s) 0)) ≡ b → cond b (refused 9 (length s)) (accepted g.known.sheet) ≡ reading s
  ending b e =
      sym (ap (λ (c : Bool). cond c (refused 9 (length s)) (accepted g.known.sheet)) (ap (λ (n : ℕ). eqb n 0 && not (eqb (length s) 0)) (sym total_read) ∙ e))
      ∙ going_end s i p g h

  pub going_untotalled : p.total ≡ 0 → (length s ≡ 0 → ⊥) → refused 9 (length s) ≡ reading s
  going_untotalled e some = ending true (rw (eq-eqb p.total 0 e, ne_eqb (length s) 0 some))

  going_whole : (eqb p.total 0 && not (eqb (length s) 0)) ≡ false → Ok p ≡ parsing (reading s)
  unfolding parsing
  going_whole e = ap (λ (x : Parsed). Ok x) g.known.same ∙ ap parsing (ending false e)

  pub going_accepted : (p.total ≡ 0 → ⊥) → Ok p ≡ parsing (reading s)
  going_accepted e = going_whole (rw (ne_eqb p.total 0 e))

  -- a sheet of zero bytes
  pub going_nothing : p.total ≡ 0 → length s ≡ 0 → Ok p ≡ parsing (reading s)
  going_nothing e none = going_whole (rw (eq-eqb p.total 0 e, eq-eqb (length s) 0 none))
