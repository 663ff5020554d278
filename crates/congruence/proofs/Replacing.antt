-- Labels replaced one after the other, from the front.
use Prim.Native.Nat.{ℕ, ◌≤◌, ◌<◌, ◌+◌}
use native.Mathlib.Omega.{arith}
use mathlib.Core.Path.{◌≡◌, refl, sym, ◌∙◌}
use mathlib.Core.List.{List, map}
use lib.ListN.{length, set, length-set, length-map}
use lib.Seq.{ext_get_or}
use Rattle.prelude.proofs.Lists.{at_set_other, filled_more, at_map}
use Rattle.prelude.specs.Lists.{at}

-- the places below k hold what f says, the others what they held before
pub record Replaced (f : ℕ → ℕ) (old : List ℕ) (k : ℕ) (new : List ℕ) : Type 0 where
  pub long : length new ≡ 128
  pub done : (m : ℕ) → m < k → at new m ≡ f m
  pub rest : (m : ℕ) → k ≤ m → at new m ≡ at old m

pub replaced_none : (f : ℕ → ℕ) (old : List ℕ) → length old ≡ 128 → Replaced f old 0 old
replaced_none f old long = record { long = long; done = λ m b. absurd (omega arith); rest = λ m b. refl }

module _ (f : ℕ → ℕ) (old : List ℕ) (k : ℕ) (new : List ℕ) (so : Replaced f old k new) where
  -- the place k is replaced
  pub replaced_more : (v : ℕ) → k < 128 → v ≡ f k → Replaced f old (k + 1) (set new k v)
  replaced_more v b e =
      let long = so.long in
      record {
        long = length-set new k v ∙ long;
        done = filled_more f new k v (omega arith) e so.done;
        rest = λ m big. at_set_other new k v m (λ x. absurd (omega arith)) ∙ so.rest m (omega arith);
      }

pub replaced_map : (f : ℕ → ℕ) (old new : List ℕ) → length old ≡ 128 → Replaced (λ m. f (at old m)) old 128 new → new ≡ map f old
replaced_map f old new long so =
    let same = so.long in
    ext_get_or 0 new (map f old) (same ∙ sym (length-map old f ∙ long))
    (λ i b. so.done i (omega arith) ∙ sym (at_map f old 0 i (omega arith)))
