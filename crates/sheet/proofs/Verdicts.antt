-- What the parser hands over says whether the bytes are accepted, and what they are refused with.
use Prim.Native.Nat.{ℕ}
use mathlib.Core.Path.{◌≡◌, refl, ap, sym, ◌∙◌}
use mathlib.Core.List.{List}
use Rattle.std.specs.Prelude.{Ok, Err}
use Rattle.prelude.specs.Causes.{refusal}
use Rattle.prelude.specs.declared.refusal.Refusal.{Refusal}
use Rattle.logic.specs.Sheet.{Sheet}
use Rattle.layout.specs.Layout.{Reading, accepted, refused, reading}
use Rattle.layout.specs.Packed.{packed}
use Rattle.layout.specs.declared.Parsed.{Parsed}
use Rattle.sheet.specs.Verdict.{parsing, verdict, ReadFrom}

-- the bytes are accepted, and the parsed sheet stands for the sheet that they say
pub record Accepts (s : List ℕ) (p : Parsed) : Type 0 where
  pub sheet : Sheet
  pub reads : reading s ≡ accepted sheet
  pub same : p ≡ packed sheet

-- they are refused, with this number and place
pub record Refuses (s : List ℕ) (r : Refusal) : Type 0 where
  pub number : ℕ
  pub place : ℕ
  pub reads : reading s ≡ refused number place
  pub same : r ≡ refusal number place

module _ (s : List ℕ) (p : Parsed) (e : Ok p ≡ parsing (reading s)) where
  pub parsed_accepts : Accepts s p
  unfolding parsing
  parsed_accepts = go (reading s) refl
    where
      go : (R : Reading) → reading s ≡ R → Accepts s p
      go (accepted sh) r = let q : Ok p ≡ Ok (packed sh) = e ∙ ap parsing r in record { sheet = sh; reads = r; same = cc }
      go (refused n i) r = let q : Ok p ≡ Err (refusal n i) = e ∙ ap parsing r in cc

  -- a sheet that is not refused was read from the bytes
  unfoldable pub read_from_lem : ReadFrom p
  read_from_lem = record { bytes = s; sheet = parsed_accepts.sheet; reads = parsed_accepts.reads; same = parsed_accepts.same }

  pub verdict_accepted : Ok tt ≡ verdict (reading s)
  unfolding verdict
  verdict_accepted = sym (ap verdict parsed_accepts.reads)

module _ (s : List ℕ) (r : Refusal) (e : Err r ≡ parsing (reading s)) where
  pub parsed_refuses : Refuses s r
  unfolding parsing
  parsed_refuses = go (reading s) refl
    where
      go : (R : Reading) → reading s ≡ R → Refuses s r
      go (accepted sh) h = let q : Err r ≡ Ok (packed sh) = e ∙ ap parsing h in cc
      go (refused n i) h = let q : Err r ≡ Err (refusal n i) = e ∙ ap parsing h in record { number = n; place = i; reads = h; same = cc }

  pub verdict_refused : Err r ≡ verdict (reading s)
  unfolding verdict
  verdict_refused = let a = parsed_refuses in ap Err a.same ∙ sym (ap verdict a.reads)
