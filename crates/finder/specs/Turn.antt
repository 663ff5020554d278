-- Interface. FIND IS THE TWO IN TURN: sizes, and find_at at the sizes that it wrote; the result and every byte of both buffers. Proved for every call
-- with buffers that suffice: `find_in_turn` of proofs/Turn.antt.
use Rattle.std.specs.Prelude.{ℕ, ◌≤◌, ◌≡◌, List, length, take, Result, Ok, Err}
use Rattle.logic.specs.Sheet.{Sheet}
use Rattle.layout.specs.Layout.{accepted, reading}
use Rattle.tables.specs.Layout.{extent}
use Rattle.sizes.specs.Sizing.{sizing, sizes_after}
use Rattle.find_at.specs.Found.{ceilings}
use Rattle.find_at.specs.FindAt.{finding_at, codes_after_at, tables_after_at}
use Rattle.prelude.specs.declared.refusal.Refusal.{Refusal}
use Rattle.finder.specs.Find.{finding, codes_after, tables_after}

-- where sizes refuses, the two in turn refuse with the same refusal, and nothing more is asked
abbrev pub result_of : Result ℕ Refusal → Result ℕ Refusal → Result ℕ Refusal
result_of (Err r) found = Err r
result_of (Ok sum) found = found

-- and a buffer is as it was
abbrev pub buffer_of : Result ℕ Refusal → List ℕ → List ℕ → List ℕ
buffer_of (Err r) before after = before
buffer_of (Ok sum) before after = after

-- A call of sizes on the bytes s with the buffer zs, of which the sizes of n fields stand in front then; and one of find_at at these sizes, with the
-- buffers cs and ts.
pub record InTurn (s : List ℕ) (n : ℕ) (zs cs ts : List ℕ) : Type 0 where
  pub result : finding s (length cs) (length ts) ≡ result_of (sizing s (length zs)) (finding_at s (take n (sizes_after s zs)) (length cs) (length ts))
  pub codes : codes_after s cs ts ≡ buffer_of (sizing s (length zs)) cs (codes_after_at s (take n (sizes_after s zs)) cs ts)
  pub tables : tables_after s cs ts ≡ buffer_of (sizing s (length zs)) ts (tables_after_at s (take n (sizes_after s zs)) cs ts)

-- The buffers suffice: where the bytes are accepted, there are n fields, the first buffer has a byte for each of them, and the others are long enough for find.
pub record Enough (s : List ℕ) (n : ℕ) (zs cs ts : List ℕ) : Type 0 where
  pub fields : (sh : Sheet) → reading s ≡ accepted sh → n ≡ length sh.bounds
  pub sizes : n ≤ length zs
  pub codes : (sh : Sheet) → reading s ≡ accepted sh → length sh.terms ≤ length cs
  pub tables : (sh : Sheet) → reading s ≡ accepted sh → extent sh (ceilings sh) ≤ length ts
