-- Interface. The sheet of zero bytes, a block without an agreement yet, question by question. Every definition and theorem covers it as it covers any other
-- sheet: it has no field, so it has one candidate, without sizes and without tables, and that is its answer.
use Rattle.prelude.specs.Causes.{refusal}
use Rattle.std.specs.Prelude.{Ok, Err}
use Rattle.std.specs.Prelude.{ℕ, ◌+◌, ◌≤◌, ◌<◌, ◌≡◌, ◌↔◌, List, [], ◌∷◌, length, replicate}
use Rattle.std.proofs.Math.Option.{some}
use Rattle.prelude.specs.Limits.{most_written_bytes}
use Rattle.logic.specs.Structure.{Structure, Candidate, Satisfies, codes}
use Rattle.logic.specs.Order.{sizes_of, sum_of}
use Rattle.layout.specs.Layout.{accepted, reading, empty}
use Rattle.tables.specs.Layout.{encoded}
use Rattle.tables.specs.declared.Judgement.TheVariants as judgements
use Rattle.judge.specs.Judge.{judgement, table_of, nowhere}
use Rattle.forced.specs.Forcing.{forcing}
use Rattle.group.specs.Grouping.{grouping}
use Rattle.answer.specs.Answer.{Entry, answer}
use Rattle.answer.specs.Demand.{Demand}
use Rattle.finder.specs.Find.{finding, codes_after, tables_after}
use Rattle.find_at.specs.FindAt.{finding_at, codes_after_at, tables_after_at}
use Rattle.sizes.specs.Sizing.{sizing, sizes_after}
use Rattle.bundle.specs.Bundle.{Left, most_sheets, refusal as bundle_refusal, bundling}
use Rattle.bundle.specs.Written.{bundle_of}
use Rattle.fitted.specs.Filing.{fitting, buffer_after}
use Rattle.walk.specs.Walk.{walking, trail_after}

-- Every structure is a candidate and satisfies every statement. In what the sheet speaks of they are all one: no sizes, which sum to 0, no codes and no
-- tables.
pub record OneCandidate (M : Structure) : Type 0 where
  pub candidate : Candidate M empty
  pub satisfies : Satisfies M empty
  pub sum : sum_of M empty ≡ 0
  pub sizes : sizes_of M empty ≡ []
  pub codes : codes M empty ≡ []
  pub tables : encoded M empty ≡ []

-- no sizes and no codes
abbrev pub empty_entry : Entry
empty_entry = record { sizes = []; codes = [] }

pub record EmptySheet : Type 0 where
  -- it is accepted; it has an answer, of which demand 3 holds, and one candidate
  pub reads : reading [] ≡ accepted empty
  pub answers : answer empty ≡ some empty_entry
  pub demand : Demand empty
  pub candidates : (M : Structure) → OneCandidate M
  -- find gives sum 0 and leaves both buffers as they were, whatever they are
  pub found : (cs ts : List ℕ) → finding [] (length cs) (length ts) ≡ Ok 0
  pub codes : (cs ts : List ℕ) → codes_after [] cs ts ≡ cs
  pub tables : (cs ts : List ℕ) → tables_after [] cs ts ≡ ts
  -- sizes gives sum 0 and leaves its buffer as it was, whatever it is
  pub sizes : (out : List ℕ) → sizing [] (length out) ≡ Ok 0
  pub size_buffer : (out : List ℕ) → sizes_after [] out ≡ out
  -- only the empty list of sizes is right, and with it find_at gives sum 0; any other is 17; both buffers stay as they were
  pub found_at : (cs ts : List ℕ) → finding_at [] [] (length cs) (length ts) ≡ Ok 0
  pub wrong_sizes : (z cs ts : List ℕ) → (z ≡ [] → ⊥) → finding_at [] z (length cs) (length ts) ≡ Err (refusal 17 0)
  pub codes_at : (z cs ts : List ℕ) → codes_after_at [] z cs ts ≡ cs
  pub tables_at : (z cs ts : List ℕ) → tables_after_at [] z cs ts ≡ ts
  -- zero bytes are no bundle; in a bundle the sheet spends nothing, whatever the limit
  pub no_bundle : (limit : ℕ) → bundling [] limit ≡ bundle_refusal 18 0
  pub bundle_alone : (limit : ℕ) → bundling (bundle_of ([] ∷ [])) limit ≡ record { sums = replicate most_sheets 0; stock = Left limit }
  -- judge passes exactly the tables of zero bytes and refuses all others with 12
  pub fits : (t : List ℕ) → (judgement [] t ≡ (Ok judgements.Fits)) ↔ (t ≡ [])
  pub others : (t : List ℕ) → (t ≡ [] → ⊥) → judgement [] t ≡ Err (refusal 12 0)
  -- no expression and no name is there
  pub forced : (a b : ℕ) → forcing [] a b ≡ Err (refusal 13 0)
  pub group : (e : ℕ) → grouping [] e ≡ Err (refusal 13 0)
  pub table : (t : List ℕ) (f : ℕ) → table_of [] t f ≡ nowhere
  -- fitted writes zero bytes, and wants its buffer all the same
  pub fitted : (room : ℕ) → most_written_bytes ≤ room → fitting [] room ≡ Ok 0
  pub short : (room : ℕ) → room < most_written_bytes → fitting [] room ≡ Err (refusal 10 0)
  pub buffer : (out : List ℕ) → buffer_after [] out ≡ out
  -- there is no field to walk in: no event or many, a trail with room gets 15, or 12 for tables that are not its own, and no walk writes
  pub walk : (s c : ℕ) (fs : List ℕ) (room start : ℕ) → start + length fs ≤ room → walking [] [] s c fs room start ≡ Err (refusal 15 0)
  pub walk_others : (t : List ℕ) (s c : ℕ) (fs : List ℕ) (room start : ℕ) → (t ≡ [] → ⊥) → start + length fs ≤ room → walking [] t s c fs room start ≡ Err (refusal 12 0)
  pub trail : (t : List ℕ) (s c : ℕ) (fs trail : List ℕ) (start : ℕ) → trail_after [] t s c fs trail start ≡ trail
