-- Interface. Demand 3: what the answer by definition is among all structures, and what the answer at given sizes is among those of these sizes; and that
-- the answer does not depend on what the cells hold that no term reaches. Proved for every accepted sheet: `accepted_demand` and `accepted_demand_at` of
-- proofs/Demand.antt, `rules_agree` of proofs/Rules.antt. What a call leaves behind follows in finder/specs/Promise.antt and find_at/specs/Promise.antt.
use Rattle.std.specs.Prelude.{ℕ, ◌<◌, ◌≡◌, ◌↔◌, ◌⊎◌, List, [], ◌∷◌, map, length}
use Rattle.std.proofs.Math.Option.{none, some}
use Rattle.logic.specs.Sheet.{Sheet, symbol_at, term_at, fill_at}
use Rattle.logic.specs.Structure.{Structure, InSorts, Bounded, Candidate, Satisfies, codes, code}
use Rattle.logic.specs.Order.{Before, sizes_of, sum_of, NoLater}
use Rattle.prelude.specs.Lists.{at}
use Rattle.answer.specs.Answer.{Entry, Rule, answer_at, answer, sum, structure_of}

-- The structure M answers the sheet with the sizes and codes of an entry: it is a candidate that satisfies every statement; sum, sizes
-- and codes are its own; and every candidate that satisfies every statement has at least that sum; where its sum is the same, its sizes are
-- the same or come later; where these are the same, its codes are the same or come later.
pub record Answers (sh : Sheet) (e : Entry) (M : Structure) : Type 0 where
  pub candidate : Candidate M sh
  pub satisfies : Satisfies M sh
  pub sum : sum_of M sh ≡ sum e.sizes
  pub sizes : sizes_of M sh ≡ e.sizes
  pub codes : codes M sh ≡ e.codes
  pub first : (N : Structure) → Candidate N sh → Satisfies N sh → NoLater sh M N

-- no candidate satisfies every statement
abbrev pub Hopeless : Sheet → Type 0
Hopeless sh = (M : Structure) → Candidate M sh → Satisfies M sh → ⊥

-- no term reaches the cell of symbol f at the codes xs
abbrev pub Unreached : Sheet → Structure → ℕ → List ℕ → Type 0
Unreached sh M f xs = (i : ℕ) → i < length sh.terms → (term_at sh i).symbol ≡ f → map (code M sh) (term_at sh i).args ≡ xs → ⊥

-- the symbol f takes one argument, of the sort of its result
abbrev pub ToItself : Sheet → ℕ → Type 0
ToItself sh f = (symbol_at sh f).params ≡ (symbol_at sh f).result ∷ []

-- the symbol f has no fill
abbrev pub Unfilled : Sheet → ℕ → Type 0
Unfilled sh f = (k : ℕ) → k < length sh.fills → (fill_at sh k).symbol ≡ f → ⊥

-- What the unforced cells of M's tables hold, those that no term reaches: one of a symbol with one argument, of the sort of its result, holds
-- its own argument's code, whether or not the symbol has a fill; one of any other symbol with a fill holds the code of the fill's term; every
-- other holds 0.
pub record Unforced (sh : Sheet) (M : Structure) : Type 0 where
  pub kept : (f : ℕ) → f < length sh.symbols → ToItself sh f → (x : ℕ) → x < M.size (symbol_at sh f).result → Unreached sh M f (x ∷ []) → M.table f (x ∷ []) ≡ x
  pub filled : (k : ℕ) → k < length sh.fills → (ToItself sh (fill_at sh k).symbol → ⊥) → (xs : List ℕ) → InSorts M.size (symbol_at sh (fill_at sh k).symbol).params xs → Unreached sh M (fill_at sh k).symbol xs → M.table (fill_at sh k).symbol xs ≡ code M sh (fill_at sh k).term
  pub zero : (f : ℕ) → f < length sh.symbols → (ToItself sh f → ⊥) → Unfilled sh f → (xs : List ℕ) → InSorts M.size (symbol_at sh f).params xs → Unreached sh M f xs → M.table f xs ≡ 0

pub record Demand (sh : Sheet) : Type 0 where
  -- no answer (refusal 11) exactly when no candidate satisfies every statement
  pub refuses : (answer sh ≡ none) ↔ Hopeless sh
  -- otherwise the answer's tables are such a candidate, the earliest
  pub finds : (e : Entry) → answer sh ≡ some e → Answers sh e (structure_of sh e)
  -- and the cells that no term reaches hold what `Unforced` says
  pub unreached : (e : Entry) → answer sh ≡ some e → Unforced sh (structure_of sh e)

-- sizes that a candidate may have: one for each sort, from floor to ceiling, and summing to at most the total
pub record CandidateSizes (sh : Sheet) (z : List ℕ) : Type 0 where
  pub many : length z ≡ length sh.bounds
  pub bounded : Bounded sh (at z)

-- The structure M answers the sheet at the sizes z, with the codes of an entry: it is a candidate of exactly these sizes that satisfies every
-- statement; sum and codes are its own; and every candidate of exactly these sizes that satisfies every statement has the same codes, or codes
-- that come later.
pub record AnswersAt (sh : Sheet) (z : List ℕ) (e : Entry) (M : Structure) : Type 0 where
  pub candidate : Candidate M sh
  pub satisfies : Satisfies M sh
  pub sizes : sizes_of M sh ≡ z
  pub sum : sum_of M sh ≡ sum e.sizes
  pub first : (N : Structure) → Candidate N sh → Satisfies N sh → sizes_of N sh ≡ z → (codes N sh ≡ codes M sh) ⊎ Before (codes M sh) (codes N sh)
  pub codes : codes M sh ≡ e.codes

-- no candidate of exactly these sizes satisfies every statement
abbrev pub HopelessAt : Sheet → List ℕ → Type 0
HopelessAt sh z = (M : Structure) → Candidate M sh → Satisfies M sh → sizes_of M sh ≡ z → ⊥

pub record DemandAt (sh : Sheet) (z : List ℕ) : Type 0 where
  -- no answer at these sizes (refusal 11) exactly when no candidate of exactly these sizes satisfies every statement
  pub refuses : (answer_at sh z ≡ none) ↔ HopelessAt sh z
  -- otherwise the answer's tables are such a candidate, the one with the earliest codes
  pub finds : (e : Entry) → answer_at sh z ≡ some e → AnswersAt sh z e (structure_of sh e)
  -- and the cells that no term reaches hold what `Unforced` says
  pub unreached : (e : Entry) → answer_at sh z ≡ some e → Unforced sh (structure_of sh e)

-- M answers the sheet with an entry by a rule: the cells that no term reaches hold what the rule says
pub record AnswersBy (rule : Rule) (sh : Sheet) (e : Entry) (M : Structure) : Type 0 where
  pub answers : Answers sh e M
  pub unreached : (f : ℕ) → f < length sh.symbols → (xs : List ℕ) → InSorts M.size (symbol_at sh f).params xs → Unreached sh M f xs → M.table f xs ≡ rule sh e f xs

-- By two rules a sheet has the same answer but for the cells that no term reaches: so it is of any two rules in range (`rules_agree`).
pub record SameAnswer (rule other : Rule) (sh : Sheet) : Type 0 where
  -- by the one it has an answer exactly when it has one by the other, with the same sizes and codes, and so with the same sum
  pub answered : (e : Entry) → ((M : Structure) × AnswersBy rule sh e M) ↔ ((M : Structure) × AnswersBy other sh e M)
  -- and with no others
  pub entry : (e d : Entry) (M N : Structure) → AnswersBy rule sh e M → AnswersBy other sh d N → e ≡ d
  -- and a cell that a term reaches holds the same
  pub reached : (e : Entry) (M N : Structure) → AnswersBy rule sh e M → AnswersBy other sh e N → (i : ℕ) → i < length sh.terms → M.table (term_at sh i).symbol (map (at e.codes) (term_at sh i).args) ≡ N.table (term_at sh i).symbol (map (at e.codes) (term_at sh i).args)

-- u gives codes of the result's sort for the cells of each table: all that a law asks of the cells that no term reaches
abbrev pub InTables : Sheet → (ℕ → ℕ) → (ℕ → List ℕ → ℕ) → Type 0
InTables sh size u =
    (f : ℕ) → f < length sh.symbols → (cs : List ℕ) → InSorts size (symbol_at sh f).params cs → u f cs < size (symbol_at sh f).result

-- a rule stays in range: it gives the answer's cells codes of their sort
abbrev pub StaysInRange : Rule → Sheet → Type 0
StaysInRange rule sh = (e : Entry) → answer sh ≡ some e → InTables sh (at e.sizes) (rule sh e)
