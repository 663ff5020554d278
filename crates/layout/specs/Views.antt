-- For the proofs alone: the joint between the two views of a sheet: what the functions of numbers say of the lists.
use Rattle.std.specs.Prelude.{ℕ, ◌<◌, ◌≡◌, length}
use Rattle.logic.specs.Sheet.{Sheet, bound_at, term_at, literal_at, sort_at}
use Rattle.logic.specs.Problem.{Problem}
use Rattle.layout.specs.Packed.{first, second, bit}

pub record Views (sh : Sheet) (P : Problem) : Type 0 where
  pub sorts : P.sorts ≡ length sh.bounds
  pub floor : (s : ℕ) → s < length sh.bounds → P.floor s ≡ (bound_at sh s).floor
  pub ceiling : (s : ℕ) → s < length sh.bounds → P.ceiling s ≡ (bound_at sh s).ceiling
  pub total : P.total ≡ sh.total
  pub terms : P.terms ≡ length sh.terms
  pub sort : (i : ℕ) → i < length sh.terms → P.sort i ≡ sort_at sh i
  pub symbol : (i : ℕ) → i < length sh.terms → P.symbol i ≡ (term_at sh i).symbol
  pub arg0 : (i : ℕ) → i < length sh.terms → P.arg0 i ≡ first (term_at sh i).args
  pub arg1 : (i : ℕ) → i < length sh.terms → P.arg1 i ≡ second (term_at sh i).args
  pub literals : P.literals ≡ length sh.literals
  pub equal : (k : ℕ) → k < length sh.literals → P.equal k ≡ bit (literal_at sh k).equal
  pub left : (k : ℕ) → k < length sh.literals → P.left k ≡ (literal_at sh k).left
  pub right : (k : ℕ) → k < length sh.literals → P.right k ≡ (literal_at sh k).right
