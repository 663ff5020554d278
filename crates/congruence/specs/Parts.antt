-- For the proofs alone: what the steps of the closure promise of labels.
use Rattle.std.specs.Prelude.{ℕ, ◌≤◌, ◌<◌, min, max, ◌≡◌, cond, ltb}
use Rattle.logic.specs.Problem.{Problem}
use Rattle.prelude.specs.Limits.{most_terms}
use Rattle.congruence.specs.Closure.{relabel}
use Rattle.congruence.specs.Groups.{Models, Lowest}
use Rattle.congruence.specs.declared.Key.{Key}

-- the groups of i and j are made one: all terms of the higher label take the lower
abbrev pub Joined : (ℕ → ℕ) → ℕ → ℕ → (ℕ → ℕ) → Type 0
Joined l i j m = (k : ℕ) → k < most_terms → m k ≡ relabel (min (l i) (l j)) (max (l i) (l j)) (l k)

-- the label of an argument; a missing one, a number past the n terms, stands for itself
abbrev pub named : ℕ → (ℕ → ℕ) → ℕ → ℕ
named n l a = cond (ltb a n) (l a) a

-- a symbol with the labels of its two arguments
abbrev pub key_at : ℕ → (ℕ → ℕ) → ℕ → ℕ → ℕ → Key
key_at n l f a b = record { symbol = f; first = named n l a; second = named n l b }

-- the key of a term
abbrev pub key : Problem → (ℕ → ℕ) → ℕ → Key
key P l i = key_at P.terms l (P.symbol i) (P.arg0 i) (P.arg1 i)

-- t is the first term with the key of j
pub record Twin (P : Problem) (l : ℕ → ℕ) (j t : ℕ) : Type 0 where
  pub bound : t ≤ j
  pub alike : key P l t ≡ key P l j
  pub none : (k : ℕ) → k < t → key P l k ≡ key P l j → ⊥

-- terms with one key have one label
abbrev pub Closed : Problem → (ℕ → ℕ) → Type 0
Closed P l = (i j : ℕ) → i < P.terms → j < P.terms → key P l i ≡ key P l j → l i ≡ l j

-- the codes meet the equalities that labels state: a term has the code of its label
abbrev pub Keeps : Problem → (ℕ → ℕ) → (ℕ → ℕ) → Type 0
Keeps P l c = (i : ℕ) → i < P.terms → c (l i) ≡ c i

-- from the labels l to m groups were only made one where every model of P that keeps to l has equal codes
pub record Coarsening (P : Problem) (l m : ℕ → ℕ) : Type 0 where
  pub lower : (k : ℕ) → k < most_terms → m k ≤ l k
  pub coarser : (i j : ℕ) → i < most_terms → j < most_terms → l i ≡ l j → m i ≡ m j
  pub lowest : Lowest l → Lowest m
  pub sound : (c : ℕ → ℕ) → Models P c → Keeps P l c → Keeps P m c

-- the same statements hold of the labels
abbrev pub Stated : Problem → (ℕ → ℕ) → Type 0
Stated P l = (k : ℕ) → k < P.literals → P.equal k ≡ 1 → l (P.left k) ≡ l (P.right k)

-- one sweep over the terms: where it changes no label, the labels are closed
pub record Swept (P : Problem) (l m : ℕ → ℕ) : Type 0 where
  pub step : Coarsening P l m
  pub closed : ((k : ℕ) → k < most_terms → m k ≡ l k) → Closed P m
