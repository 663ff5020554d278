-- For the proofs alone. A crowd: terms of one symbol whose codes all differ. They are at most as many as their arguments have pairs of codes,
-- which is said by numbers that tell codes apart.
use Rattle.std.specs.Prelude.{ℕ, zero, suc, ◌+◌, ◌-◌, ◌/◌, ◌%◌, ◌^◌, ◌≤◌, ◌<◌, ◌≡◌, List, length}
use Rattle.prelude.specs.Limits.{most_terms}
use Rattle.prelude.specs.Lists.{at}
use Rattle.knowledge.specs.declared.Known.{Known}
use Rattle.knowledge.specs.declared.terms.Terms.{Terms}
use Rattle.knowledge.specs.Knows.{Bit, Knows, SmallCodes, Differ, Means}

-- how many codes below v are not struck out in w
unfoldable pub left_below : ℕ → ℕ → ℕ
left_below w zero = zero
left_below w (suc v) = left_below w v + (1 - w / 2 ^ v % 2)

-- small codes of which the knowledge is true
pub record KnownSmall (k : Known) (c : ℕ → ℕ) : Type 0 where
  pub small : SmallCodes c
  pub knows : Knows k c

-- the chosen are known to have codes other than that of i
abbrev pub Unlike : Known → List ℕ → ℕ → Type 0
Unlike k chosen i = (a : ℕ) → a < length chosen → Means (KnownSmall k) (Differ (at chosen a) i)

-- the codes of the chosen all differ
abbrev pub Apart : List ℕ → (ℕ → ℕ) → Type 0
Apart chosen c = (a b : ℕ) → a < b → b < length chosen → c (at chosen a) ≡ c (at chosen b) → ⊥

-- a crowd of the symbol f among the first i terms
pub record Gathered (t : Terms) (known : Known) (f i : ℕ) (chosen : List ℕ) : Type 0 where
  pub few : length chosen ≤ i
  pub terms : (a : ℕ) → a < length chosen → at chosen a < t.n
  pub symbols : (a : ℕ) → a < length chosen → at t.symbol.now (at chosen a) ≡ f
  pub apart : Means (KnownSmall known) (Apart chosen)

-- numbers below r tell the codes of a list apart, so that there are at most r of these codes
pub record Counted (list : List ℕ) (r : ℕ) (c : ℕ → ℕ) : Type 0 where
  pub key : ℕ → ℕ
  pub below : (a : ℕ) → a < length list → key a < r
  pub same : (a b : ℕ) → a < length list → b < length list → key a ≡ key b → c (at list a) ≡ c (at list b)

-- a list has the code of its first
abbrev pub OneCode : List ℕ → (ℕ → ℕ) → Type 0
OneCode list c = (a : ℕ) → a < length list → c (at list a) ≡ c (at list 0)

-- no code of a list is struck out in a mask
abbrev pub Free : ℕ → List ℕ → (ℕ → ℕ) → Type 0
Free w list c = (a : ℕ) → a < length list → Bit w (c (at list a)) → ⊥

-- a list is of terms of one symbol
pub record OneSymbol (t : Terms) (list : List ℕ) : Type 0 where
  pub terms : (a : ℕ) → a < length list → at list a < t.n
  pub symbols : (a b : ℕ) → a < length list → b < length list → at t.symbol.now (at list a) ≡ at t.symbol.now (at list b)

-- a list r are the arguments of those of another, as far as these are terms
pub record Arguments (args list r : List ℕ) : Type 0 where
  pub many : length r ≡ length list
  pub each : (a : ℕ) → a < length list → at list a < most_terms → at r a ≡ at args (at list a)
