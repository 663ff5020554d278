-- The interface: what propagation knows of one assignment c of codes to terms. Equal labels mean equal codes, marked pairs have different
-- codes, and a term's code is not struck out in its mask. Nothing known is all zeros, so more knowledge is more bits.
use Rattle.std.specs.Prelude.{ℕ, ◌<◌, ◌+◌, ◌*◌, ◌/◌, ◌%◌, ◌^◌, ◌≡◌, List, Option, IfSome}
use Rattle.prelude.specs.Limits.{most_terms, most_codes}
use Rattle.prelude.specs.Lists.{at}
use Rattle.knowledge.specs.declared.Known.{Known}

-- bit v of the mask w is set
abbrev pub Bit : ℕ → ℕ → Type 0
Bit w v = w / 2 ^ v % 2 ≡ 1

-- the label of a term is a term of the same code
abbrev pub Labels : List ℕ → (ℕ → ℕ) → Type 0
Labels l c = (i : ℕ) → i < most_terms → c (at l i) ≡ c i

-- no term has a code that is struck out in its mask
abbrev pub Masks : List ℕ → (ℕ → ℕ) → Type 0
Masks w c = (i : ℕ) → Bit (at w i) (c i) → ⊥

-- the bits of half a row of marks
abbrev pub half_bits : ℕ
half_bits = 64

-- marks are a row of bits for each term, two halves to a row: the bit of column j in row i says that the codes of i and j differ
abbrev pub Marks : List ℕ → (ℕ → ℕ) → Type 0
Marks m c = (x v : ℕ) → v < half_bits → Bit (at m x) v → c (x / 2) ≡ c (x % 2 * half_bits + v) → ⊥

pub record Knows (k : Known) (c : ℕ → ℕ) : Type 0 where
  pub labels : Labels k.labels c
  pub masks : Masks k.masks c
  pub marks : Marks k.marks c

-- codes of 0 to 15, which a mask of 16 bits can tell apart
abbrev pub SmallCodes : (ℕ → ℕ) → Type 0
SmallCodes c = (i : ℕ) → c i < most_codes

abbrev pub Same : ℕ → ℕ → (ℕ → ℕ) → Type 0
Same a b c = c a ≡ c b

abbrev pub Differ : ℕ → ℕ → (ℕ → ℕ) → Type 0
Differ a b c = c a ≡ c b → ⊥

-- what is known of an assignment says more of it
pub record Means (If Then : (ℕ → ℕ) → Type 0) : Type 0 where
  pub means : (c : ℕ → ℕ) → If c → Then c

-- what was known of an assignment that has a property stays true: the form of every rule
pub record Kept (If Before After : (ℕ → ℕ) → Type 0) : Type 0 where
  pub kept : (c : ℕ → ℕ) → If c → Before c → After c

-- codes are struck out: the masks alone change, and stay true
pub record Struck (If : (ℕ → ℕ) → Type 0) (k k' : Known) : Type 0 where
  pub struck : Kept If (Masks k.masks) (Masks k'.masks)
  pub labels : k'.labels ≡ k.labels
  pub marks : k'.marks ≡ k.marks

-- pairs are marked: the marks alone change, and stay true
pub record Marked (If : (ℕ → ℕ) → Type 0) (k k' : Known) : Type 0 where
  pub marked : Kept If (Marks k.marks) (Marks k'.marks)
  pub labels : k'.labels ≡ k.labels
  pub masks : k'.masks ≡ k.masks

-- every code but v is struck out in w
pub record Single (w v : ℕ) : Type 0 where
  pub only : (u : ℕ) → u < most_codes → (Bit w u → ⊥) → u ≡ v

-- if there is a code, it is the only one left in w
abbrev pub IfSingle : ℕ → Option ℕ → Type 0
IfSingle w o = IfSome o (λ v. (v < most_codes) × Single w v)
