-- What the literals say of a consistent assignment, and what is known of it after the rules.
use Prim.Native.Nat.{ℕ, ◌<◌}
use mathlib.Core.Path.{◌≡◌, ap}
use mathlib.Core.List.{List}
use lib.ListN.{replicate}
use Rattle.prelude.specs.Lists.{at}
use Rattle.prelude.proofs.Lists.{at_zeros}
use Rattle.knowledge.specs.declared.Known.{Known}
use Rattle.knowledge.specs.declared.terms.Terms.{Terms}
use Rattle.knowledge.specs.Knows.{Marks, Knows, SmallCodes, Kept, Struck, Marked}
use Rattle.knowledge.proofs.Bits.{bit_none}
use Rattle.knowledge.proofs.Keeping.{step, chain, in_masks, in_marks}
use Rattle.starting.specs.declared.literals.Literals.{Literals}
use Rattle.starting.specs.Given.{SameHold, DifferHold}
use Rattle.starting.proofs.Masks.{masks_none}
use Rattle.rules.specs.Reasons.{SmallMarks, Lawful, LawfulGrouped}

-- nothing is marked where all halves of rows are 0
marks_none : (n : ℕ) (c : ℕ → ℕ) → Marks (replicate n 0) c
marks_none n c x v h b e = bit_none v (rw (at_zeros n x) at b)

-- what literals that hold of an assignment give it, where nothing was known
pub begun : {l : List ℕ} {k₁ k₂ : Known} (s : Literals) (c : ℕ → ℕ)
    → ((i : ℕ) → i < 128 → at l i ≡ i)
    → SameHold s c
    → ((j : ℕ) → j < s.m → at s.equal.now j ≡ 0 → c (at s.left.now j) ≡ c (at s.right.now j) → ⊥)
    → Kept (SameHold s) (Knows (record { labels = l; masks = replicate 128 0; marks = replicate 256 0 })) (Knows k₁)
    → Marked (DifferHold s k₁.labels) k₁ k₂
    → Knows k₂ c
begun s c own same differ joins marks =
    let then = joins.kept c same (record { labels = λ i h. ap c (own i h); masks = masks_none 128 c; marks = marks_none 256 c }) in
    (in_marks (λ _ d _. d) marks).kept c (record { differ = differ; labels = then.labels }) then

-- what is known stays true over R3, R2 and R5, and over R4 after them
pub struck : {t : Terms} {k₀ k₁ k₂ k₃ : Known}
    → Kept (Lawful t) (Knows k₀) (Knows k₁)
    → Kept SmallCodes (Knows k₁) (Knows k₂)
    → Struck (SmallMarks k₂.marks) k₂ k₃
    → Kept (Lawful t) (Knows k₀) (Knows k₃)
struck r3 r2 r5 = chain r3 (chain (step (λ _ l _. l.small) r2) (in_masks (λ _ l k. record { small = l.small; marks = k.marks }) r5))

pub marked : {t : Terms} {k₀ k₁ k₂ : Known}
    → Kept (Lawful t) (Knows k₀) (Knows k₁)
    → Marked (LawfulGrouped t k₁.labels k₁.masks) k₁ k₂
    → Kept (Lawful t) (Knows k₀) (Knows k₂)
marked before r4 = chain before (in_marks (λ _ l k. record { lawful = l; labels = k.labels; masks = k.masks }) r4)
