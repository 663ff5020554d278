-- R4: terms of one symbol that are known to differ do not have equal argument codes.
use Prim.Native.Nat.{ℕ, ◌<◌}
use native.Mathlib.Omega.{arith}
use mathlib.Core.Path.{◌≡◌, sym, ◌∙◌}
use mathlib.Core.List.{List}
use Rattle.prelude.specs.Lists.{at}
use Rattle.knowledge.specs.declared.terms.Terms.{Terms}
use Rattle.knowledge.specs.Knows.{Masks, Marks, SmallCodes, Differ, Means}
use Rattle.knowledge.proofs.Keeping.{label_code}
use Rattle.rules.specs.Reasons.{LawfulGrouped}

module _ (t : Terms) (l w m : List ℕ) (i j : ℕ) (hi : i < t.n) (hj : j < t.n) (same : at t.symbol.now i ≡ at t.symbol.now j)
    (g h : ℕ) (eg : g ≡ at l i) (eh : h ≡ at l j) (apart : Means (λ c. SmallCodes c × (Masks w c × Marks m c)) (Differ g h)) where
  pub results_differ : (c : ℕ → ℕ) → LawfulGrouped t l w c → Marks m c → c (at t.arg0.now i) ≡ c (at t.arg0.now j) → c (at t.arg1.now i) ≡ c (at t.arg1.now j) → ⊥
  results_differ c s k first second =
      apart.means c (s.lawful.small, (s.masks, k))
      ((label_code l i g (omega (arith, t.few)) eg).means c s.labels
      ∙ s.lawful.congruent i j hi hj same first second
      ∙ sym ((label_code l j h (omega (arith, t.few)) eh).means c s.labels))
