-- What the test that two keys are equal says.
use mathlib.Core.Path.{◌≡◌, ap}
use mathlib.Core.Bool.{true, false, ◌&&◌}
use borrow.Author.Tests.{eqb-true, eq-eqb}
use lib.Dec.{eqb}
use Rattle.prelude.proofs.Tests.{and_both, both_true, true_not_false}
use Rattle.congruence.specs.declared.Key.{Key}

module _ (x y : Key) where
  pub same_key : (eqb x.symbol y.symbol && (eqb x.first y.first && eqb x.second y.second)) ≡ true → x ≡ y
  same_key e =
      let f = and_both _ _ e in
      let g = and_both _ _ f.1 in
      let a = eqb-true _ _ f.0 in
      let b = eqb-true _ _ g.0 in
      let d = eqb-true _ _ g.1 in
      λ q. record { symbol = a q; first = b q; second = d q }

  pub other_key : (eqb x.symbol y.symbol && (eqb x.first y.first && eqb x.second y.second)) ≡ false → x ≡ y → ⊥
  other_key e s =
      true_not_false _
      (both_true _ _ (eq-eqb _ _ (ap (λ (k : Key). k.symbol) s)) (both_true _ _ (eq-eqb _ _ (ap (λ (k : Key). k.first) s)) (eq-eqb _ _ (ap (λ (k : Key). k.second) s))))
      e
