-- `pigeonhole::common` meets its contract.
use Prim.Native.Nat.{ℕ, ◌<◌}
use Rattle.prelude.specs.Lists.{at}
use Rattle.knowledge.specs.Knows.{Bit, Labels, Masks, Means}
use Rattle.pigeonhole.proofs.common.Given as goal

abbrev pub invariant-loop-a : goal.invariant-loop-a
invariant-loop-a l = Means (λ c. Labels l.known.labels c × Masks l.known.masks c) (λ c. (b : ℕ) → b < l.a-index → Bit l.w (c (at l.list b)) → ⊥)
