-- `knowledge::new_label` meets its contract.
use mathlib.Core.Path.{refl, ap, sym, ◌∙◌}
use Rattle.knowledge.proofs.new_label.Goals as goal

pub returns-then-x-b : goal.returns-then-x-b
returns-then-x-b c = record { means = λ a e. e ∙ ap a (sym c.if-x-b.true) }

pub returns-else-x-b : goal.returns-else-x-b
returns-else-x-b c = record { means = λ a e. refl }
