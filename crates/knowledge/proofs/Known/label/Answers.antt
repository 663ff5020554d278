-- `Known::label` meets its contract.
use mathlib.Core.Path.{refl, ap, ◌∙◌}
use Rattle.knowledge.proofs.Known.label.Goals as goal

pub returns-then-k-lt-MOST_TERMS : goal.returns-then-k-lt-MOST_TERMS
returns-then-k-lt-MOST_TERMS c =
    let k = c.wide-k in
    record { means = λ a h. h k.result c.if-k-lt-MOST_TERMS.true ∙ ap a k.ensures.0 }

pub returns-else-k-lt-MOST_TERMS : goal.returns-else-k-lt-MOST_TERMS
returns-else-k-lt-MOST_TERMS c = record { means = λ a h. refl }
