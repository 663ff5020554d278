-- `words::same` meets its contract.
use Rattle.words.proofs.Complaining.{same_list_lem}
use Rattle.words.proofs.same.Goals as goal

pub returns : goal.returns
returns c = same_list_lem _ _ _ c.same.ensures
