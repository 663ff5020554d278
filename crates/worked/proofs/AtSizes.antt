-- Each call of the table comes out as its row says: the definitions compute it.
use mathlib.Core.Path.{refl}
use Rattle.layout.specs.Layout.{reading, read_from, cause}
use Rattle.tables.specs.Tests.{in_bounds}
use Rattle.answer.specs.Answer.{answer_at, solves, unforced}
use Rattle.find_at.specs.FindAt.{outcome_at, finding_at, codes_after_at, tables_after_at}
use Rattle.worked.specs.AtSizes.{WorkedAtSizes}

-- THEOREM: the worked sheets at given sizes
pub worked_at_sizes : WorkedAtSizes
unfolding finding_at codes_after_at tables_after_at outcome_at answer_at solves unforced in_bounds reading read_from cause
worked_at_sizes = (record { result = refl; codes = refl; tables = refl }, (record { result = refl; codes = refl; tables = refl }, (record { result = refl; codes = refl; tables = refl }, (record { result = refl; codes = refl; tables = refl }, (record { result = refl; codes = refl; tables = refl }, (record { result = refl; codes = refl; tables = refl }, (record { result = refl; codes = refl; tables = refl }, (record { result = refl; codes = refl; tables = refl }, (record { result = refl; codes = refl; tables = refl }, (record { result = refl; codes = refl; tables = refl }, tt))))))))))
