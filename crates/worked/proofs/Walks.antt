-- Each walk of the table comes out as its row says: the definitions compute it.
use mathlib.Core.Path.{refl}
use Rattle.layout.specs.Layout.{reading, read_from, cause}
use Rattle.tables.specs.Tests.{well_laid}
use Rattle.walk.specs.Walk.{walkable, outcome, walking, trail_after}
use Rattle.worked.specs.Walks.{WorkedWalks}

-- THEOREM: the walks of docs/FORMAT.md
pub worked_walks : WorkedWalks
unfolding walking trail_after outcome walkable well_laid reading read_from cause
worked_walks = (
  record { result = refl; trail = refl },
  (
    record { result = refl; trail = refl },
    (
      record { result = refl; trail = refl },
      (
        record { result = refl; trail = refl },
        (
          record { result = refl; trail = refl },
          (
            record { result = refl; trail = refl },
            tt,
          ),
        ),
      ),
    ),
  ),
)
