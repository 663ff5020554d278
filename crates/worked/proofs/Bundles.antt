-- Each call of the table comes out as its row says: the definitions compute it.
use mathlib.Core.Path.{refl}
use mathlib.Core.Option.{or_else}
use Rattle.layout.specs.Layout.{reading, read_from, cause}
use Rattle.answer.specs.Answer.{answer_at, answer, solves}
use Rattle.bundle.specs.Bundle.{parts_from, parts, smallest, summing, sharing, bundling}
use Rattle.bundle.specs.Written.{bundle_of}
use Rattle.worked.specs.Bundles.{WorkedBundles}

-- THEOREM: bundles of the worked sheets
pub worked_bundles : WorkedBundles
unfolding bundling sharing summing smallest parts parts_from bundle_of answer answer_at or_else solves reading read_from cause
worked_bundles = (refl, (refl, (refl, (refl, (refl, (refl, (refl, (refl, (refl, (refl, tt))))))))))
