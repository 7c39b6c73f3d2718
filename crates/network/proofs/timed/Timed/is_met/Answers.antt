-- The tension against the upper bound.
use mathlib.Core.Path.{◌∙◌}
use lib.Signed.{le_z}
use Rattle.network.specs.PublicRule.{met}
use Rattle.network.proofs.Arcs.{kept}
use Rattle.network.proofs.timed.Timed.is_met.Goals as goal

pub returns : goal.returns
unfolding met
returns c = λ j. le_z ((kept c.tension.type_inv ∙ c.tension.ensures) j) ((kept c.upper.type_inv ∙ c.upper.ensures) j)
