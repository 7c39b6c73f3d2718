-- Lower plus slack.
use mathlib.Core.Path.{◌∙◌}
use Rattle.network.proofs.Arcs.{kept, tension_is}
use Rattle.network.proofs.timed.Timed.tension.Goals as goal

pub returns : goal.returns
returns c = tension_is _ _ _ (kept c.raised.type_inv ∙ c.raised.ensures) (kept c.lower.type_inv ∙ c.lower.ensures) c.slack.ensures
