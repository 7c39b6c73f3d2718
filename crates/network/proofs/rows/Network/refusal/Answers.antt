-- The lines passed apply nowhere.
use mathlib.Core.Path.{sym, ap, ◌∙◌}
use native.Mathlib.Omega.{arith}
use Rattle.network.specs.declared.Refused.{Refused}
use Rattle.network.specs.Refusals.{number, answer}
use Rattle.network.proofs.Refusing.{clear_all}
use Rattle.network.proofs.Trials.{turn, tried_more, tried_refused, tried_all}
use Rattle.network.proofs.rows.Network.refusal.Goals as goal

pub first_place-requires : goal.first_place-requires
first_place-requires c = (turn _ _ c.loop-code.code-index (omega arith) c.loop-code.invariant).asks

pub at-requires : goal.at-requires
at-requires c = omega (arith, c.in-Some.ensures.0, (turn _ _ c.loop-code.code-index (omega arith) c.loop-code.invariant).few)

pub returns-in-Some : goal.returns-in-Some
returns-in-Some c =
    tried_refused _ _ c.loop-code.code-index (omega arith) c.loop-code.invariant c.in-Some.ensures
    ∙ ap (λ (r : Refused). answer (number r.code) r.place 0) (sym c.at.ensures)

pub loop-code-preserved : goal.loop-code-preserved
loop-code-preserved c = tried_more _ _ c.loop-code.code-index (omega arith) c.loop-code.invariant c.in_default.ensures

pub returns : goal.returns
returns c = clear_all 0 (tried_all _ _ c.loop-code.invariant c.loop-code-test.false)
