-- The lines passed apply nowhere.
use Rattle.network.proofs.Trials.{Tried}
use Rattle.network.proofs.rows.Network.refusal.Given as goal

abbrev pub invariant-loop-code : goal.invariant-loop-code
invariant-loop-code l = Tried l.self l.further l.code-index
