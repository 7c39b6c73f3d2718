-- It lends rows of its own, no arc linked yet.
use Prim.Native.Nat.{ℕ}
use mathlib.Core.Path.{◌∙◌}
use native.Mathlib.Omega.{arith}
use lib.ListN.{replicate, get_or-replicate}
use lib.Seq.{length-take-le, get_or-take}
use Rattle.network.proofs.Links.{chained_none}
use Rattle.network.proofs.repeat.first_repeat.Goals as goal

pub scan-requires : goal.scan-requires
scan-requires c =
    chained_none c.requires (length-take-le _ _ (omega arith) ∙ c.events.ensures) (length-take-le _ _ (omega arith) ∙ c.arcs.ensures)
    (λ v h. get_or-take {A = ℕ} _ (replicate 64 0) v 0 (omega arith) ∙ get_or-replicate {A = ℕ} 64 v 0 0 (omega arith))
