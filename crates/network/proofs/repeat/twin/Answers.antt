-- None of the arcs passed has the same head.
use mathlib.Core.Path.{sym, subst, ap, ◌∙◌}
use Prim.Native.Nat.{ℕ, ◌-◌}
use native.Mathlib.Omega.{arith}
use Rattle.numbers.specs.Row.{at}
use Rattle.network.specs.Network.{tail}
use Rattle.network.specs.Pairs.{Last}
use Rattle.network.proofs.Repeats.{other-head}
use Rattle.network.proofs.Links.{last_here, down_first, down_more}
use Rattle.network.proofs.repeat.twin.Goals as goal

pub loop-next-init : goal.loop-next-init
loop-next-init c =
    let N = c.args.network.now in
    down_first (subst (Last N.tails (tail N c.args.arc) c.args.arc) (sym (ap (at c.args.lasts.now) c.tail.ensures)) (last_here c.requires))

pub loop-next-preserved : goal.loop-next-preserved
loop-next-preserved c =
    let other : ℕ = c.loop-next.next - 1 in
    down_more c.loop-next.invariant c.loop-next-test.true
    (other-head c.args.network.now other c.args.arc (λ q. c.if-head.false (c.head.ensures ∙ q ∙ sym c.head-in-loop-next.ensures)))
    (c.requires.chained.linked.each other (omega arith))
