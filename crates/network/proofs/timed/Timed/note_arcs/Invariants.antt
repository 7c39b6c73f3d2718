-- The entries passed are written in both rows, and the sum is their cost.
use mathlib.Core.Path.{◌≡◌}
use Rattle.network.specs.PublicRule.{tension, turn_of}
use Rattle.network.specs.Rows.{written}
use Rattle.network.proofs.Arcs.{Summed}
use Rattle.network.proofs.timed.Timed.note_arcs.Given as goal

abbrev pub invariant-loop-arc : goal.invariant-loop-arc
invariant-loop-arc l =
    let N = l.self.network.rows in
    let t = l.self.times.now in
    record {
      cost : Summed N t l.arc l.sum;
      tensions : l.tensions ≡ written (tension N t) l.arc l.initial.tensions;
      turns : l.turns ≡ written (turn_of N t) l.arc l.initial.turns;
    }
