-- The labels and times are right for the arcs passed.
use mathlib.Core.Path.{◌≡◌}
use lib.ListN.{length}
use Rattle.walks.specs.Place.{Placing}
use Rattle.walks.proofs.place_arcs.Given as goal

abbrev pub invariant-loop-k : goal.invariant-loop-k
invariant-loop-k l = record {
  period : l.parts.period ≡ l.period;
  placing : Placing l.tail l.head l.tensions l.period l.k l.parts.marks.now;
  long : length l.parts.marks.now ≡ length l.times;
}
