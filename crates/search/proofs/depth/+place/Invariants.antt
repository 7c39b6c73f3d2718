-- What the loop of `place` keeps: every time tried so far leads nowhere, for the reasons blamed.
use Rattle.std.proofs.Common.{◌-◌, length}
use Rattle.search.specs.Lent.{lent}
use Rattle.search.specs.Steps.{Trying}
use Rattle.search.proofs.depth.+place.Given as goal

-- the events that are not placed
abbrev pub decreases-place : goal.decreases-place
decreases-place l = length l.threads.now.network.periods.now - l.k

abbrev pub invariant-loop-time : goal.invariant-loop-time
invariant-loop-time l = Trying (lent l.threads.network) l.initial.times l.k l.initial.blame l.times l.blame l.from

abbrev pub decreases-loop-time : goal.decreases-loop-time
decreases-loop-time l = length l.row - l.from
