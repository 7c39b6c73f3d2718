-- Of the places read, all are marked or one was free.
use Rattle.search.specs.Marks.{Freeing}
use Rattle.search.proofs.marks.some_free.Given as goal

abbrev pub invariant-loop-place : goal.invariant-loop-place
invariant-loop-place l = Freeing l.places l.free l.place-index
