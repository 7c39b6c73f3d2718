-- What the search finds for the longer network it finds for the network.
use mathlib.Core.Path.{sym}
use lib.Seq.{length-take-le}
use Rattle.search.specs.Looked.Looked.{nothing}
use Rattle.closure.proofs.Looks.{looked_longer}
use Rattle.closure.proofs.smallest.Goals as goal

pub returns-in_default : goal.returns-in_default
returns-in_default c = nothing c.in_default.ensures

pub slice_bounds-longer-end : goal.slice_bounds-longer-end
slice_bounds-longer-end c = c.in-Some.ensures.0

pub slice_bounds-reduced-end : goal.slice_bounds-reduced-end
slice_bounds-reduced-end c = sym (length-take-le _ _ c.in-Some.ensures.0)

pub returns : goal.returns
returns c = looked_longer c.network.view_is c.in-Some.ensures.1 _ c.least.ensures
