-- What is left by where the other span begins and ends.
use mathlib.Core.Path.{refl}
use native.Mathlib.Omega.{arith}
use Rattle.closure.proofs.Spans.{cut_inside, cut_nothing, cut_begin}
use Rattle.closure.proofs.span.Span.cut.Goals as goal

pub returns-then-round-gap : goal.returns-then-round-gap
returns-then-round-gap c =
    let e = c.behind-after.ensures in
    cut_inside c.requires refl refl (omega (arith, e)) (omega (arith, e)) (omega (arith, e, c.min-width.ensures))

pub returns-then-round-gap-2 : goal.returns-then-round-gap-2
returns-then-round-gap-2 c =
    let e = c.behind-after.ensures in
    cut_nothing c.requires (omega (arith, e)) (omega (arith, e))

pub returns : goal.returns
returns c =
    let e = c.behind-after.ensures in
    cut_begin c.requires refl refl (omega (arith, e)) (omega (arith, e)) (omega (arith, e, c.min-width-2.ensures))
