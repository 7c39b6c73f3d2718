-- The spans of the pairs passed are as wide as can be.
use mathlib.Core.Path.{refl}
use native.Mathlib.Omega.{arith}
use Rattle.closure.proofs.Tables.{gap_asks, gap_bounds, widening_more}
use Rattle.closure.proofs.table.widen_row.Goals as goal

pub gap_of-gap-requires : goal.gap_of-gap-requires
gap_of-gap-requires c = gap_asks c.requires.periodic c.requires.event c.loop-j-test.true c.loop-j.invariant

pub overflow_cast-gap : goal.overflow_cast-gap
overflow_cast-gap c = omega (arith, (gap_bounds c.requires.periodic c.requires.event c.loop-j-test.true c.gap_of-gap.ensures).1)

pub overflow_sub-width : goal.overflow_sub-width
overflow_sub-width c = (gap_bounds c.requires.periodic c.requires.event c.loop-j-test.true c.gap_of-gap.ensures).0

pub invariant_of-wide : goal.invariant_of-wide
invariant_of-wide c =
    let b = gap_bounds c.requires.periodic c.requires.event c.loop-j-test.true c.gap_of-gap.ensures in
    record { shape = record { gap_most = b.1; low_below = b.0; width_below = omega (arith, b.0) } }

pub loop-j-preserved : goal.loop-j-preserved
loop-j-preserved c =
    let p = c.requires.periodic in
    let d = c.gap_of-gap.ensures in
    let b = gap_bounds p c.requires.event c.loop-j-test.true d in
    widening_more p c.requires.event c.loop-j-test.true _ c.place.ensures d refl (omega (arith, b.0)) c.loop-j.invariant
