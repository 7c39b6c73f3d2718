-- The header and the lines of the first k arcs are put.
use Rattle.std.proofs.Common.{◌≡◌, ◌<◌, ℕ, length, get_or, arith}
use Rattle.text.specs.declared.print.rows.ArcRows.{ArcRows}
use Rattle.text.specs.Text.{arc_layout}
use Rattle.text.specs.Put.{longest_arc}
use Rattle.text.specs.ArcRows.{arc_in, arcs_in}
use Rattle.text.proofs.Rows.{arcs-length, arcs-at}
use Rattle.text.proofs.Puts.{header_fits, begun, ended, line_fits, line_put}
use Rattle.text.proofs.print.print_arcs.Goals as goal

-- as many arcs as tails, and each by its number
long : (r : ArcRows) → length (arcs_in r) ≡ length r.tail.now
long r = arcs-length r.tail.now r.head.now r.lower.now r.upper.now r.weight.now

each : (r : ArcRows) (k : ℕ) → k < length r.tail.now → get_or (arcs_in r) k (arc_in r k) ≡ arc_in r k
each r k i = arcs-at r.tail.now r.head.now r.lower.now r.upper.now r.weight.now k (arc_in r k) i

pub put-requires : goal.put-requires
put-requires g c = header_fits arc_layout (arcs_in c.args.arcs.now) longest_arc g.met.S.Sink.laws c.requires

pub loop-k-init : goal.loop-k-init
loop-k-init g c = begun arc_layout (arcs_in c.args.arcs.now) longest_arc g.met.S.Sink.laws c.requires (omega arith) c.put.ensures

pub put_arc-requires-clause-room : goal.put_arc-requires-clause-room
put_arc-requires-clause-room g c =
    let arcs = c.args.arcs.now in
    let k = c.loop-k.k in
    line_fits arc_layout (arcs_in arcs) longest_arc g.met.S.Sink.laws c.requires k (arc_in arcs k) (omega (arith, long arcs)) (each arcs k c.loop-k-test.true) c.loop-k.invariant

pub loop-k-preserved : goal.loop-k-preserved
loop-k-preserved g c =
    let arcs = c.args.arcs.now in
    let k = c.loop-k.k in
    line_put arc_layout (arcs_in arcs) longest_arc g.met.S.Sink.laws c.requires k (arc_in arcs k) (omega (arith, long arcs)) (each arcs k c.loop-k-test.true) c.loop-k.invariant
    c.put_arc.ensures.took c.put_arc.ensures.short

pub returns : goal.returns
returns g c =
    let arcs = c.args.arcs.now in
    let all = ended arc_layout (arcs_in arcs) longest_arc g.met.S.Sink.laws c.requires c.loop-k.k (omega (arith, long arcs)) c.loop-k.invariant in
    record { took = all.0; short = omega (arith, all.1) }
