-- The spans and the network's own arcs make a network that serves the search.
use mathlib.Core.Path.{ap, ◌∙◌}
use Rattle.search.specs.Lent.{lent}
use Rattle.closure.proofs.Looks.{serves_left, open_asks, few_left, refuted, serves_longer}
use Rattle.closure.proofs.extend.Goals as goal

pub invariant_of-reduced : goal.invariant_of-reduced
invariant_of-reduced c = record { sized = (serves_left c.network.view_is _ c.requires.bars_long c.reduce.ensures).sized }

pub widen-table-requires : goal.widen-table-requires
widen-table-requires c = open_asks c.network.view_is c.requires.spans_long

pub returns-in_err-rounds : goal.returns-in_err-rounds
returns-in_err-rounds c =
    rw c.from_residual.ensures
    (refuted c.network.view_is _ c.requires.bars_long c.reduce.ensures (ap lent c.widen-table.ensures.same_network) c.close.ensures.step.some c.in_err-rounds.was)

pub append_all-arcs-requires : goal.append_all-arcs-requires
append_all-arcs-requires c =
    let q = ap lent (c.close.ensures.step.network ∙ c.widen-table.ensures.same_network) in
    record { own_few = few_left c.network.view_is _ c.requires.bars_long c.reduce.ensures q; long = c.requires.room }

pub returns : goal.returns
returns c =
    let q = ap lent (c.close.ensures.step.network ∙ c.widen-table.ensures.same_network) in
    let l = serves_longer c.network.view_is _ c.requires.bars_long c.reduce.ensures q c.append_all-arcs.ensures in
    (l.0, l.1, c.in_ok-rounds.ensures.some_rounds)
