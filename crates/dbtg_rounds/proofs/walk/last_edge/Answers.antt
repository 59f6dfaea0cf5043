-- The edge that is found is one of the graph, and those at the state were all tried.
use Rattle.std.proofs.Common.{arith}
use Rattle.std.proofs.lemmas.List.Elements.{Contains-get_or}
use Rattle.dbtg_rounds.proofs.walk.last_edge.Goals as goal

pub returns-then-is_met-clause-edge : goal.returns-then-is_met-clause-edge
returns-then-is_met-clause-edge c = c.at-edge-items.ensures.only _ (Contains-get_or c.at-edge-items.result.now c.loop-edge.edge-index (record { from = 0; unit = 0; to = 0 }) c.loop-edge-test.true)

pub returns-clause-none : goal.returns-clause-none
returns-clause-none c = λ _ e has from marked meets.
    let there = c.at-edge-items.ensures.all e has from in
    let low = there.1 in
    c.loop-edge.invariant there.0 e (omega arith) there.2 marked meets
