-- Each edge is within the states that have ranks; at last none leads to a higher one.
use Rattle.std.proofs.Common.{arith}
use Rattle.dbtg_rounds.proofs.Ranks.{all_falling, from_within, to_within}
use Rattle.dbtg_rounds.proofs.ruling.are_falling.Goals as goal

pub bounds-ranks-edge : goal.bounds-ranks-edge
bounds-ranks-edge c = from_within _ c.args.edges.now c.loop-edge.edge-index _ c.requires.within (omega arith)

pub bounds-ranks-edge-in-loop-edge : goal.bounds-ranks-edge-in-loop-edge
bounds-ranks-edge-in-loop-edge c = to_within _ c.args.edges.now c.loop-edge.edge-index _ c.requires.within (omega arith)

pub returns : goal.returns
returns c = λ _. all_falling c.args.ranks.now c.args.edges.now c.loop-edge.edge-index (omega arith) c.loop-edge.invariant
