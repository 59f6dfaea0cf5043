-- Each edge begins in a state that has a rank, and can be ruled out.
use Rattle.std.proofs.Common.{length, arith}
use Rattle.dbtg_rounds.proofs.Ranks.{from_within}
use Rattle.dbtg_rounds.proofs.ruling.rule_out.Goals as goal

pub bounds-ranks-edge : goal.bounds-ranks-edge
bounds-ranks-edge c = from_within _ c.args.edges.now c.loop-edge.edge-index _ c.requires.within (omega arith)

pub bounds-ruled-edge : goal.bounds-ruled-edge
bounds-ruled-edge c = omega (arith, from_within (length c.args.ranks.now) c.args.edges.now c.loop-edge.edge-index (record { from = 0; unit = 0; to = 0 }) c.requires.within (omega arith))
