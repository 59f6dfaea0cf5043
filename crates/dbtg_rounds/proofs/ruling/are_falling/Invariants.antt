-- None of the edges so far leads to a higher rank.
use Rattle.std.proofs.Common.{take}
use Rattle.dbtg_rounds.specs.Inside.Ruling.{AreFalling}
use Rattle.dbtg_rounds.proofs.ruling.are_falling.Given as goal

abbrev pub invariant-loop-edge : goal.invariant-loop-edge
invariant-loop-edge l = AreFalling l.ranks (take l.edge-index l.edges)
