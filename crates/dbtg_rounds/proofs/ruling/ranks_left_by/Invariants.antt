-- None of the edges so far stays on a rank that is marked.
use Rattle.std.proofs.Common.{take}
use Rattle.dbtg_rounds.specs.Inside.Ruling.{AreLeft}
use Rattle.dbtg_rounds.proofs.ruling.ranks_left_by.Given as goal

abbrev pub invariant-loop-edge : goal.invariant-loop-edge
invariant-loop-edge l = AreLeft l.ranks (take l.edge-index l.edges) l.unit l.left.items
