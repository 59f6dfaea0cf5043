use Rattle.std.proofs.Common.{◌≡◌, ◌+◌, ◌-◌, ◌*◌, ◌<◌, ◌^◌, length}
use Rattle.dbtg_cells.proofs.PlacesOfNodes.{Labelled}
use Rattle.dbtg_cells.proofs.order.relabel.Given as goal

abbrev pub invariant-loop-node : goal.invariant-loop-node
invariant-loop-node l = record {
  labelled : Labelled l.nodes l.labels.items l.node-index l.label;
  len : length l.labels.items ≡ length l.fn.labels.items;
  left : l.label + l.step * (length l.nodes - l.node-index) < 2 ^ 64;
}
