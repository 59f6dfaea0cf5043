use Rattle.std.proofs.Common.{rules, ◌∙◌, ap, slice_get}
use Rattle.std.proofs.lemmas.List.Sorted.{IsPartitionPoint-from_clause}
use Rattle.dbtg_cells.specs.Inside.Ordered.{label_below}
use Rattle.dbtg_cells.proofs.Rising.{parted_in_front, point_end}
use Rattle.dbtg_cells.proofs.PlacesOfNodes.{labels_down, found_there}
use Rattle.dbtg_cells.proofs.order.place_among.Goals as goal

pub returns : goal.returns
returns c =
    let nodes = c.args.nodes.now in
    let labels = c.args.labels.now in
    let node = c.args.node in
    let point = IsPartitionPoint-from_clause (λ y. label_below labels y node) _ _ c.partition_point.ensures.partitioned (parted_in_front (label_below labels) (λ y. label_below labels y node) (labels_down labels node) nodes c.requires.rising) (λ a r q k. search rules) in
    ap (slice_get nodes) (point_end (λ y. label_below labels y node) nodes c.partition_point.result c.partition_point.ensures.bound point.0 point.1) ∙ found_there labels nodes node c.requires.rising c.requires.listed
