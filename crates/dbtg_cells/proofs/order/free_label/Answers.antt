use Rattle.dbtg_cells.proofs.PlacesOfNodes.{fitting}
use Rattle.dbtg_cells.proofs.order.free_label.Goals as goal

pub returns : goal.returns
returns c = fitting _ _ _ _ _ _ c.requires.rising c.requires.place c.label_in_front.ensures c.label_at.ensures c.label_between.ensures.low c.label_between.ensures.high
