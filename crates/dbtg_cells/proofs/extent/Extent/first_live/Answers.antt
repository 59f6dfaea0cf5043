use Rattle.std.proofs.Common.{rules}
use Rattle.dbtg_cells.proofs.NumbersLeftOut.{all_numbered}
use Rattle.dbtg_cells.proofs.extent.Extent.first_live.Goals as goal

pub returns : goal.returns
returns c =
    let live = (all_numbered _ _ _ c.self.inside.lists.value.capacity c.self.invariant.0).live_is in
    search rules
