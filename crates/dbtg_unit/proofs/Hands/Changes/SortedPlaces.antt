-- Placing in a sorted ring before the first member that does not come before.
use Rattle.std.proofs.Common.{◌≡◌, refl, true, Bool, not, Option, Some, None}
use Rattle.dbtg_schema.specs.declared.shape.Duplicates.{Duplicates}
use Rattle.dbtg_cells.specs.declared.key.DbKey.{DbKey}
use Rattle.dbtg_cells.specs.declared.key.Value.{Value}
use Rattle.dbtg_cells.specs.declared.ring.Occurrence.{Occurrence}
use Rattle.dbtg_cells.specs.Members.{members_in, with_members}
use Rattle.dbtg_cells.specs.Orders.{comes_before}
use Rattle.dbtg_cells.specs.Placed.{placed, Before, Among}
use Rattle.dbtg_unit.specs.Hands.CanEdit.{parts_by}
use Rattle.dbtg_unit.proofs.Lists.PlacedMaps.{before_parted}

pub sorted_placed : (ascending : Bool) (duplicates : Duplicates) (key : Option Value) (m : DbKey × Option Value) (occurrence : Option Occurrence)
    → parts_by ascending duplicates key (members_in occurrence) ≡ true
    → with_members (placed (Before (λ e. not (comes_before ascending duplicates e.1 key))) m) occurrence ≡ with_members (placed (Among (λ e. comes_before ascending duplicates e.1 key)) m) occurrence
sorted_placed ascending duplicates key m None h = refl
sorted_placed ascending duplicates key m (Some o) h =
    λ i. Some (record { owner = o.owner; members = before_parted (λ (e : DbKey × Option Value). comes_before ascending duplicates e.1 key) m o.members h i })
