-- Who works in a warehouse, and what they have done at the end of the day.
use Rattle.dbtg_run.specs.UnitView.{BelongsTo}
use Rattle.inventory_clerks.specs.declared.warehouse.Warehouse.{Warehouse}

-- the units of both clerks are units of the warehouse's database
pub record IsStaffed (house : Warehouse) : Type 0 where
  pub first : BelongsTo house.db house.first
  pub second : BelongsTo house.db house.second
