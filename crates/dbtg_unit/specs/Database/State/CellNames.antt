-- The names of the cells of a key, and the area in which a cell lies.
use Rattle.std.specs.Prelude.{ℕ, Option, Some, None}
use Rattle.dbtg_schema.specs.Lists.{Lists}
use Rattle.dbtg_schema.specs.Structure.{area_of, home}
use Rattle.dbtg_cells.specs.declared.key.DbKey.{DbKey}
use Rattle.dbtg_cells.specs.declared.key.Owner.{Owner}
use Rattle.dbtg_cells.specs.declared.key.Owner.TheVariants.{System, Rec}
use Rattle.dbtg_cells.specs.declared.name.CellName.{CellName}
use Rattle.dbtg_cells.specs.declared.name.CellName.TheVariants.{Usage, Extent, Ring, Slot}

-- the slot of a key
abbrev pub slot_name : DbKey → CellName
slot_name k = Slot k.rtype k.number

-- how an owner names a ring
abbrev pub place_of : Owner → Option (ℕ × ℕ)
place_of System = None
place_of (Rec k) = Some (k.rtype, k.number)

-- the area of a cell: the area itself, a record type's, a set's home
abbrev pub area_of_cell : Lists → CellName → ℕ
area_of_cell schema (Usage a) = a
area_of_cell schema (Extent t) = area_of schema t
area_of_cell schema (Ring s o) = home schema s
area_of_cell schema (Slot t n) = area_of schema t
