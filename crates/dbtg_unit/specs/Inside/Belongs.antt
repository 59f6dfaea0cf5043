-- A word beside `Belongs` that private functions and lemmas use.
use Rattle.std.specs.Prelude.{Bool, Some, None}
use Rattle.dbtg_schema.specs.Lists.{Lists}
use Rattle.dbtg_schema.specs.Structure.{is_system, owns}
use Rattle.dbtg_cells.specs.declared.name.CellName.{CellName}
use Rattle.dbtg_cells.specs.declared.name.CellName.TheVariants.{Usage, Extent, Ring, Slot}
use Rattle.dbtg_unit.specs.Database.Statements.Fits.{is_area, is_type}

-- the name of a cell that the schema has, whatever the capacity
abbrev pub is_name_of : Lists → CellName → Bool
is_name_of schema (Usage a) = is_area schema a
is_name_of schema (Extent t) = is_type schema t
is_name_of schema (Ring s None) = is_system schema s
is_name_of schema (Ring s (Some p)) = owns schema s p.0
is_name_of schema (Slot t n) = is_type schema t
