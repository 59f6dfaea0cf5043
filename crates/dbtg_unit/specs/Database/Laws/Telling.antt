-- The cells determine the whole database.
use Rattle.std.specs.Prelude.{◌≡◌, ℕ, true}
use Rattle.dbtg_schema.specs.Lists.{Lists}
use Rattle.dbtg_cells.specs.declared.name.CellName.{CellName}
use Rattle.dbtg_unit.specs.Database.State.Base.{Database}
use Rattle.dbtg_cells.specs.CellNumbers.{is_cell}
use Rattle.dbtg_unit.specs.Database.State.Cells.{cell}
use Rattle.dbtg_unit.specs.Database.State.Legal.{Legal}

-- two legal databases in which each cell of the schema shows the same are equal
abbrev pub CellsDetermine : Type 0
CellsDetermine =
    (schema : Lists) (capacity : ℕ) (db eb : Database) → Legal schema capacity db → Legal schema capacity eb
    → ((c : CellName) → is_cell schema capacity c ≡ true → cell schema capacity db c ≡ cell schema capacity eb c) → db ≡ eb
