-- A run-unit as callers see it, between statements.
use Rattle.std.specs.Prelude.{◌≡◌, ℕ, List, [], map}
use Rattle.std.specs.List.{range_with_len}
use Rattle.atomic_table.specs.Seated.{TableId}
use Rattle.dbtg_unit.specs.declared.unit.Entry.{Entry}
use Rattle.dbtg_unit.specs.declared.unit.Unit.{Unit}
use Rattle.dbtg_unit.specs.Database.State.Units.{opening_unit}
use Rattle.dbtg_run.specs.declared.database.Database.{Database}
use Rattle.dbtg_run.specs.declared.view.About.{About}

-- the table at which the unit has its seat, what its database was made with, what it is, and its entries
pub record UnitView : Type 0 where
  pub table : TableId
  pub about : About
  pub unit : Unit
  pub journal : List Entry

-- the unit was made with this database
pub record BelongsTo (db : Database) (u : UnitView) : Type 0 where
  pub about : u.about ≡ db.about
  pub table : u.table ≡ db.board.shared.table_id

-- the unit with this number, before its first statement
abbrev pub opening_view : TableId → About → ℕ → UnitView
opening_view table about number = record { table = table; about = about; unit = opening_unit about.schema.value number; journal = [] }

-- the units, numbered from 1
abbrev pub opening_views : TableId → About → ℕ → List UnitView
opening_views table about units = map (opening_view table about) (range_with_len 1 units)
