-- Copies of cells of a database that are held.
use Rattle.std.specs.Prelude.{ℕ, ◌≡◌, true, length}
use Rattle.std.specs.List.{list_all}
use Rattle.dbtg_schema.specs.Lists.{Lists}
use Rattle.dbtg_cells.specs.CellNumbers.{is_cell}
use Rattle.dbtg_unit.specs.Database.State.Base.{Database}
use Rattle.dbtg_unit.specs.Hands.Local.{AllAgree, names_of}
use Rattle.dbtg_states.specs.declared.needing.InHand.{InHand}

-- the cells in hand are those of these names, as the database has them
pub record AreInHand (schema : Lists) (capacity : ℕ) (db : Database) (hands : InHand) : Type 0 where
  pub names_are : names_of hands.held.cells ≡ hands.names.items
  pub agree : AllAgree schema capacity db hands.held.cells
  pub are_cells : list_all (is_cell schema capacity) hands.names.items ≡ true
  pub guesses : length hands.held.guesses ≡ length schema.sets
