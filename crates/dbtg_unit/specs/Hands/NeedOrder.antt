-- What a statement needs next, against what it holds.
-- a and b are areas, c the name of a cell, e a cell with its name, x a statement, db a database.
use Rattle.std.specs.Prelude.{ℕ, ◌≡◌, ◌==◌, true, false, nat_lt, List, [], ◌⊎◌, length, take, ⊤}
use Rattle.std.specs.List.{list_all, list_any}
use Rattle.dbtg_schema.specs.Lists.{Lists}
use Rattle.dbtg_cells.specs.Names.{name_below}
use Rattle.dbtg_unit.specs.declared.held.Need.{Need}
use Rattle.dbtg_unit.specs.declared.held.Need.TheVariants.{Area, Take, Stale, Ready}
use Rattle.dbtg_unit.specs.declared.statement.Statement.{Statement}
use Rattle.dbtg_unit.specs.declared.unit.Unit.{Unit}
use Rattle.dbtg_unit.specs.Database.State.Base.{Database}
use Rattle.dbtg_unit.specs.Database.State.CellNames.{area_of_cell}
use Rattle.dbtg_unit.specs.Hands.EditsOf.{is_delete}
use Rattle.dbtg_unit.specs.Hands.Hands.{Hands}
use Rattle.dbtg_unit.specs.Hands.Local.{holds, names_of}
use Rattle.dbtg_unit.specs.Hands.Needs.{areas_in_order, cells_of}

-- the first areas of the statement are held, and after all of them its first cells
pub record IsInTurn (schema : Lists) (capacity : ℕ) (db : Database) (unit : Unit) (x : Statement) (hands : Hands) : Type 0 where
  pub areas : hands.areas ≡ take (length hands.areas) (areas_in_order schema unit x)
  pub cells : names_of hands.cells ≡ take (length hands.cells) (cells_of schema capacity db unit hands.guesses x)
  pub areas_first : (hands.areas ≡ areas_in_order schema unit x) ⊎ (hands.cells ≡ [])

-- an area that is needed is above all held areas, and no cell is held; a cell is above all held cells, those of a DELETE apart
abbrev pub IsAbove : Statement → Hands → Need → Type 0
IsAbove x hands (Area a) = (list_all (λ b. nat_lt b a) hands.areas ≡ true) × (hands.cells ≡ [])
IsAbove x hands (Take c) = is_delete x ≡ false → list_all (λ e. name_below e.0 c) hands.cells ≡ true
IsAbove x hands Stale = ⊤
IsAbove x hands Ready = ⊤

-- a cell that is needed is not held, and lies in a held area
abbrev pub IsInHeldArea : Lists → Hands → Need → Type 0
IsInHeldArea schema hands (Take c) = (holds hands.cells c ≡ false) × (list_any (λ b. b == area_of_cell schema c) hands.areas ≡ true)
IsInHeldArea schema hands (Area a) = ⊤
IsInHeldArea schema hands Stale = ⊤
IsInHeldArea schema hands Ready = ⊤
