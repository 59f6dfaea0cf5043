-- What a statement needs next, compared with what it holds: it is above that, if that was taken in turn.
-- x is a statement, e a cell with its name, db a database.
use Rattle.std.specs.Prelude.{ℕ, ◌≡◌, ◌≢◌, ◌<◌, not, ◌==◌, true, false, [], None, reverse, ⊤}
use Rattle.std.specs.List.{find, list_any}
use Rattle.dbtg_schema.specs.Lists.{Lists}
use Rattle.dbtg_cells.specs.declared.cell.Cell.{Cell}
use Rattle.dbtg_cells.specs.declared.name.CellName.{CellName}
use Rattle.dbtg_cells.specs.Names.{name_below}
use Rattle.dbtg_unit.specs.declared.held.Need.{Need}
use Rattle.dbtg_unit.specs.declared.held.Need.TheVariants.{Area, Take, Stale, Ready}
use Rattle.dbtg_unit.specs.declared.statement.Statement.{Statement}
use Rattle.dbtg_unit.specs.declared.unit.Unit.{Unit}
use Rattle.dbtg_unit.specs.Database.State.Base.{Database}
use Rattle.dbtg_unit.specs.Database.State.CellNames.{area_of_cell}
use Rattle.dbtg_unit.specs.Hands.Hands.{Hands}
use Rattle.dbtg_unit.specs.Hands.Needs.{areas_in_order}
use Rattle.dbtg_step.specs.Machine.SequentialDatabase.{In}
use Rattle.dbtg_step.specs.Machine.NeverStuck.{MayGoOn, TakenInTurn}
use Rattle.dbtg_step.specs.Machine.Network.{is_delete, network}
use Rattle.dbtg_step.specs.Core.Parts.{held_cells_of}

-- the held cells are those of this database, legal with a unit that may make the statement
abbrev pub AreCellsOf : Lists → ℕ → Database → Unit → Statement → Hands → Type 0
AreCellsOf schema capacity db unit x hands = MayGoOn (network schema capacity) name_below db unit x (held_cells_of hands.cells)

-- each area and cell that is held was what the statement needed next, one after another, and the held cells are as they were
abbrev pub WasTakenInTurn : Lists → ℕ → Unit → Statement → Hands → Type 0
WasTakenInTurn schema capacity unit x hands = TakenInTurn (network schema capacity) name_below unit x hands.guesses (reverse hands.areas) (held_cells_of hands.cells)

-- an area that is needed is above all held areas, and no cell is held; a cell is above all held cells, those of a
-- DELETE apart
abbrev pub IsAboveHands : Statement → Hands → Need → Type 0
IsAboveHands x hands (Area a) = ((b : ℕ) → In b hands.areas → b < a) × (hands.cells ≡ [])
IsAboveHands x hands (Take c) = is_delete x ≡ false → (e : CellName × Cell) → In e hands.cells → name_below e.0 c ≡ true
IsAboveHands x hands Stale = ⊤
IsAboveHands x hands Ready = ⊤

-- a cell that is needed is not held, and lies in a held area
abbrev pub LiesInHeldArea : Lists → Hands → Need → Type 0
LiesInHeldArea schema hands (Take c) = ((e : CellName × Cell) → In e hands.cells → e.0 ≢ c) × In (area_of_cell schema c) hands.areas
LiesInHeldArea schema hands (Area a) = ⊤
LiesInHeldArea schema hands Stale = ⊤
LiesInHeldArea schema hands Ready = ⊤

-- a DELETE that holds all its areas: only it takes memory to find what it needs next
pub record HasItsAreas (schema : Lists) (unit : Unit) (hands : Hands) (x : Statement) : Type 0 where
  pub deletes : is_delete x ≡ true
  pub areas : find (λ a. not (list_any (λ b. b == a) hands.areas)) (areas_in_order schema unit x) ≡ None
