-- When what a statement has prepared can be made: without memory, and without a refusal.
-- e is an edit of a cell, x and y cells, db a database.
use Rattle.std.specs.Prelude.{◌≡◌, ℕ, ◌<◌, ◌+◌, ◌^◌, true, List, [], ◌∷◌, Some, ⊤}
use Rattle.dbtg_schema.specs.Lists.{Lists}
use Rattle.dbtg_schema.specs.Sound.{IsSound}
use Rattle.dbtg_cells.specs.declared.cell.Cell.{Cell}
use Rattle.dbtg_cells.specs.declared.cell.Cell.TheVariants.{Slot as SlotCell}
use Rattle.dbtg_cells.specs.declared.name.CellName.{CellName}
use Rattle.dbtg_cells.specs.declared.slot.Stored.{Stored}
use Rattle.dbtg_cells.specs.Cells.{shown}
use Rattle.dbtg_unit.specs.declared.edit.CellEdit.{CellEdit}
use Rattle.dbtg_unit.specs.declared.held.Need.TheVariants.{Ready}
use Rattle.dbtg_unit.specs.declared.statement.Statement.{Statement}
use Rattle.dbtg_unit.specs.declared.unit.Unit.{Unit}
use Rattle.dbtg_unit.specs.Database.State.Base.{Database}
use Rattle.dbtg_unit.specs.Database.State.Belongs.{IsUnitOf, IsWithin}
use Rattle.dbtg_unit.specs.Hands.CanEdit.{CanEdit}
use Rattle.dbtg_unit.specs.Hands.Edits.{edited}
use Rattle.dbtg_unit.specs.Database.Statements.Fits.{fits}
use Rattle.dbtg_unit.specs.Hands.Hands.{Hands, cell_of}
use Rattle.dbtg_unit.specs.Hands.Lends.{with_cell}
use Rattle.dbtg_unit.specs.Hands.Local.{Agrees}
use Rattle.dbtg_unit.specs.Hands.Needs.{need}
use Rattle.dbtg_unit.specs.Hands.Prepared.{Plan, IsPrepared, values_of}

-- the edit can be made of the held cell of its name, where one is held
abbrev pub CanEditHeld : CellEdit → List (CellName × Cell) → Type 0
CanEditHeld e cells = (x : Cell) → cell_of e.name cells ≡ Some x → CanEdit e.edit x

-- y shows what the edit makes of the held cell of its name, where one is held
abbrev pub ShowsEdited : CellEdit → List (CellName × Cell) → Cell → Type 0
ShowsEdited e cells y = (x : Cell) → cell_of e.name cells ≡ Some x → shown y ≡ edited e.edit (shown x)

-- each edit in turn can be made of the held cell of its name, whatever cell shows what the edits before it made of that one
abbrev pub CanMake : List CellEdit → List (CellName × Cell) → Type 0
CanMake [] cells = ⊤
CanMake (e ∷ es) cells = CanEditHeld e cells × ((y : Cell) → ShowsEdited e cells y → CanMake es (with_cell e.name y cells))

-- what is held after edits in turn
abbrev pub AreMade : List CellEdit → List (CellName × Cell) → List (CellName × Cell) → Type 0
AreMade [] old new = new ≡ old
AreMade (e ∷ es) old new = (y : Cell) × ShowsEdited e old y × AreMade es (with_cell e.name y old) new

-- the statement needs nothing more on any database that agrees with what is held
abbrev pub IsReady : Lists → ℕ → Unit → Hands → Statement → Type 0
IsReady schema capacity unit hands statement = (db : Database) → Agrees schema capacity db hands unit → need schema capacity db unit hands statement ≡ Ready

-- no held record is at the greatest version
abbrev pub HaveNextVersions : List (CellName × Cell) → Type 0
HaveNextVersions cells = (c : CellName) (stored : Stored) → cell_of c cells ≡ Some (SlotCell (Some stored)) → stored.version + 1 < 2 ^ 64

-- what a caller knows of a statement that it prepares
pub record MayPrepare (schema : Lists) (capacity : ℕ) (unit : Unit) (hands : Hands) (statement : Statement) : Type 0 where
  pub sound : IsSound schema
  pub fits : fits schema statement ≡ true
  pub of_schema : IsUnitOf schema unit
  pub within : IsWithin capacity unit
  pub ready : IsReady schema capacity unit hands statement
  pub versions : HaveNextVersions hands.cells

-- the same areas, the same guesses, and the same cells, each of which shows what it did
pub record ShowsTheSame (old new : Hands) : Type 0 where
  pub areas : new.areas ≡ old.areas
  pub cells : values_of new.cells ≡ values_of old.cells
  pub guesses : new.guesses ≡ old.guesses

-- the plan is the statement's effect on every database that agrees with what is held, and can be made there
pub record CanFinish (schema : Lists) (capacity : ℕ) (unit : Unit) (hands : Hands) (statement : Statement) (plan : Plan) : Type 0 where
  pub prepared : IsPrepared schema capacity unit hands statement plan
  pub can_make : (db : Database) → Agrees schema capacity db hands unit → CanMake plan.cells hands.cells
