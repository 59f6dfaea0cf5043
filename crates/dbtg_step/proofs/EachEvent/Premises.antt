-- What the machine needs of the statements on its database. Those of a sound schema have it.
use Rattle.std.proofs.Common.{ℕ, ◌≡◌, List, Option}
use Rattle.dbtg_schema.specs.Lists.{Lists}
use Rattle.dbtg_cells.specs.declared.key.Owner.{Owner}
use Rattle.dbtg_cells.specs.declared.name.CellName.{CellName}
use Rattle.dbtg_cells.specs.Shown.{CellValue}
use Rattle.dbtg_unit.specs.declared.statement.Statement.{Statement}
use Rattle.dbtg_unit.specs.declared.unit.Unit.{Unit}
use Rattle.dbtg_unit.specs.Database.State.Base.{Database}
use Rattle.dbtg_step.specs.Machine.SequentialDatabase.{HeldCell, NeedsNothing, Agrees, MayMake}
use Rattle.dbtg_step.specs.Inside.SequentialDatabase.{IsLocal}
use Rattle.dbtg_step.specs.Machine.Network.{network}

-- a statement that needs nothing more leaves a database with all its units legal, and changes no cell but those that it holds
abbrev pub StatementsAreLocal : Lists → ℕ → Type 0
StatementsAreLocal schema capacity =
    (db : Database) (units : List Unit) (u : ℕ) (unit : Unit) (statement : Statement) (guesses : List (Option Owner)) (areas : List ℕ) (cells : List (HeldCell CellName CellValue)) →
    MayMake (network schema capacity) db units u unit statement → Agrees (network schema capacity) db cells → (network schema capacity).need db unit statement guesses areas cells ≡ NeedsNothing →
    IsLocal (network schema capacity) db units u unit statement cells
