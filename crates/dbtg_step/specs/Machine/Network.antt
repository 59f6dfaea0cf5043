-- The network database of a schema as the sequential database of the machine.
use Rattle.std.specs.Prelude.{ℕ, ◌≡◌, true, List, Option, None, map}
use Rattle.dbtg_schema.specs.Lists.{Lists}
use Rattle.dbtg_cells.specs.declared.key.Owner.{Owner}
use Rattle.dbtg_cells.specs.declared.name.CellName.{CellName}
use Rattle.dbtg_cells.specs.declared.cell.Cell.TheVariants.{Slot as SlotCell}
use Rattle.dbtg_cells.specs.Names.{name_eq}
use Rattle.dbtg_cells.specs.Shown.{CellValue}
use Rattle.dbtg_unit.specs.declared.statement.Statement.{Statement}
use Rattle.dbtg_unit.specs.declared.unit.Unit.{Unit}
use Rattle.dbtg_unit.specs.declared.unit.Answer.{Answer}
use Rattle.dbtg_unit.specs.declared.held.Need.{Need}
use Rattle.dbtg_unit.specs.declared.held.Need.TheVariants.{Area, Take, Stale, Ready}
use Rattle.dbtg_unit.specs.Database.State.Base.{Database}
use Rattle.dbtg_unit.specs.Database.State.CellNames.{area_of_cell}
use Rattle.dbtg_unit.specs.Database.State.Cells.{cell}
use Rattle.dbtg_unit.specs.Database.Statements.Effect.{StatementEffect, effect}
use Rattle.dbtg_unit.specs.Database.Statements.Fits.{fits}
pub use Rattle.dbtg_unit.specs.Hands.EditsOf.{is_delete}
use Rattle.dbtg_unit.specs.Hands.Guesses.{guesses_after, with_owners}
use Rattle.dbtg_unit.specs.Hands.Hands.{Hands}
use Rattle.dbtg_unit.specs.Database.State.LegalWith.{LegalWith}
use Rattle.dbtg_unit.specs.Hands.Needs.{need, stale_owners}
use Rattle.dbtg_step.specs.Machine.SequentialDatabase.{HeldCell, NextNeed, NeedsArea, NeedsCell, StaleGuesses, NeedsNothing, Effect, SequentialDatabase}

-- what a unit holds, for `need`, which looks only at the names of cells
abbrev pub holding : List (Option Owner) → List ℕ → List (HeldCell CellName CellValue) → Hands
holding guesses areas cells = record { areas = areas; cells = map (λ h. (h.name, SlotCell None)) cells; guesses = guesses }

-- a need as the machine has it: turning back is going on with other guesses
abbrev pub next_need_of : List (Option Owner) → Need → NextNeed CellName (List (Option Owner))
next_need_of others (Area a) = NeedsArea a
next_need_of others (Take c) = NeedsCell c
next_need_of others Stale = StaleGuesses others
next_need_of others Ready = NeedsNothing

-- the guesses that a turn back notes
abbrev pub noted_owners : Lists → ℕ → Database → Unit → Statement → List (Option Owner) → List (Option Owner)
noted_owners schema capacity db unit statement guesses = with_owners guesses (stale_owners schema capacity db unit guesses statement)

-- what a statement gives, as the machine has it
abbrev pub effect_of : StatementEffect → Effect Database Unit Answer
effect_of outcome = record { database = outcome.database; unit = outcome.unit; answer = outcome.answer }

-- the network database of a schema; the capacity is how many numbers each record type has
abbrev pub network : Lists → ℕ → SequentialDatabase
network schema capacity = record {
  Db = Database;
  Cell = CellName;
  Value = CellValue;
  Unit = Unit;
  Statement = Statement;
  Answer = Answer;
  Guesses = List (Option Owner);
  same_name = name_eq;
  area = area_of_cell schema;
  cell = cell schema capacity;
  effect = λ db unit statement. effect_of (effect schema capacity db unit statement);
  guesses_after = λ db unit statement guesses. guesses_after schema capacity statement guesses (effect schema capacity db unit statement);
  need = λ db unit statement guesses areas cells. next_need_of (noted_owners schema capacity db unit statement guesses) (need schema capacity db unit (holding guesses areas cells) statement);
  -- only a DELETE takes its areas exclusively
  is_exclusive = is_delete;
  Fits = λ statement. fits schema statement ≡ true;
  Legal = LegalWith schema capacity;
}
