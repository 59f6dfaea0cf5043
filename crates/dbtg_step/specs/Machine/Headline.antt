-- What a run of moves gives: the history is the sequential database's, and so is everything that a run shows.
use Rattle.std.specs.Prelude.{ℕ, suc, ◌≡◌, ◌++◌, List, [], ◌∷◌, map, replicate, length, Some, None}
use Rattle.std.specs.List.{range_with_len}
use Rattle.dbtg_schema.specs.Lists.{Lists}
use Rattle.dbtg_unit.specs.declared.statement.Statement.{Statement}
use Rattle.dbtg_unit.specs.declared.unit.Unit.{Unit}
use Rattle.dbtg_unit.specs.declared.unit.Entry.{Entry}
use Rattle.dbtg_unit.specs.Database.State.Base.{opening}
use Rattle.dbtg_unit.specs.Database.State.Cells.{cell}
use Rattle.dbtg_unit.specs.Database.State.Image.{Image, image_of}
use Rattle.dbtg_unit.specs.Database.Laws.Replay.{AnswersHold, TicketsInOrder, entries_of, opening_state, replay}
use Rattle.dbtg_unit.specs.Database.State.Units.{opening_unit}
use Rattle.dbtg_step.specs.declared.results.Run.{Run}
use Rattle.dbtg_unit.specs.declared.moves.Move.{Move}
use Rattle.dbtg_unit.specs.declared.moves.Stepped.{Stepped}
use Rattle.dbtg_step.specs.Machine.SequentialDatabase.{unit_at}
use Rattle.dbtg_step.specs.Machine.Machine.{Home, UnitState, HistoryEntry, State, SequentialState}
use Rattle.dbtg_step.specs.Machine.Step.{results, run}
use Rattle.dbtg_step.specs.Machine.Network.{network}

-- units before their scripts, the first of them with number n
abbrev pub units_from : (schema : Lists) (capacity : ℕ) → ℕ → List (List Statement) → List (UnitState (network schema capacity))
units_from schema capacity n [] = []
units_from schema capacity n (script ∷ scripts) =
    record { unit = opening_unit schema n; guesses = replicate (length schema.sets) None; script = script; remaining = script; progress = None }
    ∷ units_from schema capacity (suc n) scripts

-- the opening database with this number of opening units
abbrev pub opening_of : (schema : Lists) (capacity : ℕ) → ℕ → SequentialState (network schema capacity)
opening_of schema capacity units = record { database = opening schema; units = map (opening_unit schema) (range_with_len 1 units) }

-- nothing has happened: the opening database's cells are at home, and each unit, numbered from 1, stands before its script
abbrev pub machine_of : (schema : Lists) (capacity : ℕ) → List (List Statement) → State (network schema capacity)
machine_of schema capacity scripts = record {
  location = λ c. Home (cell schema capacity (opening schema) c);
  history = [];
  counter = 0;
  units = units_from schema capacity 1 scripts;
}

-- an entry of the machine's history
abbrev pub entry_of : {schema : Lists} {capacity : ℕ} → HistoryEntry (network schema capacity) → Entry
entry_of e = record { ticket = e.ticket; unit = e.unit; statement = e.statement; answer = e.answer }

-- the state of the machine after these moves
unfoldable pub machine_after : (schema : Lists) (capacity : ℕ) → List (List Statement) → List Move → State (network schema capacity)
machine_after schema capacity scripts moves = run (network schema capacity) (opening_of schema capacity (length scripts)) (machine_of schema capacity scripts) moves

-- the result of each of the moves
unfoldable pub machine_results : (schema : Lists) (capacity : ℕ) → List (List Statement) → List Move → List Stepped
machine_results schema capacity scripts moves = results (network schema capacity) (opening_of schema capacity (length scripts)) (machine_of schema capacity scripts) moves

-- THE HEADLINE. The tickets are 0, 1, 2, .. in order; the statements, taken whole in this order on the sequential database,
-- have just these answers, and lead to just this image and these units; and the entries of each unit are the beginning of
-- its script
pub record IsSequential (schema : Lists) (capacity : ℕ) (scripts : List (List Statement)) (history : List Entry) (image : Image) (units : List Unit) : Type 0 where
  pub tickets : TicketsInOrder history
  pub answers : AnswersHold schema capacity (opening_state schema (length scripts)) history
  pub image_is : image ≡ image_of schema capacity (replay schema capacity (opening_state schema (length scripts)) history).database
  pub units_are : units ≡ (replay schema capacity (opening_state schema (length scripts)) history).units
  pub scripts_begin : (u : ℕ) (script : List Statement) → unit_at scripts u ≡ Some script → (remaining : List Statement) × (map (λ e. e.statement) (entries_of u history) ++ remaining ≡ script)

-- what a run gives: the machine's results and history, and with these what the headline says
pub record IsRun (schema : Lists) (capacity : ℕ) (scripts : List (List Statement)) (moves : List Move) (steps : List Stepped) (history : List Entry) (image : Image) (units : List Unit) : Type 0 where
  pub results_are : steps ≡ machine_results schema capacity scripts moves
  pub history_is : history ≡ map entry_of (machine_after schema capacity scripts moves).history
  pub sequential : IsSequential schema capacity scripts history image units

-- the same for a run as it is handed out
abbrev pub RunIs : Lists → ℕ → List (List Statement) → List Move → Run → Type 0
RunIs schema capacity scripts moves given = IsRun schema capacity scripts moves given.results given.history given.image given.units
