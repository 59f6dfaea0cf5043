-- The laws of the machine over the network database of a schema: each event and every run keep a lawful state; the image of a
-- lawful state is that of its history; no run is stuck; how many events a statement has; a history is never rewritten. Then of
-- scripts that fit: the machine before them is in an opening state, every run is sequential, and a serial run is a run. Finally
-- what statements need: in which order, and that it exists.
use Rattle.std.specs.Prelude.{ℕ, ◌≡◌, ◌++◌, Bool, true, List, ◌∷◌, Option, Some, map, length}
use Rattle.std.specs.List.{list_all}
use Rattle.dbtg_schema.specs.Lists.{Lists}
use Rattle.dbtg_cells.specs.declared.name.CellName.{CellName}
use Rattle.dbtg_cells.specs.CellNumbers.{is_cell}
use Rattle.dbtg_cells.specs.Names.{name_below}
use Rattle.dbtg_cells.specs.Shown.{CellValue}
use Rattle.dbtg_unit.specs.declared.statement.Statement.{Statement}
use Rattle.dbtg_unit.specs.declared.unit.Entry.{Entry}
use Rattle.dbtg_unit.specs.declared.unit.Unit.{Unit}
use Rattle.dbtg_cells.specs.declared.key.Owner.{Owner}
use Rattle.dbtg_unit.specs.Database.State.Base.{Database}
use Rattle.dbtg_unit.specs.Database.State.Cells.{cell}
use Rattle.dbtg_unit.specs.Database.Statements.Fits.{fits}
use Rattle.dbtg_unit.specs.Database.State.Image.{Image, image_of}
use Rattle.dbtg_unit.specs.declared.moves.Move.{Move}
use Rattle.dbtg_step.specs.Machine.SequentialDatabase.{HeldCell, NeedsCell, In, MayMake, NamesCells, SequentialDatabase, unit_at}
use Rattle.dbtg_step.specs.Machine.Machine.{UnitState, StatementProgress, State, SequentialState, HistoryEntry, replay}
use Rattle.dbtg_step.specs.Machine.Step.{transition, MovedTo, next_need, run}
use Rattle.dbtg_step.specs.Machine.Lawful.{Lawful, IsOpening, ImageHas}
use Rattle.dbtg_step.specs.Machine.NeverStuck.{IsNotStuck, NeedsInOrder}
use Rattle.dbtg_step.specs.Machine.EventCount.{EventsAreCounted}
use Rattle.dbtg_unit.specs.Database.State.CellNames.{area_of_cell}
use Rattle.dbtg_step.specs.Machine.Network.{network}
use Rattle.dbtg_step.specs.Core.Serial.{IsAfterScripts, IsSerialRun}
use Rattle.dbtg_step.specs.Machine.Headline.{IsSequential, entry_of, machine_after, machine_of, opening_of}

-- every statement of every script fits the schema
abbrev pub scripts_fit : Lists → List (List Statement) → Bool
scripts_fit schema = list_all (list_all (fits schema))

module _ (schema : Lists) (capacity : ℕ) where
  abbrev D : SequentialDatabase
  D = network schema capacity

  -- the opening state of as many units as there are scripts
  abbrev opening_before : List (List Statement) → SequentialState D
  opening_before scripts = opening_of schema capacity (length scripts)

  -- each event, of a step or a quit, leads from a lawful state to a lawful state
  abbrev pub EachEventKeepsLawful : Type 0
  EachEventKeepsLawful = (opening : SequentialState D) (s t : State D) (m : Move) → Lawful D opening s → transition D opening s m ≡ MovedTo t → Lawful D opening t

  -- every list of moves, including blocked and idle ones and quits, leads from an opening state to a lawful state
  abbrev pub EveryRunIsLawful : Type 0
  EveryRunIsLawful = (opening : SequentialState D) (s : State D) (moves : List Move) → IsOpening D opening s → Lawful D opening (run D opening s moves)

  -- the image of a lawful state, also in mid-statement, has for each cell what the database of its history has, and nothing else
  pub record ImageIsOfHistory (opening : SequentialState D) (s : State D) : Type 0 where
    pub has : (c : CellName) → ImageHas D opening s c (cell schema capacity (replay D opening s.history).database c)
    pub only : (c : CellName) (v : CellValue) → ImageHas D opening s c v → v ≡ cell schema capacity (replay D opening s.history).database c

  -- what a lawful state shows of each cell is what the database of its history has
  abbrev pub EveryImageIsOfItsHistory : Type 0
  EveryImageIsOfItsHistory = (opening : SequentialState D) (s : State D) → Lawful D opening s → ImageIsOfHistory opening s

  -- after every list of moves, if a unit is in mid-statement some unit's next step is an event
  abbrev pub NoRunIsStuck : Type 0
  NoRunIsStuck = (opening : SequentialState D) (s : State D) (moves : List Move) → IsOpening D opening s → IsNotStuck D opening (run D opening s moves)

  -- a statement that is never blocked and never turns back has 2 + 2a + 3c events, for its a areas and c cells
  abbrev pub StatementsHaveTheirEvents : Type 0
  StatementsHaveTheirEvents = (opening : SequentialState D) (s : State D) → EventsAreCounted D opening s

  -- a history is never rewritten: moves only append entries
  abbrev pub EveryRunExtendsHistory : Type 0
  EveryRunExtendsHistory = (opening : SequentialState D) (s : State D) (moves : List Move) → (more : List (HistoryEntry D)) × ((run D opening s moves).history ≡ s.history ++ more)

  -- if all statements fit, the machine before its scripts is in an opening state
  abbrev pub MachineIsOpening : Type 0
  MachineIsOpening = (scripts : List (List Statement)) → scripts_fit schema scripts ≡ true → IsOpening D (opening_before scripts) (machine_of schema capacity scripts)

  -- where all statements fit, after every list of moves from the opening state the history is the sequential database's, and so are the units
  abbrev pub EveryRunIsSequential : Type 0
  EveryRunIsSequential =
      (scripts : List (List Statement)) (moves : List Move) → scripts_fit schema scripts ≡ true →
      IsSequential schema capacity scripts (map entry_of (machine_after schema capacity scripts moves).history)
      (image_of schema capacity (replay D (opening_before scripts) (machine_after schema capacity scripts moves).history).database)
      (map (λ state. state.unit) (machine_after schema capacity scripts moves).units)

  -- stepping one unit after another comes to an end, with every statement of every script made; this is the run of some moves,
  -- and a serial run has the same history
  pub record SerialRunComesTo (scripts : List (List Statement)) : Type 0 where
    pub last : State D
    pub stepped : IsAfterScripts schema capacity scripts last
    pub moves : List Move
    pub is_run : last ≡ machine_after schema capacity scripts moves
    pub serial : IsSerialRun schema capacity scripts (map entry_of last.history)
        (image_of schema capacity (replay D (opening_before scripts) last.history).database)
        (map (λ state. state.unit) last.units)
    pub only : (history : List Entry) (image : Image) (units : List Unit) → IsSerialRun schema capacity scripts history image units → history ≡ map entry_of last.history

  -- a serial run of all scripts that fit is a run, and comes to an end
  abbrev pub EverySerialRunIsARun : Type 0
  EverySerialRunIsARun = (scripts : List (List Statement)) → scripts_fit schema scripts ≡ true → SerialRunComesTo scripts

  -- a cell that a statement needs is not held, and lies in an area that is held. If everything that is held was taken in turn, an
  -- area that is needed is above all that are held, and no cell is held; and a cell that is needed is above all that are held,
  -- unless the statement is a DELETE
  pub record NeedsAreInOrder : Type 0 where
    pub names : NamesCells D
    pub in_area : (db : Database) (units : List Unit) (u : ℕ) (unit : Unit) (statement : Statement) (guesses : List (Option Owner)) (areas : List ℕ) (cells : List (HeldCell CellName CellValue)) (c : CellName) →
        MayMake D db units u unit statement → D.need db unit statement guesses areas cells ≡ NeedsCell c → In (area_of_cell schema c) areas
    pub in_order : NeedsInOrder D name_below

  -- each cell that a statement needs in any run, for what its unit holds, is a cell of the schema at this capacity
  abbrev pub NeededCellsExist : Type 0
  NeededCellsExist =
      (scripts : List (List Statement)) (moves : List Move) → scripts_fit schema scripts ≡ true →
      (u : ℕ) (state : UnitState D) (w : StatementProgress D) (x : Statement) (xs : List Statement) (c : CellName) →
      unit_at (machine_after schema capacity scripts moves).units u ≡ Some state → state.progress ≡ Some w → state.remaining ≡ x ∷ xs →
      next_need D (opening_before scripts) (machine_after schema capacity scripts moves) state w x ≡ NeedsCell c →
      is_cell schema capacity c ≡ true
