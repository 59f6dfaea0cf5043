-- The parts between events: in a lawful state, with what a unit needs next there; and the result of a step or a quit of a unit.
-- `Stands` has what an event finds, and `Leaves` what it leaves.
-- r is a runner, w a progress, u the number of a unit, x a statement, n a need.
use Rattle.std.specs.List.{list_all}
use Rattle.std.specs.Prelude.{ℕ, ◌≡◌, ◌-◌, true, List, [], Option, Some, None, length, slice_get, slice_set}
use Rattle.dbtg_schema.specs.Lists.{Lists}
use Rattle.dbtg_schema.specs.Lookups.{at}
use Rattle.dbtg_schema.specs.Sound.{IsSound}
use Rattle.dbtg_cells.specs.CellNumbers.{cell_count, is_cell}
use Rattle.dbtg_cells.specs.Names.{name_below}
use Rattle.dbtg_cells.specs.declared.key.Owner.{Owner}
use Rattle.dbtg_cells.specs.declared.name.CellName.{CellName}
use Rattle.dbtg_unit.specs.declared.held.Need.{Need}
use Rattle.dbtg_unit.specs.declared.statement.Statement.{Statement}
use Rattle.dbtg_unit.specs.Database.State.Base.{Database}
use Rattle.dbtg_unit.specs.Hands.Local.{Agrees}
use Rattle.dbtg_unit.specs.Hands.Needs.{need, ring_names}
use Rattle.dbtg_step.specs.declared.course.Course.{Course}
use Rattle.dbtg_step.specs.declared.parts.Parts.{Parts}
use Rattle.dbtg_step.specs.declared.parts.UnitState.{UnitState as CoreUnit}
use Rattle.dbtg_step.specs.declared.parts.StatementProgress.{StatementProgress}
use Rattle.dbtg_unit.specs.declared.moves.Stepped.{Stepped}
use Rattle.dbtg_unit.specs.declared.moves.Stepped.TheVariants.{Moved, Blocked, Idle, NoMemory}
use Rattle.dbtg_step.specs.Machine.SequentialDatabase.{NextNeed, unit_at}
use Rattle.dbtg_step.specs.Machine.Machine.{UnitState, State, SequentialState, replay}
use Rattle.dbtg_step.specs.Machine.Step.{next_need, quit, step, MovedTo, IsBlocked, IsIdle}
use Rattle.dbtg_step.specs.Machine.Lawful.{Lawful}
use Rattle.dbtg_step.specs.Inside.NeverStuck.{AllInTurn}
use Rattle.dbtg_step.specs.Machine.Network.{network, next_need_of, noted_owners}
use Rattle.dbtg_step.specs.Machine.Headline.{opening_of}
use Rattle.dbtg_step.specs.Core.Courses.{CourseMatches}
use Rattle.dbtg_step.specs.Core.Parts.{shown_progress, unit_state_of}
use Rattle.dbtg_step.specs.Inside.Parts.{state_of}
use Rattle.dbtg_step.specs.Core.Events.{WantsMemory}

-- while its statement has no ticket, what a runner keeps of the statement's needs is right of what it holds
abbrev pub CourseFits : Lists → ℕ → CoreUnit → Type 0
CourseFits schema capacity r =
    (w : StatementProgress) → r.progress ≡ Some w → w.ticket ≡ None
    → (x : Statement) → slice_get r.script r.next ≡ Some x
    → CourseMatches schema capacity r.held r.unit x r.course

-- between statements a runner holds nothing; it has a guess for each set
pub record RunnerFits (schema : Lists) (capacity : ℕ) (r : CoreUnit) : Type 0 where
  pub settled : r.progress ≡ None → (r.held.areas ≡ []) × (r.held.cells ≡ [])
  pub guesses : length r.held.guesses ≡ length schema.sets
  pub course : CourseFits schema capacity r

-- the same for each of these units
abbrev pub RunnersFit : Lists → ℕ → List CoreUnit → Type 0
RunnersFit schema capacity runners = (i : ℕ) (r : CoreUnit) → slice_get runners i ≡ Some r → RunnerFits schema capacity r

-- the opening database, with a unit for each runner
abbrev pub opening_for : (schema : Lists) (capacity : ℕ) → Parts → SequentialState (network schema capacity)
opening_for schema capacity parts = opening_of schema capacity (length parts.runners.items)

-- the database of the history
abbrev pub database_of : (schema : Lists) (capacity : ℕ) → Parts → Database
database_of schema capacity parts = (replay (network schema capacity) (opening_for schema capacity parts) (state_of schema capacity parts).history).database

-- each guess is an owner that has a ring
abbrev pub HaveRings : Lists → ℕ → List (Option Owner) → Type 0
HaveRings schema capacity guesses = (s : ℕ) → list_all (is_cell schema capacity) (ring_names s (at guesses s)) ≡ true

-- the table has a place for each cell, and the state is lawful; what each unit holds was taken in turn, with good guesses
pub record IsWell (schema : Lists) (capacity : ℕ) (parts : Parts) : Type 0 where
  pub sound : IsSound schema
  pub table : length parts.table.items ≡ cell_count schema capacity
  pub runners : RunnersFit schema capacity parts.runners.items
  pub lawful : Lawful (network schema capacity) (opening_for schema capacity parts) (state_of schema capacity parts)
  pub in_turn : AllInTurn (network schema capacity) name_below (state_of schema capacity parts)
  pub guesses : (u : ℕ) (state : UnitState (network schema capacity)) → unit_at (state_of schema capacity parts).units u ≡ Some state → HaveRings schema capacity state.guesses

-- what the machine says that this runner needs next, with the statement x in this progress
abbrev pub machine_need : (schema : Lists) (capacity : ℕ) → Parts → CoreUnit → Statement → StatementProgress → NextNeed CellName (List (Option Owner))
machine_need schema capacity parts r x w =
    let D = network schema capacity in
    next_need D (opening_for schema capacity parts) (state_of schema capacity parts) (unit_state_of schema capacity r) (shown_progress schema capacity r.held w) x

-- the guesses with which this runner goes on when it turns back with the statement x
abbrev pub noted_now : (schema : Lists) (capacity : ℕ) → Parts → CoreUnit → Statement → List (Option Owner)
noted_now schema capacity parts r x = noted_owners schema capacity (database_of schema capacity parts) r.unit x r.held.guesses

-- the runner needs n next, with the statement x in this progress: so says the machine, on the database of the history
pub record IsNext (schema : Lists) (capacity : ℕ) (parts : Parts) (r : CoreUnit) (x : Statement) (w : StatementProgress) (n : Need) : Type 0 where
  pub is : machine_need schema capacity parts r x w ≡ next_need_of (noted_now schema capacity parts r x) n
  -- and on every other that agrees with what is held
  pub everywhere : (db : Database) → Agrees schema capacity db r.held r.unit → n ≡ need schema capacity db r.unit r.held x

-- what unit u needs next, with the statement that its script has next
abbrev pub NeedsNext : (schema : Lists) (capacity : ℕ) → Parts → ℕ → StatementProgress → Need → Type 0
NeedsNext schema capacity parts u w n =
    (r : CoreUnit) (x : Statement) → slice_get parts.runners.items (u - 1) ≡ Some r → slice_get r.script r.next ≡ Some x → IsNext schema capacity parts r x w n

-- everything is as it was except how far the statement of unit u has come
pub record ChangesCourseAlone (u : ℕ) (old new : Parts) : Type 0 where
  pub table : new.table.items ≡ old.table.items
  pub history : new.history.items ≡ old.history.items
  pub runners : (r : CoreUnit) → slice_get old.runners.items (u - 1) ≡ Some r → (course : Option Course) × (new.runners.items ≡ slice_set old.runners.items (u - 1) (record r { course = course }))

-- the machine's step; or, in place of an event before a ticket that is not a turn back, a refusal of memory, which changes nothing
abbrev pub Tells : (schema : Lists) (capacity : ℕ) → SequentialState (network schema capacity) → ℕ → Stepped → State (network schema capacity) → State (network schema capacity) → Type 0
Tells schema capacity opening u Moved old new = step (network schema capacity) opening old u ≡ MovedTo new
Tells schema capacity opening u Blocked old new = (step (network schema capacity) opening old u ≡ IsBlocked) × (new ≡ old)
Tells schema capacity opening u Idle old new = (step (network schema capacity) opening old u ≡ IsIdle) × (new ≡ old)
Tells schema capacity opening u NoMemory old new = WantsMemory opening old u × (new ≡ old)

-- the parts after a step of unit u
pub record IsStepped (schema : Lists) (capacity : ℕ) (u : ℕ) (result : Stepped) (old new : Parts) : Type 0 where
  pub tells : Tells schema capacity (opening_for schema capacity old) u result (state_of schema capacity old) (state_of schema capacity new)
  pub table : length new.table.items ≡ length old.table.items
  pub count : length new.runners.items ≡ length old.runners.items
  pub runners : RunnersFit schema capacity new.runners.items

-- the machine's quit, which takes no memory and waits for nobody
abbrev pub TellsQuit : (schema : Lists) (capacity : ℕ) → ℕ → Stepped → State (network schema capacity) → State (network schema capacity) → Type 0
TellsQuit schema capacity u Moved old new = quit (network schema capacity) old u ≡ MovedTo new
TellsQuit schema capacity u Blocked old new = ⊥
TellsQuit schema capacity u Idle old new = (quit (network schema capacity) old u ≡ IsIdle) × (new ≡ old)
TellsQuit schema capacity u NoMemory old new = ⊥

-- the parts after a quit of unit u
pub record IsQuit (schema : Lists) (capacity : ℕ) (u : ℕ) (result : Stepped) (old new : Parts) : Type 0 where
  pub tells : TellsQuit schema capacity u result (state_of schema capacity old) (state_of schema capacity new)
  pub table : length new.table.items ≡ length old.table.items
  pub count : length new.runners.items ≡ length old.runners.items
  pub runners : RunnersFit schema capacity new.runners.items
