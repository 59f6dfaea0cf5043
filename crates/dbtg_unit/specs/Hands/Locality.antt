-- A statement changes nothing but what it holds, and what it holds determines what it does. `IsMadeOnEach` says what happens
-- when a statement is prepared and then made: a builder of another database need know no more.
-- c is the name of a cell, e a cell with its name, db a database.
use Rattle.std.specs.Prelude.{◌≡◌, ℕ, true, false, not, List, Option, map}
use Rattle.dbtg_schema.specs.Lists.{Lists}
use Rattle.dbtg_schema.specs.Sound.{IsSound}
use Rattle.dbtg_cells.specs.declared.key.Owner.{Owner}
use Rattle.dbtg_cells.specs.declared.name.CellName.{CellName}
use Rattle.dbtg_cells.specs.Names.{name_eq}
use Rattle.dbtg_cells.specs.Shown.{CellValue}
use Rattle.dbtg_unit.specs.declared.held.Need.TheVariants.{Ready}
use Rattle.dbtg_unit.specs.declared.statement.Statement.{Statement}
use Rattle.dbtg_unit.specs.declared.unit.Answer.{Answer}
use Rattle.dbtg_unit.specs.declared.unit.Unit.{Unit}
use Rattle.dbtg_unit.specs.Database.State.Base.{Database}
use Rattle.dbtg_unit.specs.Database.State.Cells.{cell}
use Rattle.dbtg_unit.specs.Database.State.Belongs.{IsUnitOf, IsWithin}
use Rattle.dbtg_unit.specs.Database.State.Legal.{Legal, pairwise}
use Rattle.dbtg_unit.specs.Database.Statements.Effect.{StatementEffect, effect}
use Rattle.dbtg_unit.specs.Database.Statements.Fits.{fits}
use Rattle.dbtg_unit.specs.Hands.Guesses.{guesses_after}
use Rattle.dbtg_unit.specs.Hands.Hands.{Hands}
use Rattle.dbtg_unit.specs.Hands.Local.{Agrees, holds}
use Rattle.dbtg_unit.specs.Hands.Needs.{need}
use Rattle.dbtg_unit.specs.Hands.Prepared.{Plan, edited_values, guesses_edited, unit_after, values_of}

-- a statement that fits and is ready, of a unit of the schema, changes no cell that is not held
abbrev pub ChangesOnlyItsCells : Type 0
ChangesOnlyItsCells =
    (schema : Lists) (capacity : ℕ) (db : Database) (hands : Hands) (unit : Unit) (statement : Statement)
    → IsSound schema → IsUnitOf schema unit → IsWithin capacity unit → fits schema statement ≡ true
    → Agrees schema capacity db hands unit → need schema capacity db unit hands statement ≡ Ready
    → (c : CellName) → holds hands.cells c ≡ false → cell schema capacity (effect schema capacity db unit statement).database c ≡ cell schema capacity db c

-- two outcomes have the same answer and the same unit, and show the same in each held cell
pub record DoTheSame (schema : Lists) (capacity : ℕ) (hands : Hands) (o p : StatementEffect) : Type 0 where
  pub answer : o.answer ≡ p.answer
  pub unit : o.unit ≡ p.unit
  pub cells : (c : CellName) → holds hands.cells c ≡ true → cell schema capacity o.database c ≡ cell schema capacity p.database c

-- WHAT HAPPENS

-- what there is once a statement is made: its answer, its unit, the held areas, what each held cell shows, and the guesses
pub record Made : Type 0 where
  pub answer : Answer
  pub unit : Unit
  pub areas : List ℕ
  pub cells : List (CellName × CellValue)
  pub guesses : List (Option Owner)

-- as a plan has it, for this unit and what it holds
abbrev pub made_by : Lists → Unit → Hands → Plan → Made
made_by schema unit hands plan =
    record { answer = plan.answer; unit = unit_after schema plan unit; areas = hands.areas; cells = edited_values plan.cells (values_of hands.cells); guesses = guesses_edited plan.unit hands.guesses }

-- as it is seen
abbrev pub seen : Answer → Unit → Hands → Made
seen answer unit hands = record { answer = answer; unit = unit; areas = hands.areas; cells = values_of hands.cells; guesses = hands.guesses }

-- a statement is made on a database to which these held cells belong
pub record IsMadeOn (schema : Lists) (capacity : ℕ) (db : Database) (unit : Unit) (hands : Hands) (statement : Statement) (made : Made) : Type 0 where
  -- answer, unit and guesses are those of its effect, which leaves the database legal
  pub answer_is : made.answer ≡ (effect schema capacity db unit statement).answer
  pub unit_is : made.unit ≡ (effect schema capacity db unit statement).unit
  pub guesses_are : made.guesses ≡ guesses_after schema capacity statement hands.guesses (effect schema capacity db unit statement)
  pub legal : Legal schema capacity (effect schema capacity db unit statement).database
  -- the same areas are held, each held cell shows what the database has now, and every other cell is as it was
  pub areas_are : made.areas ≡ hands.areas
  pub cells_are : made.cells ≡ map (λ e. (e.0, cell schema capacity (effect schema capacity db unit statement).database e.0)) hands.cells
  pub others : (c : CellName) → holds hands.cells c ≡ false → cell schema capacity (effect schema capacity db unit statement).database c ≡ cell schema capacity db c

-- this holds on every legal database to which they belong, if none is held twice
abbrev pub IsMadeOnEach : Lists → ℕ → Unit → Hands → Statement → Made → Type 0
IsMadeOnEach schema capacity unit hands statement made =
    pairwise (λ e f. not (name_eq e.0 f.0)) hands.cells ≡ true → (db : Database) → Agrees schema capacity db hands unit → IsMadeOn schema capacity db unit hands statement made
