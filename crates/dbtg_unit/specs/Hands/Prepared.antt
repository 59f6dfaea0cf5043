-- What a statement has prepared before it is done: its answer, the changes of the cells that it holds, and the change of
-- its unit.
-- Letters: s a set, a an area, k a key, e an entry or an edit, c the name of a cell.
use Rattle.std.specs.Prelude.{◌≡◌, ℕ, true, List, [], ◌∷◌, Option, Some, None, cond, slice_set, map}
use Rattle.std.specs.List.{list_all}
use Rattle.dbtg_schema.specs.Lists.{Lists}
use Rattle.dbtg_cells.specs.declared.key.DbKey.{DbKey}
use Rattle.dbtg_cells.specs.declared.key.Owner.{Owner}
use Rattle.dbtg_cells.specs.declared.name.CellName.{CellName}
use Rattle.dbtg_cells.specs.declared.cell.Cell.{Cell}
use Rattle.dbtg_cells.specs.Names.{name_eq}
use Rattle.dbtg_cells.specs.Shown.{CellValue}
use Rattle.dbtg_cells.specs.Cells.{shown}
use Rattle.dbtg_unit.specs.declared.edit.CellEdit.{CellEdit}
use Rattle.dbtg_unit.specs.declared.edit.UnitEdit.{UnitEdit}
use Rattle.dbtg_unit.specs.declared.edit.UnitEdit.TheVariants.{Same, See, Move, Leave, SetMode, Keep, Forget, ForgetAll, LoseCurrent}
use Rattle.dbtg_unit.specs.declared.statement.Statement.{Statement}
use Rattle.dbtg_unit.specs.declared.unit.Answer.{Answer}
use Rattle.dbtg_unit.specs.declared.unit.Cause.{Cause}
use Rattle.dbtg_unit.specs.declared.unit.Status.TheVariants.{Refused}
use Rattle.dbtg_unit.specs.declared.unit.Unit.{Unit}
use Rattle.dbtg_unit.specs.Database.State.Base.{Database}
use Rattle.dbtg_unit.specs.Database.State.Cells.{cell}
use Rattle.dbtg_unit.specs.Hands.Edits.{edited, edited_at}
use Rattle.dbtg_unit.specs.Database.Statements.Effect.{effect, moved}
use Rattle.dbtg_unit.specs.Hands.Guesses.{guesses_after}
use Rattle.dbtg_unit.specs.Hands.Hands.{Hands}
use Rattle.dbtg_unit.specs.Database.State.Kept.{noted_again}
use Rattle.dbtg_unit.specs.Hands.Local.{Agrees, holds}
use Rattle.dbtg_unit.specs.Database.State.Units.{forgotten, seen_with}

-- the answer, the changes of cells in their order, the versions that the statement raises, and the change of the unit
pub record Plan : Type 0 where
  pub answer : Answer
  pub cells : List CellEdit
  pub versions : List (DbKey × ℕ)
  pub unit : UnitEdit

-- refused for a cause: nothing is changed
abbrev pub refusal : Cause → Plan
refusal cause = record { answer = record { status = Refused cause; key = None; items = None }; cells = []; versions = []; unit = Same }

-- each of these keys, where it is kept, at its new version
abbrev pub renoted_at : List (DbKey × ℕ) → List (DbKey × ℕ) → List (DbKey × ℕ)
renoted_at [] kept = kept
renoted_at (e ∷ es) kept = renoted_at es (noted_again e.0 e.1 kept)

-- the unit after its change
abbrev pub unit_edited : Lists → UnitEdit → Unit → Unit
unit_edited schema Same unit = unit
unit_edited schema (See k owners suppress) unit = seen_with schema unit k owners suppress
unit_edited schema (Move s place) unit = moved unit s place
unit_edited schema (Leave s) unit = unit
unit_edited schema (SetMode a mode) unit = record unit { modes = slice_set unit.modes a mode }
unit_edited schema (Keep kept) unit = record unit { kept = kept }
unit_edited schema (Forget k) unit = record unit { kept = forgotten k unit.kept }
unit_edited schema ForgetAll unit = record unit { kept = [] }
unit_edited schema (LoseCurrent k) unit = record unit { currency = record unit.currency { run_unit = None }; kept = forgotten k unit.kept }

-- the unit after a plan: the new versions are noted, and then its own change
abbrev pub unit_after : Lists → Plan → Unit → Unit
unit_after schema plan unit = unit_edited schema plan.unit (record unit { kept = renoted_at plan.versions unit.kept })

-- the guesses after the change of the unit
abbrev pub guesses_edited : UnitEdit → List (Option Owner) → List (Option Owner)
guesses_edited (See k owners suppress) guesses = owners
guesses_edited (Move s place) guesses = slice_set guesses s (Some place.owner)
guesses_edited (Leave s) guesses = slice_set guesses s None
guesses_edited _ guesses = guesses

-- what held cells show, by name, and what they show after edits
abbrev pub values_of : List (CellName × Cell) → List (CellName × CellValue)
values_of = map (λ e. (e.0, shown e.1))

-- what the held cells show after an edit of the one with its name
abbrev pub value_edited : CellEdit → List (CellName × CellValue) → List (CellName × CellValue)
value_edited e [] = []
value_edited e (v ∷ vs) = cond (name_eq e.name v.0) ((v.0, edited e.edit v.1) ∷ vs) (v ∷ value_edited e vs)

-- and after these edits, in their order
abbrev pub edited_values : List CellEdit → List (CellName × CellValue) → List (CellName × CellValue)
edited_values [] values = values
edited_values (e ∷ es) values = edited_values es (value_edited e values)

-- on this database the plan is the statement's effect: answer, unit, guesses and each cell
pub record IsEffect (schema : Lists) (capacity : ℕ) (db : Database) (unit : Unit) (guesses : List (Option Owner)) (statement : Statement) (plan : Plan) : Type 0 where
  pub answer : plan.answer ≡ (effect schema capacity db unit statement).answer
  pub unit_is : unit_after schema plan unit ≡ (effect schema capacity db unit statement).unit
  pub guesses_are : guesses_edited plan.unit guesses ≡ guesses_after schema capacity statement guesses (effect schema capacity db unit statement)
  pub cells : (c : CellName) → cell schema capacity (effect schema capacity db unit statement).database c ≡ edited_at c plan.cells (cell schema capacity db c)

-- the plan changes only held cells, and is the statement's effect on every database that agrees with what is held
pub record IsPrepared (schema : Lists) (capacity : ℕ) (unit : Unit) (hands : Hands) (statement : Statement) (plan : Plan) : Type 0 where
  pub held : (db : Database) → Agrees schema capacity db hands unit → list_all (λ (e : CellEdit). holds hands.cells e.name) plan.cells ≡ true
  pub effects : (db : Database) → Agrees schema capacity db hands unit → IsEffect schema capacity db unit hands.guesses statement plan
