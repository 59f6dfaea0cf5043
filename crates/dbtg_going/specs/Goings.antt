-- Programs under way, each where the entries of its unit have led it.
use Rattle.std.specs.Prelude.{ℕ, ◌≡◌, List, Some, length}
use Rattle.dbtg_schema.specs.Lists.{Lists}
use Rattle.dbtg_unit.specs.declared.unit.Entry.{Entry}
use Rattle.dbtg_unit.specs.Database.Laws.Replay.{entries_of}
use Rattle.dbtg_program.specs.declared.program.Program.{Program}
use Rattle.dbtg_program.specs.States.{beginning}
use Rattle.dbtg_program.specs.Going.{AreOf, Due, next, state_after}
use Rattle.dbtg_program.specs.Views.{Stands, view_due}
use Rattle.dbtg_step.specs.Core.Whole.{Making}
use Rattle.dbtg_step.specs.Machine.SequentialDatabase.{unit_at}
use Rattle.dbtg_going.specs.declared.member.Going.{Going}
use Rattle.dbtg_going.specs.declared.member.Member.{Member}
use Rattle.dbtg_going.specs.declared.member.Reached.{Reached}
use Rattle.dbtg_going.specs.Turns.{making_by, standing}

-- what is due in it
abbrev pub comes_of : Going → Due
comes_of g = view_due g.state g.due

-- it is where these entries have led its program
pub record IsGoing (schema : Lists) (program : Program) (entries : List Entry) (g : Going) : Type 0 where
  pub comes : comes_of g ≡ next schema program (state_after schema program (beginning program) entries)
  pub stands : Stands program g.state g.due
  pub are_of : AreOf schema program entries

-- how far a member is
abbrev pub reached_by : Member → Reached
reached_by m = record { standing = standing m.made (comes_of m.going); state = m.going.state }

-- the member is where these entries have led its program
pub record IsAt (schema : Lists) (program : Program) (entries : List Entry) (m : Member) : Type 0 where
  pub made : m.made ≡ length entries
  pub going : IsGoing schema program entries m.going

-- there is one for each program, and `Is` holds for it after the entries of the program's unit
pub record AreEach {X : Type 0} (Is : Program → List Entry → X → Type 0) (programs : List Program) (history : List Entry) (xs : List X) : Type 0 where
  pub count : length xs ≡ length programs
  pub each : (u : ℕ) (program : Program) → unit_at programs u ≡ Some program → (x : X) × (unit_at xs u ≡ Some x) × Is program (entries_of u history) x

-- each is where its unit's entries have led its program
abbrev pub AreGoing : Lists → List Program → List Entry → List Going → Type 0
AreGoing schema = AreEach (IsGoing schema)

-- the database with the statements of these turns, and each program where they have led it
pub record AreAfter (schema : Lists) (capacity : ℕ) (programs : List Program) (turns : List ℕ) (database : Making) (goings : List Going) : Type 0 where
  pub database_is : database ≡ making_by schema capacity programs turns
  pub are_going : AreGoing schema programs database.history goings
