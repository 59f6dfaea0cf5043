-- Units that have followed programs to their ends, and the history that they have made.
-- entries are those of one unit, in their order.
use Rattle.std.specs.Prelude.{ℕ, ◌≡◌, ◌<◌, List, [], ◌∷◌, ◌++◌, All, Option, Some, None, get_or, length}
use Rattle.dbtg_schema.specs.Lists.{Lists}
use Rattle.dbtg_unit.specs.declared.statement.Statement.{Statement}
use Rattle.dbtg_unit.specs.declared.unit.Entry.{Entry}
use Rattle.dbtg_unit.specs.Database.Laws.Replay.{entries_of}
use Rattle.dbtg_program.specs.declared.program.Program.{Program}
use Rattle.dbtg_program.specs.States.{beginning}
use Rattle.dbtg_program.specs.Going.{next, state_after}
use Rattle.dbtg_step.specs.Core.Audit.{LeadsTo}
use Rattle.dbtg_going.specs.declared.member.Member.{Member}
use Rattle.dbtg_going.specs.Goings.{AreEach, IsAt}
use Rattle.dbtg_going.specs.Turns.{due_after}
use Rattle.dbtg_run.specs.UnitView.{UnitView}
use Rattle.dbtg_run.specs.declared.settled.Settled.{Settled}

-- the statement that the unit of a program makes after these entries, if it makes one
abbrev pub statement_after : Lists → Program → List Entry → Option Statement
statement_after schema program entries = due_after schema (length entries) (next schema program (state_after schema program (beginning program) entries))

-- each entry has the statement that the unit makes after those before it
abbrev pub AreInTurn : Lists → Program → List Entry → Type 0
AreInTurn schema program entries = (before : List Entry) (e : Entry) (behind : List Entry) → entries ≡ before ++ e ∷ behind → statement_after schema program before ≡ Some e.statement

-- the entries have led the program here, each was in turn, and the unit makes no other statement after them
pub record HasGone (schema : Lists) (program : Program) (entries : List Entry) (member : Member) : Type 0 where
  pub at : IsAt schema program entries member
  pub in_turn : AreInTurn schema program entries
  pub at_end : statement_after schema program entries ≡ None

-- a unit before and after it has followed the program, and where the program then is
pub record WentBy (schema : Lists) (program : Program) (before after : UnitView) (member : Member) : Type 0 where
  pub number : after.unit.number ≡ before.unit.number
  pub gone : HasGone schema program after.journal member

-- each unit has followed the program at its place
pub record HaveGone (schema : Lists) (programs : List Program) (before after : List UnitView) (members : List Member) : Type 0 where
  pub units : length after ≡ length before
  pub count : length members ≡ length before
  pub each : (k : ℕ) (p : Program) (u v : UnitView) (m : Member) → k < length before → WentBy schema (get_or programs k p) (get_or before k u) (get_or after k v) (get_or members k m)

-- units before their first statements
abbrev pub AreFresh : List UnitView → Type 0
AreFresh units = All (λ (u : UnitView). u.journal ≡ []) units

-- the entries of each unit in a history have led its program to its end
abbrev pub HaveMade : Lists → List Program → List Entry → List Member → Type 0
HaveMade schema = AreEach (HasGone schema)

-- a settled database, whose history is of the sequential database and of these programs
pub record IsHistoryOfAll (schema : Lists) (capacity : ℕ) (programs : List Program) (settled : Settled) (members : List Member) : Type 0 where
  pub leads : LeadsTo schema capacity (length programs) settled.history settled.image settled.units
  pub made : HaveMade schema programs settled.history members
