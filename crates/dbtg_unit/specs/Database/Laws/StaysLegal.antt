-- A legal database with all its units stays legal.
use Rattle.std.specs.Prelude.{◌≡◌, ◌≢◌, ℕ, true, false, List, Some, slice_get, slice_set}
use Rattle.std.specs.List.{list_all}
use Rattle.dbtg_schema.specs.Lists.{Lists}
use Rattle.dbtg_schema.specs.Sound.{IsSound}
use Rattle.dbtg_unit.specs.declared.statement.Statement.{Statement}
use Rattle.dbtg_unit.specs.declared.unit.Entry.{Entry}
use Rattle.dbtg_unit.specs.declared.unit.Unit.{Unit}
use Rattle.dbtg_schema.specs.Lookups.{at}
use Rattle.dbtg_cells.specs.declared.usage.Mode.{Mode}
use Rattle.dbtg_unit.specs.Database.State.Base.{Database}
use Rattle.dbtg_unit.specs.Database.Statements.Fits.{fits}
use Rattle.dbtg_unit.specs.Database.Statements.Effect.{StatementEffect, conflict, effect}
use Rattle.dbtg_unit.specs.Database.State.LegalWith.{LegalWith}
use Rattle.dbtg_unit.specs.Database.Laws.Replay.{State, opening_state, replay}

-- the database of the outcome is legal with all units, the stepping unit as the outcome has it
abbrev pub LegalAfter : Lists → ℕ → List Unit → ℕ → StatementEffect → Type 0
LegalAfter schema capacity units i outcome = LegalWith schema capacity outcome.database (slice_set units i outcome.unit)

-- whatever statement that fits is made by whatever unit, done or refused, the database stays legal with all its units
abbrev pub EffectKeepsLegal : Type 0
EffectKeepsLegal =
    (schema : Lists) (capacity : ℕ) (db : Database) (units : List Unit) (i : ℕ) (unit : Unit) (statement : Statement)
    → IsSound schema → LegalWith schema capacity db units → slice_get units i ≡ Some unit → fits schema statement ≡ true
    → LegalAfter schema capacity units i (effect schema capacity db unit statement)

-- the database of a state is legal with its units
abbrev pub IsLegalState : Lists → ℕ → State → Type 0
IsLegalState schema capacity state = LegalWith schema capacity state.database state.units

-- the opening database is legal with its opening units, however many
abbrev pub OpeningIsLegal : Type 0
OpeningIsLegal = (schema : Lists) (capacity units : ℕ) → IsLegalState schema capacity (opening_state schema units)

-- a history of statements that fit leads from a legal state to a legal state, whatever its answers
abbrev pub ReplayKeepsLegal : Type 0
ReplayKeepsLegal =
    (schema : Lists) (capacity : ℕ) (state : State) (history : List Entry)
    → IsSound schema → IsLegalState schema capacity state → list_all (λ entry. fits schema entry.statement) history ≡ true
    → IsLegalState schema capacity (replay schema capacity state history)

-- no two units of a legal database have an area open in modes that conflict
abbrev pub UnitsNeverConflict : Type 0
UnitsNeverConflict =
    (schema : Lists) (capacity : ℕ) (db : Database) (units : List Unit) (i j : ℕ) (one other : Unit) (a : ℕ) (m n : Mode)
    → LegalWith schema capacity db units → slice_get units i ≡ Some one → slice_get units j ≡ Some other → i ≢ j
    → at one.modes a ≡ Some m → at other.modes a ≡ Some n → conflict m n ≡ false
