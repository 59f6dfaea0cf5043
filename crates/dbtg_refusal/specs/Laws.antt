-- What holds of refusals: each has something in its way, and so a sentence; a statement that is done has none.
use Rattle.std.specs.Prelude.{ℕ, ◌≡◌, ◌==◌, true, List, is_some, length, map}
use Rattle.dbtg_schema.specs.Lists.{Lists}
use Rattle.dbtg_schema.specs.Sound.{IsSound}
use Rattle.dbtg_unit.specs.declared.statement.Statement.{Statement}
use Rattle.dbtg_unit.specs.declared.unit.Cause.{Cause}
use Rattle.dbtg_unit.specs.declared.unit.Entry.{Entry}
use Rattle.dbtg_unit.specs.declared.unit.Status.TheVariants.{Refused}
use Rattle.dbtg_unit.specs.declared.unit.Unit.{Unit}
use Rattle.dbtg_unit.specs.Database.State.Base.{Database}
use Rattle.dbtg_unit.specs.Database.Statements.Codes.{is_done}
use Rattle.dbtg_unit.specs.Database.Statements.Effect.{effect}
use Rattle.dbtg_unit.specs.Database.Statements.Fits.{fits}
use Rattle.dbtg_unit.specs.Database.Laws.Replay.{IsHistoryOf}
use Rattle.dbtg_refusal.specs.Obstacles.{obstacle_of}
use Rattle.dbtg_refusal.specs.Said.{said_of_history}

-- where a statement that fits is refused, something is in its way
abbrev pub EachRefusalHasAnObstacle : Type 0
EachRefusalHasAnObstacle =
    (schema : Lists) (capacity : ℕ) (db : Database) (unit : Unit) (statement : Statement) (why : Cause) → IsSound schema → fits schema statement ≡ true
    → (effect schema capacity db unit statement).answer.status ≡ Refused why → is_some (obstacle_of schema capacity db unit statement why) ≡ true

-- in a history exactly the statements that are done have no sentence
abbrev pub JustRefusalsAreExplained : Type 0
JustRefusalsAreExplained =
    (schema : Lists) (capacity units : ℕ) (history : List Entry) → IsSound schema → IsHistoryOf schema capacity units history
    → map (λ said. length said == 0) (said_of_history schema capacity units history) ≡ map (λ (e : Entry). is_done e.answer.status) history
