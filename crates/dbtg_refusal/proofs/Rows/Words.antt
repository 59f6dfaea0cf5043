-- The words of the rows.
use Rattle.std.specs.Prelude.{ℕ, List, Option, Some, None, option_and_then}
use Rattle.dbtg_schema.specs.Lists.{Lists}
use Rattle.dbtg_unit.specs.declared.statement.Statement.{Statement}
use Rattle.dbtg_unit.specs.declared.unit.Cause.{Cause}
use Rattle.dbtg_unit.specs.declared.unit.Status.{Status}
use Rattle.dbtg_unit.specs.declared.unit.Status.TheVariants.{Done, Refused}
use Rattle.dbtg_unit.specs.Database.Statements.Effect.{effect}
use Rattle.dbtg_unit.specs.Database.Laws.Replay.{opening_state, state_after, unit_of}
use Rattle.dbtg_refusal.specs.declared.obstacle.Obstacle.{Obstacle}
use Rattle.dbtg_refusal.specs.Obstacles.{obstacle_of}
use Rattle.dbtg_refusal.specs.Sentences.{refusal_text}

-- the cause of a refusal, and what a function makes of it
abbrev with_cause : {X : Type 0} → (Cause → X) → Status → Option (Cause × X)
with_cause f Done = None
with_cause f (Refused cause) = Some (cause, f cause)

-- the cause for which a statement of unit u is refused, and what is in its way, after those statements of this many units
abbrev pub refused : Lists → ℕ → ℕ → List (ℕ × Statement) → ℕ → Statement → Option (Cause × Option Obstacle)
refused schema capacity units before u statement =
    let end = state_after schema capacity (opening_state schema units) before in
    option_and_then (λ unit. with_cause (obstacle_of schema capacity end.database unit statement) (effect schema capacity end.database unit statement).answer.status) (unit_of end u)

-- and what is said of it
abbrev pub told : Lists → ℕ → ℕ → List (ℕ × Statement) → ℕ → Statement → Option (Cause × List ℕ)
told schema capacity units before u statement =
    let end = state_after schema capacity (opening_state schema units) before in
    option_and_then (λ unit. with_cause (refusal_text schema capacity end.database unit statement) (effect schema capacity end.database unit statement).answer.status) (unit_of end u)
