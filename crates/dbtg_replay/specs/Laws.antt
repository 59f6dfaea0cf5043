-- What `replay --trace` prints is read back as the history of the run.
use Rattle.std.specs.Prelude.{ℕ, ◌≤◌, Bool, List, length}
use Rattle.dbtg_schema.specs.Named.{IsNamed}
use Rattle.dbtg_schema.specs.Sound.{IsSound}
use Rattle.dbtg_schema.specs.Lists.{Lists}
use Rattle.dbtg_unit.specs.declared.unit.Entry.{Entry}
use Rattle.dbtg_unit.specs.Database.Laws.Replay.{IsHistoryOf}
use Rattle.dbtg_unit.specs.declared.limits.TheConstants.{LAST_UNIT}
use Rattle.dbtg_trace.specs.Laws.{IsReadBack}
use Rattle.dbtg_trace.specs.Printing.{trace_text}
use Rattle.dbtg_command.specs.declared.order.Order.{Order}
use Rattle.dbtg_command.specs.Refusals.{schema_in}
use Rattle.dbtg_replay.specs.declared.replay.AnswerForm.TheVariants.{Trace}
use Rattle.dbtg_replay.specs.Replaying.{IsShownReplay}

-- it is a history of the sequential database, and its trace is read back where it is within the limits of traces
pub record IsTraced (schema : Lists) (capacity : ℕ) (scripts : List (List ℕ)) (history : List Entry) : Type 0 where
  pub history_of : IsHistoryOf schema capacity (length scripts) history
  pub back : length history ≤ 524280 → length (trace_text schema scripts history) ≤ 67108864 → IsReadBack schema scripts history

-- the same holds for each replay that is printed as a trace, in whatever order the scripts are run
abbrev pub PrintedReplayIsTraced : Type 0
PrintedReplayIsTraced =
    (first : Bool) (text : List ℕ) (scripts : List (List ℕ)) (order : Order (List ℕ)) (capacity : ℕ) (out : List ℕ)
    → IsSound (schema_in text) → IsNamed (schema_in text) → length scripts ≤ LAST_UNIT → capacity ≤ 999999
    → (shown : IsShownReplay first Trace text scripts order capacity out) → IsTraced (schema_in text) capacity scripts shown.run.given.history
