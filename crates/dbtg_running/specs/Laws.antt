-- What `run --trace` prints is read back as the history of the run.
use Rattle.std.specs.Prelude.{ℕ, ◌≤◌, true, List, length, map}
use Rattle.std.specs.List.{AllByRecursion}
use Rattle.dbtg_schema.specs.Lists.{Lists}
use Rattle.dbtg_schema.specs.Named.{IsNamed}
use Rattle.dbtg_schema.specs.Sound.{IsSound}
use Rattle.dbtg_going.specs.declared.going.ProgramRun.{ProgramRun}
use Rattle.dbtg_going.specs.Turns.{IsRunOf}
use Rattle.dbtg_program.specs.Reading.{program}
use Rattle.dbtg_script.specs.Lines.{statement_lines}
use Rattle.dbtg_trace.specs.Laws.{IsReadBack}
use Rattle.dbtg_trace.specs.Printing.{trace_text}
use Rattle.dbtg_unit.specs.declared.unit.Entry.{Entry}
use Rattle.dbtg_unit.specs.declared.limits.TheConstants.{LAST_UNIT}
use Rattle.dbtg_running.specs.Echoing.{scripts_made}
use Rattle.dbtg_running.specs.Reading.{AllAccepted}

-- the scripts that these programs made, each field as the literal of its value
abbrev pub scripts_of : Lists → List (List ℕ) → List Entry → List (List ℕ)
scripts_of schema texts history = scripts_made schema 1 texts history

-- no statement is longer than a trace allows
abbrev pub AreShort : List (List ℕ) → Type 0
AreShort = AllByRecursion (λ text. AllByRecursion (λ line. length line ≤ 1000) (statement_lines text))

-- the trace of a run of accepted programs, by any turns, is accepted and says each entry of the history in full, if it is within the
-- limits of traces
abbrev pub PrintedRunIsReadBack : Type 0
PrintedRunIsReadBack =
    (schema : Lists) → IsSound schema → IsNamed schema → (capacity : ℕ) → capacity ≤ 999999 → (texts : List (List ℕ)) → length texts ≤ LAST_UNIT → AllAccepted schema texts
    → (turns : List ℕ) (given : ProgramRun) → IsRunOf schema capacity (map (program schema) texts) turns given
    → AreShort (scripts_of schema texts given.run.history) → length given.run.history ≤ 524280 → length (trace_text schema (scripts_of schema texts given.run.history) given.run.history) ≤ 67108864
    → IsReadBack schema (scripts_of schema texts given.run.history) given.run.history
