-- The audit of a trace that was printed.
use Rattle.std.specs.Prelude.{ℕ, ◌≡◌, ◌++◌, Bool, List, Option, length}
use Rattle.dbtg_schema.specs.Lists.{Lists}
use Rattle.dbtg_unit.specs.declared.statement.Statement.{Statement}
use Rattle.dbtg_unit.specs.declared.unit.Entry.{Entry}
use Rattle.dbtg_unit.specs.Database.Laws.Replay.{IsHistoryOf}
use Rattle.dbtg_unit.specs.Database.Laws.Replaying.{statements_of}
use Rattle.dbtg_trace.specs.Laws.{IsReadBack}
use Rattle.dbtg_trace.specs.Printing.{trace_text}
use Rattle.dbtg_trace.specs.Traces.{trace}
use Rattle.dbtg_audit.specs.declared.auditing.Audited.{Audited}
use Rattle.dbtg_audit.specs.declared.auditing.Audited.TheVariants.{Equal, Differs}
use Rattle.dbtg_audit.specs.declared.auditing.Recorded.{Recorded}
use Rattle.dbtg_audit.specs.Auditing.{IsAudited, loads, units_with}

-- what is read of the trace of entries, with their statements spelled as in these texts, one for each unit; a script may be made first
abbrev pub recorded_of : Lists → List (List ℕ) → Option (List Statement) → List Entry → Recorded
recorded_of schema texts load entries = record { units = length texts; load = load; traced = trace schema (length texts) (trace_text schema texts entries) }

-- everything that the trace says holds, and the history to which it leads is this one
abbrev pub EndsIn : List Entry → Audited → Type 0
EndsIn history (Equal given) = given.history ≡ history
EndsIn history (Differs found) = ⊥

-- a history of the sequential database that begins with the script that is made first, if there is one: the audit of the trace of the
-- entries behind it, which is read back, is equal, and leads to just this history
abbrev pub PrintedTraceIsEqual : Type 0
PrintedTraceIsEqual =
    (schema : Lists) (capacity : ℕ) (texts : List (List ℕ)) (load : Option (List Statement)) (begin entries : List Entry)
    → statements_of begin ≡ loads (length texts) load → IsReadBack schema texts entries
    → IsHistoryOf schema capacity (units_with (length texts) load) (begin ++ entries)
    → (statuses : Bool) (audited : Audited) → IsAudited statuses schema capacity (recorded_of schema texts load entries) audited
    → EndsIn (begin ++ entries) audited
