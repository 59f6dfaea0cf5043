-- The trace that is printed of a history is read back.
-- lines are those of the entries' statements, n the number of a line.
use Rattle.std.specs.Prelude.{◌≡◌, ℕ, ◌+◌, ◌≤◌, ◌<◌, true, List, [], ◌∷◌, length, Option, Some, None}
use Rattle.std.specs.List.{AllByRecursion}
use Rattle.dbtg_schema.specs.Lists.{Lists}
use Rattle.dbtg_schema.specs.Lookups.{first}
use Rattle.dbtg_schema.specs.Named.{IsNamed}
use Rattle.dbtg_schema.specs.Sound.{IsSound}
use Rattle.dbtg_schema.specs.Structure.{pictures}
use Rattle.dbtg_cells.specs.declared.key.DbKey.{DbKey}
use Rattle.dbtg_cells.specs.declared.key.Value.{Value}
use Rattle.dbtg_unit.specs.Database.Statements.Codes.{status_code}
use Rattle.dbtg_unit.specs.Database.Statements.Fits.{values_fit}
use Rattle.dbtg_unit.specs.declared.unit.Entry.{Entry}
use Rattle.dbtg_unit.specs.Database.Laws.Replay.{AnswersHold, IsHistoryOf, opening_state}
use Rattle.dbtg_unit.specs.declared.limits.TheConstants.{LAST_UNIT}
use Rattle.dbtg_script.specs.Laws.{BeginScripts, IsKeyOf}
use Rattle.dbtg_script.specs.StatementFaults.{line_faults, refusal as script_refusal}
use Rattle.dbtg_script.specs.Statements.{line_statement}
use Rattle.dbtg_trace.specs.declared.traced.Traced.{Traced}
use Rattle.dbtg_trace.specs.Faults.{refusal}
use Rattle.dbtg_trace.specs.Parts.{is_unit}
use Rattle.dbtg_trace.specs.Printing.{trace_lines, trace_text}
use Rattle.dbtg_trace.specs.Traces.{trace}

-- a key of one of the schema's record types
abbrev pub IsWithin : Lists → DbKey → Type 0
IsWithin schema k = IsKeyOf schema k × (k.rtype < length schema.types)

-- an answer has a key of the schema, and no items or those of the key's record type; or it has neither key nor items
abbrev pub IsSayable : Lists → Option DbKey → Option (List Value) → Type 0
IsSayable schema None items = items ≡ None
IsSayable schema (Some k) None = IsWithin schema k
IsSayable schema (Some k) (Some vs) = IsWithin schema k × (values_fit (pictures schema k.rtype) vs ≡ true)

-- one of this many units made the entry; the line is one of a script, has no fault and says the entry's statement
pub record IsLineOf (schema : Lists) (units : ℕ) (line : List ℕ) (e : Entry) : Type 0 where
  pub unit : is_unit units e.unit ≡ true
  pub accepted : first (line_faults schema 0 line) ≡ None
  pub says : line_statement schema line ≡ Some e.statement
  pub answer : IsSayable schema e.answer.key e.answer.items

-- each line is the line of its entry
abbrev pub AreLinesOf : Lists → ℕ → List (List ℕ) → List Entry → Type 0
AreLinesOf schema units [] [] = Unit {0}
AreLinesOf schema units [] (e ∷ es) = ⊥
AreLinesOf schema units (l ∷ ls) [] = ⊥
AreLinesOf schema units (l ∷ ls) (e ∷ es) = IsLineOf schema units l e × AreLinesOf schema units ls es

-- an entry, as the line of this number says it in full
abbrev pub as_said : ℕ → Entry → Traced
as_said n e = record { line = n; unit = e.unit; statement = e.statement; said = record { status = status_code e.statement e.answer.status; key = e.answer.key; items = e.answer.items } }

-- entries, from line n on
abbrev pub all_said : ℕ → List Entry → List Traced
all_said n [] = []
all_said n (e ∷ es) = as_said n e ∷ all_said (n + 1) es

-- what is printed of these entries is accepted as a trace, and says each of them in full
abbrev pub PrintedTraceIsReadBack : Type 0
PrintedTraceIsReadBack =
    (schema : Lists) → IsSound schema → IsNamed schema → (units : ℕ) → units ≤ LAST_UNIT → (lines : List (List ℕ)) (history : List Entry) → AreLinesOf schema units lines history
    → length history ≤ 524280 → length (trace_lines schema lines history) ≤ 67108864
    → (refusal schema units (trace_lines schema lines history) ≡ None) × (trace schema units (trace_lines schema lines history) ≡ all_said 1 history)

-- each answer of a history of the sequential database has a key of the schema, and no items or those of its record type; or neither
abbrev pub AnswersCanBeSaid : Type 0
AnswersCanBeSaid =
    (schema : Lists) → IsSound schema → IsNamed schema → (capacity : ℕ) → capacity ≤ 999999 → (units : ℕ) (history : List Entry) → IsHistoryOf schema capacity units history
    → AllByRecursion (λ e. IsSayable schema e.answer.key e.answer.items) history

-- the texts of scripts are accepted; each unit made the beginning of its script; and the sequential database gives the answers
pub record AreOfScripts (schema : Lists) (capacity : ℕ) (texts : List (List ℕ)) (history : List Entry) : Type 0 where
  pub accepted : AllByRecursion (λ text. script_refusal schema text ≡ None) texts
  pub begin : BeginScripts schema texts history
  pub answers : AnswersHold schema capacity (opening_state schema (length texts)) history

-- the trace of a history is accepted, and says each entry in full
abbrev pub IsReadBack : Lists → List (List ℕ) → List Entry → Type 0
IsReadBack schema texts history =
    (refusal schema (length texts) (trace_text schema texts history) ≡ None) × (trace schema (length texts) (trace_text schema texts history) ≡ all_said 1 history)

-- the trace that is printed of a history of scripts, with the statements as their texts have them, is read back
abbrev pub PrintedHistoryIsReadBack : Type 0
PrintedHistoryIsReadBack =
    (schema : Lists) → IsSound schema → IsNamed schema → (capacity : ℕ) → capacity ≤ 999999 → (texts : List (List ℕ)) → length texts ≤ LAST_UNIT → (history : List Entry) → AreOfScripts schema capacity texts history
    → length history ≤ 524280 → length (trace_text schema texts history) ≤ 67108864 → IsReadBack schema texts history
