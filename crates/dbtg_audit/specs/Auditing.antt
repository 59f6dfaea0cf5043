-- What the audit of a trace says: whether the sequential database gives the answers of the trace.
-- traced are the statements of a trace, in their order, with what is said of their answers; recorded is a trace with its units, and
-- perhaps a script that is made first.
use Rattle.std.specs.Prelude.{ℕ, ◌≡◌, ◌+◌, ◌==◌, ◌&&◌, ◌||◌, ◌++◌, Bool, true, false, List, [], ◌∷◌, Option, Some, None, if◌then◌else◌, drop, length, map}
use Rattle.dbtg_schema.specs.Lists.{Lists}
use Rattle.dbtg_schema.specs.Lookups.{some_and}
use Rattle.dbtg_cells.specs.Keys.{key_eq, values_eq}
use Rattle.dbtg_unit.specs.declared.statement.Statement.{Statement}
use Rattle.dbtg_unit.specs.declared.unit.Entry.{Entry}
use Rattle.dbtg_unit.specs.Database.Laws.Replay.{IsHistoryOf}
use Rattle.dbtg_unit.specs.Database.Laws.Replaying.{statements_of}
use Rattle.dbtg_unit.specs.Database.Statements.Codes.{status_code}
use Rattle.dbtg_step.specs.Core.Audit.{LeadsTo}
use Rattle.dbtg_step.specs.declared.results.Run.{Run}
use Rattle.dbtg_trace.specs.declared.traced.Said.{Said}
use Rattle.dbtg_trace.specs.declared.traced.Traced.{Traced}
use Rattle.dbtg_audit.specs.declared.auditing.Audited.{Audited}
use Rattle.dbtg_audit.specs.declared.auditing.Audited.TheVariants.{Equal, Differs}
use Rattle.dbtg_audit.specs.declared.auditing.AllAudited.{AllAudited}
use Rattle.dbtg_audit.specs.declared.auditing.AllAudited.TheVariants as every
use Rattle.dbtg_audit.specs.declared.auditing.Difference.{Difference}
use Rattle.dbtg_audit.specs.declared.auditing.Recorded.{Recorded}
use Rattle.dbtg_audit.specs.Telling.{difference_text}

-- WHAT IS SAID OF ANSWERS

-- what is said of a part of an answer holds: the part is there and is the same. If it is left out nothing is said
abbrev pub agrees : {X : Type 0} → (X → X → Bool) → Option X → Option X → Bool
agrees same None part = true
agrees same (Some said) part = some_and (same said) part

-- what is said of the entry's answer holds; only its status counts, if that is asked
abbrev pub is_so : Bool → Said → Entry → Bool
is_so statuses said e =
    said.status == status_code e.statement e.answer.status && (statuses || (agrees key_eq said.key e.answer.key && agrees values_eq said.items e.answer.items))

-- what is said of the answers holds for the entries, one for one
abbrev pub all_so : Bool → List Traced → List Entry → Bool
all_so statuses [] [] = true
all_so statuses (t ∷ traced) (e ∷ entries) = is_so statuses t.said e && all_so statuses traced entries
all_so statuses [] (e ∷ entries) = false
all_so statuses (t ∷ traced) [] = false

-- THE HISTORY OF A TRACE

-- the units and what they ask
abbrev pub asked : List Traced → List (ℕ × Statement)
asked = map (λ t. (t.unit, t.statement))

-- how many units there are: those of the trace, followed by the one whose script is made first
abbrev pub units_with : ℕ → Option (List Statement) → ℕ
units_with units None = units
units_with units (Some script) = units + 1

-- the statements of the script that is made first, all of the unit after the others
abbrev pub loads : ℕ → Option (List Statement) → List (ℕ × Statement)
loads units None = []
loads units (Some script) = map (λ x. (units + 1, x)) script

abbrev pub all_units : Recorded → ℕ
all_units recorded = units_with recorded.units recorded.load

-- the history in which the sequential database answers these statements, after those that are made first
pub record Answers (schema : Lists) (capacity : ℕ) (recorded : Recorded) (traced : List Traced) (history : List Entry) : Type 0 where
  pub statements_are : statements_of history ≡ loads recorded.units recorded.load ++ asked traced
  pub history_of : IsHistoryOf schema capacity (all_units recorded) history

-- the entries after those that are made first
abbrev pub behind_load : Recorded → List Entry → List Entry
behind_load recorded history = drop (length (loads recorded.units recorded.load)) history

-- THE AUDIT

-- all that is said of that history's answers holds, and it leads to this image and these units
pub record IsEqual (statuses : Bool) (schema : Lists) (capacity : ℕ) (recorded : Recorded) (given : Run) : Type 0 where
  pub statements_are : statements_of given.history ≡ loads recorded.units recorded.load ++ asked recorded.traced
  pub leads : LeadsTo schema capacity (all_units recorded) given.history given.image given.units
  pub so : all_so statuses recorded.traced (behind_load recorded given.history) ≡ true

-- what is said of the statements before one holds, and what is said of that one does not: its answer is that of the last entry
pub record IsFirstDifference (statuses : Bool) (schema : Lists) (capacity : ℕ) (recorded : Recorded) (found : Difference) : Type 0 where
  pub before : List Traced
  pub here : Traced
  pub behind : List Traced
  pub traced_is : recorded.traced ≡ before ++ here ∷ behind
  pub line_is : found.line ≡ here.line
  pub said_is : found.said ≡ here.said
  pub past : List Entry
  pub entry : Entry
  pub history_is : found.history ≡ past ++ entry ∷ []
  pub answers : Answers schema capacity recorded (before ++ here ∷ []) found.history
  pub so_before : all_so statuses before (behind_load recorded past) ≡ true
  pub differs : is_so statuses here.said entry ≡ false

-- no history of these statements satisfies all that is said
abbrev pub IsUnequal : Bool → Lists → ℕ → Recorded → Type 0
IsUnequal statuses schema capacity recorded =
    (history : List Entry) → Answers schema capacity recorded recorded.traced history → all_so statuses recorded.traced (behind_load recorded history) ≡ false

-- everything holds; or something does not, and the first difference is reported
abbrev pub IsAudited : Bool → Lists → ℕ → Recorded → Audited → Type 0
IsAudited statuses schema capacity recorded (Equal given) = IsEqual statuses schema capacity recorded given
IsAudited statuses schema capacity recorded (Differs found) = IsFirstDifference statuses schema capacity recorded found × IsUnequal statuses schema capacity recorded

-- EVERY DIFFERENCE

-- what a line says of an answer holds, and nothing is reported; or it is reported
abbrev pub told_text : Bool → Lists → ℕ → Said → Entry → List ℕ
told_text statuses schema line said e = if is_so statuses said e then [] else difference_text schema line said e

-- what is reported of all lines, one for one with the entries
abbrev pub differences_text : Bool → Lists → List Traced → List Entry → List ℕ
differences_text statuses schema [] entries = []
differences_text statuses schema (t ∷ traced) [] = []
differences_text statuses schema (t ∷ traced) (e ∷ entries) = told_text statuses schema t.line t.said e ++ differences_text statuses schema traced entries

-- this is reported of the history in which all statements are answered, and something that is said does not hold
pub record AreDifferences (statuses : Bool) (schema : Lists) (capacity : ℕ) (recorded : Recorded) (told : List ℕ) : Type 0 where
  pub history : List Entry
  pub answers : Answers schema capacity recorded recorded.traced history
  pub told_is : told ≡ differences_text statuses schema recorded.traced (behind_load recorded history)
  pub unequal : all_so statuses recorded.traced (behind_load recorded history) ≡ false

-- everything holds; or something does not, and every line that differs is reported
abbrev pub IsAllAudited : Bool → Lists → ℕ → Recorded → AllAudited → Type 0
IsAllAudited statuses schema capacity recorded (every.Equal given) = IsEqual statuses schema capacity recorded given
IsAllAudited statuses schema capacity recorded (every.Differ told) = AreDifferences statuses schema capacity recorded told.items
