-- What the shell prints: answers, faults, hints, and what its commands show.
use Rattle.std.specs.Prelude.{ℕ, ◌≡◌, ◌-◌, ◌%◌, ◌==◌, ◌∷◌, ◌++◌, List, [], Option, None, Some, codes, decimal, if◌then◌else◌, length, option_and_then, option_map, slice_get, unwrap_or}
use Rattle.std.specs.List.{list_any}
use Rattle.std.specs.Str.{bytes_eq}
use Rattle.dbtg_schema.specs.Lists.{Lists}
use Rattle.dbtg_draw.specs.Listing.{schema_lines}
use Rattle.dbtg_unit.specs.Database.Statements.Codes.{status_code}
use Rattle.dbtg_unit.specs.Database.State.Image.{image_of}
use Rattle.dbtg_unit.specs.declared.unit.Entry.{Entry}
use Rattle.dbtg_step.specs.Core.Whole.{Making, state_now}
use Rattle.dbtg_script.specs.Printing.Causes.{cause_number}
use Rattle.dbtg_script.specs.Printing.Spelling.{behind, in_front}
use Rattle.dbtg_script.specs.Printing.Texts.{answer_text, image_text, named_answer_text, units_text}
use Rattle.dbtg_script.specs.declared.fault.Cause.{Cause}
use Rattle.dbtg_explain.specs.declared.causes.TheConstants.{CAUSES}
use Rattle.dbtg_explain.specs.declared.topic.Kind.TheVariants as kind
use Rattle.dbtg_explain.specs.declared.topic.Topic.TheVariants.{Done}
use Rattle.dbtg_explain.specs.Explaining.{fault_field, fault_text, faults_of, field, kind_row, row_of, status_rows, status_text, topic_text}
use Rattle.dbtg_explain.specs.FaultyWord.{line_at}
use Rattle.dbtg_explain.specs.Misfits.{said_of_word}
use Rattle.dbtg_refusal.specs.Said.{said_in}
use Rattle.dbtg_session.specs.Asking.{asks, behind_spaces, means_unit, turn_given}
use Rattle.dbtg_session.specs.declared.commands.TheConstants.{NOTHING_YET}
use Rattle.dbtg_session.specs.UnitWords.{unit_words}

-- ANSWERS

-- the name of the cause with this code, from its row in the table of causes
abbrev pub cause_name : ℕ → Option (List ℕ)
cause_name code = option_map (field 1) (row_of code CAUSES.now)

-- the answer as `replay` prints it; a refusal is followed by the name of its cause
abbrev pub answer_reply : Lists → Entry → List ℕ
answer_reply schema e =
    let status = status_code e.statement e.answer.status in
    if status == 0 then answer_text schema e
    else unwrap_or (option_map (named_answer_text schema e) (cause_name (status % 100))) (answer_text schema e)

-- what is printed where the statement of this entry is taken back
abbrev pub undone_text : Lists → Option Entry → List ℕ
undone_text schema None = codes "there is nothing to take back" ++ 10 ∷ []
undone_text schema (Some e) = codes "taken back: " ++ answer_text schema e

-- the line that says there is no such unit
abbrev pub no_unit_text : ℕ → List ℕ
no_unit_text units = codes "there is no such unit: they are numbered from 1 to " ++ decimal units ++ 10 ∷ []

-- FAULTS

-- what is said of the word at fault, or the meaning of the fault if nothing is
abbrev pub said_or : List ℕ → List ℕ → List ℕ
said_or meaning said = if length said == 0 then meaning else said

-- words by which users try to end the shell without a period
abbrev pub quit_words : List (List ℕ)
quit_words = codes "quit" ∷ codes "exit" ∷ codes "QUIT" ∷ codes "EXIT" ∷ codes "q" ∷ []

-- words by which users ask for help without a period
abbrev pub help_words : List (List ℕ)
help_words = codes "help" ∷ codes "HELP" ∷ codes "?" ∷ []

-- the hint for such a word; none for any other
abbrev pub hint_of : List ℕ → List ℕ
hint_of word =
    if list_any (bytes_eq word) quit_words then codes "; .quit ends the shell"
    else (if list_any (bytes_eq word) help_words then codes "; .help shows what can be typed" else [])

-- the hint for the first word of a line
abbrev pub hint_for : List ℕ → List ℕ
hint_for line = hint_of (in_front 32 (in_front 13 line))

-- the line that reports a fault of this line: its number, what is said of the word at fault or else what the fault means, and a hint
abbrev pub IsFaultText : Lists → List ℕ → Cause → List ℕ → Type 0
IsFaultText schema line cause out =
    let number = cause_number cause in
    let said = said_of_word schema number (line_at 1 line) in
    out ≡ codes "fault " ++ decimal number ++ codes ": " ++ said_or (fault_field kind.Script number 1) said ++ hint_for line ++ 10 ∷ []

-- WHAT WAS TOLD LAST

-- what `explain` says of a fault of a line, if there is one of this number
abbrev pub fault_page : ℕ → Option (List ℕ)
fault_page number = option_map (fault_text (kind_row kind.Script)) (row_of number (faults_of kind.Script))

-- what `explain` says of a status
abbrev pub status_page : ℕ → Option (List ℕ)
status_page code = if code == 0 then Some (topic_text Done) else option_map (λ rows. status_text rows.0 rows.1) (status_rows code)

-- a page with what is said of a refusal as its second line
abbrev pub with_here : List ℕ → List ℕ → List ℕ
with_here said page =
    if length said == 0 then page else in_front 10 page ++ 10 ∷ codes "Here: " ++ said ++ 10 ∷ behind 10 page

-- the page of the status of the last answer, with what was in the way of its statement
abbrev pub answer_page : Making → Entry → Option (List ℕ)
answer_page m e = option_map (with_here (said_in m.schema m.capacity (state_now m) e)) (status_page (status_code e.statement e.answer.status))

-- what `.explain` alone prints: the page of the fault that was told, if no statement was made or taken back since, or else that of the last
-- answer that stands
abbrev pub explained_text : Making → Option ℕ → List ℕ
explained_text m (Some fault) = unwrap_or (fault_page fault) NOTHING_YET.now
explained_text m None = unwrap_or (option_and_then (answer_page m) (slice_get m.history (length m.history - 1))) NOTHING_YET.now

-- COMMANDS

-- what `.database` prints
abbrev pub database_text : Making → List ℕ
database_text m =
    let image = image_of m.schema m.capacity (state_now m).database in image_text m.schema image.records image.lists image.next image.usage

-- what `.units`, `.schema`, `.database` and `.explain` print
abbrev pub listed_by : Making → Option ℕ → List ℕ → Option (List ℕ)
listed_by m fault command =
    if asks (codes "units") command then Some (units_text m.schema (state_now m).units)
    else (if asks (codes "schema") command then Some (schema_lines m.schema)
    else (if asks (codes "database") command then Some (database_text m)
    else (if asks (codes "explain") command then Some (explained_text m fault) else None)))

-- what is current of unit u
abbrev pub unit_said : Making → ℕ → Option (List ℕ)
unit_said m u = option_map (unit_words m.schema (image_of m.schema m.capacity (state_now m).database)) (slice_get (state_now m).units (u - 1))

-- what `.unit` prints: what is current of the unit that it means, or that there is no such unit
abbrev pub unit_shown : Making → ℕ → List ℕ → Option (List ℕ)
unit_shown m turn rest = if means_unit m.units turn rest then unit_said m (turn_given m.units turn rest) else Some (no_unit_text m.units)

-- what one of these five commands prints, where unit `turn` has the turn and this fault was told; nothing is said here of any other
abbrev pub shown_by : Making → ℕ → Option ℕ → List ℕ → Option (List ℕ)
shown_by m turn fault command =
    if bytes_eq (in_front 32 command) (codes "unit") then unit_shown m turn (behind_spaces (behind 32 command)) else listed_by m fault command
