-- Every fault of a script: line by line, in a line word by word, and at a word in their order.
use Rattle.std.specs.Prelude.{ℕ, ◌+◌, Bool, true, false, not, ◌&&◌, ◌||◌, ◌==◌, nat_le, nat_lt, List, [], ◌∷◌, ◌++◌, length, map, Option, Some, None, is_none, if◌then◌else◌}
use Rattle.std.specs.List.{list_any, list_all}
use Rattle.dbtg_schema.specs.Lists.{Lists}
use Rattle.dbtg_schema.specs.Lookups.{first}
use Rattle.dbtg_schema.specs.Texts.Spelling.{among}
use Rattle.dbtg_schema.specs.Structure.{area_of, calc_of, is_system, member_clause, order_of}
use Rattle.dbtg_schema.specs.WellFormed.{is_sorted}
use Rattle.dbtg_schema.specs.Texts.Forms.{starts, may_end, start_with, by_start, labelled}
use Rattle.dbtg_schema.specs.declared.shape.Calc.{Calc}
use Rattle.dbtg_schema.specs.declared.shape.Picture.{Picture}
use Rattle.dbtg_script.specs.declared.limits.TheConstants.{SCRIPT_BYTES}
use Rattle.dbtg_script.specs.declared.role.Role.{Role}
use Rattle.dbtg_script.specs.declared.role.Role.TheVariants as role
use Rattle.dbtg_script.specs.declared.fault.Cause.{Cause}
use Rattle.dbtg_script.specs.declared.fault.Cause.TheVariants as cause
use Rattle.dbtg_script.specs.declared.fault.Fault.{Fault}
use Rattle.dbtg_script.specs.Tokens.{Token, tokens}
use Rattle.dbtg_script.specs.Lines.{lines, trimmed, is_statement, is_allowed, ends_in_text}
use Rattle.dbtg_script.specs.Printing.Spelling.{number, key_name, key_number, generation}
use Rattle.dbtg_script.specs.StatementGrammar.{fits, Form, Labelled, statement}
use Rattle.dbtg_script.specs.Labels.{has, text_of, texts, named, first_word}
use Rattle.dbtg_script.specs.Lookups.{area_named, type_named, set_named, item_named, type_no, set_no, area_no, item_no, item_picture, sort_picture}
use Rattle.dbtg_script.specs.Values.{is_of_kind, spelled, up_to}
use Rattle.dbtg_unit.specs.declared.limits.TheConstants.{MOST_STATEMENTS}
use Rattle.dbtg_cells.specs.declared.limits.TheConstants.{LAST_GENERATION}

-- the fault, if the test holds
abbrev pub when : Bool → Cause → List Cause
when b c = if b then c ∷ [] else []

-- the record type that is named, after GET, STORE and MODIFY or before RECORD
abbrev pub type_text : List Labelled → List ℕ
type_text ws = if has role.TypeName ws then named role.TypeName ws else named role.RecordName ws

-- the number of the record type that is named
abbrev pub type_in : Lists → List Labelled → ℕ
type_in schema ws = type_no schema (type_text ws)

-- the number of the set that is named before SET
abbrev pub set_in : Lists → List Labelled → ℕ
set_in schema ws = set_no schema (named role.Name ws)

-- the number of the area that is named before AREA
abbrev pub area_in : Lists → List Labelled → ℕ
area_in schema ws = area_no schema (named role.Name ws)

-- a value of another kind than the picture, then one that is too great or too long
abbrev pub value_faults : Option Picture → Token → List Cause
value_faults None t = []
value_faults (Some p) t = when (not (is_of_kind p t)) cause.OtherKind ++ when (is_none (spelled p t)) cause.TooGreat

-- an item that the record type does not have, then one that is named twice
abbrev pub item_faults : Lists → List Labelled → List ℕ → List Cause
item_faults schema ws name =
    when (is_none (item_named schema (type_in schema ws) name)) cause.UnknownItem ++ when (among name (texts role.ItemName ws)) cause.ItemTwice

-- a key: its record type, its number, its generation
abbrev pub key_faults : Lists → List ℕ → List Cause
key_faults schema t =
    when (is_none (type_named schema (key_name t))) cause.UnknownRecordType
    ++ when (up_to 999999 (number (key_number t)) == 0) cause.OutOfRange
    ++ when (up_to LAST_GENERATION (generation t) == 0) cause.OutOfRange

-- the digits after a minus
abbrev pub without_minus : List ℕ → List ℕ
without_minus [] = []
without_minus (b ∷ bs) = if b == 45 then bs else b ∷ bs

-- what is wrong with a word that the grammar wants, after the words ws
abbrev pub said : Lists → List Labelled → Token → Role → List Cause
said schema ws t role.AreaName = when (is_none (area_named schema (text_of t))) cause.UnknownArea
said schema ws t role.TypeName = when (is_none (type_named schema (text_of t))) cause.UnknownRecordType
said schema ws t role.SetName = when (is_none (set_named schema (text_of t))) cause.UnknownSet
said schema ws t role.SuppressSet = when (is_none (set_named schema (text_of t))) cause.UnknownSet
said schema ws t role.KindArea = when (is_none (area_named schema (named role.Name ws))) cause.UnknownArea
said schema ws t role.KindRecord = when (is_none (type_named schema (named role.Name ws))) cause.UnknownRecordType
said schema ws t role.KindSet = when (is_none (set_named schema (named role.Name ws))) cause.UnknownSet
said schema ws t role.RecordWord = when (is_none (type_named schema (named role.RecordName ws))) cause.UnknownRecordType
said schema ws t role.ItemName = item_faults schema ws (text_of t)
said schema ws t role.Value = value_faults (item_picture schema (type_in schema ws) (named role.ItemName ws)) t
said schema ws t role.Key = key_faults schema (text_of t)
said schema ws t role.WhichNumber = when (up_to 999999 (number (without_minus (text_of t))) == 0) cause.OutOfRange
said schema ws t _ = []

-- FIND names a record type that is not a member of the set, or not in the area
abbrev pub is_outside : Lists → List Labelled → Bool
is_outside schema ws =
    has role.RecordName ws
    && ((has role.KindSet ws && is_none (member_clause schema (set_in schema ws) (type_in schema ws)))
    || (has role.KindArea ws && not (area_of schema (type_in schema ws) == area_in schema ws)))

-- other items than those of the CALC clause
abbrev pub differs_from : Option Calc → List ℕ → Bool
differs_from None items = true
differs_from (Some calc) items = not (length items == length calc.items) || not (list_all (λ i. list_any (λ j. j == i) calc.items) items)

-- the numbers of the items that are named
abbrev pub items_in : Lists → List Labelled → List ℕ
items_in schema ws = map (item_no schema (type_in schema ws)) (texts role.ItemName ws)

-- the schema has no such way to find a record: other items than the CALC key, no CALC key, no sort key, no owner
abbrev pub is_misused : Lists → List Labelled → Bool
is_misused schema ws =
    (has role.FindCalc ws && differs_from (calc_of schema (type_in schema ws)) (items_in schema ws))
    || (has role.FindDuplicate ws && is_none (calc_of schema (type_in schema ws)))
    || (has role.FindSorted ws && not (is_sorted (order_of schema (set_in schema ws))))
    || (has role.FindOwner ws && is_system schema (set_in schema ws))

-- the faults of the value given for a sort key
abbrev pub sorted_faults : Option Picture → Option Token → List Cause
sorted_faults p None = []
sorted_faults p (Some t) = value_faults p t

-- what is wrong with a statement as a whole
abbrev pub end_faults : Lists → List Labelled → List Cause
end_faults schema ws =
    when (is_outside schema ws) cause.NotThere ++ when (is_misused schema ws) cause.NotThisWay
    ++ sorted_faults (sort_picture schema (set_in schema ws)) (first_word role.SortedValue ws)

-- a word that the grammar does not want
abbrev pub at_other : List Labelled → Cause
at_other [] = cause.NoStatementWord
at_other (w ∷ ws) = cause.UnexpectedWord

-- the faults from here on, up to the first word that the grammar does not want
abbrev pub faults_from : Lists → List Labelled → Form → List Token → List Cause
faults_from schema ws wanted [] = if may_end wanted then end_faults schema ws else cause.UnexpectedWord ∷ []
faults_from schema ws wanted (t ∷ rest) =
    by_start (start_with fits t (starts wanted)) (λ s. said schema ws t s.role ++ faults_from schema (ws ++ labelled s.role t ∷ []) s.rest rest) (at_other ws ∷ [])

-- the faults of a line that holds a statement: an unclosed text, then the words from left to right
abbrev pub statement_faults : Lists → List ℕ → List Cause
statement_faults schema line = when (ends_in_text false line) cause.UnexpectedWord ++ faults_from schema [] statement (tokens false line)

-- the faults of a line after `count` statements
abbrev pub line_faults : Lists → ℕ → List ℕ → List Cause
line_faults schema count line =
    when (is_statement line && nat_le MOST_STATEMENTS count) cause.TooMuch
    ++ when (not (is_allowed line)) cause.LineNotAllowed
    ++ (if is_statement line then statement_faults schema line else [])

-- one more after a line that holds a statement
abbrev pub count_after : ℕ → List ℕ → ℕ
count_after count line = if is_statement line then count + 1 else count

-- the faults of lines after `count` statements; the first line has this number
abbrev pub lines_faults : Lists → ℕ → ℕ → List (List ℕ) → List Fault
lines_faults schema count number [] = []
lines_faults schema count number (l ∷ ls) =
    map (λ c. record { line = number; cause = c }) (line_faults schema count (trimmed l)) ++ lines_faults schema (count_after count (trimmed l)) (number + 1) ls

-- more than 1,048,576 bytes
abbrev pub too_long : List ℕ → List Fault
too_long text = if nat_lt SCRIPT_BYTES (length text) then record { line = 1; cause = cause.TooMuch } ∷ [] else []

-- every fault of a script
abbrev pub faults : Lists → List ℕ → List Fault
faults schema text = too_long text ++ lines_faults schema 0 1 (lines text)

-- the first fault of a script, which is the refusal
abbrev pub refusal : Lists → List ℕ → Option Fault
refusal schema text = first (faults schema text)
