-- The statement that the words of a line say.
use Rattle.std.specs.Prelude.{ℕ, zero, suc, ℤ, pos, negsuc, ◌+◌, ◌*◌, Bool, false, ◌||◌, ◌==◌, List, [], ◌∷◌, map, Option, Some, None, if◌then◌else◌, unwrap_or, option_map, slice_get}
use Rattle.dbtg_schema.specs.Lists.{Lists}
use Rattle.dbtg_schema.specs.Texts.Spelling.{among}
use Rattle.dbtg_schema.specs.Structure.{calc_of, item_list, picture_of}
use Rattle.dbtg_schema.specs.declared.shape.Item.{Item}
use Rattle.dbtg_schema.specs.declared.shape.Calc.{Calc}
use Rattle.dbtg_schema.specs.declared.shape.Picture.TheVariants.{Number}
use Rattle.dbtg_schema.specs.declared.shape.SetType.{SetType}
use Rattle.dbtg_schema.specs.Texts.Forms.{labels}
use Rattle.dbtg_cells.specs.declared.key.DbKey.{DbKey}
use Rattle.dbtg_cells.specs.declared.key.Value.{Value}
use Rattle.dbtg_cells.specs.declared.usage.Mode.{Mode}
use Rattle.dbtg_cells.specs.declared.usage.Mode.TheVariants as mode
use Rattle.dbtg_cells.specs.declared.limits.TheConstants.{LAST_GENERATION}
use Rattle.dbtg_unit.specs.declared.statement.Statement.{Statement}
use Rattle.dbtg_unit.specs.declared.statement.Statement.TheVariants as statement
use Rattle.dbtg_unit.specs.declared.statement.Form.{Form}
use Rattle.dbtg_unit.specs.declared.statement.Form.TheVariants as form
use Rattle.dbtg_unit.specs.declared.statement.Which.{Which}
use Rattle.dbtg_unit.specs.declared.statement.Which.TheVariants as which
use Rattle.dbtg_unit.specs.declared.statement.Suppress.{Suppress}
use Rattle.dbtg_unit.specs.declared.statement.Erase.{Erase}
use Rattle.dbtg_unit.specs.declared.statement.Erase.TheVariants as erase
use Rattle.dbtg_unit.specs.declared.statement.Change.{Change}
use Rattle.dbtg_script.specs.declared.role.Role.{Role}
use Rattle.dbtg_script.specs.declared.role.Role.TheVariants as role
use Rattle.dbtg_script.specs.Tokens.{tokens}
use Rattle.dbtg_script.specs.Lines.{lines, trimmed, is_statement}
use Rattle.dbtg_script.specs.Printing.Spelling.{number, key_name, key_number, generation}
use Rattle.dbtg_script.specs.StatementGrammar as grammar
use Rattle.dbtg_script.specs.StatementGrammar.{fits, Labelled}
use Rattle.dbtg_script.specs.Labels.{has, lead, texts, named, first_word, given}
use Rattle.dbtg_script.specs.Lookups.{area_no, type_no, set_no, item_no, item_picture, sort_picture}
use Rattle.dbtg_script.specs.Values.{value_for, up_to}
use Rattle.dbtg_script.specs.StatementFaults.{type_in, set_in, area_in, without_minus}

-- the usage mode that an OPEN names
abbrev pub mode_of : List Labelled → Mode
mode_of ws =
    if has role.Protected ws then (if has role.Update ws then mode.ProtectedUpdate else mode.ProtectedRetrieval)
    else (if has role.Exclusive ws then (if has role.Update ws then mode.ExclusiveUpdate else mode.ExclusiveRetrieval)
    else (if has role.Update ws then mode.Update else mode.Retrieval))

-- what a DELETE does with members
abbrev pub erase_of : List Labelled → Erase
erase_of ws =
    if has role.Only ws then erase.Only
    else (if has role.Selective ws then erase.Selective
    else (if has role.All ws then erase.All
    else erase.Plain))

-- a bit for each set, the first set's the lowest: 1 if it is suppressed
abbrev pub set_bits : List Labelled → List SetType → ℕ
set_bits ws [] = 0
set_bits ws (set ∷ sets) = (if has role.SuppressAll ws || among set.name (texts role.SuppressSet ws) then 1 else 0) + 2 * set_bits ws sets

-- the currents that stay as they are
abbrev pub suppress_of : Lists → List Labelled → Suppress
suppress_of schema ws = record {
  types = has role.SuppressAll ws || has role.SuppressTypes ws;
  areas = has role.SuppressAll ws || has role.SuppressAreas ws;
  sets = set_bits ws schema.sets;
}

-- the negative of n
abbrev pub minus : ℕ → ℤ
minus zero = pos zero
minus (suc n) = negsuc n

-- the text begins with a minus
abbrev pub is_negative : List ℕ → Bool
is_negative [] = false
is_negative (b ∷ bs) = b == 45

-- the number that the text spells, no greater than 999,999
abbrev pub signed : List ℕ → ℤ
signed t = if is_negative t then minus (up_to 999999 (number (without_minus t))) else pos (up_to 999999 (number (without_minus t)))

-- which record of a set or an area is to be found
abbrev pub which_of : List Labelled → Which
which_of ws =
    if has role.WhichFirst ws then which.First
    else (if has role.WhichLast ws then which.Last
    else (if has role.WhichNext ws then which.Next
    else (if has role.WhichPrior ws then which.Prior
    else which.Nth (signed (named role.WhichNumber ws)))))

-- the key that the text spells
abbrev pub key_of : Lists → List ℕ → DbKey
key_of schema t = record { rtype = type_no schema (key_name t); number = up_to 999999 (number (key_number t)); generation = up_to LAST_GENERATION (generation t) }

-- the values of a record, in the order of its items
abbrev pub values_of : List Labelled → List Item → List Value
values_of ws items = map (λ i. value_for i.picture (given i.name ws)) items

-- the name of the item with this number of a record type
abbrev pub name_at : Lists → ℕ → ℕ → List ℕ
name_at schema r i = unwrap_or (option_map (λ i. i.name) (slice_get (item_list schema r) i)) []

-- the value of the item with this number of a record type
abbrev pub calc_value : Lists → ℕ → List Labelled → ℕ → Value
calc_value schema r ws i = value_for (unwrap_or (picture_of schema r i) (Number 0)) (given (name_at schema r i) ws)

-- the values of the CALC items, in the order of the CALC clause
abbrev pub calc_values : Lists → ℕ → List Labelled → Option Calc → List Value
calc_values schema r ws None = []
calc_values schema r ws (Some calc) = map (calc_value schema r ws) calc.items

-- an item and its new value
abbrev pub change_of : Lists → ℕ → List Labelled → List ℕ → Change
change_of schema r ws name = record { item = item_no schema r name; value = value_for (unwrap_or (item_picture schema r name) (Number 0)) (given name ws) }

-- the changes of a MODIFY, in the order of the words
abbrev pub changes_of : Lists → ℕ → List Labelled → List Change
changes_of schema r ws = map (change_of schema r ws) (texts role.ItemName ws)

-- the record type, where a word of this role names one
abbrev pub named_type : Lists → List Labelled → Role → Option ℕ
named_type schema ws r = if has r ws then Some (type_in schema ws) else None

-- FIND by its place in a set or an area
abbrev pub in_place : Lists → List Labelled → Form
in_place schema ws =
    if has role.KindSet ws then form.InSet (which_of ws) (named_type schema ws role.RecordName) (set_in schema ws)
    else form.InArea (which_of ws) (named_type schema ws role.RecordName) (area_in schema ws)

-- FIND of a current
abbrev pub current_of : Lists → List Labelled → Form
current_of schema ws =
    if has role.RunUnit ws then form.CurrentOfUnit
    else (if has role.KindRecord ws then form.CurrentOfType (type_no schema (named role.Name ws))
    else (if has role.KindSet ws then form.CurrentOfSet (set_in schema ws)
    else form.CurrentOfArea (area_in schema ws)))

-- the value given for the sort key
abbrev pub sorted_value : Lists → List Labelled → Value
sorted_value schema ws = value_for (unwrap_or (sort_picture schema (set_in schema ws)) (Number 0)) (first_word role.SortedValue ws)

-- what a FIND looks for
abbrev pub form_of : Lists → List Labelled → Form
form_of schema ws =
    if has role.FindKey ws then form.Key (key_of schema (named role.Key ws))
    else (if has role.FindCurrent ws then current_of schema ws
    else (if has role.FindOwner ws then form.OwnerOf (set_in schema ws)
    else (if has role.FindCalc ws then form.Calc (type_in schema ws) (calc_values schema (type_in schema ws) ws (calc_of schema (type_in schema ws)))
    else (if has role.FindSorted ws then form.Sorted (set_in schema ws) (sorted_value schema ws)
    else (if has role.FindDuplicate ws then form.NextDuplicate (type_in schema ws)
    else in_place schema ws)))))

-- the statement that begins with a word of this role
abbrev pub statement_by : Lists → List Labelled → Role → Statement
statement_by schema ws role.Open = statement.OpenArea (area_no schema (named role.AreaName ws)) (mode_of ws)
statement_by schema ws role.Close = statement.CloseArea (area_no schema (named role.AreaName ws))
statement_by schema ws role.Find = statement.Find (suppress_of schema ws) (form_of schema ws)
statement_by schema ws role.Get = statement.Get (named_type schema ws role.TypeName)
statement_by schema ws role.Store = statement.Store (type_in schema ws) (values_of ws (item_list schema (type_in schema ws))) (suppress_of schema ws)
statement_by schema ws role.Insert = statement.Insert (set_no schema (named role.SetName ws))
statement_by schema ws role.Remove = statement.Remove (set_no schema (named role.SetName ws))
statement_by schema ws role.Modify = statement.Modify (type_in schema ws) (changes_of schema (type_in schema ws) ws)
statement_by schema ws role.Delete = statement.Delete (erase_of ws)
statement_by schema ws role.Free = statement.Free (has role.FreeAll ws)
statement_by schema ws _ = statement.Keep

-- the statement that the words of a line say
abbrev pub statement_of : Lists → List Labelled → Statement
statement_of schema ws = statement_by schema ws (lead ws)

-- the statement of a line, if it holds one
abbrev pub line_statement : Lists → List ℕ → Option Statement
line_statement schema line = if is_statement line then Some (statement_of schema (labels fits grammar.statement (tokens false line))) else None

-- the statement before the others, if there is one
abbrev pub prepend : Option Statement → List Statement → List Statement
prepend None ss = ss
prepend (Some s) ss = s ∷ ss

-- the statements of lines
abbrev pub statements_of : Lists → List (List ℕ) → List Statement
statements_of schema [] = []
statements_of schema (l ∷ ls) = prepend (line_statement schema (trimmed l)) (statements_of schema ls)

-- the statements of a script
abbrev pub script : Lists → List ℕ → List Statement
script schema text = statements_of schema (lines text)
