-- The printed texts, byte for byte.
use Rattle.std.specs.Prelude.{ℕ, ◌+◌, ◌/◌, ◌%◌, ◌==◌, List, [], ◌∷◌, ◌++◌, map, Option, Some, None, if◌then◌else◌, length, option_map, unwrap_or, slice_get, decimal, codes}
use Rattle.std.specs.List.{flat_map}
use Rattle.dbtg_schema.specs.Lists.{Lists}
use Rattle.dbtg_schema.specs.Structure.{item_list}
use Rattle.dbtg_schema.specs.declared.shape.Item.{Item}
use Rattle.dbtg_schema.specs.declared.shape.Area.{Area}
use Rattle.dbtg_schema.specs.declared.shape.SetType.{SetType}
use Rattle.dbtg_cells.specs.declared.key.DbKey.{DbKey}
use Rattle.dbtg_cells.specs.declared.key.Owner.{Owner}
use Rattle.dbtg_cells.specs.declared.key.Owner.TheVariants.{System, Rec}
use Rattle.dbtg_cells.specs.declared.key.Value.{Value}
use Rattle.dbtg_cells.specs.declared.key.Value.TheVariants.{Num, Text}
use Rattle.dbtg_cells.specs.declared.usage.Mode.{Mode}
use Rattle.dbtg_cells.specs.declared.usage.Mode.TheVariants as mode
use Rattle.dbtg_unit.specs.Database.Statements.Codes.{status_code}
use Rattle.dbtg_unit.specs.declared.unit.Entry.{Entry}
use Rattle.dbtg_unit.specs.declared.unit.Place.{Place}
use Rattle.dbtg_unit.specs.declared.unit.Unit as unit
use Rattle.dbtg_unit.specs.declared.moves.Stepped.{Stepped}
use Rattle.dbtg_unit.specs.declared.moves.Stepped.TheVariants as stepped

-- ---- keys and values

-- the name of record type r
abbrev pub type_name : Lists → ℕ → List ℕ
type_name schema r = unwrap_or (option_map (λ r. r.name) (slice_get schema.types r)) []

-- nothing for generation 1
abbrev pub generation_text : ℕ → List ℕ
generation_text g = if g == 1 then [] else 46 ∷ decimal g

-- NAME:number, NAME:number.generation
abbrev pub key_text : Lists → DbKey → List ℕ
key_text schema k = type_name schema k.rtype ++ 58 ∷ decimal k.number ++ generation_text k.generation

-- texts in double quotes, in full length
abbrev pub value_text : Value → List ℕ
value_text (Num n) = decimal n
value_text (Text t) = 34 ∷ t ++ 34 ∷ []

-- a space and NAME=value for each item
abbrev pub items_text : List Value → List Item → List ℕ
items_text [] items = []
items_text (v ∷ vs) [] = []
items_text (v ∷ vs) (i ∷ is) = 32 ∷ i.name ++ 61 ∷ value_text v ++ items_text vs is

-- a space and the key
abbrev pub spaced_key : Lists → DbKey → List ℕ
spaced_key schema k = 32 ∷ key_text schema k

-- SYSTEM, or the key of the owner
abbrev pub owner_text : Lists → Owner → List ℕ
owner_text schema System = codes "SYSTEM"
owner_text schema (Rec k) = key_text schema k

-- ---- answers

-- a number below 10,000 in four digits
abbrev pub four_digits : ℕ → List ℕ
four_digits n = (48 + n / 1000) ∷ (48 + n / 100 % 10) ∷ (48 + n / 10 % 10) ∷ (48 + n % 10) ∷ []

-- the key if there is one, then the items if there are any
abbrev pub found_text : Lists → Option DbKey → Option (List Value) → List ℕ
found_text schema None items = []
found_text schema (Some k) None = spaced_key schema k
found_text schema (Some k) (Some vs) = spaced_key schema k ++ items_text vs (item_list schema k.rtype)

-- status, key, items
abbrev pub answered_text : Lists → ℕ → Option DbKey → Option (List Value) → List ℕ
answered_text schema status key items = four_digits status ++ found_text schema key items

-- ticket, unit, status, key, items
abbrev pub answer_front : Lists → Entry → List ℕ
answer_front schema e =
    decimal e.ticket ++ 32 ∷ decimal e.unit ++ 32 ∷ answered_text schema (status_code e.statement e.answer.status) e.answer.key e.answer.items

-- the line of an answer
abbrev pub answer_text : Lists → Entry → List ℕ
answer_text schema e = answer_front schema e ++ 10 ∷ []

-- with a name after it
abbrev pub named_answer_text : Lists → Entry → List ℕ → List ℕ
named_answer_text schema e name = answer_front schema e ++ 32 ∷ name ++ 10 ∷ []

-- the answers, a line each
abbrev pub answers_text : Lists → List Entry → List ℕ
answers_text schema es = flat_map (answer_text schema) es

-- ---- the image

-- a record: its key and its items
abbrev pub record_text : Lists → DbKey × List Value → List ℕ
record_text schema r = key_text schema r.0 ++ items_text r.1 (item_list schema r.0.rtype) ++ 10 ∷ []

-- a list of a set: the set, the owner, the members in order
abbrev pub list_text : Lists → List ℕ → Owner × List DbKey → List ℕ
list_text schema name l = name ++ 32 ∷ owner_text schema l.0 ++ 58 ∷ flat_map (spaced_key schema) l.1 ++ 10 ∷ []

-- the lists of all sets, one after another
abbrev pub lists_text : Lists → List (List (Owner × List DbKey)) → List SetType → List ℕ
lists_text schema [] sets = []
lists_text schema (ls ∷ rest) [] = []
lists_text schema (ls ∷ rest) (s ∷ sets) = flat_map (list_text schema s.name) ls ++ lists_text schema rest sets

-- a space and the number
abbrev pub spaced_number : ℕ → List ℕ
spaced_number n = 32 ∷ decimal n

-- the least free number of each record type
abbrev pub next_text : List ℕ → List ℕ
next_text next = codes "NEXT" ++ flat_map spaced_number next ++ 10 ∷ []

-- the usage mode as a word
abbrev pub mode_text : Mode → List ℕ
mode_text mode.Retrieval = codes "RETRIEVAL"
mode_text mode.Update = codes "UPDATE"
mode_text mode.ProtectedRetrieval = codes "PROTECTED-RETRIEVAL"
mode_text mode.ProtectedUpdate = codes "PROTECTED-UPDATE"
mode_text mode.ExclusiveRetrieval = codes "EXCLUSIVE-RETRIEVAL"
mode_text mode.ExclusiveUpdate = codes "EXCLUSIVE-UPDATE"

-- a unit that has the area open
abbrev pub opened_text : ℕ × Mode → List ℕ
opened_text u = 32 ∷ decimal u.0 ++ 58 ∷ mode_text u.1

-- the line of an area: the units that have it open
abbrev pub area_text : List ℕ → List (ℕ × Mode) → List ℕ
area_text name users = codes "AREA " ++ name ++ flat_map opened_text users ++ 10 ∷ []

-- the areas, a line each
abbrev pub areas_text : List (List (ℕ × Mode)) → List Area → List ℕ
areas_text [] areas = []
areas_text (us ∷ rest) [] = []
areas_text (us ∷ rest) (a ∷ areas) = area_text a.name us ++ areas_text rest areas

-- ---- units

-- a current, or - for none
abbrev pub current_text : Lists → Option DbKey → List ℕ
current_text schema None = codes " -"
current_text schema (Some k) = spaced_key schema k

-- where in a list: at a member, or at the owner
abbrev pub at_text : Lists → Option DbKey → List ℕ
at_text schema None = codes "OWNER"
at_text schema (Some k) = key_text schema k

-- the current of a set: the owner, and where it is in its list
abbrev pub place_text : Lists → Option Place → List ℕ
place_text schema None = codes " -"
place_text schema (Some p) = 32 ∷ owner_text schema p.owner ++ 47 ∷ at_text schema p.at

-- a kept record and the version that was kept
abbrev pub kept_entry : Lists → DbKey × ℕ → List ℕ
kept_entry schema e = 32 ∷ key_text schema e.0 ++ 47 ∷ decimal e.1

-- only if something is kept
abbrev pub kept_text : Lists → List (DbKey × ℕ) → List ℕ
kept_text schema [] = []
kept_text schema (e ∷ es) = codes " KEPT" ++ flat_map (kept_entry schema) (e ∷ es)

-- the line of a unit: its number, its currents, what it keeps
abbrev pub unit_text : Lists → unit.Unit → List ℕ
unit_text schema u =
    codes "UNIT " ++ decimal u.number ++ codes " RUN" ++ current_text schema u.currency.run_unit
    ++ codes " RECORD" ++ flat_map (current_text schema) u.currency.types
    ++ codes " SET" ++ flat_map (place_text schema) u.currency.sets
    ++ codes " AREA" ++ flat_map (current_text schema) u.currency.areas
    ++ kept_text schema u.kept ++ 10 ∷ []

-- the units, a line each
abbrev pub units_text : Lists → List unit.Unit → List ℕ
units_text schema us = flat_map (unit_text schema) us

-- ---- the image and the moves

-- the records of an image, a line each
abbrev pub records_text : Lists → List (DbKey × List Value) → List ℕ
records_text schema rs = flat_map (record_text schema) rs

-- records, lists, least free numbers, areas
abbrev pub image_text : Lists → List (DbKey × List Value) → List (List (Owner × List DbKey)) → List ℕ → List (List (ℕ × Mode)) → List ℕ
image_text schema records lists next usage = records_text schema records ++ lists_text schema lists schema.sets ++ next_text next ++ areas_text usage schema.areas

-- one letter for each move
abbrev pub letter : Stepped → ℕ
letter stepped.Moved = 77
letter stepped.Blocked = 66
letter stepped.Idle = 73
letter stepped.NoMemory = 78

-- the letters of the moves after a space; nothing without moves
abbrev pub letters_text : List Stepped → List ℕ
letters_text [] = []
letters_text (s ∷ ss) = 32 ∷ map letter (s ∷ ss)

-- the line of the moves
abbrev pub moves_text : List Stepped → List ℕ
moves_text ss = codes "MOVES" ++ letters_text ss ++ 10 ∷ []

-- ---- what the program prints

-- the name of a schema
abbrev pub name_part : List ℕ → List ℕ
name_part name = codes "schema " ++ name ++ codes ": "

-- a count and what is counted
abbrev pub count_part : ℕ → List ℕ → List ℕ
count_part count word = decimal count ++ word

-- how large a schema is
abbrev pub schema_line : Lists → List ℕ
schema_line schema =
    name_part schema.name ++ count_part (length schema.areas) (codes " areas, ") ++ count_part (length schema.types) (codes " records, ") ++ count_part (length schema.sets) (codes " sets" ++ 10 ∷ [])

-- how many statements the script with this number has
abbrev pub script_line : ℕ → ℕ → List ℕ
script_line number count = codes "script " ++ count_part number (codes ": ") ++ count_part count (codes " statements" ++ 10 ∷ [])

-- a text of answers, a line of two hyphens, the image, the units
abbrev pub text_behind : List ℕ → Lists → List (DbKey × List Value) → List (List (Owner × List DbKey)) → List ℕ → List (List (ℕ × Mode)) → List unit.Unit → List ℕ
text_behind answers schema records lists next usage units = answers ++ codes "--" ++ 10 ∷ [] ++ image_text schema records lists next usage ++ units_text schema units

-- the answers alone, and the rest
abbrev pub run_text : Lists → List Entry → List (DbKey × List Value) → List (List (Owner × List DbKey)) → List ℕ → List (List (ℕ × Mode)) → List unit.Unit → List ℕ
run_text schema history records lists next usage units = text_behind (answers_text schema history) schema records lists next usage units
