-- What is current of a unit, in words, a line each, given the image of the database, which says whether it is still there.
-- k is a key, o an owner, s a set, v a version.
use Rattle.std.specs.Prelude.{ℕ, ◌+◌, ◌/◌, ◌%◌, ◌==◌, ◌&&◌, List, [], ◌∷◌, ◌++◌, Option, Some, None, if◌then◌else◌, length, option_map, unwrap_or, slice_get, decimal, codes}
use Rattle.std.specs.List.{find, flat_map, list_any, position_from}
use Rattle.dbtg_schema.specs.Lists.{Lists}
use Rattle.dbtg_schema.specs.Lookups.{at}
use Rattle.dbtg_schema.specs.declared.shape.Area.{Area}
use Rattle.dbtg_schema.specs.declared.shape.RecordType.{RecordType}
use Rattle.dbtg_schema.specs.declared.shape.SetType.{SetType}
use Rattle.dbtg_cells.specs.Keys.{key_eq, owner_eq}
use Rattle.dbtg_cells.specs.declared.key.DbKey.{DbKey}
use Rattle.dbtg_cells.specs.declared.key.Owner.{Owner}
use Rattle.dbtg_cells.specs.declared.key.Owner.TheVariants.{System, Rec}
use Rattle.dbtg_cells.specs.declared.usage.Mode.{Mode}
use Rattle.dbtg_unit.specs.Database.State.Image.{Image}
use Rattle.dbtg_unit.specs.Database.State.Units.{place_in}
use Rattle.dbtg_unit.specs.declared.unit.Place.{Place}
use Rattle.dbtg_unit.specs.declared.unit.Unit.{Unit}
use Rattle.dbtg_script.specs.Printing.Texts.{key_text, mode_text}

-- ---- records

-- the key, and whether its record is gone
abbrev pub key_words : Lists → Image → DbKey → List ℕ
key_words schema image k = key_text schema k ++ (if list_any (λ r. key_eq k r.0) image.records then [] else codes " (deleted)")

-- a current, or none
abbrev pub current_words : Lists → Image → Option DbKey → List ℕ
current_words schema image None = codes "none"
current_words schema image (Some k) = key_words schema image k

-- an owner
abbrev pub owner_words : Lists → Image → Owner → List ℕ
owner_words schema image System = codes "SYSTEM"
owner_words schema image (Rec k) = key_words schema image k

-- ---- places in lists

-- st, nd, rd or th
abbrev pub ordinal_end : ℕ → List ℕ
ordinal_end n =
    if n / 10 % 10 == 1 then codes "th"
    else (if n % 10 == 1 then codes "st" else (if n % 10 == 2 then codes "nd" else (if n % 10 == 3 then codes "rd" else codes "th")))

-- 1st, 2nd, 3rd ..
abbrev pub ordinal : ℕ → List ℕ
ordinal n = decimal n ++ ordinal_end n

-- the members in the list of owner o of set s; none if there is no such list
abbrev pub list_of : Image → ℕ → Owner → Option (List DbKey)
list_of image s o = option_map (λ l. l.1) (find (λ l. owner_eq o l.0) (unwrap_or (slice_get image.lists s) []))

-- a list with this number of members
abbrev pub many_words : ℕ → List ℕ
many_words many = if many == 0 then codes "an empty list" else codes "a list of " ++ decimal many

-- the list, if there is one
abbrev pub list_words : Option (List DbKey) → List ℕ
list_words None = codes "no list"
list_words (Some list) = many_words (length list)

-- which of how many it is, or that it is no longer among them
abbrev pub among_words : Option ℕ → ℕ → List ℕ
among_words None many = codes ", position lost: it is not in the list of "
among_words (Some i) many = codes ", " ++ ordinal i ++ codes " of " ++ decimal many ++ codes " in the list of "

-- where k is among these members
abbrev pub member_words : DbKey → Option (List DbKey) → List ℕ
member_words k None = codes ", position lost: there is no list of "
member_words k (Some list) = among_words (position_from (key_eq k) 1 list) (length list)

-- where a unit is: at the owner or at a member
abbrev pub at_words : Lists → Image → ℕ → Owner → Option DbKey → List ℕ
at_words schema image s o None = owner_words schema image o ++ codes ", the owner of " ++ list_words (list_of image s o)
at_words schema image s o (Some k) = key_words schema image k ++ member_words k (list_of image s o) ++ owner_words schema image o

-- the current of set s
abbrev pub place_words : Lists → Image → ℕ → Option Place → List ℕ
place_words schema image s None = codes "none"
place_words schema image s (Some p) = at_words schema image s p.owner p.at

-- ---- areas and what is kept

-- whether it is open, and for what
abbrev pub open_words : Option Mode → List ℕ
open_words None = codes "; not open"
open_words (Some mode) = codes "; open for " ++ mode_text mode

-- the version that is kept, and whether it has changed since
abbrev pub kept_words : Lists → Image → DbKey × ℕ → List ℕ
kept_words schema image e =
    key_words schema image e.0 ++ codes ", version " ++ decimal e.1
    ++ (if list_any (λ v. key_eq e.0 v.0 && e.1 == v.1) image.versions then [] else codes ", changed since")

-- ---- lines

-- a line: what it is about, its name, and what is said of it
abbrev pub line_of : List ℕ → List ℕ → List ℕ → List ℕ
line_of what name words = what ++ name ++ codes ": " ++ words ++ 10 ∷ []

-- the record types from number t on, a line each
abbrev pub type_lines : Lists → Image → Unit → ℕ → List RecordType → List ℕ
type_lines schema image unit t [] = []
type_lines schema image unit t (r ∷ rs) =
    line_of (codes "record ") r.name (current_words schema image (at unit.currency.types t)) ++ type_lines schema image unit (t + 1) rs

-- the sets from number s on. A SYSTEM set without a current is at SYSTEM
abbrev pub set_lines : Lists → Image → Unit → ℕ → List SetType → List ℕ
set_lines schema image unit s [] = []
set_lines schema image unit s (set ∷ sets) =
    line_of (codes "set ") set.name (place_words schema image s (place_in schema unit s)) ++ set_lines schema image unit (s + 1) sets

-- the areas from number a on
abbrev pub area_lines : Lists → Image → Unit → ℕ → List Area → List ℕ
area_lines schema image unit a [] = []
area_lines schema image unit a (area ∷ areas) =
    line_of (codes "area ") area.name (current_words schema image (at unit.currency.areas a) ++ open_words (at unit.modes a))
    ++ area_lines schema image unit (a + 1) areas

-- a line for each record that is kept
abbrev pub kept_line : Lists → Image → DbKey × ℕ → List ℕ
kept_line schema image e = line_of (codes "kept") [] (kept_words schema image e)

-- the same; or that nothing is
abbrev pub kept_lines : Lists → Image → List (DbKey × ℕ) → List ℕ
kept_lines schema image [] = line_of (codes "kept") [] (codes "nothing")
kept_lines schema image (e ∷ es) = flat_map (kept_line schema image) (e ∷ es)

-- the number of the unit; the current of run-unit, of each record type, of each set, of each area; what is kept
abbrev pub unit_words : Lists → Image → Unit → List ℕ
unit_words schema image unit =
    codes "UNIT " ++ decimal unit.number ++ 10 ∷ []
    ++ line_of (codes "run-unit") [] (current_words schema image unit.currency.run_unit)
    ++ type_lines schema image unit 0 schema.types
    ++ set_lines schema image unit 0 schema.sets
    ++ area_lines schema image unit 0 schema.areas
    ++ kept_lines schema image unit.kept
