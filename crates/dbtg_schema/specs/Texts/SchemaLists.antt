-- The lists of a schema, from the words with their roles. A name is looked up among those before it: in an accepted text it is there.
use Rattle.std.specs.Prelude.{ℕ, Bool, not, List, [], map, Option, Some, None, option_map, unwrap_or, slice_get, if◌then◌else◌}
use Rattle.std.specs.List.{list_any}
use Rattle.dbtg_schema.specs.Structure.{place_of}
use Rattle.dbtg_schema.specs.declared.role.Role.{Role}
use Rattle.dbtg_schema.specs.declared.role.Role.TheVariants as role
use Rattle.dbtg_schema.specs.declared.shape.Area.{Area}
use Rattle.dbtg_schema.specs.declared.shape.Item.{Item}
use Rattle.dbtg_schema.specs.declared.shape.Calc.{Calc}
use Rattle.dbtg_schema.specs.declared.shape.RecordType.{RecordType}
use Rattle.dbtg_schema.specs.declared.shape.Member.{Member}
use Rattle.dbtg_schema.specs.declared.shape.SetType.{SetType}
use Rattle.dbtg_schema.specs.declared.shape.Picture.TheVariants.{Number}
use Rattle.dbtg_schema.specs.declared.shape.Order.{Order}
use Rattle.dbtg_schema.specs.declared.shape.Order.TheVariants as order
use Rattle.dbtg_schema.specs.declared.shape.Duplicates.{Duplicates}
use Rattle.dbtg_schema.specs.declared.shape.Duplicates.TheVariants as duplicates
use Rattle.dbtg_schema.specs.declared.shape.Class.{Class}
use Rattle.dbtg_schema.specs.declared.shape.Class.TheVariants.{MandatoryAutomatic, MandatoryManual, OptionalAutomatic, OptionalManual}
use Rattle.dbtg_schema.specs.Lists.{Lists}
use Rattle.dbtg_schema.specs.Texts.Spelling.{spelled_picture}
use Rattle.dbtg_schema.specs.Texts.SchemaGrammar.{Labelled}
use Rattle.dbtg_schema.specs.Texts.Labels.{is, named, until, entries, first_named}

-- a word with this role is there
abbrev pub has : Role → List Labelled → Bool
has r ws = list_any (is r) ws

-- the number of a name among names
abbrev pub number_of : List ℕ → List (List ℕ) → ℕ
number_of name names = unwrap_or (place_of name names) 0

-- the area that an AREA entry says
abbrev pub area_from : List Labelled → Area
area_from e = record { name = first_named role.AreaName e }

-- all areas, in the order of the text
abbrev pub areas_from : List Labelled → List Area
areas_from ws = map area_from (entries role.AreaEntry ws)

-- the item that an ITEM entry says
abbrev pub item_from : List Labelled → Item
item_from e = record { name = first_named role.ItemName e; picture = unwrap_or (spelled_picture (first_named role.Picture e)) (Number 1) }

-- the items of a RECORD entry
abbrev pub items_from : List Labelled → List Item
items_from e = map item_from (entries role.ItemEntry e)

-- the numbers of the CALC items
abbrev pub calc_items_from : List Item → List Labelled → List ℕ
calc_items_from items e = map (λ n. number_of n (map (λ i. i.name) items)) (named role.CalcItem e)

-- the CALC clause of a RECORD entry, where it has one
abbrev pub calc_from : List Item → List Labelled → Option Calc
calc_from items e = if has role.CalcItem e then Some (record { items = calc_items_from items e; duplicates_allowed = not (has role.Unique e) }) else None

-- the record type that a RECORD entry says
abbrev pub record_type_from : List Area → List Labelled → RecordType
record_type_from areas e = record {
  name = first_named role.RecordName e;
  area = number_of (first_named role.WithinArea e) (map (λ a. a.name) areas);
  items = items_from e;
  calc = calc_from (items_from e) e;
}

-- record types stand before the sets
abbrev pub types_from : List Area → List Labelled → List RecordType
types_from areas ws = map (record_type_from areas) (entries role.RecordEntry (until role.SetEntry ws))

-- what happens to equal sort keys
abbrev pub duplicates_from : List Labelled → Duplicates
duplicates_from e = if has role.DuplicatesFirst e then duplicates.First else (if has role.DuplicatesLast e then duplicates.Last else duplicates.NotAllowed)

-- the order that a SET entry says
abbrev pub order_from : List Labelled → Order
order_from e =
    if has role.Sorted e then order.Sorted (has role.Ascending e) (duplicates_from e)
    else (if has role.OrderFirst e then order.First
    else (if has role.OrderLast e then order.Last
    else (if has role.OrderNext e then order.Next
    else order.Prior)))

-- the membership class that a MEMBER sentence says
abbrev pub class_from : List Labelled → Class
class_from e =
    if has role.Mandatory e then (if has role.Automatic e then MandatoryAutomatic else MandatoryManual)
    else (if has role.Automatic e then OptionalAutomatic else OptionalManual)

-- the items of the record type with this number
abbrev pub items_at : List RecordType → ℕ → List Item
items_at types t = unwrap_or (option_map (λ r. r.items) (slice_get types t)) []

-- the key item of a MEMBER sentence, where it has one
abbrev pub key_from : List RecordType → ℕ → List Labelled → Option ℕ
key_from types t e = if has role.KeyItem e then Some (number_of (first_named role.KeyItem e) (map (λ i. i.name) (items_at types t))) else None

-- the number of the record type that a word with this role names
abbrev pub type_named : List RecordType → Role → List Labelled → ℕ
type_named types r e = number_of (first_named r e) (map (λ r. r.name) types)

-- the member clause that a MEMBER sentence says
abbrev pub member_from : List RecordType → List Labelled → Member
member_from types e = record {
  rtype = type_named types role.MemberName e;
  class = class_from e;
  key = key_from types (type_named types role.MemberName e) e;
}

-- the owner type that a SET entry says, none for SYSTEM
abbrev pub owner_from : List RecordType → List Labelled → Option ℕ
owner_from types e = if has role.OwnerName e then Some (type_named types role.OwnerName e) else None

-- the set that a SET entry says
abbrev pub set_from : List RecordType → List Labelled → SetType
set_from types e = record {
  name = first_named role.SetName e;
  order = order_from e;
  owner = owner_from types e;
  members = map (member_from types) (entries role.MemberEntry e);
}

-- all sets, in the order of the text
abbrev pub sets_from : List RecordType → List Labelled → List SetType
sets_from types ws = map (set_from types) (entries role.SetEntry ws)

-- the lists of the schema that these words describe
abbrev pub schema_of : List Labelled → Lists
schema_of ws = record {
  name = first_named role.SchemaName ws;
  areas = areas_from ws;
  types = types_from (areas_from ws) ws;
  sets = sets_from (types_from (areas_from ws) ws) ws;
}
