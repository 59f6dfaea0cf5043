-- The words that a diagram shows: for a record type, and for the arrow to a member.
use Rattle.std.specs.Prelude.{ℕ, Bool, true, false, List, [], ◌∷◌, ◌++◌, Option, Some, None, option_map, unwrap_or, slice_get, decimal, codes}
use Rattle.std.specs.List.{flat_map}
use Rattle.dbtg_schema.specs.Lists.{Lists}
use Rattle.dbtg_schema.specs.Structure.{item_list}
use Rattle.dbtg_schema.specs.declared.shape.Calc.{Calc}
use Rattle.dbtg_schema.specs.declared.shape.Class.{Class}
use Rattle.dbtg_schema.specs.declared.shape.Class.TheVariants.{MandatoryAutomatic, MandatoryManual, OptionalAutomatic, OptionalManual}
use Rattle.dbtg_schema.specs.declared.shape.Duplicates.{Duplicates}
use Rattle.dbtg_schema.specs.declared.shape.Duplicates.TheVariants as duplicates
use Rattle.dbtg_schema.specs.declared.shape.Item.{Item}
use Rattle.dbtg_schema.specs.declared.shape.Member.{Member}
use Rattle.dbtg_schema.specs.declared.shape.Order.{Order}
use Rattle.dbtg_schema.specs.declared.shape.Order.TheVariants.{First, Last, Next, Prior, Sorted}
use Rattle.dbtg_schema.specs.declared.shape.Picture.{Picture}
use Rattle.dbtg_schema.specs.declared.shape.Picture.TheVariants.{Number, Text}
use Rattle.dbtg_schema.specs.declared.shape.SetType.{SetType}

-- ---- names by their numbers, empty if there is none

-- the name of area a
abbrev pub area_name : Lists → ℕ → List ℕ
area_name schema a = unwrap_or (option_map (λ it. it.name) (slice_get schema.areas a)) []

-- the name of record type t
abbrev pub type_name : Lists → ℕ → List ℕ
type_name schema t = unwrap_or (option_map (λ it. it.name) (slice_get schema.types t)) []

-- the name of item i of these
abbrev pub item_name : List Item → ℕ → List ℕ
item_name items i = unwrap_or (option_map (λ it. it.name) (slice_get items i)) []

-- ---- a record type

-- the picture of an item
abbrev pub picture_text : Picture → List ℕ
picture_text (Number n) = codes "9(" ++ decimal n ++ codes ")"
picture_text (Text n) = codes "X(" ++ decimal n ++ codes ")"

-- NAME PICTURE
abbrev pub item_text : Item → List ℕ
item_text i = i.name ++ 32 ∷ picture_text i.picture

-- the name of an item, after another item
abbrev pub further_item : List Item → ℕ → List ℕ
further_item items i = codes ", " ++ item_name items i

-- the names of these items, with commas
abbrev pub names_of_items : List Item → List ℕ → List ℕ
names_of_items items [] = []
names_of_items items (i ∷ is) = item_name items i ++ flat_map (further_item items) is

-- DA: two records may have the same CALC key; DN: they may not
abbrev pub allowed_text : Bool → List ℕ
allowed_text true = codes ") DA"
allowed_text false = codes ") DN"

-- the CALC key, and whether duplicates are allowed
abbrev pub calc_text : List Item → Calc → List ℕ
calc_text items c = codes "CALC (" ++ names_of_items items c.items ++ allowed_text c.duplicates_allowed

-- ---- an arrow

-- how a record becomes a member and may cease to be one
abbrev pub class_text : Class → List ℕ
class_text MandatoryAutomatic = codes " MA"
class_text MandatoryManual = codes " MM"
class_text OptionalAutomatic = codes " OA"
class_text OptionalManual = codes " OM"

-- the set, and how the member belongs to it
abbrev pub member_text : SetType → Member → List ℕ
member_text set m = set.name ++ class_text m.class

-- whether a sorted set ascends or descends
abbrev pub direction_text : Bool → List ℕ
direction_text true = codes "SORTED ASC"
direction_text false = codes "SORTED DES"

-- where a member with the sort key of another goes: first, last, or nowhere
abbrev pub duplicates_text : Duplicates → List ℕ
duplicates_text duplicates.First = codes " DF"
duplicates_text duplicates.Last = codes " DL"
duplicates_text duplicates.NotAllowed = codes " DN"

-- a sort key, by the name of its item
abbrev pub key_name : List Item → ℕ → List ℕ
key_name items i = codes " (" ++ item_name items i ++ codes ")"

-- the sort key of a member, nothing without one
abbrev pub key_text : Lists → Member → List ℕ
key_text schema m = unwrap_or (option_map (key_name (item_list schema m.rtype)) m.key) []

-- where a new member goes
abbrev pub order_text : Lists → Order → Member → List ℕ
order_text schema First m = codes "FIRST"
order_text schema Last m = codes "LAST"
order_text schema Next m = codes "NEXT"
order_text schema Prior m = codes "PRIOR"
order_text schema (Sorted ascending duplicates) m = direction_text ascending ++ key_text schema m ++ duplicates_text duplicates
