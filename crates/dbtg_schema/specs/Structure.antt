-- What a schema says of its record types, sets and areas, by their numbers: the owner of a set, its members and their classes;
-- the area of a record type and how it is found by value; the home area of a set; the areas of a DELETE; the sets that a MODIFY
-- may sort anew; the member types and the order of a set; the items of a record type and their pictures.
-- s is a set, t and r are record types, a is an area, i an item.
use Rattle.std.specs.Prelude.{ℕ, Bool, true, false, ◌&&◌, ◌==◌, List, [], ◌∷◌, Option, is_some, is_none, unwrap_or, option_map, option_and_then, map, filter, length, slice_get}
use Rattle.std.specs.List.{list_any, find, range_with_len, position_from}
use Rattle.std.specs.Str.{bytes_eq}
use Rattle.dbtg_schema.specs.Lists.{Lists}
use Rattle.dbtg_schema.specs.Closure.{least_closed}
use Rattle.dbtg_schema.specs.Lookups.{some_and, flatten}
use Rattle.dbtg_schema.specs.declared.shape.Member.{Member}
use Rattle.dbtg_schema.specs.declared.shape.Calc.{Calc}
use Rattle.dbtg_schema.specs.declared.shape.Item.{Item}
use Rattle.dbtg_schema.specs.declared.shape.Picture.{Picture}
use Rattle.dbtg_schema.specs.declared.shape.Order.{Order}
use Rattle.dbtg_schema.specs.declared.shape.Order.TheVariants.{Last}
use Rattle.dbtg_schema.specs.declared.shape.Class.{Class}
use Rattle.dbtg_schema.specs.declared.shape.Class.TheVariants.{MandatoryAutomatic, MandatoryManual, OptionalAutomatic, OptionalManual}

-- the owner type of set s; none for SYSTEM
abbrev pub owner_type : Lists → ℕ → Option ℕ
owner_type schema s = option_and_then (λ set. set.owner) (slice_get schema.sets s)

-- set s is a SYSTEM set
abbrev pub is_system : Lists → ℕ → Bool
is_system schema s = some_and (λ set. is_none set.owner) (slice_get schema.sets s)

-- set s has the owner type t
abbrev pub owns : Lists → ℕ → ℕ → Bool
owns schema s t = some_and (λ owner. owner == t) (owner_type schema s)

-- the number of the first of these names that is this one
abbrev pub place_of : List ℕ → List (List ℕ) → Option ℕ
place_of name names = position_from (bytes_eq name) 0 names

-- the sets, by number
abbrev pub set_numbers : Lists → List ℕ
set_numbers schema = range_with_len 0 (length schema.sets)

-- the member clause of record type t in set s
abbrev pub member_clause : Lists → ℕ → ℕ → Option Member
member_clause schema s t = option_and_then (λ set. find (λ member. member.rtype == t) set.members) (slice_get schema.sets s)

-- STORE connects
abbrev pub is_automatic : Class → Bool
is_automatic MandatoryAutomatic = true
is_automatic MandatoryManual = false
is_automatic OptionalAutomatic = true
is_automatic OptionalManual = false

-- REMOVE is refused
abbrev pub is_mandatory : Class → Bool
is_mandatory MandatoryAutomatic = true
is_mandatory MandatoryManual = true
is_mandatory OptionalAutomatic = false
is_mandatory OptionalManual = false

-- the sets in which STORE connects a record of type t, in the order of the schema
abbrev pub automatic_sets : Lists → ℕ → List ℕ
automatic_sets schema t = filter (λ s. some_and (λ m. is_automatic m.class) (member_clause schema s t)) (set_numbers schema)

-- the area of record type t
abbrev pub area_of : Lists → ℕ → ℕ
area_of schema t = unwrap_or (option_map (λ r. r.area) (slice_get schema.types t)) 0

-- how records of type t are found by value
abbrev pub calc_of : Lists → ℕ → Option Calc
calc_of schema t = option_and_then (λ r. r.calc) (slice_get schema.types t)

-- the record type of the first of these members, 0 without one
abbrev pub first_member : List Member → ℕ
first_member [] = 0
first_member (m ∷ ms) = m.rtype

-- the home area of set s: its owner type's area, for SYSTEM its first member type's
abbrev pub home : Lists → ℕ → ℕ
home schema s = area_of schema (unwrap_or (option_map (λ set. unwrap_or set.owner (first_member set.members)) (slice_get schema.sets s)) 0)

-- the record types of area a
abbrev pub types_in : Lists → ℕ → List ℕ
types_in schema a = filter (λ t. area_of schema t == a) (range_with_len 0 (length schema.types))

-- the record types that can be reached from t by going from owner type to member type
abbrev pub reachable_types : Lists → ℕ → List ℕ
reachable_types schema t =
    least_closed (λ o m. list_any (λ s. owns schema s o && is_some (member_clause schema s m)) (set_numbers schema)) (λ u. u == t)
    (range_with_len 0 (length schema.types))

-- the area of t, and the homes of the sets in which t is a member
abbrev pub areas_with_homes : Lists → ℕ → List ℕ
areas_with_homes schema t = area_of schema t ∷ map (home schema) (filter (λ s. is_some (member_clause schema s t)) (set_numbers schema))

-- the areas of a DELETE of a record of type t
abbrev pub erase_areas : Lists → ℕ → List ℕ
erase_areas schema t = flatten (map (areas_with_homes schema) (reachable_types schema t))

-- the sorted sets of type r whose key item is among those named
abbrev pub rekeyed_sets : Lists → ℕ → List ℕ → List ℕ
rekeyed_sets schema r named =
    filter (λ s. some_and (λ m. some_and (λ i. list_any (λ j. j == i) named) m.key) (member_clause schema s r)) (set_numbers schema)

-- the member types of set s
abbrev pub set_member_types : Lists → ℕ → List ℕ
set_member_types schema s = filter (λ t. is_some (member_clause schema s t)) (range_with_len 0 (length schema.types))

-- where a new member goes in set s
abbrev pub order_of : Lists → ℕ → Order
order_of schema s = unwrap_or (option_map (λ set. set.order) (slice_get schema.sets s)) Last

-- the items of record type t
abbrev pub item_list : Lists → ℕ → List Item
item_list schema t = unwrap_or (option_map (λ r. r.items) (slice_get schema.types t)) []

-- the pictures of the items of type t
abbrev pub pictures : Lists → ℕ → List Picture
pictures schema t = map (λ i. i.picture) (item_list schema t)

-- the picture of item i of type t
abbrev pub picture_of : Lists → ℕ → ℕ → Option Picture
picture_of schema t i = slice_get (pictures schema t) i
