-- What each schema that was read satisfies: the limits, and how its parts fit together.
use Rattle.std.specs.Prelude.{ℕ, ◌<◌, ◌≤◌, Bool, true, false, not, ◌&&◌, ◌==◌, List, [], ◌∷◌, Option, IfSome, length, option_and_then}
use Rattle.std.specs.List.{list_any, All}
use Rattle.dbtg_schema.specs.declared.limits.TheConstants.{MOST_AREAS, MOST_CALC_ITEMS, MOST_DIGITS, MOST_ITEMS, MOST_MEMBERS, MOST_RECORD_TYPES, MOST_SETS, MOST_TEXT_BYTES}
use Rattle.dbtg_schema.specs.Lists.{Lists}
use Rattle.dbtg_schema.specs.Structure.{item_list, picture_of}
use Rattle.dbtg_schema.specs.declared.shape.Picture.{Picture}
use Rattle.dbtg_schema.specs.declared.shape.Picture.TheVariants.{Number, Text}
use Rattle.dbtg_schema.specs.declared.shape.Calc.{Calc}
use Rattle.dbtg_schema.specs.declared.shape.Member.{Member}
use Rattle.dbtg_schema.specs.declared.shape.RecordType.{RecordType}
use Rattle.dbtg_schema.specs.declared.shape.SetType.{SetType}
use Rattle.dbtg_schema.specs.declared.shape.Order.{Order}
use Rattle.dbtg_schema.specs.declared.shape.Order.TheVariants.{Sorted}

-- no element equals a later one
abbrev pub distinct : {X : Type 0} → (X → X → Bool) → List X → Bool
distinct same [] = true
distinct same (x ∷ xs) = not (list_any (same x) xs) && distinct same xs

-- two numbers are equal
abbrev pub same_number : ℕ → ℕ → Bool
same_number m n = m == n

-- 9(1) to 9(18), X(1) to X(64)
abbrev pub IsPicture : Picture → Type 0
IsPicture (Number n) = (1 ≤ n) × (n ≤ MOST_DIGITS)
IsPicture (Text n) = (1 ≤ n) × (n ≤ MOST_TEXT_BYTES)

-- the CALC clause of a record type with this number of items
pub record IsCalc (items : ℕ) (calc : Calc) : Type 0 where
  pub some_item : 0 < length calc.items
  pub items_limit : length calc.items ≤ MOST_CALC_ITEMS
  pub in_range : All (λ i. i < items) calc.items

-- a record type: its area, its items with their pictures, its CALC clause
pub record IsRecordType (schema : Lists) (r : RecordType) : Type 0 where
  pub area : r.area < length schema.areas
  pub some_item : 0 < length r.items
  pub items_limit : length r.items ≤ MOST_ITEMS
  pub pictures : All (λ i. IsPicture i.picture) r.items
  pub calc : IfSome r.calc (λ c. IsCalc (length r.items) c)

-- the order is by a sort key
abbrev pub is_sorted : Order → Bool
is_sorted (Sorted ascending duplicates) = true
is_sorted order = false

-- the picture of a member's key item
abbrev pub key_picture_of : Lists → Member → Option Picture
key_picture_of schema m = option_and_then (λ i. picture_of schema m.rtype i) m.key

-- a set: its owner type, its members and their key items
pub record IsSetType (schema : Lists) (set : SetType) : Type 0 where
  pub owner : IfSome set.owner (λ o. o < length schema.types)
  pub some_member : 0 < length set.members
  pub members_limit : length set.members ≤ MOST_MEMBERS
  pub member_types : All (λ m. m.rtype < length schema.types) set.members
  pub key_items : All (λ m. IfSome m.key (λ i. i < length (item_list schema m.rtype))) set.members

-- a schema: at most 8 areas, 16 record types and 16 sets, at least one area and one record type
pub record IsSchema (schema : Lists) : Type 0 where
  pub some_area : 0 < length schema.areas
  pub areas_limit : length schema.areas ≤ MOST_AREAS
  pub some_type : 0 < length schema.types
  pub types_limit : length schema.types ≤ MOST_RECORD_TYPES
  pub sets_limit : length schema.sets ≤ MOST_SETS
  pub types : All (IsRecordType schema) schema.types
  pub sets : All (IsSetType schema) schema.sets
