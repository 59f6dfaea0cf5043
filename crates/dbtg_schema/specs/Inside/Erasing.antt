-- How the areas of a DELETE are found: record types that lead to others are marked until nothing changes.
use Rattle.std.specs.Prelude.{ℕ, ◌≡◌, ◌<◌, Bool, ◌&&◌, ◌||◌, ◌==◌, List, [], is_some, length, slice_index_or}
use Rattle.std.specs.List.{list_any, range_with_len}
use Rattle.dbtg_schema.specs.declared.limits.TheConstants.{MOST_AREAS}
use Rattle.dbtg_schema.specs.Lists.{Lists}
use Rattle.dbtg_schema.specs.Inside.Lookups.{EachAt}
use Rattle.dbtg_schema.specs.Structure.{owns, member_clause, set_numbers, home, area_of, erase_areas}
use Rattle.dbtg_schema.specs.Erasing.{marked}

-- some set leads from owner type o to member type m
unfoldable pub leads_to : Lists → ℕ → ℕ → Bool
leads_to schema o m = list_any (λ s. owns schema s o && is_some (member_clause schema s m)) (set_numbers schema)

-- a is the home of a set in which t is a member
unfoldable pub is_home_of : Lists → ℕ → ℕ → Bool
is_home_of schema t a = list_any (λ s. is_some (member_clause schema s t) && home schema s == a) (set_numbers schema)

-- a is the area of t, or such a home
abbrev pub touches : Lists → ℕ → ℕ → Bool
touches schema t a = area_of schema t == a || is_home_of schema t a

-- the row x of the table has the mark n
abbrev pub marked_in : List (List Bool) → ℕ → ℕ → Bool
marked_in table x n = marked (slice_index_or table x []) n

-- among the first `rows` rows of the table, one that is marked has the mark n
unfoldable pub is_given : List (List Bool) → ℕ → List Bool → ℕ → Bool
is_given table rows marks n = list_any (λ x. marked marks x && marked_in table x n) (range_with_len 0 rows)

-- a row for each record type: the types to which it leads, the areas that it touches
pub record AreWays (schema : Lists) (leads touched : List (List Bool)) : Type 0 where
  pub leads_right : (x y : ℕ) → x < length schema.types → y < length schema.types → marked_in leads x y ≡ leads_to schema x y
  pub touched_right : (t a : ℕ) → t < length schema.types → a < MOST_AREAS → marked_in touched t a ≡ touches schema t a

-- a type that is marked leads to y
unfoldable pub is_next : Lists → List Bool → ℕ → Bool
is_next schema marks y = list_any (λ x. marked marks x && leads_to schema x y) (range_with_len 0 (length schema.types))

-- a type that is marked touches a
unfoldable pub is_touched : Lists → List Bool → ℕ → Bool
is_touched schema marks a = list_any (λ t. marked marks t && touches schema t a) (range_with_len 0 (length schema.types))

-- the areas that are marked are those of a DELETE of a record of type t
abbrev pub AreErased : Lists → ℕ → List Bool → Type 0
AreErased schema t marks = (a : ℕ) → a < MOST_AREAS → marked marks a ≡ list_any (λ b. b == a) (erase_areas schema t)

-- they are marked for each record type, from number 0 on, as far as the list goes
abbrev pub AreErasedOfEach : List (List Bool) → Lists → Type 0
AreErasedOfEach each schema = EachAt (AreErased schema) each
