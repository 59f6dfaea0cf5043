-- What a FIND finds, read from the held cells.
-- k is a key, n a number, p a position, v a value, s a set, r and t record types, a an area.
use Rattle.std.specs.Prelude.{ℕ, ◌+◌, ◌-◌, take, Bool, true, ◌&&◌, ◌==◌, nat_lt, List, [], ◌∷◌, ◌++◌, Option, Some, None, Result, Ok, Err, is_none, is_some, map, filter, length, option_map, option_and_then, unwrap_or, if◌then◌else◌}
use Rattle.std.specs.List.{find, range_with_len, flat_map}
use Rattle.dbtg_schema.specs.Lists.{Lists}
use Rattle.dbtg_schema.specs.Lookups.{at, first, first_cause, some_and}
use Rattle.dbtg_schema.specs.Structure.{area_of}
use Rattle.dbtg_schema.specs.declared.limits.TheConstants.{MOST_SETS}
use Rattle.dbtg_cells.specs.declared.extent.Number.{Number}
use Rattle.dbtg_cells.specs.declared.key.DbKey.{DbKey}
use Rattle.dbtg_cells.specs.declared.key.Owner.{Owner}
use Rattle.dbtg_cells.specs.declared.key.Value.{Value}
use Rattle.dbtg_cells.specs.declared.name.CellName.{CellName}
use Rattle.dbtg_cells.specs.declared.ring.Occurrence.{Occurrence}
use Rattle.dbtg_cells.specs.Keys.{has_type, key_below, value_eq}
use Rattle.dbtg_cells.specs.Members.{keys_in, members_in}
use Rattle.dbtg_cells.specs.Numbers.{has_values, is_used, last_of, numbers_where}
use Rattle.dbtg_unit.specs.declared.edit.UnitEdit.TheVariants.{See}
use Rattle.dbtg_unit.specs.declared.statement.Form.{Form}
use Rattle.dbtg_unit.specs.declared.statement.Form.TheVariants.{Key, CurrentOfUnit, CurrentOfType, CurrentOfSet, CurrentOfArea, InSet, InArea, OwnerOf, Calc, NextDuplicate, Sorted}
use Rattle.dbtg_unit.specs.declared.statement.Suppress.{Suppress}
use Rattle.dbtg_unit.specs.declared.statement.Which.{Which}
use Rattle.dbtg_unit.specs.declared.unit.Cause.{Cause}
use Rattle.dbtg_unit.specs.declared.unit.Cause.TheVariants.{Deleted, End, NoneSatisfies, PositionLost}
use Rattle.dbtg_unit.specs.declared.unit.Unit.{Unit}
use Rattle.dbtg_unit.specs.Database.Statements.Found.{chosen, chosen_by_key, found_unless, is_lost, needs_position, with_current}
use Rattle.dbtg_unit.specs.Hands.Hands.{Hands}
use Rattle.dbtg_unit.specs.Inside.InHand.{key_of, values_of_key}
use Rattle.dbtg_unit.specs.Hands.InHand.{numbers_in, occurrence_in, stored_in}
use Rattle.dbtg_unit.specs.Hands.Needs.{cells_to_find, first_missing, found_slot}
use Rattle.dbtg_unit.specs.Hands.Prepared.{Plan, refusal}
use Rattle.dbtg_unit.specs.Database.State.Units.{key_of_owner, key_of_place, place_in}
use Rattle.dbtg_unit.specs.Hands.PlanOf.{done_plan}

-- the record k, if its slot is held, or this cause if it is not there
abbrev pub stored_or : Cause → Hands → DbKey → Result DbKey Cause
stored_or cause hands k = if is_some (stored_in hands k) then Ok k else Err cause

-- SETS

-- the member of an occurrence, from position p, of type r or of any
abbrev pub member_found : Which → Option ℕ → Option DbKey → Option Occurrence → Result DbKey Cause
member_found which r p occurrence =
    found_unless (first_cause ((is_none occurrence, Deleted) ∷ (needs_position which && is_lost p (keys_in occurrence), PositionLost) ∷ []))
    (chosen which (has_type r) p (keys_in occurrence)) End

-- the first member with sort key v
abbrev pub sorted_found : Value → Option Occurrence → Result DbKey Cause
sorted_found v occurrence =
    found_unless (first_cause ((is_none occurrence, Deleted) ∷ []))
    (option_map (λ m. m.0) (find (λ m. some_and (value_eq v) m.1) (members_in occurrence))) NoneSatisfies

-- NUMBERS

-- the live keys of type t, in key order
abbrev pub keys_of_type : ℕ → List Number → List DbKey
keys_of_type t numbers = map (key_of numbers t) (numbers_where is_used numbers)

-- the first key of type r with these CALC values
abbrev pub calc_found : ℕ → List Value → List Number → Result DbKey Cause
calc_found r values numbers = found_unless None (option_map (key_of numbers r) (first (numbers_where (has_values values) numbers))) NoneSatisfies

-- the next key of type r with the CALC values of k
abbrev pub duplicate_found : ℕ → List Number → DbKey → Result DbKey Cause
duplicate_found r numbers k =
    found_unless (first_cause ((is_none (values_of_key numbers k), Deleted) ∷ []))
    (option_map (key_of numbers r) (first (filter (nat_lt k.number) (numbers_where (has_values (unwrap_or (values_of_key numbers k) [])) numbers)))) End

-- the number above which the keys of its type come after k
abbrev pub number_above : List Number → DbKey → ℕ
number_above numbers k = if nat_lt k.generation (last_of k.number numbers) then k.number - 1 else k.number

-- the number below which the keys of its type come before k
abbrev pub number_below : List Number → DbKey → ℕ
number_below numbers k = if nat_lt (last_of k.number numbers) k.generation then k.number + 1 else k.number

-- AREAS

-- t is a type of area a, and the named one if one is named
abbrev pub is_wanted : Lists → Option ℕ → ℕ → ℕ → Bool
is_wanted schema None a t = area_of schema t == a
is_wanted schema (Some r) a t = t == r

-- the live keys of type t, if it is such a type, read from the held cells
abbrev pub keys_wanted : Lists → Hands → Option ℕ → ℕ → ℕ → List DbKey
keys_wanted schema hands r a t = if is_wanted schema r a t then keys_of_type t (numbers_in hands t) else []

-- the live keys of an area, read from the held cells, in key order
abbrev pub area_keys_in : Lists → Hands → Option ℕ → ℕ → List DbKey
area_keys_in schema hands r a = flat_map (keys_wanted schema hands r a) (range_with_len 0 (length schema.types))

-- k comes after the bound, if there is one
abbrev pub is_above : Option DbKey → DbKey → Bool
is_above None k = true
is_above (Some bound) k = key_below bound k

-- k comes before the bound, if there is one
abbrev pub is_below : Option DbKey → DbKey → Bool
is_below None k = true
is_below (Some bound) k = key_below k bound

-- THE STATEMENT

-- the key that a FIND finds, or the cause if it finds none
abbrev pub found_in : Lists → Unit → Hands → Form → Result DbKey Cause
found_in schema unit hands (Key k) = stored_or NoneSatisfies hands k
found_in schema unit hands CurrentOfUnit = with_current unit.currency.run_unit (stored_or Deleted hands)
found_in schema unit hands (CurrentOfType r) = with_current (at unit.currency.types r) (stored_or Deleted hands)
found_in schema unit hands (CurrentOfSet s) = with_current (option_and_then key_of_place (place_in schema unit s)) (stored_or Deleted hands)
found_in schema unit hands (CurrentOfArea a) = with_current (at unit.currency.areas a) (stored_or Deleted hands)
found_in schema unit hands (InSet which r s) = with_current (place_in schema unit s) (λ place. member_found which r place.at (occurrence_in hands s place.owner))
found_in schema unit hands (InArea which r a) = found_unless None (chosen_by_key which (at unit.currency.areas a) (area_keys_in schema hands r a)) End
found_in schema unit hands (OwnerOf s) = with_current (option_and_then (λ place. key_of_owner place.owner) (place_in schema unit s)) (stored_or Deleted hands)
found_in schema unit hands (Calc r values) = calc_found r values (numbers_in hands r)
found_in schema unit hands (NextDuplicate r) = with_current (at unit.currency.types r) (duplicate_found r (numbers_in hands r))
found_in schema unit hands (Sorted s v) = with_current (place_in schema unit s) (λ place. sorted_found v (occurrence_in hands s place.owner))

-- the first cell that is not held, among those by which the record is found and then the slot of what is found
abbrev pub next_cell_in : Lists → Unit → Hands → Form → Option CellName
next_cell_in schema unit hands form = first_missing hands (cells_to_find schema unit form ++ found_slot (found_in schema unit hands form))

-- the owners of the held record k, one entry for each set
abbrev pub owners_in : Hands → DbKey → List (Option Owner)
owners_in hands k = unwrap_or (option_map (λ r. r.owners) (stored_in hands k)) []

-- what is done with what is found
abbrev pub plan_of_found : Hands → Suppress → Result DbKey Cause → Plan
plan_of_found hands suppress (Ok k) = done_plan (See k (take MOST_SETS (owners_in hands k)) suppress) (Some k) None
plan_of_found hands suppress (Err cause) = refusal cause
