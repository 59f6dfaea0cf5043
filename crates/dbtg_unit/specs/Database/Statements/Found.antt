-- What each form of FIND finds.
-- k is a key, p a position, s a set, r a record type, a an area, db a database.
use Rattle.std.specs.Prelude.{ℕ, Bool, true, false, not, ◌&&◌, List, [], ◌∷◌, Option, Some, None, Result, Ok, Err, is_none, filter, if◌then◌else◌, option_and_then}
use Rattle.std.specs.List.{find, flat_map}
use Rattle.dbtg_schema.specs.Lists.{Lists}
use Rattle.dbtg_cells.specs.declared.key.DbKey.{DbKey}
use Rattle.dbtg_cells.specs.declared.key.Value.{Value}
pub use Rattle.dbtg_cells.specs.Keys.{has_type}
use Rattle.dbtg_cells.specs.Keys.{key_eq, key_below, value_eq, values_eq}
use Rattle.dbtg_unit.specs.declared.statement.Which.{Which}
use Rattle.dbtg_unit.specs.declared.statement.Which.TheVariants.{First, Last, Next, Prior, Nth}
use Rattle.dbtg_unit.specs.declared.statement.Form.{Form}
use Rattle.dbtg_unit.specs.declared.statement.Form.TheVariants.{Key, CurrentOfUnit, CurrentOfType, CurrentOfSet, CurrentOfArea, InSet, InArea, OwnerOf, Calc, NextDuplicate, Sorted}
use Rattle.dbtg_unit.specs.declared.unit.Unit.{Unit}
use Rattle.dbtg_unit.specs.declared.unit.Cause.{Cause}
use Rattle.dbtg_unit.specs.declared.unit.Cause.TheVariants.{NoSuchCurrent, End, Deleted, PositionLost, NoneSatisfies}
use Rattle.dbtg_schema.specs.Lookups.{at, first, final, behind, in_front, nth, some_and, first_cause}
use Rattle.dbtg_unit.specs.Database.State.Base.{Database, is_live, items_of, live_keys, members_of, is_member, calc_items, sort_key}
use Rattle.dbtg_unit.specs.Database.State.Units.{place_in, key_of_place}
use Rattle.dbtg_schema.specs.Structure.{types_in}

-- a position that names a key that is no longer in the list
abbrev pub is_lost : Option DbKey → List DbKey → Bool
is_lost None list = false
is_lost (Some p) list = not (is_member p list)

-- NEXT and PRIOR go on from the position
abbrev pub needs_position : Which → Bool
needs_position First = false
needs_position Last = false
needs_position Next = true
needs_position Prior = true
needs_position (Nth n) = false

-- the members after the position, and those before it. At the owner, all are after it, and all before it
abbrev pub later : Option DbKey → List DbKey → List DbKey
later None list = list
later (Some p) list = behind (key_eq p) list

-- those before it
abbrev pub earlier : Option DbKey → List DbKey → List DbKey
earlier None list = list
earlier (Some p) list = in_front (key_eq p) list

-- the member of a list, from a position, among those that pass the test
abbrev pub chosen : Which → (DbKey → Bool) → Option DbKey → List DbKey → Option DbKey
chosen First test at list = first (filter test list)
chosen Last test at list = final (filter test list)
chosen Next test at list = first (filter test (later at list))
chosen Prior test at list = final (filter test (earlier at list))
chosen (Nth n) test at list = nth n (filter test list)

-- the live keys of the area's types, or of the named one, in key order
abbrev pub keys_in_area : Lists → ℕ → Database → Option ℕ → ℕ → List DbKey
keys_in_area schema capacity db r a = filter (has_type r) (flat_map (live_keys capacity db) (types_in schema a))

-- the key of a list in key order, from a current that may be gone
abbrev pub chosen_by_key : Which → Option DbKey → List DbKey → Option DbKey
chosen_by_key First current keys = first keys
chosen_by_key Last current keys = final keys
chosen_by_key Next current keys = first (filter (λ k. some_and (λ c. key_below c k) current) keys)
chosen_by_key Prior current keys = final (filter (λ k. some_and (λ c. key_below k c) current) keys)
chosen_by_key (Nth n) current keys = nth n keys

-- the keys of type r with these CALC items, in key order
abbrev pub with_calc : Lists → ℕ → Database → ℕ → List Value → List DbKey
with_calc schema capacity db r values = filter (λ k. values_eq (calc_items schema r (items_of db k)) values) (live_keys capacity db r)

-- the key that is there, if the conditions all fail; otherwise the first cause
abbrev pub found_unless : Option Cause → Option DbKey → Cause → Result DbKey Cause
found_unless (Some cause) key none = Err cause
found_unless None (Some key) none = Ok key
found_unless None None none = Err none

-- for a needed current. A FIND whose current is null is refused before it looks (`find_lacks_current`)
abbrev pub with_current : {X : Type 0} → Option X → (X → Result DbKey Cause) → Result DbKey Cause
with_current None f = Err NoSuchCurrent
with_current (Some x) f = f x

-- the key that a FIND finds, or the cause if it finds none
abbrev pub found : Lists → ℕ → Database → Unit → Form → Result DbKey Cause
found schema capacity db unit (Key k) = if is_live db k then Ok k else Err NoneSatisfies
found schema capacity db unit CurrentOfUnit = with_current unit.currency.run_unit (λ k. if is_live db k then Ok k else Err Deleted)
found schema capacity db unit (CurrentOfType r) = with_current (at unit.currency.types r) (λ k. if is_live db k then Ok k else Err Deleted)
found schema capacity db unit (CurrentOfArea a) = with_current (at unit.currency.areas a) (λ k. if is_live db k then Ok k else Err Deleted)
found schema capacity db unit (CurrentOfSet s) = with_current (option_and_then key_of_place (place_in schema unit s)) (λ k. if is_live db k then Ok k else Err Deleted)
found schema capacity db unit (InSet which r s) = with_current (place_in schema unit s) (λ place.
    let list = members_of db s place.owner in
    found_unless (first_cause ((is_none (db.lists s place.owner), Deleted) ∷ (needs_position which && is_lost place.at list, PositionLost) ∷ []))
    (chosen which (has_type r) place.at list) End)
found schema capacity db unit (InArea which r a) = found_unless None (chosen_by_key which (at unit.currency.areas a) (keys_in_area schema capacity db r a)) End
found schema capacity db unit (OwnerOf s) = with_current (option_and_then (λ place. key_of_place (record place { at = None })) (place_in schema unit s)) (λ k. if is_live db k then Ok k else Err Deleted)
found schema capacity db unit (Calc r values) = found_unless None (first (with_calc schema capacity db r values)) NoneSatisfies
found schema capacity db unit (NextDuplicate r) = with_current (at unit.currency.types r) (λ k.
    found_unless (first_cause ((not (is_live db k), Deleted) ∷ []))
    (first (filter (key_below k) (with_calc schema capacity db r (calc_items schema r (items_of db k))))) End)
found schema capacity db unit (Sorted s value) = with_current (place_in schema unit s) (λ place.
    found_unless (first_cause ((is_none (db.lists s place.owner), Deleted) ∷ []))
    (find (λ k. some_and (value_eq value) (sort_key schema db s k)) (members_of db s place.owner)) NoneSatisfies)
