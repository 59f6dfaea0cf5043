-- Two databases with the same keys and items answer alike, whatever their versions.
-- k, m and x are keys, s a set, o an owner, t a record type.
use Rattle.std.proofs.Common.{◌≡◌, ℕ, not, ◌&&◌, List, [], ◌∷◌, Option, None, length, map, refl}
use Rattle.std.specs.Prelude.{◌==◌, Ok, Err, filter, if◌then◌else◌, is_none, is_some, option_and_then, option_map, unwrap_or}
use Rattle.std.specs.List.{find, flat_map, list_any, range_with_len}
use Rattle.dbtg_schema.specs.Lists.{Lists}
use Rattle.dbtg_schema.specs.Closure.{least_closed}
use Rattle.dbtg_schema.specs.Lookups.{at, first, first_cause, some_and}
use Rattle.dbtg_schema.specs.Structure.{is_system, owner_type, set_numbers, types_in}
use Rattle.dbtg_cells.specs.declared.key.DbKey.{DbKey}
use Rattle.dbtg_cells.specs.declared.key.Owner.{Owner}
use Rattle.dbtg_cells.specs.declared.key.Owner.TheVariants.{System, Rec}
use Rattle.dbtg_cells.specs.declared.key.Value.{Value}
use Rattle.dbtg_cells.specs.Keys.{has_type, key_below, key_eq, option_value_eq, owner_eq, value_eq, values_eq}
use Rattle.dbtg_cells.specs.Members.{is_left_out}
use Rattle.dbtg_unit.specs.declared.statement.Erase.{Erase}
use Rattle.dbtg_unit.specs.declared.statement.Form.{Form}
use Rattle.dbtg_unit.specs.declared.statement.Form.TheVariants.{Key, CurrentOfUnit, CurrentOfType, CurrentOfSet, CurrentOfArea, InSet, InArea, OwnerOf, Calc, NextDuplicate, Sorted}
use Rattle.dbtg_unit.specs.declared.statement.Suppress.{Suppress}
use Rattle.dbtg_unit.specs.declared.unit.Cause.TheVariants.{Deleted, End, NoneSatisfies}
use Rattle.dbtg_unit.specs.declared.unit.Unit.{Unit}
use Rattle.dbtg_unit.specs.Database.State.Base.{Database, Record, calc_items, free_number, is_live, is_member, is_unspent, items_of, key_at, key_item, live_keys, members_of, new_key, owner_of, owners, sort_key, version_of}
use Rattle.dbtg_unit.specs.Database.State.Units.{key_of_place, place_in, seen, seen_with}
use Rattle.dbtg_unit.specs.Database.Statements.Doomed.{all_keys, doomed, is_elsewhere, takes_member}
use Rattle.dbtg_unit.specs.Database.Statements.Found.{chosen_by_key, found, found_unless, with_calc, with_current}
use Rattle.dbtg_unit.specs.Database.Statements.StoredFacts.{whole}

module _ (schema : Lists) (capacity : ℕ) (db : Database) (records : DbKey → Option Record)
    (live : (k : DbKey) → is_live db k ≡ is_some (records k))
    (items : (k : DbKey) → items_of db k ≡ unwrap_or (option_map (λ r. r.items) (records k)) []) where
  -- the database with these records
  abbrev pub eb : Database
  eb = record db { records = records }

  keys_are : (t : ℕ) → live_keys capacity db t ≡ live_keys capacity eb t
  keys_are t = λ i. filter (λ k. live k i) (map (key_at db t) (range_with_len 1 capacity))

  pub free_is : (t : ℕ) → free_number capacity db t ≡ free_number capacity eb t
  free_is t = λ i. first (filter (λ n. not (live (key_at db t n) i) && is_unspent db t n) (range_with_len 1 capacity))

  pub owners_are : (s : ℕ) → owners schema capacity db s ≡ owners schema capacity eb s
  owners_are s = λ i. if is_system schema s then System ∷ [] else unwrap_or (option_map (λ t. map Rec (keys_are t i)) (owner_type schema s)) []

  pub owner_is : (s : ℕ) (k : DbKey) → owner_of schema capacity db s k ≡ owner_of schema capacity eb s k
  owner_is s k = λ i. find (λ o. is_member k (members_of db s o)) (owners_are s i)

  pub sort_key_is : (s : ℕ) (x : DbKey) → sort_key schema db s x ≡ sort_key schema eb s x
  sort_key_is s x = λ i. key_item schema s x.rtype (items x i)

  calc_is : (t : ℕ) (values : List Value) → with_calc schema capacity db t values ≡ with_calc schema capacity eb t values
  calc_is t values = λ i. filter (λ k. values_eq (calc_items schema t (items k i)) values) (keys_are t i)

  pub all_are : all_keys schema capacity db ≡ all_keys schema capacity eb
  all_are = λ i. flat_map (λ t. keys_are t i) (range_with_len 0 (length schema.types))

  pub whole_is : record (whole schema capacity db) { version = version_of eb } ≡ whole schema capacity eb
  whole_is =
      λ i. record {
        is_live = λ k. live k i;
        items = λ k. items k i;
        version = version_of eb;
        owner = λ s k. owner_is s k i;
        is_absent = λ s o. is_none (db.lists s o);
        members = members_of db;
        has_sort_key = λ s o left v. list_any (λ x. not (is_left_out left x) && option_value_eq (sort_key_is s x i) v) (members_of db s o);
        is_full = λ t. is_none (free_is t i);
        fresh = λ t. new_key db t (unwrap_or (free_is t i) 0);
        has_calc = λ t values left. list_any (λ x. not (is_left_out left x)) (calc_is t values i);
        users = db.usage;
      }

  -- what is current of a unit after a FIND or STORE, whatever it keeps
  pub seen_is : (unit : Unit) (kept : List (DbKey × ℕ)) (k : DbKey) (suppress : Suppress) → (seen schema capacity db unit k suppress).currency ≡ (seen schema capacity eb (record unit { kept = kept }) k suppress).currency
  seen_is unit kept k suppress = λ i. (seen_with schema unit k (map (λ s. owner_is s k i) (set_numbers schema)) suppress).currency

  elsewhere_is : (s : ℕ) (o : Owner) (m : DbKey) → is_elsewhere schema capacity db s o m ≡ is_elsewhere schema capacity eb s o m
  elsewhere_is s o m = λ i. list_any (λ s'. list_any (λ o'. not (s' == s && owner_eq o' o) && is_member m (members_of db s' o')) (owners_are s' i)) (set_numbers schema)

  pub doomed_is : (option : Erase) (k : DbKey) → doomed schema capacity db option k ≡ doomed schema capacity eb option k
  doomed_is option k =
      λ i. least_closed (λ o m. list_any (λ s. is_member m (members_of db s (Rec o)) && takes_member schema option s (elsewhere_is s (Rec o) m i) m) (set_numbers schema)) (key_eq k) (all_are i)

  -- what a FIND finds, whatever the unit keeps
  pub found_is : (unit : Unit) (kept : List (DbKey × ℕ)) (form : Form) → found schema capacity db unit form ≡ found schema capacity eb (record unit { kept = kept }) form
  found_is unit kept (Key k) = λ i. if live k i then Ok k else Err NoneSatisfies
  found_is unit kept CurrentOfUnit = λ i. with_current unit.currency.run_unit (λ k. if live k i then Ok k else Err Deleted)
  found_is unit kept (CurrentOfType r) = λ i. with_current (at unit.currency.types r) (λ k. if live k i then Ok k else Err Deleted)
  found_is unit kept (CurrentOfArea a) = λ i. with_current (at unit.currency.areas a) (λ k. if live k i then Ok k else Err Deleted)
  found_is unit kept (CurrentOfSet s) = λ i. with_current (option_and_then key_of_place (place_in schema unit s)) (λ k. if live k i then Ok k else Err Deleted)
  found_is unit kept (InSet which r s) = refl
  found_is unit kept (InArea which r a) = λ i. found_unless None (chosen_by_key which (at unit.currency.areas a) (filter (has_type r) (flat_map (λ t. keys_are t i) (types_in schema a)))) End
  found_is unit kept (OwnerOf s) = λ i. with_current (option_and_then (λ place. key_of_place (record place { at = None })) (place_in schema unit s)) (λ k. if live k i then Ok k else Err Deleted)
  found_is unit kept (Calc r values) = λ i. found_unless None (first (calc_is r values i)) NoneSatisfies
  found_is unit kept (NextDuplicate r) = λ i. with_current (at unit.currency.types r) (λ k.
      found_unless (first_cause ((not (live k i), Deleted) ∷ []))
      (first (filter (key_below k) (filter (λ x. values_eq (calc_items schema r (items x i)) (calc_items schema r (items k i))) (keys_are r i)))) End)
  found_is unit kept (Sorted s value) = λ i. with_current (place_in schema unit s) (λ place.
      found_unless (first_cause ((is_none (db.lists s place.owner), Deleted) ∷ []))
      (find (λ k. some_and (value_eq value) (sort_key_is s k i)) (members_of db s place.owner)) NoneSatisfies)
