-- Run-units: what is current, what is kept.
-- k is a key, s a set, o an owner, v a version, db a database.
use Rattle.std.specs.Prelude.{ℕ, ◌/◌, ◌%◌, ◌^◌, Bool, true, false, not, ◌==◌, List, [], ◌∷◌, ◌++◌, Option, Some, None, map, filter, length, replicate, slice_set, if◌then◌else◌, option_map}
use Rattle.std.specs.List.{find, enumerate_from}
use Rattle.std.specs.Option.{option_or}
use Rattle.dbtg_schema.specs.Lists.{Lists}
use Rattle.dbtg_cells.specs.declared.key.DbKey.{DbKey}
use Rattle.dbtg_cells.specs.declared.key.Owner.{Owner}
use Rattle.dbtg_cells.specs.declared.key.Owner.TheVariants.{System, Rec}
use Rattle.dbtg_cells.specs.Keys.{key_eq, key_below}
use Rattle.dbtg_unit.specs.declared.unit.Place.{Place}
use Rattle.dbtg_unit.specs.declared.unit.Unit.{Unit}
use Rattle.dbtg_unit.specs.declared.statement.Suppress.{Suppress}
use Rattle.dbtg_schema.specs.Lookups.{at}
use Rattle.dbtg_unit.specs.Database.State.Base.{Database, owner_of}
use Rattle.dbtg_schema.specs.Structure.{area_of, is_system, owns, set_numbers}

-- null everywhere, and no area open
abbrev pub opening_unit : Lists → ℕ → Unit
opening_unit schema number =
    record {
      number = number;
      currency = record {
        run_unit = None;
        types = replicate (length schema.types) None;
        areas = replicate (length schema.areas) None;
        sets = replicate (length schema.sets) None;
      };
      modes = replicate (length schema.areas) None;
      kept = [];
    }

-- the current of set s. A SYSTEM set with null is at SYSTEM
abbrev pub place_in : Lists → Unit → ℕ → Option Place
place_in schema unit s =
    option_or (at unit.currency.sets s) (if is_system schema s then Some (record { owner = System; at = None }) else None)

-- the key of an owner that is a record
abbrev pub key_of_owner : Owner → Option DbKey
key_of_owner System = None
key_of_owner (Rec k) = Some k

-- the record that a place names
abbrev pub key_of_place : Place → Option DbKey
key_of_place place = option_or place.at (key_of_owner place.owner)

-- set s is suppressed
abbrev pub suppresses : Suppress → ℕ → Bool
suppresses suppress s = (suppress.sets / 2 ^ s) % 2 == 1

-- the current of set s after a FIND or STORE of k: k as owner, or k in the list that has it; otherwise unchanged
abbrev pub seen_place : Option Place → Bool → DbKey → Option Owner → Option Place
seen_place was true k o = Some (record { owner = Rec k; at = None })
seen_place was false k (Some o) = Some (record { owner = o; at = Some k })
seen_place was false k None = was

-- the unit after a FIND or STORE of k, which has these owners, one entry for each set
abbrev pub seen_with : Lists → Unit → DbKey → List (Option Owner) → Suppress → Unit
seen_with schema unit k owners suppress =
    let was = unit.currency in
    record unit {
      currency = record {
        run_unit = Some k;
        types = if suppress.types then was.types else slice_set was.types k.rtype (Some k);
        areas = if suppress.areas then was.areas else slice_set was.areas (area_of schema k.rtype) (Some k);
        sets = map (λ e. if suppresses suppress e.0 then e.1 else seen_place e.1 (owns schema e.0 k.rtype) k (at owners e.0)) (enumerate_from 0 was.sets);
      };
    }

-- the owner of k in each set
abbrev pub owners_of : Lists → ℕ → Database → DbKey → List (Option Owner)
owners_of schema capacity db k = map (λ s. owner_of schema capacity db s k) (set_numbers schema)

-- the unit after a FIND or STORE of k in a database
abbrev pub seen : Lists → ℕ → Database → Unit → DbKey → Suppress → Unit
seen schema capacity db unit k suppress = seen_with schema unit k (owners_of schema capacity db k) suppress

-- the version that is kept of k
abbrev pub kept_version : Unit → DbKey → Option ℕ
kept_version unit k = option_map (λ e. e.1) (find (λ e. key_eq k e.0) unit.kept)

-- the kept list without k
abbrev pub forgotten : DbKey → List (DbKey × ℕ) → List (DbKey × ℕ)
forgotten k = filter (λ e. not (key_eq k e.0))

-- the kept list with k at version v, in key order
abbrev pub noted : DbKey → ℕ → List (DbKey × ℕ) → List (DbKey × ℕ)
noted k v kept = filter (λ e. key_below e.0 k) kept ++ (k, v) ∷ filter (λ e. key_below k e.0) kept
