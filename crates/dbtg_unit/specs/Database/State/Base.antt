-- The database.
-- k is a key, s a set, t a record type, n a number, o an owner, db a database.
use Rattle.std.specs.Prelude.{ℕ, ◌+◌, Bool, not, ◌&&◌, nat_lt, List, [], ◌∷◌, Option, Some, None, is_some, unwrap_or, option_map, option_and_then, map, filter, slice_index_or, if◌then◌else◌}
use Rattle.std.specs.List.{find, range_with_len}
use Rattle.dbtg_schema.specs.Lists.{Lists}
use Rattle.dbtg_cells.specs.declared.key.DbKey.{DbKey}
use Rattle.dbtg_cells.specs.declared.key.Owner.{Owner}
use Rattle.dbtg_cells.specs.declared.key.Owner.TheVariants.{System, Rec}
use Rattle.dbtg_cells.specs.declared.key.Value.{Value}
use Rattle.dbtg_cells.specs.declared.key.Value.TheVariants.{Num}
use Rattle.dbtg_cells.specs.declared.usage.Mode.{Mode}
pub use Rattle.dbtg_cells.specs.Keys.{is_member, picked}
use Rattle.dbtg_cells.specs.Keys.{owner_eq}
use Rattle.dbtg_cells.specs.declared.limits.TheConstants.{LAST_GENERATION}
use Rattle.dbtg_schema.specs.Lookups.{first}
use Rattle.dbtg_schema.specs.Structure.{calc_of, is_system, member_clause, owner_type}

-- a stored record
pub record Record : Type 0 where
  pub items : List Value
  pub version : ℕ

-- the records by key, the list of each occurrence by set and owner, the last generation of each number of a record
-- type (0: never used), and who has each area open, in the order of opening
pub record Database : Type 0 where
  pub records : DbKey → Option Record
  pub lists : ℕ → Owner → Option (List DbKey)
  pub last : ℕ → ℕ → ℕ
  pub usage : ℕ → List (ℕ × Mode)

-- WHAT A DATABASE HAS

-- a record has the key
abbrev pub is_live : Database → DbKey → Bool
is_live db k = is_some (db.records k)

-- the items of a record
abbrev pub items_of : Database → DbKey → List Value
items_of db k = unwrap_or (option_map (λ r. r.items) (db.records k)) []

-- the version of a record
abbrev pub version_of : Database → DbKey → ℕ
version_of db k = unwrap_or (option_map (λ r. r.version) (db.records k)) 0

-- the latest key of a number
abbrev pub key_at : Database → ℕ → ℕ → DbKey
key_at db t n = record { rtype = t; number = n; generation = db.last t n }

-- the number has a generation left
abbrev pub is_unspent : Database → ℕ → ℕ → Bool
is_unspent db t n = nat_lt (db.last t n) LAST_GENERATION

-- the least number of type t that no live record has and that has a generation left
abbrev pub free_number : ℕ → Database → ℕ → Option ℕ
free_number capacity db t = first (filter (λ n. not (is_live db (key_at db t n)) && is_unspent db t n) (range_with_len 1 capacity))

-- the key of a new record: the next generation of number n
abbrev pub new_key : Database → ℕ → ℕ → DbKey
new_key db t n = record { rtype = t; number = n; generation = db.last t n + 1 }

-- the live keys of type t, in key order
abbrev pub live_keys : ℕ → Database → ℕ → List DbKey
live_keys capacity db t = filter (is_live db) (map (key_at db t) (range_with_len 1 capacity))

-- the owners of set s, SYSTEM or the live keys of its owner type
abbrev pub owners : Lists → ℕ → Database → ℕ → List Owner
owners schema capacity db s =
    if is_system schema s then System ∷ [] else unwrap_or (option_map (λ t. map Rec (live_keys capacity db t)) (owner_type schema s)) []

-- the members of an occurrence, in order
abbrev pub members_of : Database → ℕ → Owner → List DbKey
members_of db s o = unwrap_or (db.lists s o) []

-- the owner whose list of set s has k
abbrev pub owner_of : Lists → ℕ → Database → ℕ → DbKey → Option Owner
owner_of schema capacity db s k = find (λ o. is_member k (members_of db s o)) (owners schema capacity db s)

-- the CALC items of a record of type t
abbrev pub calc_items : Lists → ℕ → List Value → List Value
calc_items schema t items = unwrap_or (option_map (λ calc. picked calc.items items) (calc_of schema t)) []

-- the key item in set s of a record of type t with these items, if the set is sorted
abbrev pub key_item : Lists → ℕ → ℕ → List Value → Option Value
key_item schema s t items = option_and_then (λ m. option_map (λ i. slice_index_or items i (Num 0)) m.key) (member_clause schema s t)

-- the key item of a stored record in set s, if the set is sorted
abbrev pub sort_key : Lists → Database → ℕ → DbKey → Option Value
sort_key schema db s k = key_item schema s k.rtype (items_of db k)

-- the opening database: no records, an empty list for each SYSTEM set, no number used, no area open
abbrev pub opening : Lists → Database
opening schema =
    record {
      records = λ k. None;
      lists = λ s o. if is_system schema s && owner_eq o System then Some [] else None;
      last = λ t n. 0;
      usage = λ a. [];
    }
