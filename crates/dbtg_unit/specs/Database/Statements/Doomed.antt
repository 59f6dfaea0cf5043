-- Which records a DELETE takes.
-- k is a key, m a member, o an owner, s a set, db a database.
use Rattle.std.specs.Prelude.{ℕ, Bool, true, false, not, ◌&&◌, ◌||◌, ◌==◌, List, length}
use Rattle.std.specs.List.{list_any, range_with_len, flat_map}
use Rattle.dbtg_schema.specs.Lists.{Lists}
use Rattle.dbtg_schema.specs.Closure.{least_closed}
use Rattle.dbtg_cells.specs.declared.key.DbKey.{DbKey}
use Rattle.dbtg_cells.specs.declared.key.Owner.{Owner}
use Rattle.dbtg_cells.specs.declared.key.Owner.TheVariants.{Rec}
use Rattle.dbtg_cells.specs.Keys.{key_eq, owner_eq}
use Rattle.dbtg_unit.specs.declared.statement.Erase.{Erase}
use Rattle.dbtg_unit.specs.declared.statement.Erase.TheVariants.{Plain, Only, Selective, All}
use Rattle.dbtg_schema.specs.Lookups.{some_and}
use Rattle.dbtg_unit.specs.Database.State.Base.{Database, owners, members_of, is_member, live_keys}
use Rattle.dbtg_schema.specs.Structure.{is_mandatory, member_clause, set_numbers}

-- every live key, in key order
abbrev pub all_keys : Lists → ℕ → Database → List DbKey
all_keys schema capacity db = flat_map (live_keys capacity db) (range_with_len 0 (length schema.types))

-- m is a member of some list other than o's list of s
abbrev pub is_elsewhere : Lists → ℕ → Database → ℕ → Owner → DbKey → Bool
is_elsewhere schema capacity db s o m =
    list_any (λ s'. list_any (λ o'. not (s' == s && owner_eq o' o) && is_member m (members_of db s' o')) (owners schema capacity db s')) (set_numbers schema)

-- whether the option takes m, a member of a list of set s, given whether m is a member of another list
abbrev pub takes_member : Lists → Erase → ℕ → Bool → DbKey → Bool
takes_member schema Plain s elsewhere m = false
takes_member schema Only s elsewhere m = some_and (λ c. is_mandatory c.class) (member_clause schema s m.rtype)
takes_member schema Selective s elsewhere m = some_and (λ c. is_mandatory c.class || not elsewhere) (member_clause schema s m.rtype)
takes_member schema All s elsewhere m = true

-- whether the option takes m, a member of o's list of s
abbrev pub takes : Lists → ℕ → Database → Erase → ℕ → Owner → DbKey → Bool
takes schema capacity db option s o m = takes_member schema option s (is_elsewhere schema capacity db s o m) m

-- the option takes m with o
abbrev pub drags : Lists → ℕ → Database → Erase → DbKey → DbKey → Bool
drags schema capacity db option o m =
    list_any (λ s. is_member m (members_of db s (Rec o)) && takes schema capacity db option s (Rec o) m) (set_numbers schema)

-- the least set that has k and, with each key in it, those that the option takes with it
abbrev pub doomed : Lists → ℕ → Database → Erase → DbKey → List DbKey
doomed schema capacity db option k = least_closed (drags schema capacity db option) (key_eq k) (all_keys schema capacity db)
