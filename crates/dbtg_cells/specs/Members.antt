-- The members of an occurrence.
use Rattle.std.specs.Prelude.{Bool, false, not, ◌&&◌, List, [], map, filter, Option, Some, None, option_map, unwrap_or}
use Rattle.dbtg_cells.specs.declared.key.DbKey.{DbKey}
use Rattle.dbtg_cells.specs.declared.key.Value.{Value}
use Rattle.dbtg_cells.specs.declared.ring.Occurrence.{Occurrence}
use Rattle.dbtg_cells.specs.Keys.{key_eq, is_member, option_value_eq}
use Rattle.dbtg_cells.specs.Shown.{RingView}

-- a member: its key, and its sort key where the set is sorted
abbrev pub Entry : Type 0
Entry = DbKey × Option Value

-- the members of an occurrence, in order; none if there is none
abbrev pub members_in : Option Occurrence → List Entry
members_in occurrence = unwrap_or (option_map (λ o. o.members) occurrence) []

-- the keys of the members, in order
abbrev pub keys_in : Option Occurrence → List DbKey
keys_in occurrence = map (λ e. e.0) (members_in occurrence)

-- the entry of k
abbrev pub has_key : DbKey → Entry → Bool
has_key k e = key_eq k e.0

-- the occurrence with its members changed
abbrev pub with_members : (List Entry → List Entry) → Option Occurrence → Option Occurrence
with_members change = option_map (λ o. record { owner = o.owner; members = change o.members })

-- there is room for the key, which is not a member
abbrev pub has_room : RingView → DbKey → Bool
has_room ring k = is_member k ring.reserved

-- the members without k
abbrev pub without_key : DbKey → List Entry → List Entry
without_key k = filter (λ e. not (has_key k e))

-- the one key that is left out, if there is one
abbrev pub is_left_out : Option DbKey → DbKey → Bool
is_left_out None k = false
is_left_out (Some left) k = key_eq left k

-- a member with this sort key, other than the one that is left out
abbrev pub has_sort_key : Option DbKey → Option Value → Entry → Bool
has_sort_key left key e = not (is_left_out left e.0) && option_value_eq e.1 key
