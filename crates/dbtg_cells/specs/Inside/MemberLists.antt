-- What the list of members of a ring shows, and what a ring without one has.
use Rattle.std.specs.Prelude.{List, [], map, Option, option_map, unwrap_or}
use Rattle.dbtg_cells.specs.declared.key.DbKey.{DbKey}
use Rattle.dbtg_cells.specs.Members.{Entry}

-- the members, in order; the keys that are not members and for which there is room
pub record ListView : Type 0 where
  pub members : List Entry
  pub reserved : List DbKey

-- the keys of members
abbrev pub keys_of : List Entry → List DbKey
keys_of members = map (λ e. e.0) members

-- the members of a list; none if there is no list
abbrev pub members_of : Option ListView → List Entry
members_of list = unwrap_or (option_map (λ l. l.members) list) []

-- the keys for which a list has room; none if there is no list
abbrev pub reserved_of : Option ListView → List DbKey
reserved_of list = unwrap_or (option_map (λ l. l.reserved) list) []
