-- The nodes of a ring by their places: their order, where they are by sort key, and what is known of all of them.
use Rattle.std.specs.Prelude.{◌≡◌, ℕ, ◌<◌, Bool, true, false, not, List, map, Option, Some}
use Rattle.std.specs.List.{position_or_len, list_all}
use Rattle.std.specs.Option.{option_map_or}
use Rattle.dbtg_schema.specs.declared.shape.Duplicates.{Duplicates}
use Rattle.dbtg_cells.specs.declared.key.DbKey.{DbKey}
use Rattle.dbtg_cells.specs.declared.key.Value.{Value}
use Rattle.dbtg_cells.specs.declared.sorted.SortedBy.{SortedBy}
use Rattle.dbtg_cells.specs.declared.sorted.SortFacts.{SortFacts}
use Rattle.dbtg_cells.specs.Keys.{has_type}
use Rattle.dbtg_cells.specs.Orders.{sort_key_below, comes_before}
use Rattle.dbtg_cells.specs.Members.{Entry}
use Rattle.dbtg_cells.specs.Inside.Chain.{Slots, Link, slot}
use Rattle.dbtg_cells.specs.Inside.SortedMembers.{is_of_kind, is_sorted, KeepsOrder}
use Rattle.dbtg_cells.specs.Inside.Ordered.{OrderView}

-- the member of a node comes before a new one with sort key m
abbrev pub stands_at : Bool → Duplicates → Option Value → Slots → ℕ → Bool
stands_at ascending duplicates m s at = option_map_or (λ n. comes_before ascending duplicates n.member.1 m) (slot s at) false

-- the member of a node has a sort key that comes before m
abbrev pub is_below_at : Bool → Option Value → Slots → ℕ → Bool
is_below_at ascending m s at = option_map_or (λ n. sort_key_below ascending n.member.1 m) (slot s at) false

-- the place of the first member whose sort key does not come before v, if members are sorted by keys of the kind of v
pub record IsPlaceFrom (v : Value) (ms : List Entry) (place : ℕ) : Type 0 where
  pub order : SortedBy
  pub sorted : is_sorted order ms ≡ true
  pub kind : is_of_kind order.kind (Some v) ≡ true
  pub at : place ≡ position_or_len (λ e. not (sort_key_below order.ascending e.1 (Some v))) ms

-- what is known of all members holds: how they are sorted, and that they have one record type
pub record Holds (noted : SortFacts) (ms : List Entry) : Type 0 where
  pub sorted : KeepsOrder noted.sorted ms
  pub types : list_all (λ e. has_type noted.rtype e.0) ms ≡ true

-- the order lists the links of a ring, and what is known of the members holds
pub record IsOrderOf (find : DbKey → Option ℕ) (chain : List Link) (order : OrderView) (noted : SortFacts) : Type 0 where
  -- the nodes of the chain, in order
  pub listed : order.nodes ≡ map (λ e. e.at) chain
  -- every node of the ring has room
  pub room : (k : DbKey) (i : ℕ) → find k ≡ Some i → i < order.room
  -- what is known of all members
  pub keeps : Holds noted (map (λ e. e.member) chain)
