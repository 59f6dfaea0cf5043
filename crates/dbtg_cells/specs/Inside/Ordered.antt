-- The order of a ring's nodes, and the labels by which the place of a node is found.
use Rattle.std.specs.Prelude.{◌≡◌, ℕ, zero, suc, ◌<◌, ◌≤◌, ◌^◌, Bool, true, not, ◌==◌, nat_lt, List, length, Option, None, slice_get, slice_index, take, drop}
use Rattle.std.specs.List.{list_all}
use Rattle.dbtg_cells.specs.Inside.ByCalc.{is_rising}

-- the numbers of the nodes in their order; nodes below the room can come in without memory
pub record OrderView : Type 0 where
  pub nodes : List ℕ
  pub room : ℕ

-- the node before a place, if there is one
abbrev pub node_in_front : List ℕ → ℕ → Option ℕ
node_in_front nodes zero = None
node_in_front nodes (suc place) = slice_get nodes place

-- the last node
abbrev pub last_node : List ℕ → Option ℕ
last_node nodes = node_in_front nodes (length nodes)

-- the label of node i is below that of node j
abbrev pub label_below : List ℕ → ℕ → ℕ → Bool
label_below labels i j = nat_lt (slice_index labels i) (slice_index labels j)

-- each node of the list is below the room
abbrev pub are_below : ℕ → List ℕ → Bool
are_below room nodes = list_all (λ n. nat_lt n room) nodes

-- no node is listed twice
abbrev pub are_distinct : List ℕ → Bool
are_distinct nodes = is_rising (λ i j. not (i == j)) nodes

-- the label is above those before the place, and below those after it
pub record Fits (nodes labels : List ℕ) (place label : ℕ) : Type 0 where
  pub front : list_all (λ n. nat_lt (slice_index labels n) label) (take place nodes) ≡ true
  pub behind : list_all (λ n. nat_lt label (slice_index labels n)) (drop place nodes) ≡ true

-- the labels rise, each node has one, there is room to list every node that has one, and its number fits 32 bits
pub record IsOrdered (nodes labels : List ℕ) (capacity : ℕ) : Type 0 where
  pub rising : is_rising (label_below labels) nodes ≡ true
  pub below : are_below (length labels) nodes ≡ true
  pub room : length labels ≤ capacity
  pub numbers : length labels < 2 ^ 32
