-- What a search holds, stated for whatever it needs of orders: which there are, what can follow one, and the state to which one leads.
-- o and p are orders, u and v units, found are the orders that are found, i is the place of one of them, e is a turn from one to another.
use Rattle.std.specs.Prelude.{ℕ, ◌≡◌, ◌<◌, ◌≤◌, Bool, true, List, [], ◌∷◌, ◌++◌, Contains, length, slice_index_or}
use Rattle.dbtg_rounds.specs.Rounds.{HasEdge}
use Rattle.dbtg_rounds.specs.declared.edge.Edge.{Edge}
use Rattle.dbtg_explore.specs.Orders.{IsBefore, IsNoLater}
use Rattle.dbtg_explore.specs.Pairwise.{ArePairwise}

-- an order that was found leads to the same state, and is no later
pub record HasFirst {S : Type 0} (state : List ℕ → S) (found : List (List ℕ)) (o : List ℕ) : Type 0 where
  pub first : List ℕ
  pub is_found : Contains found first
  pub same : state first ≡ state o
  pub no_later : IsNoLater first o

-- two orders lead to different states
abbrev pub LeadApart : {S : Type 0} → (List ℕ → S) → List ℕ → List ℕ → Type 0
LeadApart state o p = state o ≡ state p → ⊥

-- a turn after the order at one place leads to the state of the order at another, which is no later
pub record IsTurn {S : Type 0} (can : List ℕ → ℕ → Bool) (state : List ℕ → S) (found : List (List ℕ)) (e : Edge) : Type 0 where
  pub from_there : e.from < length found
  pub to_there : e.to < length found
  pub can_turn : can (slice_index_or found e.from []) e.unit ≡ true
  pub same : state (slice_index_or found e.to []) ≡ state (slice_index_or found e.from [] ++ e.unit ∷ [])
  pub no_later : IsNoLater (slice_index_or found e.to []) (slice_index_or found e.from [] ++ e.unit ∷ [])

-- the search is at place i and unit u: it has noted the turns of each unit after the orders at all earlier places, and of each unit below u
-- after this one
pub record IsUnderWay {S : Type 0} (IsOrder : List ℕ → Type 0) (can : List ℕ → ℕ → Bool) (state : List ℕ → S) (found : List (List ℕ)) (edges : List Edge) (i u : ℕ) : Type 0 where
  pub are_orders : (o : List ℕ) → Contains found o → IsOrder o
  pub apart : ArePairwise (LeadApart state) found
  pub in_order : ArePairwise IsBefore found
  pub begun : HasFirst state found []
  pub are_turns : (e : Edge) → Contains edges e → IsTurn can state found e
  pub behind : (j v : ℕ) → j < i → can (slice_index_or found j []) v ≡ true → (k : ℕ) × HasEdge edges j v k
  pub here : (v : ℕ) → v < u → can (slice_index_or found i []) v ≡ true → (k : ℕ) × HasEdge edges i v k
  pub earlier : (o : List ℕ) (v : ℕ) → i < length found → Contains found o → u ≤ v → IsBefore o (slice_index_or found i [] ++ v ∷ [])

-- RESULTS

-- of the orders seen, those that come to an end: the first for each text
pub record AreFirsts (IsEnd : List ℕ → Type 0) (text : List ℕ → List ℕ) (seen results : List (List ℕ)) : Type 0 where
  pub are_seen : (r : List ℕ) → Contains results r → Contains seen r
  pub ends : (r : List ℕ) → Contains results r → IsEnd r
  pub all : (o : List ℕ) → Contains seen o → IsEnd o → HasFirst text results o
  pub once : ArePairwise (LeadApart text) results
  pub in_order : ArePairwise IsBefore results
