-- Ways round in a graph.
-- es are the edges of a graph, i, j and k states, u a unit.
use Rattle.std.specs.Prelude.{ℕ, ◌≡◌, ◌<◌, List, [], ◌∷◌, Contains, length}
use Rattle.dbtg_rounds.specs.declared.edge.Edge.{Edge}

-- each edge is among this many states
abbrev pub AreWithin : ℕ → List Edge → Type 0
AreWithin states es = (e : Edge) → Contains es e → (e.from < states) × (e.to < states)

-- a turn of the unit leads from i to j
abbrev pub HasEdge : List Edge → ℕ → ℕ → ℕ → Type 0
HasEdge es i u j = Contains es (record { from = i; unit = u; to = j })

-- turns of these units, one after another, lead from i to j
unfoldable pub Leads : List Edge → ℕ → List ℕ → ℕ → Type 0
Leads es i [] j = i ≡ j
Leads es i (u ∷ us) j = (k : ℕ) × HasEdge es i u k × Leads es k us j

-- turns that lead from a state back to it, one of each unit among them that can have one in that state
pub record IsRound (es : List Edge) (start : ℕ) (units : List ℕ) : Type 0 where
  pub goes : 0 < length units
  pub comes_back : Leads es start units start
  pub fair : (u j : ℕ) → HasEdge es start u j → Contains units u
