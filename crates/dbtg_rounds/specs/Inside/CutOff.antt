-- Turns to which no walk leads.
-- es are the edges of a graph, marks say of each state whether it is marked, i is a state, u a unit.
use Rattle.std.specs.Prelude.{ℕ, ◌≡◌, Bool, List, Contains}
use Rattle.dbtg_rounds.specs.Rounds.{HasEdge}
use Rattle.dbtg_rounds.specs.declared.edge.Edge.{Edge}
use Rattle.dbtg_rounds.specs.Inside.Reaching.{IsIn, LeadsIn}

-- no walk by way of marked states leads from i to a turn of the unit that ends in a marked state
abbrev pub IsCutOff : List Edge → List Bool → ℕ → ℕ → Type 0
IsCutOff es marks i u = (us : List ℕ) (e : Edge) → LeadsIn es marks i us e.from → Contains es e → IsIn marks e.to → e.unit ≡ u → ⊥

-- a unit that can have a turn in the first state, and a marked state from which it is cut off
pub record HasCutOff (es : List Edge) (marks : List Bool) (start : ℕ) : Type 0 where
  pub unit : ℕ
  pub to : ℕ
  pub has : HasEdge es start unit to
  pub at : ℕ
  pub marked : IsIn marks at
  pub is_cut_off : IsCutOff es marks at unit
