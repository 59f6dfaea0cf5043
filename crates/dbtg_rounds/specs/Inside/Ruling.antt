-- States in which no way round begins, as ranks show that do not rise along any edge.
-- es are the edges of a graph, i is a state, u a unit.
use Rattle.std.specs.Prelude.{ℕ, ◌≡◌, ◌≤◌, Bool, List, Contains, slice_index}
use Rattle.dbtg_rounds.specs.declared.edge.Edge.{Edge}
use Rattle.dbtg_rounds.specs.Rounds.{IsRound}
use Rattle.dbtg_rounds.specs.Inside.Reaching.{IsIn}

-- the rank of a state
abbrev pub rank_of : List ℕ → ℕ → ℕ
rank_of ranks i = slice_index ranks i

-- no edge leads to a higher rank
abbrev pub AreFalling : List ℕ → List Edge → Type 0
AreFalling ranks es = (e : Edge) → Contains es e → rank_of ranks e.to ≤ rank_of ranks e.from

-- no edge of the unit stays on a rank that is marked
abbrev pub AreLeft : List ℕ → List Edge → ℕ → List Bool → Type 0
AreLeft ranks es u left = (e : Edge) → Contains es e → e.unit ≡ u → rank_of ranks e.to ≡ rank_of ranks e.from → IsIn left (rank_of ranks e.from) → ⊥

-- no way round begins in a state that is marked
abbrev pub AreRuled : List Edge → List Bool → Type 0
AreRuled es ruled = (start : ℕ) (units : List ℕ) → IsIn ruled start → IsRound es start units → ⊥

-- the unit can have a turn in the state, whose rank is marked
pub record LeavesRank (ranks : List ℕ) (es : List Edge) (u : ℕ) (left : List Bool) (i : ℕ) : Type 0 where
  pub edge : Edge
  pub has : Contains es edge
  pub unit_is : edge.unit ≡ u
  pub from_is : edge.from ≡ i
  pub marked : IsIn left (rank_of ranks i)
