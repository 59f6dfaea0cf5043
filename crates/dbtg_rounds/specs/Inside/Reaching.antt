-- What can be reached by way of marked states, and walks there.
-- es are the edges of a graph, marks say of each state whether it is marked, i, j and k are states, u is a unit.
use Rattle.std.specs.Prelude.{ℕ, ◌≡◌, ◌<◌, ◌+◌, ◌++◌, ◌⊎◌, Bool, true, false, ◌==◌, List, [], ◌∷◌, Some, Contains, count_by, length, slice_get, slice_index_or, slice_set}
use Rattle.dbtg_rounds.specs.Rounds.{HasEdge}
use Rattle.dbtg_rounds.specs.declared.edge.Edge.{Edge}
use Rattle.dbtg_rounds.specs.declared.reach.Link.{Link}
use Rattle.dbtg_rounds.specs.declared.reach.Reached as given
use Rattle.dbtg_rounds.specs.declared.walk.Goal.{Goal}
use Rattle.dbtg_rounds.specs.declared.walk.Goal.TheVariants.{Unit, State}
use Rattle.dbtg_rounds.specs.declared.walk.Walk as given_walk

-- state i is marked
abbrev pub is_in : List Bool → ℕ → Bool
is_in marks i = slice_index_or marks i false

abbrev pub IsIn : List Bool → ℕ → Type 0
IsIn marks i = is_in marks i ≡ true

-- turns of these units lead from i to j, each to a marked state
unfoldable pub LeadsIn : List Edge → List Bool → ℕ → List ℕ → ℕ → Type 0
LeadsIn es marks i [] j = i ≡ j
LeadsIn es marks i (u ∷ us) j = (k : ℕ) × HasEdge es i u k × IsIn marks k × LeadsIn es marks k us j

-- the state at a place: the turn of its link led to it, in the state at an earlier place
pub record IsLinked (es : List Edge) (marks : List Bool) (states : List ℕ) (links : List Link) (place : ℕ) : Type 0 where
  pub link : Link
  pub link_is : slice_get links place ≡ Some link
  pub earlier : link.before < place + 1
  pub from : ℕ
  pub from_is : slice_get states link.before ≡ Some from
  pub to : ℕ
  pub to_is : slice_get states (place + 1) ≡ Some to
  pub has : HasEdge es from link.unit to
  pub marked : IsIn marks to

-- the states that are reached from the first, each with the turn that led to it, and just these seen
pub record IsReached (es : List Edge) (marks : List Bool) (start : ℕ) (r : given.Reached) : Type 0 where
  pub begins : slice_get r.states.items 0 ≡ Some start
  pub counted : length r.states.items ≡ length r.links.items + 1
  pub linked : (place : ℕ) → place < length r.links.items → IsLinked es marks r.states.items r.links.items place
  pub seen : (i : ℕ) → IsIn r.seen.items i → Contains r.states.items i
  pub met : (i : ℕ) → Contains r.states.items i → IsIn r.seen.items i

-- as many states are seen as are reached
abbrev pub AreCounted : given.Reached → Type 0
AreCounted r = count_by (λ (seen : Bool). seen) r.seen.items ≡ length r.states.items

-- the turn of a unit in the state at a place leads to a state that was not seen, which is appended
pub record IsAppended (before unit state : ℕ) (old new : given.Reached) : Type 0 where
  pub unseen : is_in old.seen.items state ≡ false
  pub seen_are : new.seen.items ≡ slice_set old.seen.items state true
  pub states_are : new.states.items ≡ old.states.items ++ state ∷ []
  pub links_are : new.links.items ≡ old.links.items ++ record { before = before; unit = unit } ∷ []

-- and if it was seen, nothing changes
abbrev pub Meets : ℕ → ℕ → ℕ → given.Reached → given.Reached → Type 0
Meets before unit state old new = (IsIn old.seen.items state × (new ≡ old)) ⊎ IsAppended before unit state old new

-- nothing is lost, and all that is added is linked
pub record Grows (es : List Edge) (marks : List Bool) (old new : given.Reached) : Type 0 where
  pub reached : (start : ℕ) → IsReached es marks start old → IsReached es marks start new
  pub counted : AreCounted old → AreCounted new
  pub long : length new.seen.items ≡ length old.seen.items
  pub seen : (i : ℕ) → IsIn old.seen.items i → IsIn new.seen.items i
  pub states : (place i : ℕ) → slice_get old.states.items place ≡ Some i → slice_get new.states.items place ≡ Some i

-- each marked state to which state i leads is seen
abbrev pub IsWidened : List Edge → List Bool → ℕ → given.Reached → Type 0
IsWidened es marks i r = (u j : ℕ) → HasEdge es i u j → IsIn marks j → IsIn r.seen.items j

-- GOALS

-- a walk that ends with this edge reaches the goal
abbrev pub meets : Goal → Edge → Bool
meets (Unit u) e = e.unit == u
meets (State i) e = e.to == i

-- turns that lead to a state have reached the goal
abbrev pub has_met : Goal → List ℕ → ℕ → Type 0
has_met (Unit u) us j = Contains us u
has_met (State i) us j = j ≡ i

-- further turns were taken
pub record GoesOn (es : List Edge) (marks : List Bool) (old new : given_walk.Walk) : Type 0 where
  pub further : List ℕ
  pub units_are : new.units.items ≡ old.units.items ++ further
  pub leads : LeadsIn es marks old.end further new.end
  pub marked : IsIn marks new.end
