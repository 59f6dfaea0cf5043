-- How far the code has gone through the states.
-- m is a meeting, i is the place of an order that is found.
use Rattle.std.specs.Prelude.{ℕ, ◌+◌, ◌<◌, ◌≤◌, length, take}
use Rattle.dbtg_explore.specs.declared.ends.Ends as ends
use Rattle.dbtg_explore.specs.declared.search.Search as search
use Rattle.dbtg_explore.specs.Inside.Ends.{AreEndsOf}
use Rattle.dbtg_explore.specs.Inside.Steps.{IsAt}
use Rattle.dbtg_explore.specs.Orders.{Meeting}

-- the search has gone on from the states before place i, and their ends are noted
pub record IsVisited (m : Meeting) (i : ℕ) (s : search.Search) (e : ends.Ends) : Type 0 where
  pub at : IsAt m i 0 s
  pub ends : AreEndsOf m s.found.orders (take i s.found.orders) e

-- and now from the state at place i too
pub record HasVisited (m : Meeting) (i : ℕ) (s : search.Search) (e : ends.Ends) : Type 0 where
  pub visited : IsVisited m (i + 1) s e
  pub within : i < length s.found.orders

-- and from all states, which are no more than the limit
pub record IsThrough (m : Meeting) (limit : ℕ) (s : search.Search) (e : ends.Ends) : Type 0 where
  pub visited : IsVisited m (length s.found.orders) s e
  pub few : length s.found.orders ≤ limit
