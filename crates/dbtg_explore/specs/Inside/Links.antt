-- Orders as links: what they stand for, and the way from one to another.
-- os are orders, o is an order, links are turns, each behind the order at its place.
use Rattle.std.specs.Prelude.{ℕ, ◌≡◌, ◌+◌, ◌<◌, ◌≤◌, List, [], ◌∷◌, ◌++◌, Some, length, map, slice_get, slice_index_or, take, ⊤}
use Rattle.dbtg_explore.specs.declared.orders.Link.{Link}
use Rattle.dbtg_explore.specs.declared.way.Way.{Way}

-- the order for which a link stands behind these
abbrev pub order_by : List (List ℕ) → Link → List ℕ
order_by os link = slice_index_or os link.before [] ++ link.unit ∷ []

-- these orders, and behind them those of links
abbrev pub orders_on : List (List ℕ) → List Link → List (List ℕ)
orders_on os [] = os
orders_on os (link ∷ links) = orders_on (os ++ order_by os link ∷ []) links

-- the empty order, and behind it those of links
abbrev pub orders_of : List Link → List (List ℕ)
orders_of links = orders_on ([] ∷ []) links

-- behind n orders, each link goes on from one before it
abbrev pub AreLinked : ℕ → List Link → Type 0
AreLinked n [] = ⊤
AreLinked n (link ∷ links) = (link.before < n) × AreLinked (n + 1) links

-- the link is the last turn of the order at a place
pub record IsLast (os : List (List ℕ)) (place : ℕ) (link : Link) : Type 0 where
  pub earlier : link.before < place
  pub order_is : slice_index_or os place [] ≡ order_by os link

-- TURNS ONE AFTER ANOTHER

-- their units
abbrev pub units_of : List Link → List ℕ
units_of links = map (λ l. l.unit) links

-- they go on from order o, each behind the order at its place
abbrev pub GoOn : List (List ℕ) → List ℕ → List Link → Type 0
GoOn os o [] = ⊤
GoOn os o (link ∷ links) = (slice_get os link.before ≡ Some o) × GoOn os (o ++ link.unit ∷ []) links

-- behind the first of the turns that were taken, as many as stay, the others lead to the order at the place
pub record IsWay (os : List (List ℕ)) (taken : List Link) (place : ℕ) (way : Way) : Type 0 where
  pub within : way.stay ≤ length taken
  pub go_on : GoOn os (units_of (take way.stay taken)) way.turns.items
  pub order_is : units_of (take way.stay taken) ++ units_of way.turns.items ≡ slice_index_or os place []
