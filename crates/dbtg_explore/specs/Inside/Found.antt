-- Orders that were found, each under its key; and places of orders, each under its text.
-- K is what keys are.
use Rattle.std.specs.Prelude.{ℕ, ◌≡◌, List, [], ◌∷◌, ◌++◌, ◌⊎◌, Contains, map, slice_index_or}

pub record FoundOrders (K : Type 0) : Type 0 where
  pub keys : List K
  pub orders : List (List ℕ)

-- an order is appended under a new key
pub record IsPut {K : Type 0} (old : FoundOrders K) (key : K) (order : List ℕ) (new : FoundOrders K) : Type 0 where
  pub absent : Contains old.keys key → ⊥
  pub keys_are : new.keys ≡ old.keys ++ key ∷ []
  pub orders_are : new.orders ≡ old.orders ++ order ∷ []

-- the order is appended, or its key is already there
abbrev pub IsEntered : {K : Type 0} → FoundOrders K → K → List ℕ → FoundOrders K → Type 0
IsEntered {K} old key order new = (Contains old.keys key × (new ≡ old)) ⊎ IsPut old key order new

-- PLACES OF ORDERS

-- texts, and the place of an order for each
pub record FoundPlaces : Type 0 where
  pub texts : List (List ℕ)
  pub places : List ℕ

-- the orders at these places, among those that are found
abbrev pub orders_at : List (List ℕ) → List ℕ → List (List ℕ)
orders_at os places = map (λ place. slice_index_or os place []) places

-- each order under its text
abbrev pub orders_by_text : List (List ℕ) → FoundPlaces → FoundOrders (List ℕ)
orders_by_text os found = record { keys = found.texts; orders = orders_at os found.places }

-- a place is appended under a new text
pub record IsPutAt (old : FoundPlaces) (text : List ℕ) (place : ℕ) (new : FoundPlaces) : Type 0 where
  pub absent : Contains old.texts text → ⊥
  pub texts_are : new.texts ≡ old.texts ++ text ∷ []
  pub places_are : new.places ≡ old.places ++ place ∷ []

-- the place is appended, or its text is already there
abbrev pub IsEnteredAt : FoundPlaces → List ℕ → ℕ → FoundPlaces → Type 0
IsEnteredAt old text place new = (Contains old.texts text × (new ≡ old)) ⊎ IsPutAt old text place new
