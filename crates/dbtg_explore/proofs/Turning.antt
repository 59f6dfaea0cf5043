-- Orders, one after another.
-- m is a meeting, u a unit, us and vs are orders.
use Rattle.std.proofs.Common.{◌≡◌, ℕ, true, List, [], ◌∷◌, ◌++◌, refl, ◌∙◌}
use Rattle.dbtg_unit.specs.declared.unit.Entry.{Entry}
use Rattle.dbtg_explore.specs.Orders.{CanFollow, IsOrder, Meeting, after_order, after_turn, beginning, can_turn, history_of}

module _ (m : Meeting) where
  pub order_behind : (history : List Entry) (us vs : List ℕ) → after_order m history (us ++ vs) ≡ after_order m (after_order m history us) vs
  unfolding after_order
  order_behind history [] vs = refl
  order_behind history (u ∷ us) vs = order_behind (after_turn m history u) us vs

  pub no_turn : (history : List Entry) → after_order m history [] ≡ history
  unfolding after_order
  no_turn history = refl

  pub one_turn : (history : List Entry) (u : ℕ) → after_order m history (u ∷ []) ≡ after_turn m history u
  unfolding after_order
  one_turn history u = refl

  -- the history of an order with one more turn
  pub history_on : (us : List ℕ) (u : ℕ) → history_of m (us ++ u ∷ []) ≡ after_turn m (history_of m us) u
  history_on us u = order_behind (beginning m) us (u ∷ []) ∙ one_turn (history_of m us) u

  pub none_follow : (history : List Entry) → CanFollow m history []
  unfolding CanFollow
  none_follow history = tt

  -- turns that can follow, in two parts
  pub follow_front : (history : List Entry) (us vs : List ℕ) → CanFollow m history (us ++ vs) → CanFollow m history us
  unfolding CanFollow
  follow_front history [] vs f = tt
  follow_front history (u ∷ us) vs f = (f.0, follow_front (after_turn m history u) us vs f.1)

  pub follow_rest : (history : List Entry) (us vs : List ℕ) → CanFollow m history (us ++ vs) → CanFollow m (after_order m history us) vs
  unfolding CanFollow after_order
  follow_rest history [] vs f = f
  follow_rest history (u ∷ us) vs f = follow_rest (after_turn m history u) us vs f.1

  pub follow_both : (history : List Entry) (us vs : List ℕ) → CanFollow m history us → CanFollow m (after_order m history us) vs → CanFollow m history (us ++ vs)
  unfolding CanFollow after_order
  follow_both history [] vs f g = g
  follow_both history (u ∷ us) vs f g = (f.0, follow_both (after_turn m history u) us vs f.1 g)

  pub first_can : (history : List Entry) (u : ℕ) (us : List ℕ) → CanFollow m history (u ∷ us) → can_turn m history u ≡ true
  unfolding CanFollow
  first_can history u us f = f.0

  pub one_follows : (history : List Entry) (u : ℕ) → can_turn m history u ≡ true → CanFollow m history (u ∷ [])
  unfolding CanFollow
  one_follows history u c = (c, tt)

  -- an order with one more turn
  pub order_on : (us : List ℕ) (u : ℕ) → IsOrder m us → can_turn m (history_of m us) u ≡ true → IsOrder m (us ++ u ∷ [])
  order_on us u o c = follow_both (beginning m) us (u ∷ []) o (one_follows (history_of m us) u c)

  pub last_can : (us : List ℕ) (u : ℕ) → IsOrder m (us ++ u ∷ []) → can_turn m (history_of m us) u ≡ true
  last_can us u o = first_can (history_of m us) u [] (follow_rest (beginning m) us (u ∷ []) o)
