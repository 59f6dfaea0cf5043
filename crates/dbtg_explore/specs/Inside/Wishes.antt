-- What the code knows of a wish where a search stands.
-- m is a meeting, w a wish, os are the orders that are found, o is one of them, n the number of a state.
use Rattle.std.specs.Prelude.{ℕ, ◌≡◌, ◌<◌, ◌==◌, ◌&&◌, ◌++◌, Bool, List, [], ◌∷◌, Option, Some, None, slice_index_or}
use Rattle.dbtg_unit.specs.declared.unit.Entry.{Entry}
use Rattle.dbtg_explore.specs.declared.wishes.Wish.{Wish}
use Rattle.dbtg_explore.specs.Orders.{Meeting, can_turn}
use Rattle.dbtg_explore.specs.Replies.{line_due}
use Rattle.dbtg_explore.specs.Wishes.{BreaksBy}

-- the unit can have its turn after a history, and makes the statement of the wish
abbrev pub is_next : Meeting → Wish → List Entry → Bool
is_next m w history = can_turn m history w.unit && line_due m history w.unit == w.line

-- what is found after an order: the order with the turn that breaks the wish, or that its next turn does not break it
abbrev pub IsJudgedAt : Meeting → Wish → List ℕ → Option (List ℕ) → Type 0
IsJudgedAt m w o None = BreaksBy m w (o ++ w.unit ∷ []) → ⊥
IsJudgedAt m w o (Some turns) = (turns ≡ o ++ w.unit ∷ []) × BreaksBy m w turns

-- no turn after the first of these orders, as many as this, breaks the wish
abbrev pub HoldsBefore : Meeting → Wish → List (List ℕ) → ℕ → Type 0
HoldsBefore m w os i = (j : ℕ) → j < i → BreaksBy m w (slice_index_or os j [] ++ w.unit ∷ []) → ⊥
