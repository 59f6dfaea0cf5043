-- A wish for the status of a statement that a program makes, and the orders that break it.
-- m is a meeting, w a wish, o and p are orders.
use Rattle.std.specs.Prelude.{ℕ, ◌≡◌, ◌==◌, ◌&&◌, Bool, true, false, not, List, [], ◌∷◌, ◌++◌, Option, Some, None, Contains, if◌then◌else◌}
use Rattle.std.specs.List.{list_any}
use Rattle.dbtg_schema.specs.Lookups.{some_and}
use Rattle.dbtg_program.specs.declared.program.Sentence.{Sentence}
use Rattle.dbtg_program.specs.declared.program.Sentence.TheVariants.{Filled, Statement}
use Rattle.dbtg_step.specs.Machine.SequentialDatabase.{unit_at}
use Rattle.dbtg_explore.specs.declared.wishes.Wish.{Wish}
use Rattle.dbtg_explore.specs.Orders.{IsNoLater, Meeting}
use Rattle.dbtg_explore.specs.Replies.{MakesLast, status_of}
use Rattle.dbtg_explore.specs.States.{HasMoreStates}

-- THE STATEMENT

-- the sentence is a statement
abbrev pub is_statement : Sentence → Bool
is_statement (Statement s) = true
is_statement (Filled words) = true
is_statement _ = false

-- the unit's program has a statement in the line of the wish
abbrev pub is_there : Meeting → Wish → Bool
is_there m w = some_and (λ program. list_any (λ l. l.number == w.line && is_statement l.sentence) program.lines) (unit_at m.programs w.unit)

-- ITS STATUS

-- a status breaks the wish: it is the one that must never come, or differs from the one that must always come
abbrev pub breaks : Wish → ℕ → Bool
breaks w code = if w.never then code == w.status else not (code == w.status)

-- the last turn of an order makes the statement of the wish, which gets a status that breaks it
pub record BreaksBy (m : Meeting) (w : Wish) (order : List ℕ) : Type 0 where
  pub made : MakesLast m w.unit w.line order
  pub breaks_is : breaks w (status_of made.entry) ≡ true

-- the first of all orders that break the wish; none if no order does
abbrev pub IsJudged : Meeting → Wish → Option (List ℕ) → Type 0
IsJudged m w None = (o : List ℕ) → BreaksBy m w o → ⊥
IsJudged m w (Some o) = BreaksBy m w o × ((p : List ℕ) → BreaksBy m w p → IsNoLater o p)

-- there are more than n states, and no turn that is next after an order to one of them breaks the wish
pub record HoldsSoFar (m : Meeting) (w : Wish) (n : ℕ) : Type 0 where
  pub more : HasMoreStates m n
  pub holds : (o : List ℕ) → Contains more.orders o → BreaksBy m w (o ++ w.unit ∷ []) → ⊥
