-- Programs that meet, and the orders in which they can make their statements.
-- m is a meeting, u a unit; an order is the units whose turn it is, one after another; a history has the statements that were made.
use Rattle.std.specs.Prelude.{ℕ, ◌≡◌, ◌≤◌, ◌<◌, ◌-◌, ◌==◌, ◌&&◌, ◌⊎◌, Bool, true, false, not, List, [], ◌∷◌, Option, is_some, length, option_and_then, ⊤}
use Rattle.std.specs.List.{list_any, range_with_len}
use Rattle.dbtg_schema.specs.Lists.{Lists}
use Rattle.dbtg_schema.specs.Sound.{IsSound}
use Rattle.dbtg_unit.specs.declared.statement.Statement.{Statement}
use Rattle.dbtg_unit.specs.declared.unit.Entry.{Entry}
use Rattle.dbtg_unit.specs.declared.limits.TheConstants.{LAST_UNIT}
use Rattle.dbtg_step.specs.Machine.SequentialDatabase.{unit_at}
use Rattle.dbtg_program.specs.declared.program.Program.{Program}
use Rattle.dbtg_going.specs.Turns.{after_turns, comes, made, statement_due}

-- programs that meet, a unit for each; the turns taken before they meet; and whether the last program waits until no other can go on
pub record Meeting : Type 0 where
  pub schema : Lists
  pub capacity : ℕ
  pub programs : List Program
  pub begun : List ℕ
  pub last_waits : Bool

-- the schema is sound, and each unit has a number
pub record IsMeeting (m : Meeting) : Type 0 where
  pub sound : IsSound m.schema
  pub few : length m.programs ≤ LAST_UNIT

-- the statement that is due in the program of unit u after a history. How many the unit has made does not matter here
abbrev pub due_of : Meeting → List Entry → ℕ → Option Statement
due_of m history u = option_and_then (λ program. statement_due m.schema (comes m.schema program u history)) (unit_at m.programs u)

-- its program can go on
abbrev pub can_go_on : Meeting → List Entry → ℕ → Bool
can_go_on m history u = is_some (due_of m history u)

-- it is the last program, which waits as long as another can go on
abbrev pub waits : Meeting → List Entry → ℕ → Bool
waits m history u = m.last_waits && (u == length m.programs && list_any (can_go_on m history) (range_with_len 1 (length m.programs - 1)))

-- it can have its turn
abbrev pub can_turn : Meeting → List Entry → ℕ → Bool
can_turn m history u = can_go_on m history u && not (waits m history u)

-- the history after its turn: its due statement is made whole, on the sequential database
abbrev pub after_turn : Meeting → List Entry → ℕ → List Entry
after_turn m history u = made m.schema m.capacity (length m.programs) history u (due_of m history u)

-- the history after the turns of an order
unfoldable pub after_order : Meeting → List Entry → List ℕ → List Entry
after_order m history [] = history
after_order m history (u ∷ order) = after_order m (after_turn m history u) order

-- each unit of the order can have its turn when it comes
unfoldable pub CanFollow : Meeting → List Entry → List ℕ → Type 0
CanFollow m history [] = ⊤
CanFollow m history (u ∷ order) = (can_turn m history u ≡ true) × CanFollow m (after_turn m history u) order

-- the history when the programs meet
abbrev pub beginning : Meeting → List Entry
beginning m = after_turns m.schema m.capacity m.programs [] m.begun

-- the history of an order from there
abbrev pub history_of : Meeting → List ℕ → List Entry
history_of m order = after_order m (beginning m) order

-- an order in which the programs can make their statements
abbrev pub IsOrder : Meeting → List ℕ → Type 0
IsOrder m order = CanFollow m (beginning m) order

-- an order after which no program can go on
pub record IsEnd (m : Meeting) (order : List ℕ) : Type 0 where
  pub is_order : IsOrder m order
  pub at_end : (u : ℕ) → can_go_on m (history_of m order) u ≡ false

-- WHICH COMES FIRST

-- where two lists of the same length first differ, the first has the lower number
abbrev pub IsLower : List ℕ → List ℕ → Type 0
IsLower [] ks = ⊥
IsLower (n ∷ ns) [] = ⊥
IsLower (n ∷ ns) (k ∷ ks) = (n < k) ⊎ ((n ≡ k) × IsLower ns ks)

-- a shorter order comes first; of two orders of the same length, the one that first has the lower unit
abbrev pub IsBefore : List ℕ → List ℕ → Type 0
IsBefore order other = (length order < length other) ⊎ ((length order ≡ length other) × IsLower order other)

-- one that comes before or is the same
abbrev pub IsNoLater : List ℕ → List ℕ → Type 0
IsNoLater order other = (order ≡ other) ⊎ IsBefore order other
