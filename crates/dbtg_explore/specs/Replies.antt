-- The statements that programs make in the orders of a meeting, and the statuses that they get.
-- m is a meeting, u a unit, r a reply: the statement in a line of a unit's program, and a status.
use Rattle.std.specs.Prelude.{ℕ, ◌≡◌, List, [], ◌∷◌, ◌++◌, Contains, option_map, unwrap_or}
use Rattle.std.specs.List.Sorted.{IsStrictlySortedBy}
use Rattle.std.specs.Ordering.{nat_cmp, ordering_then}
use Rattle.std.specs.declared.cmp.Ordering.{Ordering}
use Rattle.dbtg_unit.specs.declared.unit.Entry.{Entry}
use Rattle.dbtg_unit.specs.Database.Statements.Codes.{status_code}
use Rattle.dbtg_program.specs.declared.program.Program.{Program}
use Rattle.dbtg_program.specs.Going.{Due, due, ended, line_number}
use Rattle.dbtg_step.specs.Machine.SequentialDatabase.{unit_at}
use Rattle.dbtg_going.specs.Turns.{comes}
use Rattle.dbtg_explore.specs.declared.replies.Reply.{Reply}
use Rattle.dbtg_explore.specs.Orders.{IsOrder, Meeting, history_of}

-- the line in which the statement stands that is due in a program; 0 if it has ended
abbrev pub due_line : Program → Due → ℕ
due_line program (due state s) = line_number program state
due_line program (ended state how) = 0

-- so it is in the unit's program after a history
abbrev pub line_due : Meeting → List Entry → ℕ → ℕ
line_due m history u = unwrap_or (option_map (λ program. due_line program (comes m.schema program u history)) (unit_at m.programs u)) 0

-- the last turn of an order makes the statement in this line of the unit's program
pub record MakesLast (m : Meeting) (u line : ℕ) (order : List ℕ) : Type 0 where
  pub before : List ℕ
  pub order_is : order ≡ before ++ u ∷ []
  pub is_order : IsOrder m order
  pub line_is : line_due m (history_of m before) u ≡ line
  pub entry : Entry
  pub history_is : history_of m order ≡ history_of m before ++ entry ∷ []

-- the status of a statement that was made
abbrev pub status_of : Entry → ℕ
status_of e = status_code e.statement e.answer.status

-- after some order the statement gets this status
pub record Comes (m : Meeting) (r : Reply) : Type 0 where
  pub order : List ℕ
  pub made : MakesLast m r.unit r.line order
  pub status_is : status_of made.entry ≡ r.status

-- by unit, then by line, then by status
abbrev pub reply_cmp : Reply → Reply → Ordering
reply_cmp r q = ordering_then (nat_cmp r.unit q.unit) (ordering_then (nat_cmp r.line q.line) (nat_cmp r.status q.status))

-- all that come, each once, in order
pub record AreReplies (m : Meeting) (replies : List Reply) : Type 0 where
  pub come : (r : Reply) → Contains replies r → Comes m r
  pub all : (r : Reply) → Comes m r → Contains replies r
  pub in_order : IsStrictlySortedBy reply_cmp replies
