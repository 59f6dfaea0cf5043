-- The replay of a history, entry by entry.
use Rattle.std.specs.Prelude.{◌≡◌, ◌≢◌, ℕ, ◌==◌, List, [], ◌∷◌, ◌++◌, Some, map, length, if◌then◌else◌}
use Rattle.dbtg_schema.specs.Lists.{Lists}
use Rattle.dbtg_unit.specs.declared.statement.Statement.{Statement}
use Rattle.dbtg_unit.specs.declared.unit.Entry.{Entry}
use Rattle.dbtg_unit.specs.Database.Laws.Replay.{State, AnswersHold, TicketsInOrder, after_entry, answer_to, answers, entries_of, replay, state_after, unit_of}

-- a history with one more entry
pub record ReplaysOneMore (schema : Lists) (capacity : ℕ) (state : State) (history : List Entry) (entry : Entry) : Type 0 where
  -- leads on from the state to which it led
  pub state_is : replay schema capacity state (history ++ entry ∷ []) ≡ after_entry schema capacity (replay schema capacity state history) entry
  -- has answers that hold exactly if they held, and the new one is that state's
  pub answers_on : AnswersHold schema capacity state history → answer_to schema capacity (replay schema capacity state history) entry ≡ Some entry.answer → AnswersHold schema capacity state (history ++ entry ∷ [])
  pub answers_before : AnswersHold schema capacity state (history ++ entry ∷ []) → AnswersHold schema capacity state history
  pub answer_is : AnswersHold schema capacity state (history ++ entry ∷ []) → answer_to schema capacity (replay schema capacity state history) entry ≡ Some entry.answer
  -- has its tickets in order exactly if they were, and the new one is the next
  pub tickets_on : TicketsInOrder history → entry.ticket ≡ length history → TicketsInOrder (history ++ entry ∷ [])
  pub tickets_before : TicketsInOrder (history ++ entry ∷ []) → TicketsInOrder history
  pub ticket_is : TicketsInOrder (history ++ entry ∷ []) → entry.ticket ≡ length history
  -- is one more entry of its unit, and none of another
  pub entries_are : (number : ℕ) → entries_of number (history ++ entry ∷ []) ≡ entries_of number history ++ (if entry.unit == number then entry ∷ [] else [])
  -- leaves each other unit as it was
  pub others : (number : ℕ) → entry.unit ≢ number → unit_of (replay schema capacity state (history ++ entry ∷ [])) number ≡ unit_of (replay schema capacity state history) number

-- the same for every history with one entry more
abbrev pub EachReplaysOneMore : Type 0
EachReplaysOneMore = (schema : Lists) (capacity : ℕ) (state : State) (history : List Entry) (entry : Entry) → ReplaysOneMore schema capacity state history entry

-- who made which statement, in the order of the history
abbrev pub statements_of : List Entry → List (ℕ × Statement)
statements_of = map (λ e. (e.unit, e.statement))

-- the statements alone determine the state after a history, and the answers if they hold
pub record IsDetermined (schema : Lists) (capacity : ℕ) (state : State) (history : List Entry) : Type 0 where
  pub state_is : replay schema capacity state history ≡ state_after schema capacity state (statements_of history)
  pub answers_are : AnswersHold schema capacity state history → map (λ e. Some e.answer) history ≡ answers schema capacity state (statements_of history)

-- histories of the same statements by the same units lead to the same state, with the same answers
abbrev pub StatementsDetermine : Type 0
StatementsDetermine = (schema : Lists) (capacity : ℕ) (state : State) (history : List Entry) → IsDetermined schema capacity state history
