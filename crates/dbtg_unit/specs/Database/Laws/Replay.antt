-- The replay of statements, one after another.
use Rattle.std.specs.Prelude.{◌≡◌, ℕ, true, zero, suc, ◌-◌, ◌==◌, List, [], ◌∷◌, Option, Some, None, ⊤, map, filter, length, slice_set, slice_get, option_map}
use Rattle.std.specs.List.{list_all, range_with_len}
use Rattle.dbtg_schema.specs.Lists.{Lists}
use Rattle.dbtg_unit.specs.declared.statement.Statement.{Statement}
use Rattle.dbtg_unit.specs.declared.unit.Unit.{Unit}
use Rattle.dbtg_unit.specs.declared.unit.Answer.{Answer}
use Rattle.dbtg_unit.specs.declared.unit.Entry.{Entry}
use Rattle.dbtg_unit.specs.Database.State.Base.{Database, opening}
use Rattle.dbtg_unit.specs.Database.State.Units.{opening_unit}
use Rattle.dbtg_unit.specs.Database.Statements.Fits.{fits}
use Rattle.dbtg_unit.specs.Database.Statements.Effect.{StatementEffect, effect}

-- a database, and the units by number from 1
pub record State : Type 0 where
  pub database : Database
  pub units : List Unit

-- the opening database with its opening units
abbrev pub opening_state : Lists → ℕ → State
opening_state schema units = record { database = opening schema; units = map (opening_unit schema) (range_with_len 1 units) }

-- the unit with this number, and none if there is no such unit
abbrev pub unit_of : State → ℕ → Option Unit
unit_of state zero = None
unit_of state (suc n) = slice_get state.units n

-- the state after a statement of unit `number`
abbrev pub after : State → ℕ → StatementEffect → State
after state number outcome = record { database = outcome.database; units = slice_set state.units (number - 1) outcome.unit }

-- the outcome of a statement of unit `number`, and none if there is no such unit
abbrev pub effect_of_unit : Lists → ℕ → State → ℕ → Statement → Option StatementEffect
effect_of_unit schema capacity state number statement =
    option_map (λ unit. effect schema capacity state.database unit statement) (unit_of state number)

-- the state after an outcome; as it was if there is none
abbrev pub after_effect : State → ℕ → Option StatementEffect → State
after_effect state number None = state
after_effect state number (Some outcome) = after state number outcome

-- the state after statements, each of a unit
abbrev pub state_after : Lists → ℕ → State → List (ℕ × Statement) → State
state_after schema capacity state [] = state
state_after schema capacity state (s ∷ statements) =
    state_after schema capacity (after_effect state s.0 (effect_of_unit schema capacity state s.0 s.1)) statements

-- their answers
abbrev pub answers : Lists → ℕ → State → List (ℕ × Statement) → List (Option Answer)
answers schema capacity state [] = []
answers schema capacity state (s ∷ statements) =
    let outcome = effect_of_unit schema capacity state s.0 s.1 in
    option_map (λ o. o.answer) outcome ∷ answers schema capacity (after_effect state s.0 outcome) statements

-- THE REPLAY OF A HISTORY

-- the state after an entry's statement, whatever answer the entry has
abbrev pub after_entry : Lists → ℕ → State → Entry → State
after_entry schema capacity state entry = after_effect state entry.unit (effect_of_unit schema capacity state entry.unit entry.statement)

-- the state after the entries, in their order
unfoldable pub replay : Lists → ℕ → State → List Entry → State
replay schema capacity state [] = state
replay schema capacity state (entry ∷ entries) = replay schema capacity (after_entry schema capacity state entry) entries

-- the answer that the state gives to an entry's statement; none if there is no such unit
abbrev pub answer_to : Lists → ℕ → State → Entry → Option Answer
answer_to schema capacity state entry = option_map (λ o. o.answer) (effect_of_unit schema capacity state entry.unit entry.statement)

-- each entry is of a unit of the state, and has the answer that the state before it gives
unfoldable pub AnswersHold : Lists → ℕ → State → List Entry → Type 0
AnswersHold schema capacity state [] = ⊤
AnswersHold schema capacity state (entry ∷ entries) =
    (answer_to schema capacity state entry ≡ Some entry.answer) × AnswersHold schema capacity (after_entry schema capacity state entry) entries

-- the tickets are 0, 1, 2, .. in the order of the history
abbrev pub TicketsInOrder : List Entry → Type 0
TicketsInOrder history = map (λ e. e.ticket) history ≡ range_with_len 0 (length history)

-- the entries of a unit, in their order
abbrev pub entries_of : ℕ → List Entry → List Entry
entries_of number = filter (λ e. e.unit == number)

-- a history of the sequential database: its tickets are in order, its statements fit the schema, and its answers hold from the opening on
pub record IsHistoryOf (schema : Lists) (capacity units : ℕ) (history : List Entry) : Type 0 where
  pub tickets : TicketsInOrder history
  pub fitting : list_all (λ e. fits schema e.statement) history ≡ true
  pub answers_hold : AnswersHold schema capacity (opening_state schema units) history
