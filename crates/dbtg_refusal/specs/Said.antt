-- What is said of a statement of a history, in a state: that before it, or the one that its refusal left; and of all statements of a
-- history.
use Rattle.std.specs.Prelude.{ℕ, List, [], ◌∷◌, option_map, unwrap_or}
use Rattle.dbtg_schema.specs.Lists.{Lists}
use Rattle.dbtg_unit.specs.declared.unit.Entry.{Entry}
use Rattle.dbtg_unit.specs.declared.unit.Status.{Status}
use Rattle.dbtg_unit.specs.declared.unit.Status.TheVariants.{Done, Refused}
use Rattle.dbtg_unit.specs.Database.Laws.Replay.{State, after_entry, opening_state, unit_of}
use Rattle.dbtg_refusal.specs.Sentences.{refusal_text}

-- for a statement with this status: nothing if it is done
abbrev pub said_with : Lists → ℕ → State → Entry → Status → List ℕ
said_with schema capacity state e Done = []
said_with schema capacity state e (Refused why) =
    unwrap_or (option_map (λ unit. refusal_text schema capacity state.database unit e.statement why) (unit_of state e.unit)) []

-- for an entry, in a state
abbrev pub said_in : Lists → ℕ → State → Entry → List ℕ
said_in schema capacity state e = said_with schema capacity state e e.answer.status

-- for these entries, each in the state before it; the first is made in this one
abbrev pub said_from : Lists → ℕ → State → List Entry → List (List ℕ)
said_from schema capacity state [] = []
said_from schema capacity state (e ∷ es) = said_in schema capacity state e ∷ said_from schema capacity (after_entry schema capacity state e) es

-- for the entries of a history
abbrev pub said_of_history : Lists → ℕ → ℕ → List Entry → List (List ℕ)
said_of_history schema capacity units = said_from schema capacity (opening_state schema units)
