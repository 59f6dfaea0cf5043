-- Histories: their replay, whether their answers hold, the entries of a unit.
use Rattle.std.proofs.Common.{ap, false, Bool, Option, true≢false}
use Rattle.std.specs.Prelude.{◌≡◌, refl, ℕ, List, [], ◌∷◌, Some, None}
use Rattle.dbtg_cells.specs.declared.key.Value.TheVariants.{Num}
use Rattle.dbtg_cells.specs.declared.usage.Mode.TheVariants.{Update}
use Rattle.dbtg_unit.specs.declared.statement.Form.TheVariants.{Key}
use Rattle.dbtg_unit.specs.declared.statement.Statement.TheVariants.{OpenArea}
use Rattle.dbtg_unit.specs.declared.unit.Answer.{Answer}
use Rattle.dbtg_unit.specs.declared.unit.Cause.TheVariants.{AreaNotOpen}
use Rattle.dbtg_unit.specs.declared.unit.Entry.{Entry}
use Rattle.dbtg_unit.specs.declared.unit.Status.TheVariants.{Done, Refused}
use Rattle.dbtg_unit.specs.Database.Statements.Effect.{effect}
use Rattle.dbtg_unit.specs.Database.Statements.Codes.{is_done}
use Rattle.dbtg_unit.specs.Database.State.Image.{image_of}
use Rattle.dbtg_unit.specs.Database.Laws.Replay.{AnswersHold, IsHistoryOf, TicketsInOrder, answer_to, entries_of, opening_state, replay}
use Rattle.dbtg_unit.proofs.Rows.Defined.Schemas.{card, main, customers}
use Rattle.dbtg_unit.proofs.Rows.Words.{customer_key, find, store, text}

abbrev pub fine : Answer
fine = record { status = Done; key = None; items = None }

abbrev pub with_key : ℕ → Answer
with_key n = record { status = Done; key = Some (customer_key n); items = None }

abbrev pub refusal : Answer
refusal = record { status = Refused AreaNotOpen; key = None; items = None }

abbrev pub opened : ℕ → ℕ → Entry
opened ticket unit = record { ticket = ticket; unit = unit; statement = OpenArea main Update; answer = fine }

abbrev pub stored : Entry
stored = record { ticket = 1; unit = 1; statement = store customers (Num 7 ∷ text "ADA     " ∷ []); answer = with_key 1 }

abbrev pub not_found : Entry
not_found = record { ticket = 2; unit = 2; statement = find (Key (customer_key 1)); answer = refusal }

abbrev pub history : List Entry
history = opened 0 1 ∷ stored ∷ not_found ∷ opened 3 2 ∷ []

answers_hold : AnswersHold card 2 (opening_state card 2) history
unfolding effect AnswersHold
answers_hold = (refl, (refl, (refl, (refl, tt))))

in_order : TicketsInOrder history
in_order = refl

is_history : IsHistoryOf card 2 2 history
is_history = record { tickets = in_order; fitting = refl; answers_hold = answers_hold }

of_the_first : entries_of 1 history ≡ opened 0 1 ∷ stored ∷ []
of_the_first = refl

of_the_second : entries_of 2 history ≡ not_found ∷ opened 3 2 ∷ []
of_the_second = refl

image : image_of card 2 (replay card 2 (opening_state card 2) history).database
    ≡ record {
      records = (customer_key 1, Num 7 ∷ text "ADA     " ∷ []) ∷ [];
      versions = (customer_key 1, 1) ∷ [];
      lists = [];
      next = 2 ∷ [];
      last = (1 ∷ 0 ∷ []) ∷ [];
      usage = ((1, Update) ∷ (2, Update) ∷ []) ∷ [];
    }
unfolding effect image_of replay
image = refl

-- there is no unit 0, nor one above the last; neither has an answer
of_no_unit : answer_to card 2 (opening_state card 2) (opened 0 0) ≡ None
unfolding effect
of_no_unit = refl

of_unit_three : answer_to card 2 (opening_state card 2) (opened 0 3) ≡ None
unfolding effect
of_unit_three = refl

abbrev pub is_done_in : Option Answer → Bool
is_done_in None = false
is_done_in (Some answer) = is_done answer.status

-- another answer than the database's does not hold
wrong_answer : AnswersHold card 2 (opening_state card 2) (record (opened 0 1) { answer = refusal } ∷ []) → ⊥
unfolding effect AnswersHold
wrong_answer h = true≢false (ap is_done_in h.0)
