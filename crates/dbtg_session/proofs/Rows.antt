-- Worked rows: what commands ask for, and which of them show something; which answers are told.
-- Promises: a row computes from the definitions alone.
use Rattle.std.proofs.Common.{◌≡◌, ℕ, List, Option, true, false, None, Some, arith, inl, inr, length, refl}
use Rattle.std.specs.Prelude.{codes}
use Rattle.dbtg_draw.specs.Listing.{schema_lines}
use Rattle.dbtg_step.specs.Core.Whole.{Making}
use Rattle.dbtg_session.specs.Asking.{asks_undo, is_command, means_unit, names_unit, turn_given}
use Rattle.dbtg_session.specs.Replies.{shown_by}
use Rattle.dbtg_session.specs.Sessions.{Tells}

-- WHAT A LINE ASKS FOR

-- a period begins a command, and digits with a colon name a unit
a_command : is_command (codes ".unit 2") ≡ true
a_command = refl

a_unit : names_unit (codes "12: GET") ≡ true
a_unit = refl

-- neither digits alone nor a colon alone does
no_unit : names_unit (codes "12 GET") ≡ false
no_unit = refl

no_digits : names_unit (codes ": GET") ≡ false
no_digits = refl

-- COMMANDS

-- spaces may follow a command, but nothing else
undo_and_spaces : asks_undo (codes "undo  ") ≡ true
undo_and_spaces = refl

undo_and_a_word : asks_undo (codes "undo 2") ≡ false
undo_and_a_word = refl

-- of two units, where unit 1 has the turn
unit_alone : means_unit 2 1 (codes "") ≡ true
unit_alone = refl

unit_3 : means_unit 2 1 (codes "3") ≡ false
unit_3 = refl

the_turn_goes_to_2 : turn_given 2 1 (codes "2 ") ≡ 2
the_turn_goes_to_2 = refl

the_turn_stays : turn_given 2 1 (codes "3") ≡ 1
the_turn_stays = refl

-- the schema of any session is shown by its command, and by no longer one
schema_shown : (m : Making) (turn : ℕ) (fault : Option ℕ) → shown_by m turn fault (codes "schema ") ≡ Some (schema_lines m.schema)
schema_shown m turn fault = refl

schema_and_a_word : (m : Making) (turn : ℕ) (fault : Option ℕ) → shown_by m turn fault (codes "schema all") ≡ None
schema_and_a_word m turn fault = refl

-- nothing is said here of what other commands print
help_is_not_shown : (m : Making) (turn : ℕ) (fault : Option ℕ) → shown_by m turn fault (codes "help") ≡ None
help_is_not_shown m turn fault = refl

-- ANSWERS

-- an answer of 2,048 bytes is told, and one of 2,049 may not be
module _ (answer out : List ℕ) where
  all_is_told : length answer ≡ 2048 → Tells answer out → out ≡ answer
  all_is_told long (inl same) = same
  all_is_told long (inr untold) = let more = untold.1 in absurd (omega (arith, long, more))

  too_long_to_tell : length answer ≡ 2049 → Tells answer (codes "made, and there is no room for its answer\n")
  too_long_to_tell long = inr (refl, omega (arith, long))
