-- The turns of a session: `replay` of its scripts by them prints what was made in it.
use Rattle.std.specs.Prelude.{◌≡◌, List, ℕ, None}
use Rattle.dbtg_schema.specs.Texts.SchemaFaults.{refusal as schema_refusal}
use Rattle.dbtg_unit.specs.Database.State.Image.{image_of}
use Rattle.dbtg_step.specs.Core.Whole.{Making, state_now}
use Rattle.dbtg_script.specs.Printing.Texts.{run_text}
use Rattle.dbtg_script.specs.Turns.{turns_refusal}
use Rattle.dbtg_session.specs.Sessions.{Typed}
use Rattle.dbtg_command.specs.declared.order.Order.TheVariants.{Turns}
use Rattle.dbtg_command.specs.Refusals.{schema_in}
use Rattle.dbtg_replay.specs.Replaying.{IsReplay}

-- what `replay` prints of everything that the session made: its answers, its database and its units
abbrev pub session_text : Making → List ℕ
session_text m =
    let image = image_of m.schema m.capacity (state_now m).database in
    run_text m.schema m.history image.records image.lists image.next image.usage (state_now m).units

-- for each text of the schema these turns are accepted, and `replay` of the session's scripts by them prints just that
pub record AreTurnsOf (typed : Typed) (turns : List ℕ) : Type 0 where
  pub again : (text : List ℕ) → schema_refusal text ≡ None → schema_in text ≡ typed.making.schema
      → (turns_refusal turns ≡ None)
      × ((printed : List ℕ) → IsReplay text typed.texts (Turns turns) typed.making.capacity printed → printed ≡ session_text typed.making)
