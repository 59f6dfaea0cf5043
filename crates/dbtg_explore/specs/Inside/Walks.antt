-- A walk from state to state: where it stands, and the turns that led there.
-- m is a meeting, u a unit, t a turn that was taken, w a walk, os are the orders that are found.
use Rattle.std.specs.Prelude.{ℕ, ◌≡◌, ◌<◌, ◌-◌, ◌++◌, true, List, [], ◌∷◌, Option, Some, None, if◌then◌else◌, length, map, option_and_then, slice_get, ⊤}
use Rattle.dbtg_unit.specs.declared.unit.Entry.{Entry}
use Rattle.dbtg_unit.specs.Database.Laws.Replay.{entries_of}
use Rattle.dbtg_step.specs.Core.Whole.{Making}
use Rattle.dbtg_going.specs.declared.member.Going.{Going}
use Rattle.dbtg_program.specs.declared.program.End.{End}
use Rattle.dbtg_program.specs.declared.program.Program.{Program}
use Rattle.dbtg_program.specs.Going.{Due, due, ended}
use Rattle.dbtg_step.specs.Machine.SequentialDatabase.{unit_at}
use Rattle.dbtg_going.specs.Goings.{AreGoing, IsGoing}
use Rattle.dbtg_explore.specs.declared.orders.Link.{Link}
use Rattle.dbtg_explore.specs.declared.walk.Taken.{Taken}
use Rattle.dbtg_explore.specs.declared.walk.Walk.{Walk}
use Rattle.dbtg_explore.specs.Inside.Links.{GoOn}
use Rattle.dbtg_explore.specs.Orders.{IsOrder, Meeting, after_turn, beginning, can_turn, history_of}
use Rattle.dbtg_explore.specs.Results.{is_failure}
use Rattle.dbtg_explore.specs.States.{MeetingState}
use Rattle.dbtg_explore.specs.Inside.Keys.{items_read}

-- the database has a unit for each program, and each program is where its unit's entries have led it
pub record AreStanding (m : Meeting) (database : Making) (goings : List Going) : Type 0 where
  pub database_is : database ≡ record { schema = m.schema; capacity = m.capacity; units = length m.programs; history = database.history }
  pub are_going : AreGoing m.schema m.programs database.history goings

-- unit u has had its turn, and made one statement
pub record HasTurned (m : Meeting) (u : ℕ) (old new : Making) (goings : List Going) : Type 0 where
  pub standing : AreStanding m new goings
  pub history_is : new.history ≡ after_turn m old.history u
  pub entry : Entry
  pub of_unit : entry.unit ≡ u
  pub one_more : new.history ≡ old.history ++ entry ∷ []

-- TURNS THAT WERE TAKEN

-- their units
abbrev pub order_of : List Taken → List ℕ
order_of ts = map (λ t. t.unit) ts

-- the same with the places behind whose orders they were taken
abbrev pub links_of : List Taken → List Link
links_of ts = map (λ t. record { before = t.place; unit = t.unit }) ts

-- the last of the first turns, as many as this, is this one
pub record EndsWith (ts : List Taken) (count : ℕ) (link : Link) : Type 0 where
  pub some : 0 < count
  pub last_is : slice_get (links_of ts) (count - 1) ≡ Some link

-- its unit could have the turn after a history and made one statement, and its program was before where the unit's entries had led it
pub record IsTaken (m : Meeting) (history : List Entry) (t : Taken) : Type 0 where
  pub could : can_turn m history t.unit ≡ true
  pub entry : Entry
  pub of_unit : entry.unit ≡ t.unit
  pub history_is : after_turn m history t.unit ≡ history ++ entry ∷ []
  pub before : (program : Program) → unit_at m.programs t.unit ≡ Some program → IsGoing m.schema program (entries_of t.unit history) t.before

-- the same for turns one after another
unfoldable pub AreTaken : Meeting → List Entry → List Taken → Type 0
AreTaken m history [] = ⊤
AreTaken m history (t ∷ ts) = IsTaken m history t × AreTaken m (after_turn m history t.unit) ts

-- THE WALK

-- it stands at a place of the meeting
abbrev pub IsPlace : Meeting → Walk → Type 0
IsPlace m w = AreStanding m w.database.making w.goings.items

-- it knows which items the programs read
abbrev pub KnowsReads : Meeting → Walk → Type 0
KnowsReads m w = w.reads.items ≡ map items_read m.programs

-- it stands where an order leads, whose turns can be taken back
pub record StandsAt (m : Meeting) (order : List ℕ) (w : Walk) : Type 0 where
  pub is_order : IsOrder m order
  pub is_place : IsPlace m w
  pub history_is : w.database.making.history ≡ history_of m order
  pub order_is : order_of w.turns.items ≡ order
  pub are_taken : AreTaken m (beginning m) w.turns.items
  pub stays_are : w.database.stays ≡ length (beginning m)
  pub knows : KnowsReads m w

-- it stands where its turns have led
abbrev pub Stands : Meeting → Walk → Type 0
Stands m w = StandsAt m (order_of w.turns.items) w

-- and each turn was taken behind the order at its place
pub record StandsAmong (m : Meeting) (os : List (List ℕ)) (w : Walk) : Type 0 where
  pub stands : Stands m w
  pub go_on : GoOn os [] (links_of w.turns.items)

-- FAILURES

-- how a program for which this is due has failed
abbrev pub failure_by : Due → Option End
failure_by (ended at how) = if is_failure how then Some how else None
failure_by (due at s) = None

-- how the program of unit u has failed in a state
abbrev pub failure_in : MeetingState → ℕ → Option End
failure_in state u = option_and_then failure_by (unit_at state.programs u)
