-- The events that moves make of the machine, as a picture shows them.
use Rattle.std.specs.Prelude.{ℕ, ◌-◌, ◌&&◌, nat_lt, List, [], ◌∷◌, Option, Some, None, is_some, if◌then◌else◌, length, map, option_and_then, option_map, slice_get, unwrap_or}
use Rattle.dbtg_unit.specs.Database.Statements.Codes.{status_code}
use Rattle.dbtg_unit.specs.declared.moves.Move.{Move}
use Rattle.dbtg_unit.specs.declared.moves.Move.TheVariants.{Step, Quit as Quits}
use Rattle.dbtg_unit.specs.declared.moves.Stepped.{Stepped}
use Rattle.dbtg_unit.specs.declared.moves.Stepped.TheVariants.{Moved, Blocked as IsBlocked, Idle as IsIdle, NoMemory}
use Rattle.dbtg_unit.specs.declared.unit.Entry.{Entry}
use Rattle.dbtg_step.specs.declared.watching.Position.{Position}
use Rattle.dbtg_step.specs.declared.watching.Progress.{Progress}
use Rattle.dbtg_step.specs.Core.CoreSteps.{after_move, result_of_move}
use Rattle.dbtg_step.specs.Machine.Headline.{entry_of}
use Rattle.dbtg_step.specs.Machine.Network.{network}
use Rattle.dbtg_step.specs.Core.Parts.{CoreState}
use Rattle.dbtg_step.specs.Core.Positions.{position_at}
use Rattle.dbtg_step.specs.Core.Waiting.{blocking_of}
use Rattle.dbtg_timeline.specs.declared.event.Event.{Event}
use Rattle.dbtg_timeline.specs.declared.event.Mark.{Mark}
use Rattle.dbtg_timeline.specs.declared.event.Mark.TheVariants.{Begin, TakeArea, TakeCell, TurnBack, Return, Ticket, Link, PutBack, LeaveArea, Quit, Blocked, Idle}
use Rattle.dbtg_timeline.specs.Waiting.{waiting_text}

-- ---- a unit that may not exist

-- how many of its statements have their ticket
abbrev pub made_in : Option Position → ℕ
made_in p = unwrap_or (option_map (λ (it : Position). it.made) p) 0

-- how far its statement is, if it is in mid-statement
abbrev pub progress_in : Option Position → Option Progress
progress_in p = option_and_then (λ (it : Position). it.progress) p

-- how many areas it holds
abbrev pub areas_in : Option Position → ℕ
areas_in p = unwrap_or (option_map (λ (w : Progress). w.areas) (progress_in p)) 0

-- how many cells it holds
abbrev pub cells_in : Option Position → ℕ
cells_in p = unwrap_or (option_map (λ (w : Progress). w.cells) (progress_in p)) 0

-- ---- which event it was

-- the mark of a ticket, by its entry
abbrev pub entry_mark : Option Entry → Mark
entry_mark None = Idle
entry_mark (Some e) = Ticket e.ticket (status_code e.statement e.answer.status)

-- the ticket is that of the newest entry of the history
abbrev pub ticket_mark : List Entry → Mark
ticket_mark history = entry_mark (slice_get history (length history - 1))

-- with a ticket: links as long as any are left, then each cell is put back, then each area is left
abbrev pub ended_mark : Progress → Mark
ended_mark w = if nat_lt w.linked w.cells then Link else (if nat_lt 0 w.cells then PutBack else LeaveArea)

-- without a ticket, and not putting cells back: by what the unit has more of after the event
abbrev pub needed_mark : Option Position → Option Position → List Entry → Mark
needed_mark before after history =
    if nat_lt (made_in before) (made_in after) then ticket_mark history else
    (if nat_lt (areas_in before) (areas_in after) then TakeArea else (if nat_lt (cells_in before) (cells_in after) then TakeCell else TurnBack))

-- the mark of an event in mid-statement: with a ticket, while it turns back, or while it takes what it needs
abbrev pub in_statement_mark : Progress → Option Position → Option Position → List Entry → Mark
in_statement_mark w before after history =
    if w.has_ticket then ended_mark w else (if w.turning_back && nat_lt 0 w.cells then Return else needed_mark before after history)

-- the mark of an event, by the progress that the unit had before it
abbrev pub moved_mark : Option Progress → Option Position → Option Position → List Entry → Mark
moved_mark None before after history = Begin
moved_mark (Some w) before after history = in_statement_mark w before after history

-- the mark of a move: by its result, by where its unit was before it and is after it, and by the history after it
abbrev pub mark_of : Move → Stepped → Option Position → Option Position → List Entry → Mark
mark_of (Step u) Moved before after history = moved_mark (progress_in before) before after history
mark_of (Quits u) Moved before after history = Quit
mark_of m IsBlocked before after history = Blocked
mark_of m IsIdle before after history = Idle
mark_of m NoMemory before after history = Idle

-- ---- a move as it is shown

-- the unit of a move
abbrev pub unit_in : Move → ℕ
unit_in (Step u) = u
unit_in (Quits u) = u

-- 1 for a statement that has its ticket; otherwise 0
abbrev pub has_ticket : Option Progress → ℕ
has_ticket None = 0
has_ticket (Some w) = if w.has_ticket then 1 else 0

-- the place of the statement in the script: with a ticket the last one made, otherwise the next one
abbrev pub place_of : Option Position → ℕ
place_of p = made_in p - has_ticket (progress_in p)

-- the event of a move: its unit, its mark, its statement, whether the unit is in mid-statement after it, and what it waits for
abbrev pub shown : Move → Stepped → Option Position → Option Position → List Entry → List ℕ → Event
shown m stepped before after history wait = record { unit = unit_in m; mark = mark_of m stepped before after history; place = place_of before; midway = is_some (progress_in after); below = wait }

-- where unit u is in the machine
abbrev pub place_in : CoreState → ℕ → Option Position
place_in c u = position_at (network c.schema c.capacity) c.state u

-- what unit u waits for in the machine c, if its move was blocked
abbrev pub wait_after : CoreState → ℕ → Stepped → List ℕ
wait_after c u Moved = []
wait_after c u IsBlocked = waiting_text c.schema (blocking_of c u)
wait_after c u IsIdle = []
wait_after c u NoMemory = []

-- what move m does to the machine c
abbrev pub event_of_move : CoreState → Move → Event
event_of_move c m =
    shown m (result_of_move c m) (place_in c (unit_in m)) (place_in (after_move c m) (unit_in m)) (map entry_of (after_move c m).state.history)
    (wait_after (after_move c m) (unit_in m) (result_of_move c m))

-- what these moves do to it, one after another
abbrev pub events_of : CoreState → List Move → List Event
events_of c [] = []
events_of c (m ∷ ms) = event_of_move c m ∷ events_of (after_move c m) ms
