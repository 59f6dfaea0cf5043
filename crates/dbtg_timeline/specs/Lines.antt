-- The lines of a picture: a line has any number of events that directly follow one another, of one unit in one statement.
use Rattle.std.specs.Prelude.{ℕ, zero, suc, ◌+◌, ◌-◌, ◌==◌, Bool, ◌&&◌, ◌||◌, List, [], ◌∷◌, ◌++◌, Option, Some, None, length, map, if◌then◌else◌, slice_get, unwrap_or}
use Rattle.dbtg_timeline.specs.declared.event.Event.{Event}
use Rattle.dbtg_timeline.specs.declared.event.Mark.TheVariants.{Ticket}
use Rattle.dbtg_timeline.specs.declared.lines.Drawn.{Drawn}
use Rattle.dbtg_timeline.specs.declared.event.Mark.{Mark}
use Rattle.dbtg_timeline.specs.declared.lines.Line.{Line}
use Rattle.dbtg_timeline.specs.Marks.{is_idle, letter}

-- of the same unit, and in the statement that the event before left open; idle moves join too
abbrev pub joins : Event → Event → Bool
joins last e = last.unit == e.unit && (last.midway || is_idle last.mark && is_idle e.mark)

-- the last event of a line
abbrev pub last_of : Line → Event
last_of l = unwrap_or (slice_get l.more (length l.more - 1)) l.head

-- the event continues the line
abbrev pub goes_on : Line → Event → Bool
goes_on l e = joins (last_of l) e

-- a line of one event, with the number of its move
abbrev pub begun : ℕ → Event → Line
begun first e = record { first = first; head = e; more = [] }

-- the line with one more event
abbrev pub longer : Line → Event → Line
longer l e = record { first = l.first; head = l.head; more = l.more ++ e ∷ [] }

-- the lines of these events, after a line that is not at its end
abbrev pub lines_from : Line → List Event → List Line
lines_from l [] = l ∷ []
lines_from l (e ∷ es) = if goes_on l e then lines_from (longer l e) es else l ∷ lines_from (begun (l.first + suc (length l.more)) e) es

-- moves are counted from 1
abbrev pub lines : List Event → List Line
lines [] = []
lines (e ∷ es) = lines_from (begun 1 e) es

-- the letters of a line
abbrev pub letters : Line → List ℕ
letters l = letter l.head.mark ∷ map (λ e. letter e.mark) l.more

-- the ticket that a mark draws, and its statement's status
abbrev pub drawn_by : Mark → Option Drawn
drawn_by (Ticket ticket status) = Some (record { ticket = ticket; status = status })
drawn_by _ = None

-- the first value, or the later one if there is none
abbrev pub or_later : Option Drawn → Option Drawn → Option Drawn
or_later None later = later
or_later (Some d) later = Some d

-- the first value that these events draw
abbrev pub drawn_in : List Event → Option Drawn
drawn_in [] = None
drawn_in (e ∷ es) = or_later (drawn_by e.mark) (drawn_in es)

-- what a line draws
abbrev pub drawn : Line → Option Drawn
drawn l = drawn_in (l.head ∷ l.more)

-- the first text, or the later one if it is empty
abbrev pub or_later_text : List ℕ → List ℕ → List ℕ
or_later_text [] later = later
or_later_text (b ∷ bs) later = b ∷ bs

-- what the first of these events to say anything says below its statement
abbrev pub below_in : List Event → List ℕ
below_in [] = []
below_in (e ∷ es) = or_later_text e.below (below_in es)

-- what stands below the statement of a line
abbrev pub below_of : Line → List ℕ
below_of l = below_in (l.head ∷ l.more)

-- the text of the statement at a place of a script, a dash if there is none
abbrev pub label_in : List (List ℕ) → ℕ → List ℕ
label_in script place = unwrap_or (slice_get script place) (45 ∷ [])

-- the text of a statement by its unit and its place in the script; a dash if there is none
abbrev pub label : List (List (List ℕ)) → ℕ → ℕ → List ℕ
label scripts zero place = 45 ∷ []
label scripts (suc i) place = label_in (unwrap_or (slice_get scripts i) []) place
