-- Events whose tickets have notes. Notes stand by ticket.
use Rattle.std.specs.Prelude.{ℕ, List, [], slice_get, unwrap_or}
use Rattle.dbtg_timeline.specs.declared.event.Event.{Event}
use Rattle.dbtg_timeline.specs.declared.event.Mark.{Mark}
use Rattle.dbtg_timeline.specs.declared.event.Mark.TheVariants.{Ticket}

-- the note of a ticket; none beyond the last
abbrev pub note_of : List (List ℕ) → ℕ → List ℕ
note_of notes ticket = unwrap_or (slice_get notes ticket) []

-- what stands below the statement of an event with this mark: the note of its ticket, or else what was there
abbrev pub below : List (List ℕ) → Mark → List ℕ → List ℕ
below notes (Ticket ticket status) text = note_of notes ticket
below notes _ text = text

-- the event with its note
abbrev pub noted : List (List ℕ) → Event → Event
noted notes e = record e { below = below notes e.mark e.below }
