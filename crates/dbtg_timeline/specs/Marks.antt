-- The letters of marks.
use Rattle.std.specs.Prelude.{ℕ, ◌==◌, Bool, true, false, if◌then◌else◌}
use Rattle.dbtg_timeline.specs.declared.event.Mark.{Mark}
use Rattle.dbtg_timeline.specs.declared.event.Mark.TheVariants.{Begin, TakeArea, TakeCell, TurnBack, Return, Ticket, Link, PutBack, LeaveArea, Quit, Blocked, Idle}

-- a ticket: T if the statement is done, X if it is refused
abbrev pub ticket_letter : ℕ → ℕ
ticket_letter status = if status == 0 then 84 else 88

-- b a c R r T X l p v Q B I
abbrev pub letter : Mark → ℕ
letter Begin = 98
letter TakeArea = 97
letter TakeCell = 99
letter TurnBack = 82
letter Return = 114
letter (Ticket ticket status) = ticket_letter status
letter Link = 108
letter PutBack = 112
letter LeaveArea = 118
letter Quit = 81
letter Blocked = 66
letter Idle = 73

-- a statement begins
abbrev pub is_begin : Mark → Bool
is_begin Begin = true
is_begin _ = false

-- the unit is idle
abbrev pub is_idle : Mark → Bool
is_idle Idle = true
is_idle _ = false
