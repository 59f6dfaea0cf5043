-- How the shell follows a program.
use Rattle.std.specs.Prelude.{ℕ, ◌≡◌, ◌⊎◌, Bool, true, false, List, [], ◌∷◌, ◌++◌, codes, decimal, length, map}
use Rattle.dbtg_unit.specs.Database.Laws.Replay.{entries_of}
use Rattle.dbtg_script.specs.Lines.{trimmed}
use Rattle.dbtg_program.specs.Views.{Stands}
use Rattle.dbtg_going.specs.Goings.{comes_of, reached_by}
use Rattle.dbtg_going.specs.Texts.{program_text}
use Rattle.dbtg_going.specs.declared.member.Reached.{Reached}
use Rattle.dbtg_shell.specs.declared.running.Followed.{Followed}
use Rattle.dbtg_shell.specs.Programs.{Following, HasMadeDue, IsStopped}
use Rattle.dbtg_session.specs.Sessions.{HasTyped, IsUnmade, Typed}

-- the program, its lines, and what is due
abbrev pub seen : Followed → Following
seen f = record { schema = f.schema.now; program = f.program.now; lines = map (λ l. l.now) f.lines.now; due = comes_of f.going }

-- if a statement is due the program is at one of its sentences
abbrev pub IsFollowed : Followed → Type 0
IsFollowed f = Stands f.program.now f.going.state f.going.due

-- how far the program is, if its unit has made this many statements
abbrev pub reached_of : ℕ → Followed → Reached
reached_of made f = reached_by (record { going = f.going; made = made })

-- a line that is typed for unit u, without the period and the carriage return that end it
abbrev pub shown_line : ℕ → List ℕ → List ℕ
shown_line u line = decimal u ++ codes ": " ++ trimmed line ++ 10 ∷ []

-- what `run` prints of the program, which unit u has run
abbrev pub end_text : ℕ → Typed → Followed → List ℕ
end_text u typed f = program_text u f.program.now (reached_of (length (entries_of u typed.making.history)) f)

-- true: the line was typed by unit u and made a statement; false: it made nothing
abbrev pub TypesLine : ℕ → Typed → List ℕ → Bool → Typed → Type 0
TypesLine u old line true new = HasTyped old u line new
TypesLine u old line false new = (new ≡ old) × (out : List ℕ) × IsUnmade old u line out

-- at most this line was typed
abbrev pub MayHaveTyped : ℕ → Typed → List ℕ → Typed → Type 0
MayHaveTyped u old line new = (new ≡ old) ⊎ HasTyped old u line new

-- true: the statement that is due was made; false: nothing was made, and nothing more is
abbrev pub MakesDue : ℕ → Typed → Following → Bool → Typed → Following → Type 0
MakesDue u old f true new g = HasMadeDue u old f new g
MakesDue u old f false new g = (new ≡ old) × (g ≡ f) × IsStopped u old f

-- at most one statement was made, the one that was due
abbrev pub MayHaveMade : ℕ → Typed → Following → Typed → Type 0
MayHaveMade u old f new = (new ≡ old) ⊎ ((g : Following) × HasMadeDue u old f new g)
