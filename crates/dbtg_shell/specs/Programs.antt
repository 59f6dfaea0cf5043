-- Programs in the shell: the statements of a program are typed as lines of one unit, one after another, and the program is told of each
-- answer before the next.
-- f and g are a program under way, u is the number of the unit, out is what is printed.
use Rattle.std.specs.Prelude.{ℕ, zero, suc, ◌≡◌, ◌⊎◌, List, Option, Some, None}
use Rattle.dbtg_schema.specs.Lists.{Lists}
use Rattle.dbtg_unit.specs.declared.unit.Entry.{Entry}
use Rattle.dbtg_script.specs.Lines.{lines}
use Rattle.dbtg_program.specs.declared.program.Program.{Program}
use Rattle.dbtg_program.specs.Faults.{refusal}
use Rattle.dbtg_program.specs.Going.{Due, due, ended, next, told}
use Rattle.dbtg_program.specs.Reading.{program}
use Rattle.dbtg_program.specs.States.{beginning}
use Rattle.dbtg_going.specs.Spelled.{spelled}
use Rattle.dbtg_session.specs.Sessions.{HasTyped, IsUnmade, Typed, last_made}

-- WHAT IS DUE

-- a program of a schema, with the lines of its text; and what is due in it: a statement, or its end
pub record Following : Type 0 where
  pub schema : Lists
  pub program : Program
  pub lines : List (List ℕ)
  pub due : Due

-- the program of a text before its first statement
abbrev pub begun : Lists → List ℕ → Following
begun schema text = record { schema = schema; program = program schema text; lines = lines text; due = next schema (program schema text) (beginning (program schema text)) }

-- the line that is typed for a statement that is due: as the program has it, or, of a statement with fields, its words with the literal of
-- its value in place of each field. None is typed at the end
abbrev pub line_for : Program → List (List ℕ) → Due → Option (List ℕ)
line_for program ls (due at s) = Some (spelled program ls at)
line_for program ls (ended at how) = None

abbrev pub line_due : Following → Option (List ℕ)
line_due f = line_for f.program f.lines f.due

-- what is due after the answer of this entry to the statement that was due
abbrev pub due_behind : Lists → Program → Due → Entry → Due
due_behind schema program (due at s) e = next schema program (told program at s e.answer)
due_behind schema program (ended at how) e = ended at how

abbrev pub behind : Following → Entry → Following
behind f e = record f { due = due_behind f.schema f.program f.due e }

-- WHAT IS TYPED

-- unit u typed the line that was due, which made a statement, and the program goes on after its answer
pub record HasMadeDue (u : ℕ) (old : Typed) (f : Following) (new : Typed) (g : Following) : Type 0 where
  pub line : List ℕ
  pub is_due : line_due f ≡ Some line
  pub typed : HasTyped old u line new
  pub entry : Entry
  pub last : last_made new ≡ Some entry
  pub goes_on : g ≡ behind f entry

-- it did so n times
abbrev pub HasMadeTimes : ℕ → ℕ → Typed → Following → Typed → Following → Type 0
HasMadeTimes zero u old f new g = (new ≡ old) × (g ≡ f)
HasMadeTimes (suc n) u old f new g = (between : Typed) × (h : Following) × HasMadeTimes n u old f between h × HasMadeDue u between h new g

-- it did so any number of times
abbrev pub HasGoneOn : ℕ → Typed → Following → Typed → Following → Type 0
HasGoneOn u old f new g = (n : ℕ) × HasMadeTimes n u old f new g

-- nothing more is made: the program has ended, or the line that is due makes nothing, which is reported
abbrev pub IsStopped : ℕ → Typed → Following → Type 0
IsStopped u typed f = (line_due f ≡ None) ⊎ ((line : List ℕ) × (line_due f ≡ Some line) × (out : List ℕ) × IsUnmade typed u line out)

-- unit u made the statements of the program of this text, in turn and told of each answer, until nothing more is made
pub record HasRun (u : ℕ) (old : Typed) (text : List ℕ) (new : Typed) : Type 0 where
  pub accepted : refusal old.making.schema text ≡ None
  pub after : Following
  pub gone_on : HasGoneOn u old (begun old.making.schema text) new after
  pub stopped : IsStopped u new after

-- the program has run; or the text is refused, and nothing was typed
abbrev pub RunsText : ℕ → Typed → List ℕ → Typed → Type 0
RunsText u old text new = HasRun u old text new ⊎ ((refusal old.making.schema text ≡ None → ⊥) × (new ≡ old))

-- at most the program's first statements were made, one after another
abbrev pub HasBegun : ℕ → Typed → List ℕ → Typed → Type 0
HasBegun u old text new = (after : Following) × HasGoneOn u old (begun old.making.schema text) new after
