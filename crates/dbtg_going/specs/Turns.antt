-- Programs that run by turns: the unit whose turn it is makes the statement that is due in its program.
-- u is a unit; programs are those of units 1, 2, ..; a history has the statements that they made, with their answers.
use Rattle.std.specs.Prelude.{ℕ, ◌≡◌, ◌+◌, ◌-◌, ◌==◌, Bool, not, ◌&&◌, nat_lt, List, [], ◌∷◌, ◌++◌, Option, Some, None, length, filter, flat_map, if◌then◌else◌, is_none, option_and_then, replicate}
use Rattle.std.specs.List.{list_all, range_with_len}
use Rattle.dbtg_schema.specs.Lists.{Lists}
use Rattle.dbtg_unit.specs.declared.statement.Statement.{Statement}
use Rattle.dbtg_unit.specs.declared.limits.TheConstants.{MOST_STATEMENTS}
use Rattle.dbtg_unit.specs.declared.unit.Entry.{Entry}
use Rattle.dbtg_unit.specs.Database.Statements.Effect.{StatementEffect}
use Rattle.dbtg_unit.specs.Database.Statements.Fits.{fits}
use Rattle.dbtg_unit.specs.Database.Laws.Replay.{entries_of, opening_state, effect_of_unit, replay}
use Rattle.dbtg_program.specs.declared.program.Program.{Program}
use Rattle.dbtg_program.specs.States.{ProgramState, beginning}
use Rattle.dbtg_program.specs.Going.{AreOf, Due, due, ended, next, state_after}
use Rattle.dbtg_step.specs.Core.Whole.{IsMadeRun, Making}
use Rattle.dbtg_step.specs.Machine.SequentialDatabase.{unit_at}
use Rattle.dbtg_going.specs.declared.member.Standing.{Standing}
use Rattle.dbtg_going.specs.declared.member.Standing.TheVariants.{Ended, Spent, GoesOn}
use Rattle.dbtg_going.specs.declared.member.Reached.{Reached}
use Rattle.dbtg_going.specs.declared.around.Around.{Around}
use Rattle.dbtg_going.specs.declared.going.ProgramRun.{ProgramRun}

-- WHERE A PROGRAM STANDS

-- what is due in the program of unit u after a history: a statement, or its end
abbrev pub comes : Lists → Program → ℕ → List Entry → Due
comes schema program u history = next schema program (state_after schema program (beginning program) (entries_of u history))

-- whether a program for which this is due has ended, is spent, or goes on, if its unit has made n statements
abbrev pub standing : ℕ → Due → Standing
standing n (ended at how) = Ended how
standing n (due at s) = if nat_lt n MOST_STATEMENTS then GoesOn else Spent

-- the state of its fields then
abbrev pub state_in : Due → ProgramState
state_in (ended at how) = at
state_in (due at s) = at

-- how far the program of unit u is after a history
abbrev pub reached : Lists → Program → ℕ → List Entry → Reached
reached schema program u history = record { standing = standing (length (entries_of u history)) (comes schema program u history); state = state_in (comes schema program u history) }

-- TURNS

-- the statement that is due; a statement that does not fit the schema is never made
abbrev pub statement_due : Lists → Due → Option Statement
statement_due schema (ended at how) = None
statement_due schema (due at s) = if fits schema s then Some s else None

-- the same, if its unit, which has made n statements, can make it
abbrev pub due_after : Lists → ℕ → Due → Option Statement
due_after schema n d = if nat_lt n MOST_STATEMENTS then statement_due schema d else None

-- the statement of a turn of unit u after a history, if there is one
abbrev pub statement_of : Lists → List Program → List Entry → ℕ → Option Statement
statement_of schema programs history u = option_and_then (λ program. due_after schema (length (entries_of u history)) (comes schema program u history)) (unit_at programs u)

-- a history, followed by a statement of unit u with its outcome
abbrev pub with_effect_of : List Entry → ℕ → Statement → Option StatementEffect → List Entry
with_effect_of history u s None = history
with_effect_of history u s (Some outcome) = history ++ record { ticket = length history; unit = u; statement = s; answer = outcome.answer } ∷ []

-- the same with the outcome that the statement has in the sequential database with this many units; without a statement nothing is made
abbrev pub made : Lists → ℕ → ℕ → List Entry → ℕ → Option Statement → List Entry
made schema capacity units history u None = history
made schema capacity units history u (Some s) = with_effect_of history u s (effect_of_unit schema capacity (replay schema capacity (opening_state schema units) history) u s)

-- a history after a turn of unit u
abbrev pub after_turn : Lists → ℕ → List Program → List Entry → ℕ → List Entry
after_turn schema capacity programs history u = made schema capacity (length programs) history u (statement_of schema programs history u)

-- a history after turns
unfoldable pub after_turns : Lists → ℕ → List Program → List Entry → List ℕ → List Entry
after_turns schema capacity programs history [] = history
after_turns schema capacity programs history (u ∷ us) = after_turns schema capacity programs (after_turn schema capacity programs history u) us

-- the turns in which the program of unit u goes to its end: one for each statement that the unit can make. Turns after the end make nothing
unfoldable pub to_the_end : ℕ → List ℕ
to_the_end u = replicate MOST_STATEMENTS u

-- each of these units' programs to its end, that of unit 1 first
abbrev pub one_by_one : ℕ → List ℕ
one_by_one units = flat_map to_the_end (range_with_len 1 units)

-- THE FIRST AND THE LAST PROGRAM

-- one less, if there is such a program
abbrev pub one_less : Bool → ℕ → ℕ
one_less there n = if there then n - 1 else n

-- how many of the programs are neither first nor last
abbrev pub others : Around → ℕ → ℕ
others around units = one_less around.first (one_less around.last units)

-- the first program goes to its end; its unit is numbered after those of the others
abbrev pub first_turns : Around → ℕ → List ℕ
first_turns around units = if around.first then to_the_end (others around units + 1) else []

-- the turns of this unit are not ignored: it is not that of the last program, which has the highest number
abbrev pub is_heard : Around → ℕ → ℕ → Bool
is_heard around units u = not (around.last && u == units)

-- the given turns, without those of the last program's unit; if none are given, each of the others goes to its end
abbrev pub other_turns : Around → ℕ → Option (List ℕ) → List ℕ
other_turns around units (Some turns) = filter (is_heard around units) turns
other_turns around units None = one_by_one (others around units)

-- the turns before those of the last program
abbrev pub turns_before : Around → ℕ → Option (List ℕ) → List ℕ
turns_before around units told = first_turns around units ++ other_turns around units told

-- no unit except the last can make a statement
abbrev pub have_ended : Lists → List Program → List Entry → Bool
have_ended schema programs history = list_all (λ u. is_none (statement_of schema programs history u)) (range_with_len 1 (length programs - 1))

-- the last program goes to its end, once all others have ended
abbrev pub last_turns : Lists → List Program → Around → List Entry → List ℕ
last_turns schema programs around history = if around.last && have_ended schema programs history then to_the_end (length programs) else []

-- all turns of programs, with those that are given
abbrev pub turns_of : Lists → ℕ → List Program → Around → Option (List ℕ) → List ℕ
turns_of schema capacity programs around told =
    turns_before around (length programs) told ++ last_turns schema programs around (after_turns schema capacity programs [] (turns_before around (length programs) told))

-- WHAT THEY GIVE

-- the database with the statements of these turns
abbrev pub making_by : Lists → ℕ → List Program → List ℕ → Making
making_by schema capacity programs turns = record { schema = schema; capacity = capacity; units = length programs; history = after_turns schema capacity programs [] turns }

-- a run by these turns: its history is that of the turns and of the sequential database, its image and its units are those to which the
-- history leads; the entries of each unit belong to its program; and it says how far each program is
pub record IsRunOf (schema : Lists) (capacity : ℕ) (programs : List Program) (turns : List ℕ) (given : ProgramRun) : Type 0 where
  pub run : IsMadeRun (making_by schema capacity programs turns) given.run
  pub of_programs : (u : ℕ) (program : Program) → unit_at programs u ≡ Some program → AreOf schema program (entries_of u given.run.history)
  pub count : length given.programs ≡ length programs
  pub reached_are : (u : ℕ) (program : Program) → unit_at programs u ≡ Some program → unit_at given.programs u ≡ Some (reached schema program u given.run.history)
