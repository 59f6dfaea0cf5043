-- The laws of runs and orders: every run in which programs come to their ends is one of the results, a run of the machine of events and
-- one by turns; states of the same essence go on alike; and programs can go on for ever where there is a way round.
-- m is a meeting, u a unit.
use Rattle.std.specs.Prelude.{ℕ, ◌≡◌, ◌≤◌, true, false, List, [], ◌∷◌, ◌++◌, Option, Some, map, length, option_and_then, option_map}
use Rattle.std.specs.List.{range_with_len}
use Rattle.dbtg_script.specs.Printing.Texts.{run_text}
use Rattle.dbtg_unit.specs.declared.moves.Move.{Move}
use Rattle.dbtg_unit.specs.declared.statement.Statement.{Statement}
use Rattle.dbtg_unit.specs.declared.unit.Answer.{Answer}
use Rattle.dbtg_unit.specs.declared.unit.Entry.{Entry}
use Rattle.dbtg_unit.specs.Database.Laws.Replay.{effect_of_unit, entries_of}
use Rattle.dbtg_program.specs.declared.program.Program.{Program}
use Rattle.dbtg_program.specs.Going.{AreOf}
use Rattle.dbtg_step.specs.declared.results.Run.{Run}
use Rattle.dbtg_step.specs.Laws.{scripts_fit}
use Rattle.dbtg_step.specs.Machine.Headline.{RunIs}
use Rattle.dbtg_step.specs.Machine.SequentialDatabase.{unit_at}
use Rattle.dbtg_going.specs.declared.around.Around.{Around}
use Rattle.dbtg_going.specs.declared.going.ProgramRun.{ProgramRun}
use Rattle.dbtg_going.specs.Texts.{programs_text}
use Rattle.dbtg_going.specs.Turns.{IsRunOf, after_turns, turns_before, turns_of}
use Rattle.dbtg_states.specs.Users.{by_unit}
use Rattle.dbtg_explore.specs.declared.explored.Endless.{Endless}
use Rattle.dbtg_explore.specs.Explored.{IsEndless}
use Rattle.dbtg_explore.specs.Orders.{IsEnd, IsOrder, Meeting, after_order, beginning, can_go_on, can_turn, due_of, history_of, waits}
use Rattle.dbtg_explore.specs.Results.{reached_of, state_text}
use Rattle.dbtg_explore.specs.States.{CountsStates, essence, sequential_after, state_after, state_of, without_versions}

-- the statements of a history are those of the programs, each to its end: it begins like the meeting; the entries of each unit belong to
-- its program; the last program makes none after that as long as it has to wait; and at the end no program can go on
pub record MakesAll (m : Meeting) (history : List Entry) : Type 0 where
  pub rest : List Entry
  pub begins : history ≡ beginning m ++ rest
  pub of_programs : (u : ℕ) (program : Program) → unit_at m.programs u ≡ Some program → AreOf m.schema program (entries_of u history)
  pub waited : (before after : List Entry) (e : Entry) → rest ≡ before ++ e ∷ after → waits m (beginning m ++ before) e.unit ≡ false
  pub at_end : (u : ℕ) → can_go_on m history u ≡ false

-- what is printed of a run after `--`, except that the units that have an area open are in the order of their numbers
abbrev pub text_of_run : Meeting → Run → List ℕ
text_of_run m run =
    run_text m.schema [] run.image.records run.image.lists run.image.next (map (by_unit (range_with_len 1 (length m.programs))) run.image.usage) run.units
    ++ programs_text 1 m.programs (map reached_of (state_after m run.history).programs)

-- a run has the history of an order that comes to an end, and its text
pub record ComesOut (m : Meeting) (run : Run) : Type 0 where
  pub order : List ℕ
  pub is_end : IsEnd m order
  pub history_is : run.history ≡ history_of m order
  pub text_is : text_of_run m run ≡ state_text m (state_of m order)

-- whatever the moves and the scripts, a script for each program: if the run makes all statements of the programs, and no others
abbrev pub EveryRunComesOut : Meeting → Type 0
EveryRunComesOut m = (scripts : List (List Statement)) (moves : List Move) (run : Run) → length scripts ≡ length m.programs → scripts_fit m.schema scripts ≡ true → RunIs m.schema m.capacity scripts moves run → MakesAll m run.history → ComesOut m run

-- BY TURNS

-- a run of the programs by turns, after which none of them can go on. It begins like the meeting, by the turns of the first program and by
-- the given ones; then come these turns, and those of the last program
pub record RunsToItsEnd (m : Meeting) (around : Around) (told turns : List ℕ) (given : ProgramRun) : Type 0 where
  pub is_run : IsRunOf m.schema m.capacity m.programs (turns_of m.schema m.capacity m.programs around (Some (told ++ turns))) given
  pub begins : beginning m ≡ after_turns m.schema m.capacity m.programs [] (turns_before around (length m.programs) (Some told))
  pub last_is : m.last_waits ≡ around.last
  pub at_end : (u : ℕ) → can_go_on m given.run.history u ≡ false

-- whatever the turns
abbrev pub EveryRunByTurnsComesOut : Meeting → Type 0
EveryRunByTurnsComesOut m = (around : Around) (told turns : List ℕ) (given : ProgramRun) → RunsToItsEnd m around told turns given → ComesOut m given.run

-- WHAT DOES NOT COUNT

-- the answer that the statement due in the program of unit u gets after a history
abbrev pub answer_of : Meeting → List Entry → ℕ → Option Answer
answer_of m history u = option_and_then (λ s. option_map (λ o. o.answer) (effect_of_unit m.schema m.capacity (sequential_after m history) u s)) (due_of m history u)

-- after both histories the same units can have their turn, make the same statement, and get the same answer; the states have the same essence,
-- and are printed alike but for versions
pub record StandAlike (m : Meeting) (history other : List Entry) : Type 0 where
  pub turns : (u : ℕ) → can_turn m history u ≡ can_turn m other u
  pub statements : (u : ℕ) → due_of m history u ≡ due_of m other u
  pub answers : (u : ℕ) → answer_of m history u ≡ answer_of m other u
  pub alike : essence m (state_after m history) ≡ essence m (state_after m other)
  pub text : state_text m (without_versions (state_after m history)) ≡ state_text m (without_versions (state_after m other))

-- after histories whose states have the same essence so it is, and stays so whatever turns follow
abbrev pub EssenceIsAll : Meeting → Type 0
EssenceIsAll m =
    (history other : List Entry) (turns : List ℕ) → essence m (state_after m history) ≡ essence m (state_after m other)
    → StandAlike m (after_order m history turns) (after_order m other turns)

-- FOR EVER

-- the units of the first n turns of a run that does not end
abbrev pub first_turns : (ℕ → ℕ) → ℕ → List ℕ
first_turns run n = map run (range_with_len 0 n)

-- programs go on for ever by these turns, and each unit that can have its turn has one again, sooner or later
pub record GoesOnForEver (m : Meeting) (run : ℕ → ℕ) : Type 0 where
  pub are_turns : (n : ℕ) → IsOrder m (first_turns run n)
  pub again : (n u : ℕ) → can_turn m (history_of m (first_turns run n)) u ≡ true → (k : ℕ) × (n ≤ k) × (run k ≡ u)

-- where there are n states, whoever goes on for ever goes round
abbrev pub ForEverIsRound : Meeting → Type 0
ForEverIsRound m = (n : ℕ) (run : ℕ → ℕ) → CountsStates m n → GoesOnForEver m run → (e : Endless) × IsEndless m e

-- and a way round can be gone round for ever
abbrev pub RoundIsForEver : Meeting → Type 0
RoundIsForEver m = (e : Endless) → IsEndless m e → (run : ℕ → ℕ) × GoesOnForEver m run
