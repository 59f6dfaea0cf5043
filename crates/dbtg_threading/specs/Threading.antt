-- Programs that run on threads, each by a unit of its own, to their ends.
-- u is a unit.
use Rattle.std.specs.Prelude.{ℕ, ◌≡◌, ◌+◌, ◌==◌, ◌&&◌, Bool, not, List, Some, None, filter, length, map}
use Rattle.dbtg_schema.specs.Lists.{Lists}
use Rattle.dbtg_program.specs.declared.program.Program.{Program}
use Rattle.dbtg_going.specs.declared.around.Around.{Around}
use Rattle.dbtg_going.specs.declared.going.ProgramRun.{ProgramRun}
use Rattle.dbtg_going.specs.Turns.{IsRunOf, is_heard, others, statement_of, turns_of}

-- it is neither the unit of the first program nor that of the last
abbrev pub is_between : Around → ℕ → ℕ → Bool
is_between around units u = not (around.first && u == others around units + 1) && is_heard around units u

-- a run of programs that take these turns, the first program before all others and the last one after them, and after which none of them
-- can make another statement. The turns are those in which the others made their statements
pub record IsRunOnThreads (schema : Lists) (capacity : ℕ) (programs : List Program) (around : Around) (turns : List ℕ) (given : ProgramRun) : Type 0 where
  pub is_run : IsRunOf schema capacity programs (turns_of schema capacity programs around (Some turns)) given
  pub at_end : (u : ℕ) → statement_of schema programs given.run.history u ≡ None
  pub turns_are : turns ≡ filter (is_between around (length programs)) (map (λ e. e.unit) given.run.history)
