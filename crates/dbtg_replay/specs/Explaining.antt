-- What is said of the statements of a run of moves.
use Rattle.std.specs.Prelude.{ℕ, List, length, map}
use Rattle.dbtg_schema.specs.Lists.{Lists}
use Rattle.dbtg_unit.specs.declared.moves.Move.{Move}
use Rattle.dbtg_unit.specs.declared.statement.Statement.{Statement}
use Rattle.dbtg_step.specs.Machine.Headline.{entry_of, machine_after}
use Rattle.dbtg_refusal.specs.Said.{said_of_history}

-- of each statement, by ticket
abbrev pub said_of_run : Lists → ℕ → List (List Statement) → List Move → List (List ℕ)
said_of_run lists capacity scripts moves = said_of_history lists capacity (length scripts) (map entry_of (machine_after lists capacity scripts moves).history)
