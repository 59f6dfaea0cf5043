-- What moves do to a core.
use Rattle.std.specs.Prelude.{List}
use Rattle.dbtg_unit.specs.declared.moves.Move.{Move}
use Rattle.dbtg_unit.specs.declared.moves.Stepped.{Stepped}
use Rattle.dbtg_step.specs.Machine.Network.{network}
use Rattle.dbtg_step.specs.Machine.Step.{results, run}
use Rattle.dbtg_step.specs.Core.Parts.{CoreState, with_state}

-- the machine after these moves
abbrev pub after_moves : CoreState → List Move → CoreState
after_moves c moves = with_state c (run (network c.schema c.capacity) c.opening c.state moves)

-- the result of each of them
abbrev pub results_of_moves : CoreState → List Move → List Stepped
results_of_moves c moves = results (network c.schema c.capacity) c.opening c.state moves
