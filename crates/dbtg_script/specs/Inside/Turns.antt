-- A word beside `Turns` that private functions and lemmas use.
use Rattle.dbtg_script.specs.declared.moves.MovesFault.{MovesFault}
use Rattle.dbtg_script.specs.declared.moves.MovesFault.TheVariants as moves_fault
use Rattle.dbtg_script.specs.declared.turns.TurnsFault.{TurnsFault}
use Rattle.dbtg_script.specs.declared.turns.TurnsFault.TheVariants as turns_fault

-- the same fault, of turns
abbrev pub as_turns_fault : MovesFault → TurnsFault
as_turns_fault moves_fault.Memory = turns_fault.Memory
as_turns_fault (moves_fault.Refused word cause) = turns_fault.Refused word cause
