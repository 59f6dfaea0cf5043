use Rattle.std.proofs.Common.{drop}
use Rattle.dbtg_states.proofs.States.PutCells.{ArePut}
use Rattle.dbtg_states.proofs.numbers.Numbers.put_cells.Given as goal

abbrev pub invariant-loop-name : goal.invariant-loop-name
invariant-loop-name l = ArePut l.database l.spelling.versions l.spelling.units l.initial.self l.self l.names (drop l.name-index l.names) l.array l.number
