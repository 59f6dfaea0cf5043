use Rattle.std.proofs.Common.{◌≡◌, map, take}
use Rattle.dbtg_script.specs.Statements.{calc_value}
use Rattle.dbtg_script.specs.Inside.Views.{views}
use Rattle.dbtg_script.proofs.statement.calc_values.Given as goal

abbrev pub invariant-loop-item : goal.invariant-loop-item
invariant-loop-item l = l.values.items ≡ map (calc_value l.schema l.rtype (views l.words)) (take l.item-index l.item-items)
