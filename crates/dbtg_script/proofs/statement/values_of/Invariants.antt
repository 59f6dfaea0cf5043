use Rattle.std.proofs.Common.{◌≡◌, take}
use Rattle.dbtg_script.specs.Statements.{values_of}
use Rattle.dbtg_script.specs.Inside.Views.{views}
use Rattle.dbtg_script.proofs.statement.values_of.Given as goal

abbrev pub invariant-loop-item : goal.invariant-loop-item
invariant-loop-item l = l.values.items ≡ values_of (views l.words) (take l.item-index l.items)
