use Rattle.std.proofs.Common.{◌≡◌, ◌++◌, take}
use Rattle.std.specs.List.{flat_map}
use Rattle.dbtg_states.proofs.spelled.spell_each.Given as goal

abbrev pub invariant-loop-item : goal.invariant-loop-item
invariant-loop-item g l = l.out.items ≡ l.initial.out.items ++ flat_map g.T.Spelled.numbers (take l.item-index l.items)
