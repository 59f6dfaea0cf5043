use Rattle.std.proofs.Common.{◌≡◌, take}
use Rattle.dbtg_unit.specs.Database.State.Base.{picked}
use Rattle.dbtg_plan.proofs.calc.copy_picked.Given as goal

abbrev pub invariant-loop-number : goal.invariant-loop-number
invariant-loop-number l = l.copies ≡ picked (take l.number-index l.numbers) l.items
