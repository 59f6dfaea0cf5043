use Rattle.std.proofs.Common.{◌≡◌, map, take}
use Rattle.dbtg_step.specs.Core.Whole.{state_now}
use Rattle.dbtg_explore.specs.Versions.{unversioned_unit}
use Rattle.dbtg_explore.proofs.unversioned.unversioned_units.Given as goal

abbrev pub invariant-loop-unit : goal.invariant-loop-unit
invariant-loop-unit l = l.all.items ≡ map (unversioned_unit (state_now l.database).database) (take l.unit-index l.units)
