use Rattle.std.proofs.Common.{◌≡◌, ◌++◌, map, length}
use Rattle.std.specs.Vec.Iter.{into_iter_items, into_iter_len}
use Rattle.dbtg_step.specs.declared.parts.UnitState.{UnitState}
use Rattle.dbtg_step.proofs.runner.units_of.Given as goal

-- the units that are there and those of the runners that are left
abbrev pub invariant-loop-runner : goal.invariant-loop-runner
invariant-loop-runner l =
    record {
      is : l.units.items ++ map (λ (r : UnitState). r.unit) (into_iter_items l.runner-iterator) ≡ map (λ (r : UnitState). r.unit) l.fn.runners.items;
      as_many : into_iter_len l.runner-iterator ≡ length (into_iter_items l.runner-iterator);
    }
