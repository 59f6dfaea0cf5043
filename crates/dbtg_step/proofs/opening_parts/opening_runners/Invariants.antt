use Rattle.std.proofs.Common.{◌≡◌, ◌++◌, ◌+◌, length}
use Rattle.std.specs.Vec.Iter.{into_iter_items, into_iter_len}
use Rattle.dbtg_step.specs.Inside.Openings.{runners_from}
use Rattle.dbtg_step.proofs.opening_parts.opening_runners.Given as goal

-- the units that are made and those of the scripts that are left are all units
abbrev pub invariant-loop-script : goal.invariant-loop-script
invariant-loop-script l =
    record {
      is : l.runners.items ++ runners_from l.schema (length l.runners.items + 1) (into_iter_items l.script-iterator) ≡ runners_from l.schema 1 l.fn.scripts;
      count : length l.runners.items + length (into_iter_items l.script-iterator) ≡ length l.fn.scripts;
      as_many : into_iter_len l.script-iterator ≡ length (into_iter_items l.script-iterator);
    }
