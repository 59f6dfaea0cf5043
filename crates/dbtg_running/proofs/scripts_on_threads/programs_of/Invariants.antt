use Rattle.std.proofs.Common.{◌≡◌, ◌++◌, map}
use Rattle.std.specs.Vec.Iter.{into_iter_items}
use Rattle.dbtg_program.specs.Scripts.{of_script}
use Rattle.dbtg_running.proofs.scripts_on_threads.programs_of.Given as goal

-- the programs that are made and those that are left to make are all of them
abbrev pub invariant-loop-script : goal.invariant-loop-script
invariant-loop-script l = l.programs.items ++ map of_script (into_iter_items l.script-iterator) ≡ map of_script l.fn.scripts
