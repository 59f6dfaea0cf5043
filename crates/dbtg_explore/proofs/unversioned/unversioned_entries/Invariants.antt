use Rattle.std.proofs.Common.{◌≡◌, map, take}
use Rattle.dbtg_step.specs.Core.Whole.{state_now}
use Rattle.dbtg_explore.specs.Versions.{unversioned_entry}
use Rattle.dbtg_explore.proofs.unversioned.unversioned_entries.Given as goal

abbrev pub invariant-loop-entry : goal.invariant-loop-entry
invariant-loop-entry l = l.all.items ≡ map (unversioned_entry (state_now l.database).database) (take l.entry-index l.entries)
