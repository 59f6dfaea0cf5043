use Rattle.std.proofs.Common.{◌≡◌, take}
use Rattle.dbtg_step.specs.Core.Audit.{entries_at}
use Rattle.dbtg_step.proofs.auditing.each_of.Given as goal

abbrev pub invariant-loop-entry : goal.invariant-loop-entry
invariant-loop-entry l = entries_at l.entries.items ≡ take l.entry-index l.history
