use Rattle.std.proofs.Common.{take}
use Rattle.dbtg_step.specs.Core.Audit.{entries_at}
use Rattle.dbtg_step.specs.Core.Bare.{Continues}
use Rattle.dbtg_step.proofs.auditing.takes_all.Given as goal

abbrev pub invariant-loop-entry : goal.invariant-loop-entry
invariant-loop-entry l = Continues l.initial.database (take l.entry-index (entries_at l.history)) l.database
