use Rattle.std.proofs.Common.{take}
use Rattle.dbtg_step.specs.Core.Audit.{MayBeHistory, entries_at}
use Rattle.dbtg_step.proofs.auditing.each_may_stand.Given as goal

abbrev pub invariant-loop-place : goal.invariant-loop-place
invariant-loop-place l = MayBeHistory l.schema l.units (take l.place (entries_at l.history))
