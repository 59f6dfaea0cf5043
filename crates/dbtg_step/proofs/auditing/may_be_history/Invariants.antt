use Rattle.std.proofs.Common.{take}
use Rattle.dbtg_step.specs.Core.Audit.{MayBeHistory}
use Rattle.dbtg_step.proofs.auditing.may_be_history.Given as goal

abbrev pub invariant-loop-place : goal.invariant-loop-place
invariant-loop-place l = MayBeHistory l.schema l.units (take l.place l.history)
