use Rattle.std.proofs.Common.{◌≡◌, ◌++◌, length}
use Rattle.std.specs.List.{flat_map}
use Rattle.dbtg_script.specs.Lines.{lines}
use Rattle.dbtg_explain.specs.Explaining.{status_line}
use Rattle.dbtg_explain.specs.declared.statuses.TheConstants.{STATUSES}
use Rattle.dbtg_explain.proofs.topic.push_statuses.Given as goal

abbrev pub invariant-loop-status : goal.invariant-loop-status
invariant-loop-status l = l.out.items ++ flat_map status_line (lines l.rest) ≡ l.initial.out.items ++ flat_map status_line (lines STATUSES.now)

abbrev pub decreases-loop-status : goal.decreases-loop-status
decreases-loop-status l = length l.rest
