use Rattle.std.proofs.Common.{◌≡◌, ◌++◌, length}
use Rattle.std.specs.List.{flat_map}
use Rattle.dbtg_script.specs.Lines.{lines}
use Rattle.dbtg_explain.specs.Explaining.{fault_line, fault_table}
use Rattle.dbtg_explain.proofs.topic.push_each_fault.Given as goal

abbrev pub invariant-loop-fault : goal.invariant-loop-fault
invariant-loop-fault l = l.out.items ++ flat_map (fault_line l.kind) (lines l.rest) ≡ l.initial.out.items ++ fault_table l.kind

abbrev pub decreases-loop-fault : goal.decreases-loop-fault
decreases-loop-fault l = length l.rest
