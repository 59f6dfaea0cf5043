use Rattle.std.proofs.Common.{◌≡◌, ◌++◌, take}
use Rattle.std.specs.List.{flat_map}
use Rattle.dbtg_draw.specs.Dot.{record_node}
use Rattle.dbtg_draw.proofs.dot.push_each_record.Given as goal

abbrev pub invariant-loop-record : goal.invariant-loop-record
invariant-loop-record l = l.out.items ≡ l.initial.out.items ++ flat_map (record_node l.schema) (take l.record-index l.records)
