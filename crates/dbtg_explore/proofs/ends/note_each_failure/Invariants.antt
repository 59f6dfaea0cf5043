use Rattle.std.proofs.Common.{List}
use Rattle.dbtg_unit.specs.declared.unit.Entry.{Entry}
use Rattle.dbtg_explore.specs.Inside.Failures.{Take}
use Rattle.dbtg_explore.specs.Inside.Parts.{IsNumberOf}
use Rattle.dbtg_explore.proofs.Noting.{FailsTo}
use Rattle.dbtg_explore.proofs.ends.note_each_failure.Given as goal

abbrev pub invariant-loop-before : goal.invariant-loop-before
invariant-loop-before l = (history : List Entry) → IsNumberOf l.meeting l.numbers history l.state → Take (FailsTo l.meeting history l.before) l.initial.failures.items l.failures.items
