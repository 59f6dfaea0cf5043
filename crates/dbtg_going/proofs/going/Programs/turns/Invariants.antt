use Rattle.std.proofs.Common.{length, take}
use Rattle.std.specs.Prelude.{filter}
use Rattle.dbtg_going.specs.Turns.{is_heard}
use Rattle.dbtg_going.specs.Inside.Members.{HaveTurned}
use Rattle.dbtg_going.proofs.going.Programs.turns.Given as goal

abbrev pub invariant-loop-unit : goal.invariant-loop-unit
invariant-loop-unit l = HaveTurned l.self.schema.now l.self.list.now l.initial.database (filter (is_heard l.self.around (length l.self.list.now)) (take l.unit-index l.turns)) l.database l.members
