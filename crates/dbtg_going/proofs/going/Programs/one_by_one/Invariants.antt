use Rattle.dbtg_going.specs.Turns.{one_by_one}
use Rattle.dbtg_going.specs.Inside.Members.{HaveTurned}
use Rattle.dbtg_going.proofs.going.Programs.one_by_one.Given as goal

abbrev pub invariant-loop-before : goal.invariant-loop-before
invariant-loop-before l = HaveTurned l.self.schema.now l.self.list.now l.initial.database (one_by_one l.before) l.database l.members
