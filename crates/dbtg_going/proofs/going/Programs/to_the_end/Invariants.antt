use Rattle.std.specs.Prelude.{replicate}
use Rattle.dbtg_going.specs.Inside.Members.{HaveTurned}
use Rattle.dbtg_going.proofs.going.Programs.to_the_end.Given as goal

abbrev pub invariant-loop-turn : goal.invariant-loop-turn
invariant-loop-turn l = HaveTurned l.self.schema.now l.self.list.now l.initial.database (replicate l._turn l.unit) l.database l.members
