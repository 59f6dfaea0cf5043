use Rattle.dbtg_explore.specs.Inside.Parts.{parts_of}
use Rattle.dbtg_states.proofs.States.Numbers.{ArePut}
use Rattle.dbtg_explore.proofs.meeting.Meeting.put_units.Given as goal

abbrev pub invariant-loop-before : goal.invariant-loop-before
invariant-loop-before l = ArePut (parts_of l.self l.walk.database.making.history) l.initial.numbers l.numbers l.before l.array l.number
