use Rattle.std.proofs.Common.{◌-◌}
use Rattle.dbtg_step.proofs.MadeWhole.TurnsTaken.{OnTheWay}
use Rattle.dbtg_step.proofs.TheCore.Work.{parts_left}
use Rattle.dbtg_step.proofs.taking_turns.take_one_turn.Given as goal

abbrev pub invariant-loop-alloc : goal.invariant-loop-alloc
invariant-loop-alloc l = OnTheWay l.schema l.capacity l.unit (l.left - 1) l.initial.parts l.parts l.initial.noted l.noted

abbrev pub decreases-loop-alloc : goal.decreases-loop-alloc
decreases-loop-alloc l = parts_left l.schema l.capacity (l.left - 1) l.unit l.parts
