use Rattle.dbtg_step.specs.Core.Whole.{state_now}
use Rattle.dbtg_states.specs.Inside.InHand.{AreInHand}
use Rattle.dbtg_states.proofs.needing.needed_by.Given as goal

abbrev pub invariant-loop-need : goal.invariant-loop-need
invariant-loop-need l = AreInHand l.schema l.capacity (state_now l.database).database l.hands
