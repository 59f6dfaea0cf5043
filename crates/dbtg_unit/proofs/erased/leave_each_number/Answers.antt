use Rattle.dbtg_unit.specs.Hands.EditsOf.{leave_number}
use Rattle.dbtg_unit.proofs.Hands.Holding.WhileEditing.{one_more_made}
use Rattle.dbtg_unit.proofs.erased.leave_each_number.Goals as goal

pub loop-key-preserved : goal.loop-key-preserved
loop-key-preserved c =
    let loop = c.loop-key in
    let next = c.leave_number in
    one_more_made leave_number c.args.gone.now loop.key-index c.key-item.result c.args.held.now loop.held next.new.held c.loop-key-test.true c.key-item.is loop.invariant next.ensures.made next.ensures.areas next.ensures.guesses
