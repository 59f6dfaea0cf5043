use Rattle.dbtg_unit.specs.Hands.EditsOf.{close_ring}
use Rattle.dbtg_unit.proofs.Hands.Holding.WhileEditing.{one_more_made}
use Rattle.dbtg_unit.proofs.erased.close_each_ring.Goals as goal

pub loop-name-preserved : goal.loop-name-preserved
loop-name-preserved c =
    let loop = c.loop-name in
    let next = c.close_ring in
    one_more_made close_ring c.args.rings.now loop.name-index c.name-item.result c.args.held.now loop.held next.new.held c.loop-name-test.true c.name-item.is loop.invariant next.ensures.made next.ensures.areas next.ensures.guesses
