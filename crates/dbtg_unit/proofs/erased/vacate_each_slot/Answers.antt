use Rattle.dbtg_unit.specs.declared.edit.Edit.TheVariants.{Vacate}
use Rattle.dbtg_unit.specs.Hands.EditsOf.{slot_edit}
use Rattle.dbtg_unit.proofs.Hands.Holding.WhileEditing.{one_more_made}
use Rattle.dbtg_unit.proofs.erased.vacate_each_slot.Goals as goal

pub loop-key-preserved : goal.loop-key-preserved
loop-key-preserved c =
    let loop = c.loop-key in
    let next = c.vacate_slot in
    one_more_made (λ d. slot_edit d Vacate) c.args.gone.now loop.key-index c.key-item.result c.args.held.now loop.held next.new.held c.loop-key-test.true c.key-item.is loop.invariant next.ensures.made next.ensures.areas next.ensures.guesses
