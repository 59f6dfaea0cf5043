use Rattle.std.proofs.Common.{◌∙◌, ap, arith}
use Rattle.dbtg_cells.specs.declared.name.CellName.TheVariants.{Extent}
use Rattle.dbtg_unit.specs.Hands.InHand.{numbers_of}
use Rattle.dbtg_step.specs.Inside.Imaging.{found_in, next_in}
use Rattle.dbtg_step.proofs.TheCore.RangePushes.{map_pushed}
use Rattle.dbtg_step.proofs.imaging.next_numbers.Goals as goal

pub loop-rtype-preserved : goal.loop-rtype-preserved
loop-rtype-preserved c =
    let found = found_in c.args.schema.now c.args.capacity c.args.source in
    map_pushed (λ t. next_in (numbers_of (found (Extent t)))) 0 c.loop-rtype.rtype c.loop-rtype.rtype (omega arith) c.next_in.result c.loop-rtype.all.items c.push.new.self.items c.loop-rtype.invariant c.in_ok-push.ensures.items
    (c.next_in.ensures ∙ ap next_in c.find_extent.ensures ∙ ap (λ t. next_in (numbers_of (found (Extent t)))) c.new-rtype.ensures)
