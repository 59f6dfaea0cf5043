use Rattle.std.proofs.Common.{◌∙◌, ap, arith}
use Rattle.dbtg_cells.specs.declared.name.CellName.TheVariants.{Extent}
use Rattle.dbtg_unit.specs.Hands.InHand.{numbers_of}
use Rattle.dbtg_step.specs.Inside.Imaging.{found_in, generations_in}
use Rattle.dbtg_step.proofs.TheCore.RangePushes.{map_pushed}
use Rattle.dbtg_step.proofs.imaging.all_generations.Goals as goal

pub loop-rtype-preserved : goal.loop-rtype-preserved
loop-rtype-preserved c =
    let found = found_in c.args.schema.now c.args.capacity c.args.source in
    map_pushed (λ t. generations_in (numbers_of (found (Extent t)))) 0 c.loop-rtype.rtype c.loop-rtype.rtype (omega arith) c.in_ok-generations_of.field-0 c.loop-rtype.all.items c.push.new.self.items c.loop-rtype.invariant c.in_ok-push.ensures.items
    (c.in_ok-generations_of.ensures ∙ ap generations_in c.find_extent-extent.ensures ∙ ap (λ t. generations_in (numbers_of (found (Extent t)))) c.new.ensures)
