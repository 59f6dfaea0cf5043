use Rattle.std.proofs.Common.{◌∙◌, ap, arith}
use Rattle.dbtg_cells.specs.declared.name.CellName.TheVariants.{Usage}
use Rattle.dbtg_unit.specs.Hands.InHand.{users_of}
use Rattle.dbtg_step.specs.Inside.Imaging.{found_in}
use Rattle.dbtg_step.proofs.TheCore.RangePushes.{map_pushed}
use Rattle.dbtg_step.proofs.imaging.all_users.Goals as goal

pub loop-area-preserved : goal.loop-area-preserved
loop-area-preserved c =
    let found = found_in c.args.schema.now c.args.capacity c.args.source in
    map_pushed (λ a. users_of (found (Usage a))) 0 c.loop-area.area c.loop-area.area (omega arith) c.in_ok-users_of.field-0 c.loop-area.all.items c.push.new.self.items c.loop-area.invariant c.in_ok-push.ensures.items
    (c.in_ok-users_of.ensures ∙ c.find_usage-usage.ensures ∙ ap (λ a. users_of (found (Usage a))) c.new.ensures)
