use Rattle.std.proofs.Common.{refl}
use Rattle.dbtg_step.proofs.MadeWhole.Wholes.{area_more}
use Rattle.dbtg_step.proofs.whole.hold_areas.Goals as goal

pub loop-area-preserved : goal.loop-area-preserved
loop-area-preserved c = area_more c.args.held.now c.loop-area.held c.push_area.new.self c.loop-area.area c.loop-area.area refl c.loop-area.invariant (rw c.new.ensures at c.in_ok-push_area.ensures.ok)
