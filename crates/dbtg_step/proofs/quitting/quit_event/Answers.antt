use Rattle.std.proofs.Common.{◌≡◌, Some, slice_get, length, refl, ◌-◌, arith}
use Rattle.std.proofs.lemmas.Option.{slice_get_read}
use Rattle.dbtg_step.proofs.TheCore.NeedsShown.{have_places}
use Rattle.dbtg_step.proofs.TheCore.QuitShown.{quits_is}
use Rattle.dbtg_step.proofs.quitting.quit_event.Goals as goal

pub returns : goal.returns
returns c =
    let runner = c.index_mut-runner.result.now in
    let items = c.args.parts.now.runners.items in
    let at : slice_get items (c.args.unit - 1) ≡ Some runner = slice_get_read items (length items) (c.args.unit - 1) runner refl (omega (arith, c.requires.within, c.requires.numbered)) c.index_mut-runner.ensures.value in
    quits_is c.args.schema.now c.args.capacity c.args.unit c.args.parts.now c.requires.well runner c.requires.numbered at (c.requires.stands runner at) _ _ c.give_each_cell.new.held c.leave_areas.new.held refl refl c.give_each_cell.ensures.table c.give_each_cell.ensures.held c.leave_areas.ensures refl

pub give_each_cell-requires : goal.give_each_cell-requires
give_each_cell-requires c =
    let runner = c.index_mut-runner.result.now in
    let items = c.args.parts.now.runners.items in
    let at : slice_get items (c.args.unit - 1) ≡ Some runner = slice_get_read items (length items) (c.args.unit - 1) runner refl (omega (arith, c.requires.within, c.requires.numbered)) c.index_mut-runner.ensures.value in
    have_places c.args.schema.now c.args.capacity c.args.unit c.args.parts.now runner c.requires.well c.requires.numbered at
