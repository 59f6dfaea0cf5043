use Rattle.std.proofs.Common.{◌≡◌, Some, slice_get, length, refl, ◌-◌, arith}
use Rattle.std.proofs.lemmas.Option.{slice_get_read}
use Rattle.dbtg_step.proofs.TheCore.EventsShown.{turns_back_is}
use Rattle.dbtg_step.proofs.TheCore.NeedsShown.{have_places}
use Rattle.dbtg_step.proofs.stepping.turn_back_event.Goals as goal

pub returns : goal.returns
returns c =
    let runner = c.index_mut-runner.result.now in
    let items = c.args.parts.now.runners.items in
    let at : slice_get items (c.args.unit - 1) ≡ Some runner = slice_get_read items (length items) (c.args.unit - 1) runner refl (omega (arith, c.requires.within, c.requires.numbered)) c.index_mut-runner.ensures.value in
    turns_back_is c.args.schema.now c.args.capacity c.args.unit c.args.parts.now runner c.requires.well c.requires.numbered at _ c.turn_back.new.runner refl refl c.args.progress (c.requires.stands runner at).before.progress c.give_cell.new.held c.give_cell.ensures (c.requires.stands runner at) c.turn_back.ensures

pub give_cell-requires-clause-places : goal.give_cell-requires-clause-places
give_cell-requires-clause-places c =
    let runner = c.index_mut-runner.result.now in
    let items = c.args.parts.now.runners.items in
    let at : slice_get items (c.args.unit - 1) ≡ Some runner = slice_get_read items (length items) (c.args.unit - 1) runner refl (omega (arith, c.requires.within, c.requires.numbered)) c.index_mut-runner.ensures.value in
    have_places c.args.schema.now c.args.capacity c.args.unit c.args.parts.now runner c.requires.well c.requires.numbered at
