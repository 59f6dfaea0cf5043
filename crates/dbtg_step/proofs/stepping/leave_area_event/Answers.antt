use Rattle.std.proofs.Common.{◌≡◌, Some, slice_get, length, refl, ◌-◌, arith}
use Rattle.std.proofs.lemmas.Option.{slice_get_read}
use Rattle.dbtg_step.proofs.TheCore.EventsShown.{leaves_area_is}
use Rattle.dbtg_step.proofs.stepping.leave_area_event.Goals as goal

pub returns : goal.returns
returns c schema capacity well =
    let runner = c.index_mut-runner.result.now in
    let items = c.args.parts.now.runners.items in
    let at : slice_get items (c.args.unit - 1) ≡ Some runner = slice_get_read items (length items) (c.args.unit - 1) runner refl (omega (arith, c.requires.within, c.requires.numbered)) c.index_mut-runner.ensures.value in
    leaves_area_is schema capacity c.args.unit c.args.parts.now runner well c.requires.numbered at _ c.close.new.runner refl refl c.args.progress (c.requires.stands runner at) (c.requires.cells runner at) c.pop_area.new.self c.pop_area.result c.pop_area.ensures.areas c.pop_area.ensures.none c.pop_area.ensures.rest refl c.close.ensures
