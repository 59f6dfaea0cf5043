use Rattle.std.proofs.Common.{◌≡◌, Some, slice_get, length, refl, ◌-◌, arith}
use Rattle.std.proofs.lemmas.Option.{slice_get_read}
use Rattle.dbtg_step.proofs.TheCore.EventsShown.{begins_is}
use Rattle.dbtg_step.proofs.stepping.begin_event.Goals as goal

pub returns : goal.returns
returns c schema capacity well =
    let runner = c.index_mut.result.now in
    let items = c.args.parts.now.runners.items in
    let at : slice_get items (c.args.unit - 1) ≡ Some runner = slice_get_read items (length items) (c.args.unit - 1) runner refl (omega (arith, c.requires.within, c.requires.numbered)) c.index_mut.ensures.value in
    begins_is schema capacity c.args.unit c.args.parts.now runner well c.requires.numbered at _ c.begin.new.runner refl refl (c.requires.stands runner at) refl c.begin.ensures
