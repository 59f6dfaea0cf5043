use Rattle.std.proofs.Common.{◌≡◌, Some, slice_get, length, refl, ◌-◌, arith}
use Rattle.std.proofs.lemmas.Option.{slice_get_read}
use Rattle.dbtg_step.proofs.TheCore.EventsShown.{links_is}
use Rattle.dbtg_step.proofs.stepping.link_event.Goals as goal

pub returns : goal.returns
returns c schema capacity well =
    let runner = c.index_mut.result.now in
    let items = c.args.parts.now.runners.items in
    let at : slice_get items (c.args.unit - 1) ≡ Some runner = slice_get_read items (length items) (c.args.unit - 1) runner refl (omega (arith, c.requires.within, c.requires.numbered)) c.index_mut.ensures.value in
    links_is schema capacity c.args.unit c.args.parts.now runner well c.requires.numbered at _ c.link.new.runner refl refl c.args.progress (c.requires.stands runner at) (c.requires.left runner at) refl c.link.ensures
