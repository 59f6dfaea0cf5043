use Rattle.std.proofs.Common.{◌≡◌, Some, slice_get, slice_set, length, refl, sym, ap, ◌∙◌}
use Rattle.std.proofs.lemmas.Option.{slice_get_read}
use Rattle.dbtg_step.specs.declared.parts.CellLocation.TheVariants.{Home, HeldBy}
use Rattle.dbtg_step.proofs.TheCore.FollowsShown.{set_same}
use Rattle.dbtg_step.proofs.needing.take_cell.Goals as goal

pub returns-in-HeldBy : goal.returns-in-HeldBy
returns-in-HeldBy c =
    let items = c.args.table.now.items in
    let at : slice_get items c.args.number ≡ Some (HeldBy c.in-HeldBy.other) = slice_get_read items (length items) c.args.number c.index_mut-place.result.now refl c.requires.within c.index_mut-place.ensures.value ∙ ap Some (sym c.replace.ensures.value ∙ c.in-HeldBy.is) in
    (record { after_is = set_same items c.args.number (HeldBy c.in-HeldBy.other) at; held = refl }, (c.in-HeldBy.other, at))

pub returns-in-Ok : goal.returns-in-Ok
returns-in-Ok c =
    let items = c.args.table.now.items in
    let at : slice_get items c.args.number ≡ Some (Home c.in-Home.cell) = slice_get_read items (length items) c.args.number c.index_mut-place.result.now refl c.requires.within c.index_mut-place.ensures.value ∙ ap Some (sym c.replace.ensures.value ∙ c.in-Home.is) in
    record { taken = c.in-Home.cell; was = at; after_is = ap (slice_set items c.args.number) (c.in-Ok.ensures.taken.0 ∙ c.replace.ensures.after); held = c.in-Ok.ensures.taken.1 }

pub returns-in-Err : goal.returns-in-Err
returns-in-Err c =
    let items = c.args.table.now.items in
    let at : slice_get items c.args.number ≡ Some (Home c.in-Home.cell) = slice_get_read items (length items) c.args.number c.index_mut-place.result.now refl c.requires.within c.index_mut-place.ensures.value ∙ ap Some (sym c.replace.ensures.value ∙ c.in-Home.is) in
    (record { after_is = ap (slice_set items c.args.number) c.in-Err.ensures.home.0 ∙ set_same items c.args.number (Home c.in-Home.cell) at; held = c.in-Err.ensures.home.1 }, (c.in-Home.cell, at))
