use Rattle.std.proofs.Common.{◌++◌, ◌∙◌, ap}
use Rattle.std.specs.List.{flat_map}
use Rattle.dbtg_unit.specs.Hands.EditsOf.{leaving_edits}
use Rattle.dbtg_unit.specs.Hands.Erasing.{own_rings}
use Rattle.dbtg_unit.specs.Hands.InHand.{owner_in}
use Rattle.dbtg_erase.proofs.EditLists.{told_by_records}
use Rattle.dbtg_erase.proofs.edits.erased.Goals as goal

pub returns : goal.returns
returns c =
    let schema = c.args.schema.now in
    let owner = owner_in c.args.held.now in
    let gone = c.args.gone.now in
    told_by_records schema owner gone _ c.in_ok-gone.ensures
    (c.in_ok-leave_all_lists.ensures ∙ ap (λ l. l ++ flat_map (leaving_edits schema owner gone) gone) (c.of-places.ensures ∙ c.new.ensures.items))
    (c.in_ok-rings.ensures ∙ ap (flat_map (own_rings schema)) c.as_slice.ensures)
