use Rattle.std.proofs.Common.{◌≡◌, Some, slice_get, length, refl, sym, ◌∙◌, ◌-◌, arith}
use Rattle.std.proofs.lemmas.Option.{slice_get_read}
use Rattle.dbtg_cells.proofs.Public.{there_is}
use Rattle.dbtg_step.proofs.TheCore.FollowsShown.{cell_followed}
use Rattle.dbtg_step.proofs.TheCore.NeedsRefused.{needed_has_number, needed_is_free}
use Rattle.dbtg_step.proofs.needing.take_cell_event.Goals as goal

pub returns : goal.returns
returns c =
    let runner = c.index_mut-runner.result.now in
    let items = c.args.parts.now.runners.items in
    let at : slice_get items (c.args.unit - 1) ≡ Some runner = slice_get_read items (length items) (c.args.unit - 1) runner refl (omega (arith, c.requires.within, c.requires.numbered)) c.index_mut-runner.ensures.value in
    cell_followed c.args.schema.now c.args.capacity c.args.unit c.args.parts.now runner c.requires.well c.requires.numbered at c.args.progress (c.requires.stands runner at) c.args.name c.requires.needs c.in-Some.number (sym c.cell_number.ensures ∙ c.in-Some.is) _ _ c.take_cell.new.held c.take_cell.result c.take_cell.ensures refl refl refl

pub unreachable-requires : goal.unreachable-requires
unreachable-requires c =
    let items = c.args.parts.now.runners.items in
    let it = there_is items (c.args.unit - 1) (omega (arith, c.requires.within, c.requires.numbered)) in
    needed_has_number c.args.schema.now c.args.capacity c.args.unit c.args.parts.now it.0 c.requires.well c.requires.numbered it.1 c.args.progress (c.requires.stands it.0 it.1) c.args.name c.requires.needs (sym c.cell_number.ensures ∙ c.in-None.is)

pub take_cell-requires-clause-free : goal.take_cell-requires-clause-free
take_cell-requires-clause-free c =
    let runner = c.index_mut-runner.result.now in
    let items = c.args.parts.now.runners.items in
    let at : slice_get items (c.args.unit - 1) ≡ Some runner = slice_get_read items (length items) (c.args.unit - 1) runner refl (omega (arith, c.requires.within, c.requires.numbered)) c.index_mut-runner.ensures.value in
    needed_is_free c.args.schema.now c.args.capacity c.args.unit c.args.parts.now runner c.requires.well c.requires.numbered at c.args.progress (c.requires.stands runner at) c.args.name c.requires.needs
