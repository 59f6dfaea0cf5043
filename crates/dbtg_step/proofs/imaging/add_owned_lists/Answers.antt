use Rattle.std.proofs.Common.{◌++◌, ◌∙◌, ap, Some}
use Rattle.dbtg_cells.specs.Numbers.{is_used, numbers_where}
use Rattle.dbtg_cells.specs.declared.name.CellName.TheVariants.{Ring}
use Rattle.dbtg_step.specs.Inside.Imaging.{found_in, list_of, occurrence_at}
use Rattle.dbtg_step.proofs.TheCore.RangePushes.{flat_taken}
use Rattle.dbtg_step.proofs.imaging.add_owned_lists.Goals as goal

pub loop-place-preserved : goal.loop-place-preserved
loop-place-preserved c =
    let found = found_in c.args.schema.now c.args.capacity c.args.source in
    flat_taken (λ n. list_of (occurrence_at (found (Ring c.args.set (Some (c.args.rtype, n)))))) (numbers_where is_used c.in-Some.extent.now.numbers) c.loop-place.place c.live_at.result c.live_at.ensures
    c.args.lists.now.items c.loop-place.lists.items c.add_list.new.lists.items c.loop-place.invariant
    (c.in_ok-add_list.ensures ∙ ap (λ o. c.loop-place.lists.items ++ list_of o) c.find_ring.ensures)
