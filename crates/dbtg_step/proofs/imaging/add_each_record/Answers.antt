use Rattle.std.proofs.Common.{◌++◌, ◌∙◌, ap}
use Rattle.dbtg_cells.specs.Numbers.{is_used, numbers_where}
use Rattle.dbtg_cells.specs.declared.name.CellName.TheVariants.{Slot}
use Rattle.dbtg_step.specs.Inside.Imaging.{found_in, record_of, stored_at, version_of}
use Rattle.dbtg_step.proofs.TheCore.RangePushes.{flat_taken}
use Rattle.dbtg_step.proofs.imaging.add_each_record.Goals as goal

pub loop-place-preserved : goal.loop-place-preserved
loop-place-preserved c =
    let found = found_in c.args.schema.now c.args.capacity c.args.source in
    let used = numbers_where is_used c.in-Some.extent.now.numbers in
    let old = c.loop-place.all in
    let new = c.add_record.new.all in
    record {
      records = flat_taken (λ n. record_of c.args.rtype n (stored_at (found (Slot c.args.rtype n)))) used c.loop-place.place c.live_at-number.result c.live_at-number.ensures
          c.args.all.now.records.items old.records.items new.records.items c.loop-place.invariant.records
          (c.in_ok-add_record.ensures.records ∙ ap (λ s. old.records.items ++ record_of c.args.rtype c.live_at-number.result s) c.find_stored-stored.ensures);
      versions = flat_taken (λ n. version_of c.args.rtype n (stored_at (found (Slot c.args.rtype n)))) used c.loop-place.place c.live_at-number.result c.live_at-number.ensures
          c.args.all.now.versions.items old.versions.items new.versions.items c.loop-place.invariant.versions
          (c.in_ok-add_record.ensures.versions ∙ ap (λ s. old.versions.items ++ version_of c.args.rtype c.live_at-number.result s) c.find_stored-stored.ensures);
    }
