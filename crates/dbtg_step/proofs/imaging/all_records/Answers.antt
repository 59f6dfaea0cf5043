use Rattle.std.proofs.Common.{[], ◌++◌, ◌∙◌, ap, arith}
use Rattle.dbtg_step.specs.Inside.Imaging.{found_in, records_of, versions_of}
use Rattle.dbtg_step.proofs.TheCore.RangePushes.{flat_pushed}
use Rattle.dbtg_step.proofs.imaging.all_records.Goals as goal

pub loop-rtype-preserved : goal.loop-rtype-preserved
loop-rtype-preserved c =
    let found = found_in c.args.schema.now c.args.capacity c.args.source in
    let old = c.loop-rtype.all in
    let new = c.add_each_record.new.all in
    record {
      records = flat_pushed (records_of found) 0 c.loop-rtype.rtype c.loop-rtype.rtype (omega arith) [] old.records.items new.records.items c.loop-rtype.invariant.records
          (c.in_ok-add_each_record.ensures.records ∙ ap (λ t. old.records.items ++ records_of found t) c.new-rtype.ensures);
      versions = flat_pushed (versions_of found) 0 c.loop-rtype.rtype c.loop-rtype.rtype (omega arith) [] old.versions.items new.versions.items c.loop-rtype.invariant.versions
          (c.in_ok-add_each_record.ensures.versions ∙ ap (λ t. old.versions.items ++ versions_of found t) c.new-rtype.ensures);
    }
