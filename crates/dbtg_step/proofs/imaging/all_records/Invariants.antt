use Rattle.std.proofs.Common.{◌≡◌}
use Rattle.std.specs.List.{flat_map, range_with_len}
use Rattle.dbtg_step.specs.Inside.Imaging.{found_in, records_of, versions_of}
use Rattle.dbtg_step.proofs.imaging.all_records.Given as goal

abbrev pub invariant-loop-rtype : goal.invariant-loop-rtype
invariant-loop-rtype l = record {
  records : l.all.records.items ≡ flat_map (records_of (found_in l.schema l.capacity l.source)) (range_with_len 0 l.rtype);
  versions : l.all.versions.items ≡ flat_map (versions_of (found_in l.schema l.capacity l.source)) (range_with_len 0 l.rtype);
}
