use Rattle.std.proofs.Common.{◌≡◌, ◌++◌, take}
use Rattle.std.specs.List.{flat_map}
use Rattle.dbtg_cells.specs.Numbers.{is_used, numbers_where}
use Rattle.dbtg_cells.specs.declared.name.CellName.TheVariants.{Slot}
use Rattle.dbtg_step.specs.Inside.Imaging.{found_in, record_of, stored_at, version_of}
use Rattle.dbtg_step.proofs.imaging.add_each_record.Given as goal

abbrev pub invariant-loop-place : goal.invariant-loop-place
invariant-loop-place l = record {
  records : l.all.records.items ≡ l.initial.all.records.items ++ flat_map (λ n. record_of l.rtype n (stored_at (found_in l.schema l.capacity l.source (Slot l.rtype n)))) (take l.place (numbers_where is_used l.extent.numbers));
  versions : l.all.versions.items ≡ l.initial.all.versions.items ++ flat_map (λ n. version_of l.rtype n (stored_at (found_in l.schema l.capacity l.source (Slot l.rtype n)))) (take l.place (numbers_where is_used l.extent.numbers));
}
