use Rattle.std.proofs.Common.{◌≡◌, drop, filter, length, map}
use Rattle.std.specs.List.{range_with_len}
use Rattle.dbtg_cells.specs.declared.name.CellName.TheVariants.{Extent}
use Rattle.dbtg_unit.specs.Hands.Needs.{first_missing}
use Rattle.dbtg_plan.specs.Inside.Finding.{is_wanted}
use Rattle.dbtg_plan.proofs.finding.area.missing_extent.Given as goal

abbrev pub invariant-loop-t : goal.invariant-loop-t
invariant-loop-t l =
    first_missing l.held (map Extent (filter (is_wanted l.schema l.named l.area) (drop l.t (range_with_len 0 (length l.schema.types)))))
    ≡ first_missing l.held (map Extent (filter (is_wanted l.schema l.named l.area) (range_with_len 0 (length l.schema.types))))
