use Rattle.std.proofs.Common.{◌≡◌, drop}
use Rattle.std.specs.List.{find}
use Rattle.dbtg_schema.specs.Structure.{set_numbers}
use Rattle.dbtg_erase.specs.Inside.NextCell.{stops_at}
use Rattle.dbtg_erase.proofs.next.first_stop.Given as goal

abbrev pub invariant-loop-s : goal.invariant-loop-s
invariant-loop-s l =
    find (stops_at l.schema l.held l.key) (drop l.s (set_numbers l.schema)) ≡ find (stops_at l.schema l.held l.key) (set_numbers l.schema)
