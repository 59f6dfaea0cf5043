use Rattle.std.proofs.Common.{◌≡◌, ◌&&◌, drop, length}
use Rattle.std.specs.List.{list_any, range_with_len}
use Rattle.dbtg_schema.specs.Erasing.{marked}
use Rattle.dbtg_unit.specs.Inside.Areas.{asks}
use Rattle.dbtg_unit.proofs.areas.ask_of_marked.Given as goal

abbrev pub invariant-loop-a : goal.invariant-loop-a
invariant-loop-a l =
    list_any (λ a. marked l.areas a && asks l.unit.modes l.question a) (drop l.a (range_with_len 0 (length l.schema.areas)))
    ≡ list_any (λ a. marked l.areas a && asks l.unit.modes l.question a) (range_with_len 0 (length l.schema.areas))
