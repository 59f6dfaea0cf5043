use Rattle.std.proofs.Common.{◌≡◌, ◌&&◌, drop}
use Rattle.std.specs.List.{list_any, range_with_len}
use Rattle.dbtg_schema.specs.Erasing.{marked}
use Rattle.dbtg_schema.specs.Inside.Erasing.{marked_in}
use Rattle.dbtg_schema.proofs.erasing.is_given.Given as goal

abbrev pub invariant-loop-row : goal.invariant-loop-row
invariant-loop-row l =
    list_any (λ x. marked l.marks x && marked_in l.table x l.number) (drop l.row (range_with_len 0 l.rows))
    ≡ list_any (λ x. marked l.marks x && marked_in l.table x l.number) (range_with_len 0 l.rows)
