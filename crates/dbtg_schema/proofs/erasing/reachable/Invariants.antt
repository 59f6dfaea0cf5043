use Rattle.std.proofs.Common.{◌≡◌, ◌&&◌, ◌==◌, length}
use Rattle.std.specs.Prelude.{filter, is_some}
use Rattle.std.specs.List.{list_any, range_with_len}
use Rattle.dbtg_schema.specs.Closure.{reached_in}
use Rattle.dbtg_schema.specs.Structure.{owns, member_clause, set_numbers}
use Rattle.dbtg_schema.specs.Erasing.{marked}
use Rattle.dbtg_schema.proofs.erasing.reachable.Given as goal

abbrev pub invariant-loop-round : goal.invariant-loop-round
invariant-loop-round l =
    filter (marked l.marks) (range_with_len 0 (length l.schema.types))
    ≡ reached_in (λ o m. list_any (λ s. owns l.schema s o && is_some (member_clause l.schema s m)) (set_numbers l.schema)) (λ u. u == l.start) (range_with_len 0 (length l.schema.types)) l.round
