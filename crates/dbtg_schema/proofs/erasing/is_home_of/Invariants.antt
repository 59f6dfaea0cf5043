use Rattle.std.proofs.Common.{◌≡◌, ◌&&◌, drop}
use Rattle.std.specs.Prelude.{is_some, ◌==◌}
use Rattle.std.specs.List.{list_any}
use Rattle.dbtg_schema.specs.Structure.{home, member_clause, set_numbers}
use Rattle.dbtg_schema.proofs.erasing.is_home_of.Given as goal

abbrev pub invariant-loop-s : goal.invariant-loop-s
invariant-loop-s l =
    list_any (λ s. is_some (member_clause l.schema s l.rtype) && home l.schema s == l.area) (drop l.s (set_numbers l.schema))
    ≡ list_any (λ s. is_some (member_clause l.schema s l.rtype) && home l.schema s == l.area) (set_numbers l.schema)
