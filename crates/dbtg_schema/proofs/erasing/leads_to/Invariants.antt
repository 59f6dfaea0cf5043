use Rattle.std.proofs.Common.{◌≡◌, ◌&&◌, drop}
use Rattle.std.specs.Prelude.{is_some}
use Rattle.std.specs.List.{list_any}
use Rattle.dbtg_schema.specs.Structure.{member_clause, owns, set_numbers}
use Rattle.dbtg_schema.proofs.erasing.leads_to.Given as goal

abbrev pub invariant-loop-s : goal.invariant-loop-s
invariant-loop-s l =
    list_any (λ s. owns l.schema s l.owner && is_some (member_clause l.schema s l.member)) (drop l.s (set_numbers l.schema))
    ≡ list_any (λ s. owns l.schema s l.owner && is_some (member_clause l.schema s l.member)) (set_numbers l.schema)
