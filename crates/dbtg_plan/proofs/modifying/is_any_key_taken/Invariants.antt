use Rattle.std.proofs.Common.{◌≡◌, drop}
use Rattle.std.specs.List.{list_any}
use Rattle.dbtg_schema.specs.Structure.{set_numbers}
use Rattle.dbtg_plan.specs.Inside.Modifying.{is_refused}
use Rattle.dbtg_plan.proofs.modifying.is_any_key_taken.Given as goal

abbrev pub invariant-loop-s : goal.invariant-loop-s
invariant-loop-s l =
    list_any (is_refused l.schema l.held l.changes l.key l.items) (drop l.s (set_numbers l.schema))
    ≡ list_any (is_refused l.schema l.held l.changes l.key l.items) (set_numbers l.schema)
