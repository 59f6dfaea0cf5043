use Rattle.std.proofs.Common.{◌≡◌, drop}
use Rattle.std.specs.Prelude.{is_some}
use Rattle.std.specs.List.{list_any}
use Rattle.dbtg_schema.specs.Structure.{set_numbers}
use Rattle.dbtg_unit.specs.Hands.Needs.{guessed_sets}
use Rattle.dbtg_plan.specs.Inside.Stale.{has_wrong_owner_in, wrong_owner_in}
use Rattle.dbtg_plan.proofs.stale.has_wrong_owner_in.Given as goal

abbrev pub invariant-loop-s : goal.invariant-loop-s
invariant-loop-s l =
    list_any (λ s. is_some (wrong_owner_in l.held (guessed_sets l.schema l.unit l.statement) l.key s)) (drop l.s (set_numbers l.schema))
    ≡ has_wrong_owner_in l.schema l.unit l.held l.statement l.key
