use Rattle.std.proofs.Common.{◌≡◌, drop}
use Rattle.std.specs.List.{flat_map}
use Rattle.dbtg_schema.specs.Lookups.{first_cause}
use Rattle.dbtg_schema.specs.Structure.{automatic_sets}
use Rattle.dbtg_unit.specs.Database.State.Base.{key_item}
use Rattle.dbtg_unit.specs.Database.Statements.Checks.{place_checks}
use Rattle.dbtg_unit.specs.Hands.InHand.{in_hand}
use Rattle.dbtg_plan.proofs.storing.refusal_in_any_set.Given as goal

abbrev pub invariant-loop-set : goal.invariant-loop-set
invariant-loop-set l =
    first_cause (flat_map (λ s. place_checks l.schema (in_hand l.held) l.unit s (key_item l.schema s l.rtype l.items)) (drop l.set-index l.set-items))
    ≡ first_cause (flat_map (λ s. place_checks l.schema (in_hand l.held) l.unit s (key_item l.schema s l.rtype l.items)) (automatic_sets l.schema l.rtype))
