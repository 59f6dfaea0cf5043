use Rattle.std.proofs.Common.{◌≡◌, ◌∙◌, ap, List, None, length}
use Rattle.std.specs.Prelude.{replicate}
use Rattle.dbtg_schema.specs.declared.shape.SetType.{SetType}
use Rattle.dbtg_unit.specs.Hands.Needs.{current_owner}
use Rattle.dbtg_plan.proofs.Store.StoreSteps.{first_owners_noted, noted}
use Rattle.dbtg_plan.proofs.storing.first_owners.Goals as goal

pub loop-set-init : goal.loop-set-init
loop-set-init c =
    let none_is : c.none-owners.result ≡ replicate (length c.args.schema.now.sets) None = c.none-owners.ensures ∙ ap (λ (sets : List SetType). replicate (length sets) None) c.sets.ensures.sets in
    (λ i. noted (current_owner c.args.schema.now c.args.unit.now) (c.automatic_sets-set-items.ensures i) (none_is i))
    ∙ first_owners_noted c.args.schema.now c.args.unit.now c.args.rtype
