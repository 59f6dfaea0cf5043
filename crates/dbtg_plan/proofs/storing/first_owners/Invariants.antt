use Rattle.std.proofs.Common.{◌≡◌, drop}
use Rattle.dbtg_unit.specs.Hands.EditsOf.{first_owners}
use Rattle.dbtg_unit.specs.Hands.Needs.{current_owner}
use Rattle.dbtg_plan.proofs.Store.StoreSteps.{noted}
use Rattle.dbtg_plan.proofs.storing.first_owners.Given as goal

abbrev pub invariant-loop-set : goal.invariant-loop-set
invariant-loop-set l = noted (current_owner l.schema l.unit) (drop l.set-index l.set-items) l.owners ≡ first_owners l.schema l.unit l.fn.rtype
