use Rattle.std.proofs.Common.{◌≡◌, ◌++◌, drop}
use Rattle.std.specs.List.{flat_map}
use Rattle.dbtg_schema.specs.Structure.{automatic_sets}
use Rattle.dbtg_unit.specs.Database.State.Base.{key_item}
use Rattle.dbtg_unit.specs.Hands.EditsOf.{joining_edits}
use Rattle.dbtg_plan.proofs.storing.push_each_join.Given as goal

abbrev pub invariant-loop-set : goal.invariant-loop-set
invariant-loop-set l =
    l.edits ++ flat_map (λ s. joining_edits l.schema l.unit s l.key (key_item l.schema s l.key.rtype l.items)) (drop l.set-index l.set-items)
    ≡ l.initial.edits ++ flat_map (λ s. joining_edits l.schema l.unit s l.key (key_item l.schema s l.key.rtype l.items)) (automatic_sets l.schema l.key.rtype)
