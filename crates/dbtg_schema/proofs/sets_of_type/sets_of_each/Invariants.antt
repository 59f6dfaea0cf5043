use Rattle.dbtg_schema.specs.Inside.SetsOfTypes.{AreSetsOfEach}
use Rattle.dbtg_schema.proofs.sets_of_type.sets_of_each.Given as goal

abbrev pub invariant-loop-t : goal.invariant-loop-t
invariant-loop-t l = AreSetsOfEach l.each l.t l.sets
