use Rattle.std.proofs.Common.{◌≡◌, ◌++◌, drop}
use Rattle.std.specs.Prelude.{filter, map}
use Rattle.dbtg_schema.specs.Lookups.{some_and}
use Rattle.dbtg_schema.specs.Structure.{set_numbers}
use Rattle.dbtg_unit.specs.Hands.EditsOf.{lost_sets}
use Rattle.dbtg_unit.specs.Database.Statements.Effect.{is_gone}
use Rattle.dbtg_unit.specs.Hands.InHand.{owner_in}
use Rattle.dbtg_erase.specs.Inside.ErasePlan.{lose_owner}
use Rattle.dbtg_erase.proofs.edits.lose_each_owner.Given as goal

abbrev pub invariant-loop-s : goal.invariant-loop-s
invariant-loop-s l =
    l.edits ++ (map (lose_owner l.key) (filter (λ s. some_and (is_gone l.gone) (owner_in l.held s l.key)) (drop l.s (set_numbers l.schema))))
    ≡ l.fn.edits ++ (map (lose_owner l.key) (lost_sets l.schema (owner_in l.held) l.gone l.key))
