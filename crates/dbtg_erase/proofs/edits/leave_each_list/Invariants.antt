use Rattle.std.proofs.Common.{◌≡◌, ◌++◌, [], ◌∷◌, drop}
use Rattle.std.specs.List.{flat_map}
use Rattle.dbtg_schema.specs.Structure.{set_numbers}
use Rattle.dbtg_unit.specs.declared.edit.Edit.TheVariants.{TakeOut}
use Rattle.dbtg_unit.specs.Hands.EditsOf.{leaving_edits, ring_edits, staying_owner}
use Rattle.dbtg_unit.specs.Hands.InHand.{owner_in}
use Rattle.dbtg_erase.proofs.edits.leave_each_list.Given as goal

abbrev pub invariant-loop-s : goal.invariant-loop-s
invariant-loop-s l =
    l.edits ++ (flat_map (λ s. ring_edits s (staying_owner l.gone (owner_in l.held s l.key)) (TakeOut l.key ∷ [])) (drop l.s (set_numbers l.schema)))
    ≡ l.fn.edits ++ (leaving_edits l.schema (owner_in l.held) l.gone l.key)
