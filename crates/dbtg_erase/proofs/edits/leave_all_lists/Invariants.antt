use Rattle.std.proofs.Common.{◌≡◌, ◌++◌, drop}
use Rattle.std.specs.List.{flat_map}
use Rattle.dbtg_unit.specs.Hands.EditsOf.{leaving_edits}
use Rattle.dbtg_unit.specs.Hands.InHand.{owner_in}
use Rattle.dbtg_erase.proofs.edits.leave_all_lists.Given as goal

abbrev pub invariant-loop-key : goal.invariant-loop-key
invariant-loop-key l =
    l.edits ++ (flat_map (leaving_edits l.schema (owner_in l.held) l.gone) (drop l.key-index l.key-items))
    ≡ l.fn.edits ++ (flat_map (leaving_edits l.schema (owner_in l.held) l.gone) l.gone)
