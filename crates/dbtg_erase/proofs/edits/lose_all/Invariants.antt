use Rattle.std.proofs.Common.{◌≡◌, ◌++◌, drop}
use Rattle.std.specs.List.{flat_map}
use Rattle.dbtg_unit.specs.Hands.EditsOf.{losing_edits}
use Rattle.dbtg_unit.specs.Hands.InHand.{owner_in}
use Rattle.dbtg_erase.proofs.edits.lose_all.Given as goal

abbrev pub invariant-loop-key : goal.invariant-loop-key
invariant-loop-key l =
    l.edits ++ (flat_map (losing_edits l.schema (owner_in l.held) l.gone) (drop l.key-index l.left))
    ≡ l.fn.edits ++ (flat_map (losing_edits l.schema (owner_in l.held) l.gone) l.left)
