use Rattle.std.proofs.Common.{◌≡◌, ◌++◌, drop, map}
use Rattle.std.specs.Prelude.{filter}
use Rattle.std.specs.List.{flat_map}
use Rattle.dbtg_schema.specs.Structure.{rekeyed_sets, set_numbers}
use Rattle.dbtg_unit.specs.Hands.InHand.{in_hand}
use Rattle.dbtg_unit.specs.Hands.PlanOf.{replacing_edits}
use Rattle.dbtg_plan.specs.Inside.Modifying.{is_rekeyed}
use Rattle.dbtg_plan.proofs.modifying.push_each_replacing.Given as goal

abbrev pub invariant-loop-s : goal.invariant-loop-s
invariant-loop-s l =
    l.edits ++ flat_map (replacing_edits l.schema (in_hand l.held) l.unit l.key l.items) (filter (λ s. is_rekeyed l.schema l.changes l.key.rtype s) (drop l.s (set_numbers l.schema)))
    ≡ l.fn.edits ++ flat_map (replacing_edits l.schema (in_hand l.held) l.unit l.key l.items) (rekeyed_sets l.schema l.key.rtype (map (λ c. c.item) l.changes))
