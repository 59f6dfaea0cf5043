use Rattle.std.proofs.Common.{◌≡◌, drop, not, ◌&&◌}
use Rattle.std.specs.Prelude.{◌==◌}
use Rattle.std.specs.List.{list_any}
use Rattle.dbtg_schema.specs.Lookups.{some_and}
use Rattle.dbtg_schema.specs.Structure.{set_numbers}
use Rattle.dbtg_cells.specs.declared.key.Owner.TheVariants.{Rec}
use Rattle.dbtg_cells.specs.Keys.{owner_eq}
use Rattle.dbtg_unit.specs.Hands.InHand.{owner_in}
use Rattle.dbtg_erase.specs.WorkList.{elsewhere_in}
use Rattle.dbtg_erase.proofs.work_list.is_elsewhere.Given as goal

abbrev pub invariant-loop-s : goal.invariant-loop-s
invariant-loop-s l =
    list_any (λ s. some_and (λ o. not (s == l.set && owner_eq o (Rec l.own))) (owner_in l.held s l.member)) (drop l.s (set_numbers l.schema))
    ≡ elsewhere_in l.schema l.held l.set (Rec l.own) l.member
