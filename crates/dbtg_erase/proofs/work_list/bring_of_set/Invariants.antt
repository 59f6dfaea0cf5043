use Rattle.std.proofs.Common.{◌≡◌, drop}
use Rattle.std.specs.Prelude.{filter}
use Rattle.dbtg_cells.specs.declared.key.Owner.TheVariants.{Rec}
use Rattle.dbtg_unit.specs.Database.Statements.Doomed.{takes_member}
use Rattle.dbtg_unit.specs.Hands.Erasing.{with_those}
use Rattle.dbtg_erase.specs.WorkList.{elsewhere_in, taken_of_set}
use Rattle.dbtg_erase.proofs.work_list.bring_of_set.Given as goal

abbrev pub invariant-loop-member : goal.invariant-loop-member
invariant-loop-member l =
    with_those l.gone (filter (λ m. takes_member l.schema l.option l.set (elsewhere_in l.schema l.held l.set (Rec l.key) m) m) (drop l.member-index l.member-items))
    ≡ with_those l.fn.gone (taken_of_set l.schema l.held l.option l.key l.set)
