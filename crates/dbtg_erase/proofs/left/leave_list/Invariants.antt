use Rattle.std.proofs.Common.{◌≡◌, drop, not}
use Rattle.std.specs.Prelude.{filter}
use Rattle.dbtg_cells.specs.Keys.{is_member}
use Rattle.dbtg_unit.specs.Hands.Erasing.{with_those}
use Rattle.dbtg_erase.proofs.left.leave_list.Given as goal

abbrev pub invariant-loop-member : goal.invariant-loop-member
invariant-loop-member l =
    with_those l.left (filter (λ x. not (is_member x l.gone)) (drop l.member-index l.members)) ≡ with_those l.fn.left (filter (λ x. not (is_member x l.gone)) l.members)
