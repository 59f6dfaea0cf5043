use Rattle.std.proofs.Common.{◌≡◌, ◌&&◌, drop, not}
use Rattle.std.specs.List.{find}
use Rattle.dbtg_cells.specs.Keys.{option_value_eq}
use Rattle.dbtg_cells.specs.Members.{is_left_out}
use Rattle.dbtg_unit.specs.Database.State.Base.{key_item}
use Rattle.dbtg_refusal.specs.Inside.Imaged.{items_in, members_in}
use Rattle.dbtg_refusal.proofs.placing.member_with.Given as goal

abbrev pub invariant-loop-member : goal.invariant-loop-member
invariant-loop-member l = find (λ x. not (is_left_out l.left_out x) && option_value_eq (key_item l.schema l.set x.rtype (items_in l.image x)) (key_item l.schema l.set l.items.rtype l.items.values.now)) (drop l.member-index l.member-items)
    ≡ find (λ x. not (is_left_out l.left_out x) && option_value_eq (key_item l.schema l.set x.rtype (items_in l.image x)) (key_item l.schema l.set l.items.rtype l.items.values.now)) (members_in l.image l.set l.owner)
