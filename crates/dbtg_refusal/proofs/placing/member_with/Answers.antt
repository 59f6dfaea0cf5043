use Rattle.std.proofs.Common.{sym, ◌∙◌, ◌&&◌, Bool, not}
use Rattle.dbtg_cells.specs.declared.key.DbKey.{DbKey}
use Rattle.dbtg_cells.specs.Keys.{option_value_eq}
use Rattle.dbtg_cells.specs.Members.{is_left_out}
use Rattle.dbtg_unit.specs.Database.State.Base.{key_item}
use Rattle.dbtg_refusal.specs.Inside.Imaged.{items_in}
use Rattle.dbtg_refusal.proofs.FirstElement.{find_at, find_past}
use Rattle.dbtg_refusal.proofs.placing.member_with.Goals as goal

pub returns-then-has_same_key : goal.returns-then-has_same_key
returns-then-has_same_key c =
    let p : DbKey → Bool = λ x. not (is_left_out c.args.left_out.now x) && option_value_eq (key_item c.args.schema.now c.args.set x.rtype (items_in c.args.image.now x)) (key_item c.args.schema.now c.args.set c.args.items.now.rtype c.args.items.now.values.now) in
    sym (find_at p c.members_in-member-items.result.now c.loop-member.member-index c.member-item.result c.loop-member-test.true c.member-item.is (sym c.has_same_key.ensures ∙ c.if-has_same_key.true))
    ∙ c.loop-member.invariant

pub loop-member-preserved : goal.loop-member-preserved
loop-member-preserved c =
    let p : DbKey → Bool = λ x. not (is_left_out c.args.left_out.now x) && option_value_eq (key_item c.args.schema.now c.args.set x.rtype (items_in c.args.image.now x)) (key_item c.args.schema.now c.args.set c.args.items.now.rtype c.args.items.now.values.now) in
    find_past p c.members_in-member-items.result.now c.loop-member.member-index c.member-item.result c.loop-member-test.true c.member-item.is (sym c.has_same_key.ensures ∙ c.if-has_same_key.false)
    ∙ c.loop-member.invariant
