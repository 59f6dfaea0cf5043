use Rattle.std.proofs.Common.{◌≡◌, ◌∙◌, ◌≤◌, sym, ap, length, arith}
use Rattle.dbtg_unit.specs.declared.statement.Erase.TheVariants.{All}
use Rattle.dbtg_erase.specs.WorkList.{gone_in, most_gone}
use Rattle.dbtg_erase.proofs.NoneLeft.{none_left}
use Rattle.dbtg_erase.proofs.left.left.Goals as goal

pub returns-then-as_slice-most_gone : goal.returns-then-as_slice-most_gone
returns-then-as_slice-most_gone c =
    let schema = c.args.schema.now in
    let capacity = c.args.capacity in
    let hands = c.args.held.now in
    let gone = c.args.gone.now in
    let all : c.args.option ≡ All = c.takes_all.ensures c.if-takes_all.true in
    let few : length gone ≤ most_gone schema capacity = omega (arith, ap length c.as_slice.ensures, c.most_gone.ensures, c.if-as_slice-most_gone.true) in
    c.new.ensures ∙ sym (none_left schema capacity hands c.requires.0 gone (c.requires.1 ∙ ap (λ o. gone_in schema capacity hands o c.requires.0) all) few)
