use Rattle.std.proofs.Common.{sym, subst}
use Rattle.std.proofs.lemmas.Result.{IfOk-weaker}
use Rattle.dbtg_unit.specs.declared.statement.Statement.TheVariants.{Delete}
use Rattle.dbtg_unit.specs.Hands.Making.{CanFinish}
use Rattle.dbtg_erase.proofs.CanFinish.{delete_can_finish, delete_makes}
use Rattle.dbtg_erase.proofs.preparing.prepare.Goals as goal

pub returns-clause-prepared : goal.returns-clause-prepared
returns-clause-prepared c =
    let schema = c.args.schema.now in
    let unit = c.args.unit.now in
    let hands = c.args.held.now in
    IfOk-weaker c.planned.result _ _
    (λ plan is. subst (CanFinish schema c.args.capacity unit hands (Delete c.args.option)) (sym is) (delete_can_finish schema c.args.capacity unit hands c.args.option c.requires))
    c.planned.ensures

pub returns-clause-made : goal.returns-clause-made
returns-clause-made c = delete_makes c.args.schema.now c.args.capacity c.args.unit.now c.args.held.now c.args.option c.requires c.planned.result c.planned.ensures
