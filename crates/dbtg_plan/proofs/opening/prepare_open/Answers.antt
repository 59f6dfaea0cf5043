use Rattle.std.proofs.Common.{◌≡◌, sym, subst, ◌∙◌}
use Rattle.std.proofs.lemmas.Result.{IfOk-weaker}
use Rattle.dbtg_unit.specs.declared.statement.Statement.TheVariants.{OpenArea}
use Rattle.dbtg_unit.specs.Hands.Making.{CanFinish}
use Rattle.dbtg_unit.specs.Hands.Prepared.{Plan}
use Rattle.dbtg_unit.proofs.Public.{may_plan}
use Rattle.std.specs.Prelude.{Some}
use Rattle.dbtg_unit.specs.declared.edit.Edit.TheVariants.{EnterUser}
use Rattle.dbtg_unit.specs.Hands.PlanOf.{mode_plan}
use Rattle.dbtg_plan.proofs.Plans.OpenClose.{open_finishes, open_refused}
use Rattle.dbtg_plan.proofs.opening.prepare_open.Goals as goal

pub returns-then-conflicts-clause-prepared : goal.returns-then-conflicts-clause-prepared
returns-then-conflicts-clause-prepared c =
    subst (λ (plan : Plan). CanFinish c.args.schema.now c.args.capacity c.args.unit.now c.args.held.now (OpenArea c.args.area c.args.mode) plan) (sym c.refused.ensures)
    (open_refused c.args.schema.now c.args.capacity c.args.unit.now c.args.area c.args.mode c.args.held.now c.requires.passes (may_plan c.requires.may) (sym c.conflicts.ensures ∙ c.if-conflicts.true))

pub returns-clause-prepared : goal.returns-clause-prepared
returns-clause-prepared c =
    IfOk-weaker c.set_mode.result (λ (plan : Plan). plan ≡ mode_plan c.args.area (EnterUser c.args.unit.now.number c.args.mode) (Some c.args.mode))
    (λ (plan : Plan). CanFinish c.args.schema.now c.args.capacity c.args.unit.now c.reserve_user.new.held (OpenArea c.args.area c.args.mode) plan)
    (λ plan is. subst (λ (p : Plan). CanFinish c.args.schema.now c.args.capacity c.args.unit.now c.reserve_user.new.held (OpenArea c.args.area c.args.mode) p) (sym is)
    (open_finishes c.args.schema.now c.args.capacity c.args.unit.now c.args.area c.args.mode c.requires.passes c.args.held.now c.reserve_user.new.held c.requires.may
    (sym c.conflicts.ensures ∙ c.if-conflicts.false) c.in_ok-reserve_user.ensures.same c.in_ok-reserve_user.ensures.room))
    c.set_mode.ensures
