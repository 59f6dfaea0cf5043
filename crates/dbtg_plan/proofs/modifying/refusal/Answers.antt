use Rattle.std.proofs.Common.{sym, ◌∙◌, ap, cond, Some, None}
use Rattle.dbtg_unit.specs.declared.unit.Cause.TheVariants.{DuplicatesNotAllowed}
use Rattle.dbtg_plan.proofs.Modify.ModifyReading.{key_cause}
use Rattle.dbtg_plan.proofs.modifying.refusal.Goals as goal

pub returns-then-branch : goal.returns-then-branch
returns-then-branch c =
    sym (ap (λ b. cond b (Some DuplicatesNotAllowed) None) c.if-branch.true)
    ∙ key_cause c.args.schema.now c.args.held.now c.args.unit.now c.args.changes.now c.args.key.now c.args.items.now c.requires
    c.own_refusal-own.result c.own_refusal-own.ensures (sym c.is_some.ensures ∙ c.if-is_some.false) (sym c.takes_calc.ensures ∙ c.if-takes_calc.false)
    c.in_ok-is_any_key_taken.field-0 c.in_ok-is_any_key_taken.ensures

pub returns : goal.returns
returns c =
    sym (ap (λ b. cond b (Some DuplicatesNotAllowed) None) c.if-branch.false)
    ∙ key_cause c.args.schema.now c.args.held.now c.args.unit.now c.args.changes.now c.args.key.now c.args.items.now c.requires
    c.own_refusal-own.result c.own_refusal-own.ensures (sym c.is_some.ensures ∙ c.if-is_some.false) (sym c.takes_calc.ensures ∙ c.if-takes_calc.false)
    c.in_ok-is_any_key_taken.field-0 c.in_ok-is_any_key_taken.ensures
