use Rattle.std.proofs.Common.{rules, ◌+◌, ◌∙◌, arith}
use Rattle.dbtg_step.specs.Core.Core.{state_now}
use Rattle.dbtg_page.proofs.UnitsShown.{as_many, printed_next}
use Rattle.dbtg_page.proofs.page.units_of.Goals as goal

pub loop-before-preserved : goal.loop-before-preserved
loop-before-preserved c =
    let many = as_many c.args.core.now c.is_core.ensures ∙ c.requires in
    printed_next c.args.setting.now.schema.now (state_now c.args.core.now).units c.loop-before.before (c.loop-before.before + 1) (omega arith) (search (rules, many)) c.loop-before.text.items _ c.loop-before.invariant c.in_ok-push_unit_of.ensures
