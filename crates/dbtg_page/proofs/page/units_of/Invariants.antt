use Rattle.std.proofs.Common.{◌≡◌, take}
use Rattle.dbtg_script.specs.Printing.Texts.{units_text}
use Rattle.dbtg_step.specs.Core.Core.{state_now}
use Rattle.dbtg_page.proofs.page.units_of.Given as goal

abbrev pub invariant-loop-before : goal.invariant-loop-before
invariant-loop-before l = l.text.items ≡ units_text l.setting.schema.now (take l.before (state_now l.core).units)
