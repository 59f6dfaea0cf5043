use Rattle.std.proofs.Common.{◌∙◌, refl, sym}
use Rattle.dbtg_script.specs.declared.role.Role.TheVariants as role
use Rattle.dbtg_script.proofs.Reading.WordSteps.{no_first}
use Rattle.dbtg_script.proofs.checks.sorted_fault.Goals as goal

pub returns-else-has : goal.returns-else-has
returns-else-has c = rw (no_first role.SortedValue c.args.words.now.words (sym c.has.ensures ∙ c.if-has.false)) refl
