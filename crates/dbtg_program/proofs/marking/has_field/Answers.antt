use Rattle.std.proofs.Common.{sym, ◌∙◌}
use Rattle.dbtg_program.proofs.Marks.{other_has}
use Rattle.dbtg_program.proofs.marking.has_field.Goals as goal

pub returns-else-is_sorted : goal.returns-else-is_sorted
returns-else-is_sorted c = c.has_field_from-else-is_sorted.ensures ∙ sym (other_has c.args.words.now (sym c.is_sorted.ensures ∙ c.if-is_sorted.false))
