use Rattle.std.proofs.Common.{sym, ap, ◌∙◌}
use Rattle.dbtg_unit.specs.Database.Statements.Checks.{is_beyond}
use Rattle.dbtg_unit.proofs.checks.is_beyond.Goals as goal

pub returns-in-Find : goal.returns-in-Find
returns-in-Find c = c.form_is_beyond.ensures c.in-Find.field-0 ∙ ap (is_beyond c.args.capacity) (sym c.in-Find.is)
