use Rattle.std.proofs.Common.{sym, ap, ◌∙◌}
use Rattle.std.specs.Option.{option_copied}
use Rattle.dbtg_step.proofs.TheCore.WaitingShown.{held_by_name}
use Rattle.dbtg_step.proofs.waiting.has_cell.Goals as goal

pub returns-in-Some : goal.returns-in-Some
returns-in-Some c = sym (held_by_name c.args.held.now.cells c.args.name.now _ (sym (sym c.cell.ensures ∙ ap option_copied c.in-Some.is)))

pub returns-in-None : goal.returns-in-None
returns-in-None c = sym (held_by_name c.args.held.now.cells c.args.name.now _ (sym (sym c.cell.ensures ∙ ap option_copied c.in-None.is)))
