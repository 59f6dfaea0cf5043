use Rattle.std.proofs.Common.{sym, ◌∙◌, ap}
use Rattle.std.specs.Prelude.{is_some}
use Rattle.std.specs.Option.{option_copied}
use Rattle.dbtg_erase.proofs.FirstNames.{held_by_name}
use Rattle.dbtg_erase.proofs.names.holds.Goals as goal

pub returns-in-Some : goal.returns-in-Some
returns-in-Some c = sym (ap (λ o. is_some (option_copied o)) c.in-Some.is) ∙ held_by_name c.args.held.now c.args.name.now (option_copied c.cell.result) c.cell.ensures

pub returns-in-None : goal.returns-in-None
returns-in-None c = sym (ap (λ o. is_some (option_copied o)) c.in-None.is) ∙ held_by_name c.args.held.now c.args.name.now (option_copied c.cell.result) c.cell.ensures
