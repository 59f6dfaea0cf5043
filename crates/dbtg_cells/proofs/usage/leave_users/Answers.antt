use Rattle.std.proofs.Common.{rules, not, eqb}
use Rattle.std.proofs.lemmas.Fn.{filter_same}
use Rattle.dbtg_cells.proofs.usage.leave_users.Goals as goal

pub returns : goal.returns
returns c = filter_same _ (λ e. not (eqb e.0 c.args.unit)) _ (λ x b f' k. search rules) _ _ c.retain.ensures.filtered
