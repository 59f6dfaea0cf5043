use Rattle.std.proofs.Common.{◌≡◌, map, subst}
use Rattle.std.specs.Prelude.{IfOk}
use Rattle.dbtg_step.specs.Core.Parts.{location_of}
use Rattle.dbtg_step.proofs.opening_parts.opening_table.Goals as goal

pub returns : goal.returns
returns c = subst (λ ps. IfOk c.at_home.result (λ table. map location_of table.items ≡ ps)) c.in_ok-opening_cells.ensures c.at_home.ensures
