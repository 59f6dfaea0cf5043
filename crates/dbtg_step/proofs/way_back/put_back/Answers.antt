use Rattle.std.proofs.Common.{List, ap, sym}
use Rattle.dbtg_cells.specs.declared.cell.Cell.{Cell}
use Rattle.dbtg_cells.specs.declared.name.CellName.{CellName}
use Rattle.dbtg_step.proofs.MadeWhole.WaysBack.{none_written}
use Rattle.dbtg_step.proofs.way_back.put_back.Goals as goal

pub returns-in-None : goal.returns-in-None
returns-in-None c = ap (λ (es : List (CellName × Cell)). record c.args.held.now { cells = es }) (sym (none_written c.args.name.now c.args.copy c.args.held.now.cells (sym c.in-None.ensures.value)))
