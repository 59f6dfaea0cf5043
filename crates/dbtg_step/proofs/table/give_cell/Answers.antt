use Rattle.std.proofs.Common.{sym, subst}
use Rattle.dbtg_cells.specs.declared.cell.Cell.{Cell}
use Rattle.dbtg_cells.specs.declared.name.CellName.{CellName}
use Rattle.dbtg_step.specs.Machine.SequentialDatabase.{In}
use Rattle.dbtg_step.proofs.TheCore.NeedsShown.{in_back}
use Rattle.dbtg_step.proofs.TheCore.PlacesOfCells.{place_within}
use Rattle.dbtg_step.proofs.table.give_cell.Goals as goal

pub put_home-requires : goal.put_home-requires
put_home-requires c number is =
    let given : CellName × Cell = (c.in-Some.name, c.in-Some.cell) in
    place_within c.args.schema.now c.args.capacity c.in-Some.name c.args.table.now.items (c.requires.places given (subst (In given) (sym c.in-Some.ensures.cells) (in_back given c.pop_cell.new.self.cells))) number is
