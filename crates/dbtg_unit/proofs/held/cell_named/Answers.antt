use Rattle.std.proofs.Common.{◌≡◌, ◌∙◌, sym, Some, None}
use Rattle.std.specs.List.{position_from}
use Rattle.dbtg_cells.specs.Names.{name_eq}
use Rattle.dbtg_unit.proofs.Hands.Holding.NamesAndCells.{found_cell, no_cell}
use Rattle.dbtg_unit.proofs.held.cell_named.Goals as goal

pub returns-in-Some : goal.returns-in-Some
returns-in-Some c =
    let names = c.args.names.now in
    let found : position_from (name_eq c.args.name.now) 0 names ≡ Some c.in-Some.at = sym c.find_place.ensures ∙ c.in-Some.is in
    c.cell_at.ensures ∙ sym (found_cell c.args.name.now names c.args.cells.now c.in-Some.at found)

pub returns-in-None : goal.returns-in-None
returns-in-None c =
    let names = c.args.names.now in
    let absent : position_from (name_eq c.args.name.now) 0 names ≡ None = sym c.find_place.ensures ∙ c.in-None.is in
    sym (no_cell c.args.name.now names c.args.cells.now absent)
