use Rattle.std.proofs.Common.{◌≡◌, ap, sym, rules, ◌∙◌, false, true, Some}
use Rattle.dbtg_cells.specs.CellNumbers.{is_cell}
use Rattle.dbtg_cells.proofs.PlaceNumbers.{no_cell, usage_number}
use Rattle.dbtg_cells.proofs.numbering.cell_number.Goals as goal

pub returns-then-not-is_cell : goal.returns-then-not-is_cell
returns-then-not-is_cell c =
    let no : is_cell c.args.schema.now c.args.capacity c.args.name.now ≡ false = search rules in
    sym (no_cell c.args.schema.now c.args.capacity c.args.name.now no)

pub returns-in-Usage : goal.returns-in-Usage
returns-in-Usage c =
    let yes : is_cell c.args.schema.now c.args.capacity c.args.name.now ≡ true = search rules in
    rw c.in-Usage.is (ap Some c.index.ensures ∙ sym (usage_number c.args.schema.now c.args.capacity _ (rw c.in-Usage.is at yes)))
