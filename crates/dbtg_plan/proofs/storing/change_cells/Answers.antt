use Rattle.std.proofs.Common.{◌∷◌, [], ◌++◌, List}
use Rattle.dbtg_unit.specs.declared.edit.CellEdit.{CellEdit}
use Rattle.dbtg_unit.specs.Hands.Making.{CanMake}
use Rattle.dbtg_unit.proofs.Public.{can_make_front, can_make_rest, made_append}
use Rattle.dbtg_plan.specs.Inside.Store.{edits_of_opening}
use Rattle.dbtg_plan.proofs.storing.change_cells.Goals as goal

pub edit_held-requires : goal.edit_held-requires
edit_held-requires c = c.requires.0

pub edit_each_cell-requires : goal.edit_each_cell-requires
edit_each_cell-requires c =
    let opens : List CellEdit = edits_of_opening c.args.schema.now c.args.key.now in
    let last : List CellEdit = c.args.built.filling ∷ [] in
    can_make_front c.args.built.joins (opens ++ last) c.edit_held.new.held.cells
    (can_make_rest (c.args.built.entering ∷ []) (c.args.built.joins ++ (opens ++ last)) c.args.held.now.cells c.edit_held.new.held.cells c.requires c.edit_held.ensures.made)

pub open_occurrences-requires : goal.open_occurrences-requires
open_occurrences-requires c =
    let opens : List CellEdit = edits_of_opening c.args.schema.now c.args.key.now in
    let last : List CellEdit = c.args.built.filling ∷ [] in
    can_make_front opens last c.edit_each_cell.new.held.cells
    (can_make_rest c.args.built.joins (opens ++ last) c.edit_held.new.held.cells c.edit_each_cell.new.held.cells
    (can_make_rest (c.args.built.entering ∷ []) (c.args.built.joins ++ (opens ++ last)) c.args.held.now.cells c.edit_held.new.held.cells c.requires c.edit_held.ensures.made) c.edit_each_cell.ensures.made)

pub edit_held-requires-2 : goal.edit_held-requires-2
edit_held-requires-2 c =
    let opens : List CellEdit = edits_of_opening c.args.schema.now c.args.key.now in
    let last : List CellEdit = c.args.built.filling ∷ [] in
    let can : CanMake last c.open_occurrences.new.held.cells
    = can_make_rest opens last c.edit_each_cell.new.held.cells c.open_occurrences.new.held.cells
    (can_make_rest c.args.built.joins (opens ++ last) c.edit_held.new.held.cells c.edit_each_cell.new.held.cells
    (can_make_rest (c.args.built.entering ∷ []) (c.args.built.joins ++ (opens ++ last)) c.args.held.now.cells c.edit_held.new.held.cells c.requires c.edit_held.ensures.made) c.edit_each_cell.ensures.made)
    c.open_occurrences.ensures.made in
    can.0

pub returns-clause-made : goal.returns-clause-made
returns-clause-made c =
    let opens : List CellEdit = edits_of_opening c.args.schema.now c.args.key.now in
    let last : List CellEdit = c.args.built.filling ∷ [] in
    let entered = c.edit_held.new.held.cells in
    let joined = c.edit_each_cell.new.held.cells in
    let opened = c.open_occurrences.new.held.cells in
    let filled = c.edit_held-2.new.held.cells in
    made_append (c.args.built.entering ∷ []) (c.args.built.joins ++ (opens ++ last)) c.args.held.now.cells entered filled c.edit_held.ensures.made
    (made_append c.args.built.joins (opens ++ last) entered joined filled c.edit_each_cell.ensures.made (made_append opens last joined opened filled c.open_occurrences.ensures.made c.edit_held-2.ensures.made))
