use Rattle.std.proofs.Common.{◌≡◌, ◌++◌, sym, subst, List, map}
use Rattle.dbtg_cells.specs.declared.key.DbKey.{DbKey}
use Rattle.dbtg_cells.specs.declared.name.CellName.{CellName}
use Rattle.dbtg_unit.specs.declared.edit.CellEdit.{CellEdit}
use Rattle.dbtg_unit.specs.declared.edit.Edit.TheVariants.{Vacate}
use Rattle.dbtg_unit.specs.Hands.EditsOf.{close_ring, leave_number, slot_edit}
use Rattle.dbtg_unit.specs.Hands.Making.{AreMade, CanMake}
use Rattle.dbtg_unit.proofs.Hands.Holding.WhileEditing.{Held, can_make_front, can_make_rest, made_append}
use Rattle.dbtg_unit.proofs.erased.take_out.Goals as goal

abbrev left : List DbKey → List CellEdit
left = map leave_number

abbrev closed : List CellName → List CellEdit
closed = map close_ring

abbrev vacated : List DbKey → List CellEdit
vacated = map (λ d. slot_edit d Vacate)

-- the parts of what is made, of the same keys and names
same_left : (keys keys' : List DbKey) (old new : Held) → keys' ≡ keys → AreMade (left keys') old new → AreMade (left keys) old new
same_left keys keys' old new same = subst (λ l. AreMade (left l) old new) same

same_closed : (names names' : List CellName) (old new : Held) → names' ≡ names → AreMade (closed names') old new → AreMade (closed names) old new
same_closed names names' old new same = subst (λ l. AreMade (closed l) old new) same

-- each part can be made of what those before it leave
pub leave_each_number-requires : goal.leave_each_number-requires
leave_each_number-requires c =
    let e = c.args.erased in
    subst (λ l. CanMake (left l) c.args.held.now.cells) (sym c.as_slice.ensures)
    (can_make_front (left e.gone) (e.places ++ (closed e.rings ++ vacated e.gone)) c.args.held.now.cells c.requires)

pub edit_each_cell-requires : goal.edit_each_cell-requires
edit_each_cell-requires c =
    let e = c.args.erased in
    let a = c.leave_each_number.new.held.cells in
    can_make_front e.places (closed e.rings ++ vacated e.gone) a
    (can_make_rest (left e.gone) (e.places ++ (closed e.rings ++ vacated e.gone)) c.args.held.now.cells a c.requires (same_left _ _ _ _ c.as_slice.ensures c.leave_each_number.ensures.made))

pub close_each_ring-requires : goal.close_each_ring-requires
close_each_ring-requires c =
    let e = c.args.erased in
    let a = c.leave_each_number.new.held.cells in
    let b = c.edit_each_cell.new.held.cells in
    subst (λ l. CanMake (closed l) b) (sym c.as_slice-2.ensures)
    (can_make_front (closed e.rings) (vacated e.gone) b
    (can_make_rest e.places (closed e.rings ++ vacated e.gone) a b
    (can_make_rest (left e.gone) (e.places ++ (closed e.rings ++ vacated e.gone)) c.args.held.now.cells a c.requires (same_left _ _ _ _ c.as_slice.ensures c.leave_each_number.ensures.made))
    c.edit_each_cell.ensures.made))

pub vacate_each_slot-requires : goal.vacate_each_slot-requires
vacate_each_slot-requires c =
    let e = c.args.erased in
    let a = c.leave_each_number.new.held.cells in
    let b = c.edit_each_cell.new.held.cells in
    let d = c.close_each_ring.new.held.cells in
    subst (λ l. CanMake (vacated l) d) (sym c.as_slice-3.ensures)
    (can_make_rest (closed e.rings) (vacated e.gone) b d
    (can_make_rest e.places (closed e.rings ++ vacated e.gone) a b
    (can_make_rest (left e.gone) (e.places ++ (closed e.rings ++ vacated e.gone)) c.args.held.now.cells a c.requires (same_left _ _ _ _ c.as_slice.ensures c.leave_each_number.ensures.made))
    c.edit_each_cell.ensures.made)
    (same_closed _ _ _ _ c.as_slice-2.ensures c.close_each_ring.ensures.made))

pub returns-clause-made : goal.returns-clause-made
returns-clause-made c =
    let e = c.args.erased in
    let a = c.leave_each_number.new.held.cells in
    let b = c.edit_each_cell.new.held.cells in
    let d = c.close_each_ring.new.held.cells in
    let new = c.vacate_each_slot.new.held.cells in
    made_append (left e.gone) (e.places ++ (closed e.rings ++ vacated e.gone)) c.args.held.now.cells a new (same_left _ _ _ _ c.as_slice.ensures c.leave_each_number.ensures.made)
    (made_append e.places (closed e.rings ++ vacated e.gone) a b new c.edit_each_cell.ensures.made
    (made_append (closed e.rings) (vacated e.gone) b d new (same_closed _ _ _ _ c.as_slice-2.ensures c.close_each_ring.ensures.made)
    (subst (λ l. AreMade (vacated l) d new) c.as_slice-3.ensures c.vacate_each_slot.ensures.made)))
