use Rattle.std.proofs.Common.{◌∷◌, [], sym, subst}
use Rattle.dbtg_unit.specs.declared.edit.CellEdit.{CellEdit}
use Rattle.dbtg_unit.specs.declared.edit.Edit.TheVariants.{RaiseVersion}
use Rattle.dbtg_unit.specs.Hands.EditsOf.{slot_edit}
use Rattle.dbtg_unit.specs.Hands.Making.{AreMade, CanEditHeld}
use Rattle.dbtg_unit.proofs.Public.{can_make_rest, made_append}
use Rattle.dbtg_plan.proofs.members.change_slot.Goals as goal

pub edit_held-requires : goal.edit_held-requires
edit_held-requires c = subst (λ (e : CellEdit). CanEditHeld e c.args.held.now.cells) (sym c.slot_edit.ensures) c.requires.0

pub edit_held-requires-2 : goal.edit_held-requires-2
edit_held-requires-2 c =
    let k = c.args.key.now in
    let old = c.args.held.now.cells in
    let between = c.edit_held.new.held.cells in
    let can = can_make_rest (slot_edit k c.args.edit ∷ []) (slot_edit k RaiseVersion ∷ []) old between c.requires (subst (λ (e : CellEdit). AreMade (e ∷ []) old between) c.slot_edit.ensures c.edit_held.ensures.made) in
    subst (λ (e : CellEdit). CanEditHeld e between) (sym c.slot_edit-2.ensures) can.0

pub returns-clause-made : goal.returns-clause-made
returns-clause-made c =
    let k = c.args.key.now in
    let old = c.args.held.now.cells in
    let between = c.edit_held.new.held.cells in
    let new = c.edit_held-2.new.held.cells in
    made_append (slot_edit k c.args.edit ∷ []) (slot_edit k RaiseVersion ∷ []) old between new
    (subst (λ (e : CellEdit). AreMade (e ∷ []) old between) c.slot_edit.ensures c.edit_held.ensures.made)
    (subst (λ (e : CellEdit). AreMade (e ∷ []) between new) c.slot_edit-2.ensures c.edit_held-2.ensures.made)
