use Rattle.std.proofs.Common.{◌∷◌, [], ◌∙◌, sym, ap, subst, Option, Some}
use Rattle.std.specs.Prelude.{slice_set}
use Rattle.dbtg_cells.specs.declared.key.Owner.{Owner}
use Rattle.dbtg_unit.specs.declared.edit.CellEdit.{CellEdit}
use Rattle.dbtg_unit.specs.declared.edit.Edit.TheVariants.{ChangeOwner, RaiseVersion}
use Rattle.dbtg_unit.specs.Database.Statements.Conditions.{joined_place}
use Rattle.dbtg_unit.specs.Database.Statements.Effect.{moved}
use Rattle.dbtg_unit.specs.Hands.EditsOf.{slot_edit}
use Rattle.dbtg_unit.specs.Hands.Hands.{Hands}
use Rattle.dbtg_unit.specs.Hands.Making.{AreMade, CanEditHeld, CanMake}
use Rattle.dbtg_unit.specs.Hands.PlanOf.{joining_edit}
use Rattle.dbtg_unit.specs.Hands.Prepared.{values_of}
use Rattle.dbtg_unit.proofs.Public.{can_make_rest, made_append, made_values}
use Rattle.dbtg_plan.specs.Inside.Joining.{inserting_with}
use Rattle.dbtg_plan.proofs.Plans.MadeAtOnce.{seen_by_plan}
use Rattle.dbtg_plan.proofs.inserting.insert_record.Goals as goal

pub edit_held-requires : goal.edit_held-requires
edit_held-requires c = subst (λ (e : CellEdit). CanEditHeld e c.args.held.now.cells) (sym c.joining_edit.ensures) c.requires.can.0

pub change_slot-requires : goal.change_slot-requires
change_slot-requires c =
    let schema = c.args.schema.now in
    let unit = c.args.unit.now in
    let k = c.args.key.now in
    let s = c.args.set in
    let old = c.args.held.now.cells in
    let between = c.edit_held.new.held.cells in
    let first : AreMade (joining_edit schema unit s k c.args.sort_key ∷ []) old between = subst (λ (e : CellEdit). AreMade (e ∷ []) old between) c.joining_edit.ensures c.edit_held.ensures.made in
    subst (λ (owner : Option Owner). CanMake (slot_edit k (ChangeOwner s owner) ∷ slot_edit k RaiseVersion ∷ []) between) (sym c.requires.owner)
    (can_make_rest (joining_edit schema unit s k c.args.sort_key ∷ []) (slot_edit k (ChangeOwner s (Some (joined_place schema unit s).owner)) ∷ slot_edit k RaiseVersion ∷ []) old between c.requires.can first)

pub returns : goal.returns
returns c =
    let schema = c.args.schema.now in
    let unit = c.args.unit.now in
    let k = c.args.key.now in
    let s = c.args.set in
    let old = c.args.held.now in
    let between = c.edit_held.new.held.cells in
    let new = c.change_slot.new.held.cells in
    let plan = inserting_with schema unit s k c.args.sort_key c.args.version in
    let made : AreMade plan.cells old.cells new
    = made_append (joining_edit schema unit s k c.args.sort_key ∷ []) (slot_edit k (ChangeOwner s (Some (joined_place schema unit s).owner)) ∷ slot_edit k RaiseVersion ∷ []) old.cells between new
    (subst (λ (e : CellEdit). AreMade (e ∷ []) old.cells between) c.joining_edit.ensures c.edit_held.ensures.made)
    (subst (λ (owner : Option Owner). AreMade (slot_edit k (ChangeOwner s owner) ∷ slot_edit k RaiseVersion ∷ []) between new) c.requires.owner c.change_slot.ensures.made) in
    seen_by_plan schema unit c.move_to.new.self old c.set_guess.new.self plan c.done_answer.result c.done_answer.ensures
    (c.move_to.ensures ∙ (λ i. moved (c.renote.ensures.change i) s (record { owner = (c.joined_place.ensures i).owner; at = Some k })))
    (ap (λ (h : Hands). h.areas) c.set_guess.ensures ∙ c.change_slot.ensures.areas ∙ c.edit_held.ensures.areas)
    (ap (λ (h : Hands). values_of h.cells) c.set_guess.ensures ∙ made_values plan.cells old.cells new made)
    (ap (λ (h : Hands). h.guesses) c.set_guess.ensures ∙ (λ i. slice_set ((c.change_slot.ensures.guesses ∙ c.edit_held.ensures.guesses) i) s (Some (c.joined_place.ensures i).owner)))
