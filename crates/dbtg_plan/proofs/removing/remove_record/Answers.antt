use Rattle.std.proofs.Common.{◌∷◌, [], ◌++◌, ◌∙◌, sym, ap, subst, List, Option, None}
use Rattle.std.specs.Prelude.{slice_set}
use Rattle.dbtg_cells.specs.declared.key.Owner.{Owner}
use Rattle.dbtg_unit.specs.declared.edit.CellEdit.{CellEdit}
use Rattle.dbtg_unit.specs.declared.edit.Edit.TheVariants.{ChangeOwner, RaiseVersion, TakeOut}
use Rattle.dbtg_unit.specs.Database.State.Kept.{noted_again}
use Rattle.dbtg_unit.specs.Hands.EditsOf.{ring_edits, slot_edit}
use Rattle.dbtg_unit.specs.Hands.Hands.{Hands}
use Rattle.dbtg_unit.specs.Hands.InHand.{in_hand}
use Rattle.dbtg_unit.specs.Hands.Making.{AreMade, CanMake}
use Rattle.dbtg_unit.specs.Hands.PlanOf.{removing}
use Rattle.dbtg_unit.specs.Hands.Prepared.{values_of}
use Rattle.dbtg_unit.proofs.Public.{can_make_front, can_make_rest, made_append, made_values}
use Rattle.dbtg_plan.proofs.Plans.MadeAtOnce.{seen_by_plan}
use Rattle.dbtg_plan.proofs.removing.remove_record.Goals as goal

pub take_out-requires : goal.take_out-requires
take_out-requires c =
    let k = c.args.key.now in
    let s = c.args.set in
    let cells = c.args.held.now.cells in
    let own : List CellEdit = ring_edits s (c.owner_in.result) (TakeOut k ∷ []) in
    let last : List CellEdit = slot_edit k (ChangeOwner s None) ∷ slot_edit k RaiseVersion ∷ [] in
    can_make_front own last cells (subst (λ (o : Option Owner). CanMake (ring_edits s o (TakeOut k ∷ []) ++ last) cells) (sym c.owner_in.ensures) c.requires.can)

pub change_slot-requires : goal.change_slot-requires
change_slot-requires c =
    let k = c.args.key.now in
    let s = c.args.set in
    let cells = c.args.held.now.cells in
    let own : List CellEdit = ring_edits s (c.owner_in.result) (TakeOut k ∷ []) in
    let last : List CellEdit = slot_edit k (ChangeOwner s None) ∷ slot_edit k RaiseVersion ∷ [] in
    subst (λ (none : Option Owner). CanMake (slot_edit k (ChangeOwner s none) ∷ slot_edit k RaiseVersion ∷ []) c.take_out.new.held.cells) (sym c.none.ensures)
    (can_make_rest own last cells c.take_out.new.held.cells (subst (λ (o : Option Owner). CanMake (ring_edits s o (TakeOut k ∷ []) ++ last) cells) (sym c.owner_in.ensures) c.requires.can) c.take_out.ensures.made)

pub returns : goal.returns
returns c schema =
    let k = c.args.key.now in
    let s = c.args.set in
    let old = c.args.held.now in
    let last : List CellEdit = slot_edit k (ChangeOwner s None) ∷ slot_edit k RaiseVersion ∷ [] in
    let plan = removing (in_hand old) s k in
    let made : AreMade plan.cells old.cells c.change_slot.new.held.cells
    = subst (λ (o : Option Owner). AreMade (ring_edits s o (TakeOut k ∷ []) ++ last) old.cells c.change_slot.new.held.cells) c.owner_in.ensures
    (made_append (ring_edits s c.owner_in.result (TakeOut k ∷ [])) last old.cells c.take_out.new.held.cells c.change_slot.new.held.cells c.take_out.ensures.made
    (subst (λ (none : Option Owner). AreMade (slot_edit k (ChangeOwner s none) ∷ slot_edit k RaiseVersion ∷ []) c.take_out.new.held.cells c.change_slot.new.held.cells) c.none.ensures c.change_slot.ensures.made)) in
    seen_by_plan schema c.args.unit.now c.renote.new.self old c.set_guess.new.self plan c.done_answer.result c.done_answer.ensures
    (c.renote.ensures.change ∙ ap (λ v. record c.args.unit.now { kept = noted_again k v c.args.unit.now.kept }) c.next_version-version.ensures)
    (ap (λ (h : Hands). h.areas) c.set_guess.ensures ∙ c.change_slot.ensures.areas ∙ c.take_out.ensures.areas)
    (ap (λ (h : Hands). values_of h.cells) c.set_guess.ensures ∙ made_values plan.cells old.cells c.change_slot.new.held.cells made)
    (ap (λ (h : Hands). h.guesses) c.set_guess.ensures ∙ ap (λ guesses. slice_set guesses s None) (c.change_slot.ensures.guesses ∙ c.take_out.ensures.guesses))
