use Rattle.std.proofs.Common.{◌++◌, ◌∷◌, [], ◌∙◌, ap, List, Option}
use Rattle.std.specs.List.{flat_map}
use Rattle.dbtg_schema.specs.Structure.{automatic_sets}
use Rattle.dbtg_cells.specs.declared.key.Owner.{Owner}
use Rattle.dbtg_cells.specs.declared.key.Value.{Value}
use Rattle.dbtg_cells.specs.Shown.{first_version}
use Rattle.dbtg_unit.specs.declared.edit.CellEdit.{CellEdit}
use Rattle.dbtg_unit.specs.declared.edit.Edit.TheVariants.{Fill}
use Rattle.dbtg_unit.specs.Database.State.Base.{key_item}
use Rattle.dbtg_unit.specs.Hands.EditsOf.{joining_edits, slot_edit}
use Rattle.dbtg_plan.specs.Inside.Store.{entering_edit}
use Rattle.dbtg_plan.proofs.Store.StoreSteps.{edits_pushed}
use Rattle.dbtg_plan.proofs.storing.edits_of.Goals as goal

pub returns : goal.returns
returns c =
    let schema = c.args.schema.now in
    let unit = c.args.unit.now in
    let k = c.args.key.now in
    edits_pushed schema unit k c.args.items.now c.push.new.self c.push_each_join.new.edits c.push_openings.new.edits c.push-2.new.self
    (c.in_ok-push.ensures.ok ∙ (λ i. (c.of-edits.ensures ∙ c.in_ok-with_capacity.ensures.items) i ++ (c.in_ok-entering.ensures ∙ ap (entering_edit schema k) (c.as_slice.ensures ∙ c.get.ensures)) i ∷ []))
    (c.in_ok-push_each_join.ensures ∙ ap (λ (items : List Value). c.push.new.self ++ flat_map (λ s. joining_edits schema unit s k (key_item schema s k.rtype items)) (automatic_sets schema k.rtype)) (c.as_slice-2.ensures ∙ c.get-2.ensures))
    c.in_ok-push_openings.ensures
    (c.in_ok-push-2.ensures.ok ∙ ap (λ (e : CellEdit). c.push_openings.new.edits ++ e ∷ []) (c.in_ok-filling.ensures ∙ ap (λ (owners : List (Option Owner)). slot_edit k (Fill (first_version k.generation c.args.items.now owners))) c.requires))
