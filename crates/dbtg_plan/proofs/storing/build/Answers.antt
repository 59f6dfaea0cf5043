use Rattle.std.proofs.Common.{◌++◌, ◌∙◌, ap, List, Option}
use Rattle.std.specs.List.{flat_map}
use Rattle.dbtg_schema.specs.Structure.{automatic_sets}
use Rattle.dbtg_cells.specs.declared.key.Owner.{Owner}
use Rattle.dbtg_cells.specs.Shown.{first_version}
use Rattle.dbtg_unit.specs.declared.edit.Edit.TheVariants.{Fill}
use Rattle.dbtg_unit.specs.Database.State.Base.{key_item}
use Rattle.dbtg_unit.specs.Hands.EditsOf.{joining_edits, slot_edit}
use Rattle.dbtg_plan.specs.Inside.Store.{entering_edit}
use Rattle.dbtg_plan.proofs.Store.StoreSteps.{edits_made}
use Rattle.dbtg_plan.proofs.storing.build.Goals as goal

pub returns : goal.returns
returns c =
    let schema = c.args.schema.now in
    let unit = c.args.unit.now in
    let k = c.args.key.now in
    let items = c.args.items.now in
    edits_made schema unit k items c.in_ok-entering.entering c.in_ok-filling.filling c.push_each_join.new.edits
    (c.in_ok-entering.ensures ∙ ap (entering_edit schema k) (c.as_slice-2.ensures ∙ c.get-2.ensures))
    (c.in_ok-push_each_join.ensures
    ∙ (λ i. (c.of-joins.ensures ∙ c.new.ensures.items) i ++ flat_map (λ s. joining_edits schema unit s k (key_item schema s k.rtype ((c.as_slice.ensures ∙ c.get.ensures) i))) (automatic_sets schema k.rtype)))
    (c.in_ok-filling.ensures ∙ ap (λ (owners : List (Option Owner)). slot_edit k (Fill (first_version k.generation items owners))) c.requires)
