use Rattle.std.proofs.Common.{◌≡◌, ◌∷◌, [], ◌++◌, ◌∙◌, sym, ap, subst, List, append_assoc, map}
use Rattle.std.specs.List.{flat_map}
use Rattle.dbtg_schema.specs.Structure.{rekeyed_sets}
use Rattle.dbtg_cells.specs.declared.key.Value.{Value}
use Rattle.dbtg_unit.specs.declared.edit.CellEdit.{CellEdit}
use Rattle.dbtg_unit.specs.declared.edit.Edit.TheVariants.{ChangeItems, RaiseVersion}
use Rattle.dbtg_unit.specs.Database.State.Kept.{noted_again}
use Rattle.dbtg_unit.specs.Hands.InHand.{in_hand}
use Rattle.dbtg_unit.specs.Hands.Making.{CanMake}
use Rattle.dbtg_unit.specs.Hands.PlanOf.{calc_edits, modify_edits, modifying, replacing_edits, slot_edit}
use Rattle.dbtg_unit.specs.Hands.Prepared.{edited_values, values_of}
use Rattle.dbtg_unit.proofs.Public.{can_make_front, can_make_rest, made_append, made_values}
use Rattle.dbtg_plan.proofs.Plans.MadeAtOnce.{seen_by_plan}
use Rattle.dbtg_plan.proofs.modifying.modify_record.Goals as goal

pub edit_each_cell-requires : goal.edit_each_cell-requires
edit_each_cell-requires c =
    let schema = c.args.schema.now in
    let view = in_hand c.args.held.now in
    let unit = c.args.unit.now in
    let changes = c.args.changes.now in
    let k = c.args.key.now in
    let items = c.args.items in
    let old = c.args.held.now.cells in
    let last : List CellEdit = slot_edit k (ChangeItems items) ∷ (slot_edit k RaiseVersion ∷ []) in
    let front : List Value → List CellEdit = λ items. calc_edits schema changes k items ++ flat_map (replacing_edits schema view unit k items) (rekeyed_sets schema k.rtype (map (λ c. c.item) changes)) in
    let all : c.in_ok-edits.edits ++ last ≡ modify_edits schema view unit changes k items =
    ap (λ es. es ++ last) (c.in_ok-edits.ensures ∙ ap front (c.as_slice.ensures ∙ c.get.ensures))
    ∙ append_assoc (calc_edits schema changes k items) (flat_map (replacing_edits schema view unit k items) (rekeyed_sets schema k.rtype (map (λ c. c.item) changes))) last in
    can_make_front c.in_ok-edits.edits last old (subst (λ (es : List CellEdit). CanMake es old) (sym all) c.requires.can)

pub change_slot-requires : goal.change_slot-requires
change_slot-requires c =
    let schema = c.args.schema.now in
    let view = in_hand c.args.held.now in
    let unit = c.args.unit.now in
    let changes = c.args.changes.now in
    let k = c.args.key.now in
    let items = c.args.items in
    let old = c.args.held.now.cells in
    let last : List CellEdit = slot_edit k (ChangeItems items) ∷ (slot_edit k RaiseVersion ∷ []) in
    let front : List Value → List CellEdit = λ items. calc_edits schema changes k items ++ flat_map (replacing_edits schema view unit k items) (rekeyed_sets schema k.rtype (map (λ c. c.item) changes)) in
    let all : c.in_ok-edits.edits ++ last ≡ modify_edits schema view unit changes k items =
    ap (λ es. es ++ last) (c.in_ok-edits.ensures ∙ ap front (c.as_slice.ensures ∙ c.get.ensures))
    ∙ append_assoc (calc_edits schema changes k items) (flat_map (replacing_edits schema view unit k items) (rekeyed_sets schema k.rtype (map (λ c. c.item) changes))) last in
    can_make_rest c.in_ok-edits.edits last old c.edit_each_cell.new.held.cells (subst (λ (es : List CellEdit). CanMake es old) (sym all) c.requires.can) c.edit_each_cell.ensures.made

pub returns-clause-made : goal.returns-clause-made
returns-clause-made c =
    let schema = c.args.schema.now in
    let view = in_hand c.args.held.now in
    let unit = c.args.unit.now in
    let changes = c.args.changes.now in
    let k = c.args.key.now in
    let items = c.args.items in
    let old = c.args.held.now in
    let between = c.edit_each_cell.new.held.cells in
    let new = c.change_slot.new.held.cells in
    let last : List CellEdit = slot_edit k (ChangeItems items) ∷ (slot_edit k RaiseVersion ∷ []) in
    let front : List Value → List CellEdit = λ items. calc_edits schema changes k items ++ flat_map (replacing_edits schema view unit k items) (rekeyed_sets schema k.rtype (map (λ c. c.item) changes)) in
    let all : c.in_ok-edits.edits ++ last ≡ modify_edits schema view unit changes k items =
    ap (λ es. es ++ last) (c.in_ok-edits.ensures ∙ ap front (c.as_slice.ensures ∙ c.get.ensures))
    ∙ append_assoc (calc_edits schema changes k items) (flat_map (replacing_edits schema view unit k items) (rekeyed_sets schema k.rtype (map (λ c. c.item) changes))) last in
    seen_by_plan schema unit c.renote.new.self old c.change_slot.new.held (modifying schema view unit changes k) c.done_answer.result c.done_answer.ensures
    (c.renote.ensures.change ∙ ap (λ v. record unit { kept = noted_again k v unit.kept }) c.next_version-version.ensures)
    (c.change_slot.ensures.areas ∙ c.edit_each_cell.ensures.areas)
    (made_values (c.in_ok-edits.edits ++ last) old.cells new (made_append c.in_ok-edits.edits last old.cells between new c.edit_each_cell.ensures.made c.change_slot.ensures.made)
    ∙ ap (λ (es : List CellEdit). edited_values es (values_of old.cells)) (all ∙ ap (modify_edits schema view unit changes k) c.requires.changed))
    (c.change_slot.ensures.guesses ∙ c.edit_each_cell.ensures.guesses)
