use Rattle.std.proofs.Common.{◌∙◌, sym, ap, ℕ, ◌+◌, Bool, List, [], cond, ◌++◌, append_assoc, append-nil, drop, length, arith}
use Rattle.std.specs.Prelude.{filter}
use Rattle.std.specs.List.{flat_map, range_with_len}
use Rattle.dbtg_unit.specs.declared.edit.CellEdit.{CellEdit}
use Rattle.dbtg_unit.specs.Hands.InHand.{in_hand}
use Rattle.dbtg_unit.specs.Hands.PlanOf.{replacing_edits}
use Rattle.dbtg_plan.specs.Inside.Modifying.{is_rekeyed}
use Rattle.dbtg_plan.proofs.Store.SetSteps.{kept_end, kept_step}
use Rattle.dbtg_plan.proofs.modifying.push_each_replacing.Goals as goal

pub loop-s-preserved : goal.loop-s-preserved
loop-s-preserved c =
    let edits : ℕ → List CellEdit = replacing_edits c.args.schema.now (in_hand c.args.held.now) c.args.unit.now c.args.key.now c.args.items.now in
    let is_wanted : ℕ → Bool = λ s. is_rekeyed c.args.schema.now c.args.changes.now c.args.key.now.rtype s in
    let sets = length c.args.schema.now.sets in
    let rest = flat_map edits (filter is_wanted (drop (c.loop-s.s + 1) (range_with_len 0 sets))) in
    ap (λ es. es ++ rest) (c.in_ok-push_replacing.ensures ∙ ap (λ s. c.loop-s.edits ++ cond (is_wanted s) (edits s) []) c.new-set.ensures)
    ∙ append_assoc c.loop-s.edits (cond (is_wanted c.loop-s.s) (edits c.loop-s.s) []) rest
    ∙ ap (λ es. c.loop-s.edits ++ es) (sym (kept_step edits is_wanted sets c.loop-s.s (omega (arith, c.set_count-s-end.ensures))))
    ∙ c.loop-s.invariant

pub returns : goal.returns
returns c =
    let edits : ℕ → List CellEdit = replacing_edits c.args.schema.now (in_hand c.args.held.now) c.args.unit.now c.args.key.now c.args.items.now in
    let is_wanted : ℕ → Bool = λ s. is_rekeyed c.args.schema.now c.args.changes.now c.args.key.now.rtype s in
    sym (append-nil c.loop-s.edits)
    ∙ ap (λ es. c.loop-s.edits ++ es) (sym (kept_end edits is_wanted (length c.args.schema.now.sets) c.loop-s.s (omega (arith, c.set_count-s-end.ensures))))
    ∙ c.loop-s.invariant
