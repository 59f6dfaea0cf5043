use Rattle.std.proofs.Common.{◌+◌, ◌++◌, sym, ◌∙◌, ap, ℕ, List, drop, append_assoc}
use Rattle.std.specs.List.{flat_map}
use Rattle.dbtg_unit.specs.declared.edit.CellEdit.{CellEdit}
use Rattle.dbtg_unit.specs.Database.State.Base.{key_item}
use Rattle.dbtg_unit.specs.Hands.EditsOf.{joining_edits}
use Rattle.dbtg_plan.proofs.Store.StoreSteps.{left_next}
use Rattle.dbtg_plan.proofs.storing.push_each_join.Goals as goal

pub loop-set-preserved : goal.loop-set-preserved
loop-set-preserved c =
    let f : ℕ → List CellEdit = λ s. joining_edits c.args.schema.now c.args.unit.now s c.args.key.now (key_item c.args.schema.now s c.args.key.now.rtype c.args.items.now) in
    let sets = c.automatic_sets-set-items.result.now in
    let i = c.loop-set.set-index in
    let old = c.loop-set.edits in
    ap (λ (es : List CellEdit). es ++ flat_map f (drop (i + 1) sets)) c.in_ok-push_join.ensures
    ∙ append_assoc old (f c.set-item.result) (flat_map f (drop (i + 1) sets))
    ∙ ap (λ (ss : List ℕ). old ++ flat_map f ss) (sym (left_next sets i c.set-item.result c.loop-set-test.true c.set-item.is))
    ∙ c.loop-set.invariant
