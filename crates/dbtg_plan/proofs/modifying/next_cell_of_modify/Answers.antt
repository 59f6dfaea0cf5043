use Rattle.std.proofs.Common.{◌∙◌, sym, cond, List, [], ◌∷◌, map}
use Rattle.std.specs.List.{flat_map}
use Rattle.dbtg_schema.specs.Lookups.{at}
use Rattle.dbtg_schema.specs.Structure.{rekeyed_sets}
use Rattle.dbtg_cells.specs.declared.name.CellName.{CellName}
use Rattle.dbtg_cells.specs.declared.name.CellName.TheVariants.{Extent}
use Rattle.dbtg_unit.specs.Database.Statements.Effect.{names_calc}
use Rattle.dbtg_unit.specs.Hands.Needs.{is_missing, ring_names, slot_names}
use Rattle.dbtg_plan.proofs.Store.SetSteps.{found_second, found_third}
use Rattle.dbtg_plan.proofs.modifying.next_cell_of_modify.Goals as goal

pub returns-then-is_some-2 : goal.returns-then-is_some-2
returns-then-is_some-2 c =
    let extents : List CellName = cond (names_calc c.args.schema.now c.args.rtype c.args.changes.now) (Extent c.args.rtype ∷ []) [] in
    let rings = flat_map (λ s. ring_names s (at c.args.held.now.guesses s)) (rekeyed_sets c.args.schema.now c.args.rtype (map (λ d. d.item) c.args.changes.now)) in
    λ capacity db.
    found_second (is_missing c.args.held.now) extents rings (slot_names c.args.unit.now.currency.run_unit) c.missing_extent-extent.result c.missing_rekeyed_ring-ring.result
    c.missing_extent-extent.ensures (sym c.is_some.ensures ∙ c.if-is_some.false) c.missing_rekeyed_ring-ring.ensures (sym c.is_some-2.ensures ∙ c.if-is_some-2.true)

pub returns : goal.returns
returns c =
    let extents : List CellName = cond (names_calc c.args.schema.now c.args.rtype c.args.changes.now) (Extent c.args.rtype ∷ []) [] in
    let rings = flat_map (λ s. ring_names s (at c.args.held.now.guesses s)) (rekeyed_sets c.args.schema.now c.args.rtype (map (λ d. d.item) c.args.changes.now)) in
    λ capacity db.
    found_third (is_missing c.args.held.now) extents rings (slot_names c.args.unit.now.currency.run_unit) c.missing_extent-extent.result c.missing_rekeyed_ring-ring.result c.missing_slot.result
    c.missing_extent-extent.ensures (sym c.is_some.ensures ∙ c.if-is_some.false) c.missing_rekeyed_ring-ring.ensures (sym c.is_some-2.ensures ∙ c.if-is_some-2.false) c.missing_slot.ensures
