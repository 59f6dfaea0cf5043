use Rattle.std.proofs.Common.{◌≡◌, true, sym, ◌∙◌, ap, subst, map}
use Rattle.std.proofs.lemmas.Bool.{and_parts}
use Rattle.dbtg_cells.specs.declared.name.CellName.TheVariants.{Extent}
use Rattle.dbtg_unit.specs.declared.statement.Form.{Form}
use Rattle.dbtg_unit.specs.Database.Statements.Fits.{form_fits}
use Rattle.dbtg_unit.specs.Hands.Needs.{cells_to_find, first_missing}
use Rattle.dbtg_plan.proofs.Find.FindsTheSame.{extents_named}
use Rattle.dbtg_plan.proofs.finding.missing_to_find.Goals as goal

pub returns-in-InArea : goal.returns-in-InArea
returns-in-InArea c =
    let fit = subst (λ (f : Form). form_fits c.args.schema.now f ≡ true) c.in-InArea.is c.requires in
    c.missing_extent.ensures
    ∙ ap (λ ts. first_missing c.args.held.now (map Extent ts)) (sym (extents_named c.args.schema.now c.in-InArea.rtype c.in-InArea.area (and_parts _ _ fit).1))
    ∙ ap (λ (f : Form). first_missing c.args.held.now (cells_to_find c.args.schema.now c.args.unit.now f)) (sym c.in-InArea.is)
