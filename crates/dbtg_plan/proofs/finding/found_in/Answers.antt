use Rattle.std.proofs.Common.{◌∙◌, sym, ap}
use Rattle.dbtg_cells.specs.declared.key.Value.{Value}
use Rattle.dbtg_unit.specs.declared.statement.Form.TheVariants.{Sorted}
use Rattle.dbtg_plan.specs.Inside.Finding.{found_in}
use Rattle.dbtg_plan.proofs.finding.found_in.Goals as goal

pub returns-in-InSet : goal.returns-in-InSet
returns-in-InSet c = c.find_member.ensures ∙ ap (found_in c.args.schema.now c.args.unit.now c.args.held.now) (sym c.in-InSet.is)

pub returns-in-Sorted : goal.returns-in-Sorted
returns-in-Sorted c =
    c.find_by_sort_key.ensures
    ∙ ap (λ (v : Value). found_in c.args.schema.now c.args.unit.now c.args.held.now (Sorted c.in-Sorted.set v)) c.get.ensures
    ∙ ap (found_in c.args.schema.now c.args.unit.now c.args.held.now) (sym c.in-Sorted.is)
