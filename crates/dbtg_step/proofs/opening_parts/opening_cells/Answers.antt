use Rattle.std.proofs.Common.{◌≡◌, ◌∙◌, ap, subst}
use Rattle.std.specs.Prelude.{IfOk}
use Rattle.dbtg_step.specs.Core.Openings.{homes_of, homes_shown}
use Rattle.dbtg_step.specs.Inside.Openings.{homes_opened}
use Rattle.dbtg_step.proofs.TheCore.OpeningShown.{all_open}
use Rattle.dbtg_step.proofs.opening_parts.opening_cells.Goals as goal

pub returns : goal.returns
returns c =
    let schema = c.args.schema.now in
    let capacity = c.args.capacity in
    subst (λ homes. IfOk c.cells_of.result (λ cells. homes_shown cells.items ≡ homes))
    (ap (homes_opened capacity) c.as_slice.ensures.value ∙ all_open schema capacity c.in_ok-names.names.items c.in_ok-names.ensures ∙ ap (homes_of schema capacity) c.in_ok-names.ensures)
    c.cells_of.ensures
