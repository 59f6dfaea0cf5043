use Rattle.std.proofs.Common.{◌∙◌, ap, ◌+◌}
use Rattle.std.specs.Prelude.{map}
use Rattle.std.specs.List.{flat_map}
use Rattle.dbtg_unit.specs.Hands.EditsOf.{losing_edits}
use Rattle.dbtg_unit.specs.Hands.InHand.{owner_in, version_in}
use Rattle.dbtg_erase.proofs.preparing.losses.Goals as goal

pub returns-clause-versions : goal.returns-clause-versions
returns-clause-versions c =
    c.in_ok-versions.ensures ∙ ap (map (λ x. (x, version_in c.args.held.now x + 1))) (c.as_slice.ensures ∙ c.in_ok-left.ensures)

pub returns-clause-cells : goal.returns-clause-cells
returns-clause-cells c =
    c.in_ok-cells.ensures ∙ ap (flat_map (losing_edits c.args.schema.now (owner_in c.args.held.now) c.args.gone.now)) c.in_ok-left.ensures
