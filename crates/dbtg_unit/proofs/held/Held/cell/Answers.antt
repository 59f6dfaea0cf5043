use Rattle.std.proofs.Common.{◌∙◌, ap}
use Rattle.std.specs.List.{zip}
use Rattle.dbtg_unit.specs.Hands.Hands.{cell_of}
use Rattle.dbtg_unit.proofs.held.Held.cell.Goals as goal

pub returns : goal.returns
returns c =
    c.cell_named.ensures
    ∙ (λ i. cell_of c.args.name.now (zip (c.as_slice.ensures i) (c.as_slice-2.ensures i)))
    ∙ ap (λ h. cell_of c.args.name.now h.cells) c.self.view_is
