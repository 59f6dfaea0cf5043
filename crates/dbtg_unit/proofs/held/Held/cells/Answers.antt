use Rattle.std.proofs.Common.{◌∙◌, sym, ap, map}
use Rattle.dbtg_unit.proofs.Hands.Holding.NamesAndCells.{cells_beside}
use Rattle.dbtg_unit.proofs.held.Held.cells.Goals as goal

pub returns : goal.returns
returns c = c.as_slice.ensures ∙ sym (cells_beside c.self.inside.names.items c.self.inside.cells.items c.self.invariant.0) ∙ ap (λ h. map (λ e. e.1) h.cells) c.self.view_is
