use Rattle.std.proofs.Common.{◌∙◌, ◌-◌, ap, length, slice_get}
use Rattle.std.specs.Prelude.{option_map}
use Rattle.dbtg_cells.specs.declared.cell.Cell.{Cell}
use Rattle.dbtg_cells.specs.declared.name.CellName.{CellName}
use Rattle.dbtg_unit.proofs.Hands.Holding.NamesAndCells.{last_name}
use Rattle.dbtg_unit.proofs.held.Held.last_name.Goals as goal

pub returns : goal.returns
returns c =
    c.copied.ensures
    ∙ c.last.ensures.value
    ∙ ap (λ ns. slice_get ns (length ns - 1)) c.as_slice.ensures
    ∙ last_name c.self.inside.names.items c.self.inside.cells.items c.self.invariant.0
    ∙ ap (λ h. option_map (λ (e : CellName × Cell). e.0) (slice_get h.cells (length h.cells - 1))) c.self.view_is
