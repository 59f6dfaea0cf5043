use Rattle.std.proofs.Common.{◌≡◌, ◌++◌, drop}
use Rattle.std.specs.Prelude.{map}
use Rattle.dbtg_cells.specs.declared.name.CellName.TheVariants.{Extent}
use Rattle.dbtg_unit.proofs.edited_names.add_extents.Given as goal

abbrev pub invariant-loop-key : goal.invariant-loop-key
invariant-loop-key l = l.names.items ++ map (λ d. Extent d.rtype) (drop l.key-index l.gone) ≡ l.fn.names.items ++ map (λ d. Extent d.rtype) l.gone
