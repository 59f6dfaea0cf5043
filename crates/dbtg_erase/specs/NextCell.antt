-- The next cell of a DELETE, read from the held cells.
-- k and d are keys, s a set, b and c names of cells.
use Rattle.std.specs.Prelude.{Bool, not, List, [], ◌∷◌, Option, Some, None, if◌then◌else◌}
use Rattle.std.specs.List.{find, flat_map}
use Rattle.dbtg_schema.specs.Lists.{Lists}
use Rattle.dbtg_schema.specs.Structure.{set_numbers}
use Rattle.dbtg_cells.specs.declared.key.DbKey.{DbKey}
use Rattle.dbtg_cells.specs.declared.name.CellName.{CellName}
use Rattle.dbtg_cells.specs.declared.name.CellName.TheVariants.{Extent}
use Rattle.dbtg_cells.specs.Names.{name_below}
use Rattle.dbtg_unit.specs.Hands.Hands.{Hands}
use Rattle.dbtg_unit.specs.Hands.InHand.{owner_in}
use Rattle.dbtg_unit.specs.Hands.Local.{holds}
use Rattle.dbtg_unit.specs.Hands.Needs.{ring_names}

-- the cell with this name is not held
abbrev pub is_missing : Hands → CellName → Bool
is_missing hands c = not (holds hands.cells c)

-- the first of some cells that is not held
abbrev pub first_missing : Hands → List CellName → Option CellName
first_missing hands = find (is_missing hands)

-- the extent of d, and by set the ring of its owner, read from the held cells
abbrev pub outer_names : Lists → Hands → DbKey → List CellName
outer_names schema hands d = Extent d.rtype ∷ flat_map (λ s. ring_names s (owner_in hands s d)) (set_numbers schema)

-- a name, or another that is before it
abbrev pub nearer : Option CellName → CellName → CellName
nearer None c = c
nearer (Some b) c = if name_below c b then c else b

-- the first of some names in the order of cells
abbrev pub least_name : Option CellName → List CellName → Option CellName
least_name best [] = best
least_name best (c ∷ cs) = least_name (Some (nearer best c)) cs
