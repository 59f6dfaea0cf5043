-- Which cells a schema has, and the order in which they are taken.
use Rattle.std.specs.Prelude.{◌≡◌, refl, true, false, List, [], ◌∷◌, Some, None, map}
use Rattle.std.specs.List.{list_all, list_any}
use Rattle.dbtg_cells.specs.declared.name.CellName.{CellName}
use Rattle.dbtg_cells.specs.declared.name.CellName.TheVariants.{Usage, Extent, Ring, Slot}
use Rattle.dbtg_cells.specs.Names.{name_below}
use Rattle.dbtg_unit.specs.Database.State.CellNames.{area_of_cell}
use Rattle.dbtg_cells.specs.CellNumbers.{is_cell}
use Rattle.dbtg_unit.specs.Inside.Belongs.{is_name_of}
use Rattle.dbtg_unit.specs.Database.State.Legal.{pairwise}
use Rattle.dbtg_unit.proofs.Rows.Defined.Schemas.{shop, main, side, customers, orders, items, has, lines, watch}

-- usage lists, extents, rings by set and owner with SYSTEM first, slots
abbrev pub ascending : List CellName
ascending =
    Usage main ∷ Usage side ∷ Extent customers ∷ Extent orders ∷ Extent items
    ∷ Ring has (Some (customers, 1)) ∷ Ring has (Some (customers, 2)) ∷ Ring lines (Some (orders, 1)) ∷ Ring watch None ∷ Ring watch (Some (0, 1))
    ∷ Slot customers 1 ∷ Slot customers 2 ∷ Slot orders 1 ∷ Slot items 2 ∷ []

in_order : pairwise name_below ascending ≡ true
in_order = refl

-- no cell comes before itself, or before one that comes before it
not_backwards : list_any (λ c. list_any (λ d. name_below d c) (c ∷ [])) ascending ≡ false
not_backwards = refl

not_reversed : pairwise (λ c d. name_below d c) (Slot items 2 ∷ Ring watch None ∷ Extent items ∷ Usage side ∷ []) ≡ true
not_reversed = refl

cells_there : list_all (is_cell shop 2) (
    Usage main ∷ Usage side ∷ Extent items ∷ Ring has (Some (customers, 1)) ∷ Ring lines (Some (orders, 2)) ∷ Ring watch None ∷ Slot customers 1 ∷ Slot items 2 ∷ []) ≡ true
cells_there = refl

cells_not_there : list_any (is_cell shop 2) (
    Usage 2 ∷ Extent 3 ∷ Ring has None ∷ Ring has (Some (orders, 1)) ∷ Ring has (Some (customers, 0)) ∷ Ring has (Some (customers, 3)) ∷ Ring watch (Some (items, 1)) ∷ Ring 3 None
    ∷ Slot 3 1 ∷ Slot items 0 ∷ Slot items 3 ∷ []) ≡ false
cells_not_there = refl

-- whatever the capacity
names_of_the_schema : map (is_name_of shop) (Slot items 3 ∷ Ring has (Some (customers, 3)) ∷ Ring has (Some (orders, 1)) ∷ Slot 3 1 ∷ []) ≡ true ∷ true ∷ false ∷ false ∷ []
names_of_the_schema = refl

-- a ring lies in the home of its set: the area of the owner type, for SYSTEM that of the first member type
areas : map (area_of_cell shop) (
    Usage side ∷ Extent customers ∷ Extent items ∷ Ring has (Some (customers, 1)) ∷ Ring lines (Some (orders, 1)) ∷ Ring watch None ∷ Slot orders 1 ∷ Slot items 1 ∷ [])
    ≡ side ∷ main ∷ side ∷ main ∷ main ∷ side ∷ main ∷ side ∷ []
areas = refl
