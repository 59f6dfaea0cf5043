-- The cells of a schema and a capacity, numbered in their order.
use Rattle.std.specs.Prelude.{◌≡◌, ℕ, ◌+◌, ◌-◌, ◌*◌, Bool, ◌&&◌, nat_lt, nat_le, List, [], ◌∷◌, ◌++◌, Option, Some, None, map, option_map, unwrap_or, length, get_or, slice_get, position, cond}
use Rattle.std.specs.List.{range_with_len, flat_map}
use Rattle.dbtg_schema.specs.Lists.{Lists}
use Rattle.dbtg_schema.specs.Structure.{is_system, owner_type, owns, set_numbers}
use Rattle.dbtg_cells.specs.declared.name.CellName.{CellName}
use Rattle.dbtg_cells.specs.declared.name.CellName.TheVariants.{Usage, Extent, Ring, Slot}
use Rattle.dbtg_cells.specs.declared.numbering.Layout.{Layout}
use Rattle.dbtg_cells.specs.Names.{name_eq}

-- the rings of set s: SYSTEM's, or one for each number of its owner type
abbrev pub rings_of : Lists → ℕ → ℕ → List CellName
rings_of schema capacity s =
    cond (is_system schema s) (Ring s None ∷ [])
    (unwrap_or (option_map (λ t. map (λ n. Ring s (Some (t, n))) (range_with_len 1 capacity)) (owner_type schema s)) [])

-- the slots of a record type, by number
abbrev pub slots_of : ℕ → ℕ → List CellName
slots_of capacity t = map (Slot t) (range_with_len 1 capacity)

-- all cells in their order
abbrev pub cells_in_order : Lists → ℕ → List CellName
cells_in_order schema capacity =
    map Usage (range_with_len 0 (length schema.areas))
    ++ (map Extent (range_with_len 0 (length schema.types))
    ++ (flat_map (rings_of schema capacity) (set_numbers schema)
    ++ flat_map (slots_of capacity) (range_with_len 0 (length schema.types))))

-- how many cells there are
abbrev pub cell_count : Lists → ℕ → ℕ
cell_count schema capacity = length (cells_in_order schema capacity)

-- the number of a cell; none if the schema has no such cell
abbrev pub cell_number : Lists → ℕ → CellName → Option ℕ
cell_number schema capacity name = position (name_eq name) (cells_in_order schema capacity)

-- the cell of a number
abbrev pub cell_at : Lists → ℕ → ℕ → Option CellName
cell_at schema capacity number = slice_get (cells_in_order schema capacity) number

-- whether the schema has the cell at this capacity
abbrev pub is_cell : Lists → ℕ → CellName → Bool
is_cell schema capacity (Usage a) = nat_lt a (length schema.areas)
is_cell schema capacity (Extent t) = nat_lt t (length schema.types)
is_cell schema capacity (Ring s None) = is_system schema s
is_cell schema capacity (Ring s (Some p)) = owns schema s p.0 && (nat_lt 0 p.1 && nat_le p.1 capacity)
is_cell schema capacity (Slot t n) = nat_lt t (length schema.types) && (nat_lt 0 n && nat_le n capacity)

-- where a layout puts the cell of a name: its number, if the schema has the cell
abbrev pub place_in : Layout → CellName → ℕ
place_in layout (Usage a) = a
place_in layout (Extent t) = layout.areas + t
place_in layout (Ring s None) = get_or layout.ring_starts s 0
place_in layout (Ring s (Some owner)) = get_or layout.ring_starts s 0 + (owner.1 - 1)
place_in layout (Slot t n) = layout.first_slot + t * layout.capacity + (n - 1)

-- a layout puts each cell of the schema at its number
abbrev pub IsLayoutOf : Lists → ℕ → Layout → Type 0
IsLayoutOf schema capacity layout = (c : CellName) (n : ℕ) → cell_number schema capacity c ≡ Some n → place_in layout c ≡ n
