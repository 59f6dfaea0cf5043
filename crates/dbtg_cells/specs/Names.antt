-- The names of cells.
use Rattle.std.specs.Prelude.{ℕ, Bool, true, false, ◌&&◌, ◌||◌, ◌==◌, nat_lt, Option, Some, None}
use Rattle.dbtg_cells.specs.declared.name.CellName.{CellName}
use Rattle.dbtg_cells.specs.declared.name.CellName.TheVariants.{Usage, Extent, Ring, Slot}

-- the same owner's ring
abbrev pub place_eq : Option (ℕ × ℕ) → Option (ℕ × ℕ) → Bool
place_eq None None = true
place_eq (Some p) (Some q) = p.0 == q.0 && p.1 == q.1
place_eq None (Some q) = false
place_eq (Some p) None = false

-- the same cell
abbrev pub name_eq : CellName → CellName → Bool
name_eq (Usage a) (Usage b) = a == b
name_eq (Extent t) (Extent u) = t == u
name_eq (Ring s o) (Ring t p) = s == t && place_eq o p
name_eq (Slot t n) (Slot u m) = t == u && n == m
name_eq _ _ = false

-- SYSTEM comes first, then by record type and number
abbrev pub place_lt : Option (ℕ × ℕ) → Option (ℕ × ℕ) → Bool
place_lt None (Some q) = true
place_lt (Some p) (Some q) = nat_lt p.0 q.0 || (p.0 == q.0 && nat_lt p.1 q.1)
place_lt _ None = false

-- usage, extents, rings by set and owner, slots by record type and number
abbrev pub name_below : CellName → CellName → Bool
name_below (Usage a) (Usage b) = nat_lt a b
name_below (Usage a) _ = true
name_below (Extent t) (Usage b) = false
name_below (Extent t) (Extent u) = nat_lt t u
name_below (Extent t) _ = true
name_below (Ring s o) (Usage b) = false
name_below (Ring s o) (Extent u) = false
name_below (Ring s o) (Ring t p) = nat_lt s t || (s == t && place_lt o p)
name_below (Ring s o) (Slot u m) = true
name_below (Slot t n) (Slot u m) = nat_lt t u || (t == u && nat_lt n m)
name_below (Slot t n) _ = false
