-- What the picture says of a unit that waits: what it waits for, and who holds it.
-- a, t and s are the numbers of an area, a record type and a set, n that of a record or a unit.
use Rattle.std.specs.Prelude.{ℕ, ◌==◌, true, false, List, [], ◌∷◌, ◌++◌, Option, Some, None, codes, decimal, if◌then◌else◌, length, option_map, slice_get, unwrap_or}
use Rattle.std.specs.List.{flat_map}
use Rattle.dbtg_schema.specs.Lists.{Lists}
use Rattle.dbtg_cells.specs.declared.name.CellName.{CellName}
use Rattle.dbtg_cells.specs.declared.name.CellName.TheVariants.{Usage, Extent, Ring, Slot}
use Rattle.dbtg_step.specs.declared.waiting.Awaited.{Awaited}
use Rattle.dbtg_step.specs.declared.waiting.Awaited.TheVariants.{Area, Cell}
use Rattle.dbtg_step.specs.declared.waiting.Blocking.{Blocking}

-- ---- names

-- the name of an area
abbrev pub area_name : Lists → ℕ → List ℕ
area_name schema a = unwrap_or (option_map (λ it. it.name) (slice_get schema.areas a)) []

-- the name of a record type
abbrev pub type_name : Lists → ℕ → List ℕ
type_name schema t = unwrap_or (option_map (λ it. it.name) (slice_get schema.types t)) []

-- the name of a set
abbrev pub set_name : Lists → ℕ → List ℕ
set_name schema s = unwrap_or (option_map (λ it. it.name) (slice_get schema.sets s)) []

-- a record by its type and its number, without its generation
unfoldable pub record_text : Lists → ℕ → ℕ → List ℕ
record_text schema t n = type_name schema t ++ codes ":" ++ decimal n

-- the owner of a ring
unfoldable pub owner_text : Lists → Option (ℕ × ℕ) → List ℕ
owner_text schema None = codes "SYSTEM"
owner_text schema (Some o) = record_text schema o.0 o.1

-- a cell
unfoldable pub cell_text : Lists → CellName → List ℕ
cell_text schema (Usage a) = codes "Usage(" ++ area_name schema a ++ codes ")"
cell_text schema (Extent t) = codes "Extent(" ++ type_name schema t ++ codes ")"
cell_text schema (Ring s o) = codes "Ring(" ++ set_name schema s ++ codes ", " ++ owner_text schema o ++ codes ")"
cell_text schema (Slot t n) = codes "Slot(" ++ record_text schema t n ++ codes ")"

-- ---- the text

-- what it waits for: an area wanted exclusively may be shared by others, and one that is wanted shared is held exclusively
unfoldable pub awaited_text : Lists → Awaited → List ℕ
awaited_text schema (Area a true) = area_name schema a ++ codes " exclusively, held"
awaited_text schema (Area a false) = area_name schema a ++ codes ", held exclusively"
awaited_text schema (Cell c) = cell_text schema c ++ codes ", held"

-- one unit after another
unfoldable pub next_holder : ℕ → List ℕ
next_holder n = codes ", " ++ decimal n

-- who holds it
unfoldable pub holders_text : List ℕ → List ℕ
holders_text [] = []
holders_text (n ∷ ns) = (if length ns == 0 then codes " by unit " else codes " by units ") ++ decimal n ++ flat_map next_holder ns

-- what a unit waits for, and who holds it; nothing if it does not wait
unfoldable pub waiting_text : Lists → Option Blocking → List ℕ
waiting_text schema None = []
waiting_text schema (Some b) = codes "waits for " ++ awaited_text schema b.awaited ++ holders_text b.holders
