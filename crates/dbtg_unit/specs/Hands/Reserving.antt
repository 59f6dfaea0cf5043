-- Room in held cells, made before anything is changed.
-- c and d are names of cells, k a key.
use Rattle.std.specs.Prelude.{◌≡◌, ◌<◌, false, List, Some, IsTrue, ⊤}
use Rattle.dbtg_cells.specs.declared.cell.Cell.{Cell}
use Rattle.dbtg_cells.specs.declared.cell.Cell.TheVariants.{Usage as UsageCell, Ring as RingCell}
use Rattle.dbtg_cells.specs.declared.key.DbKey.{DbKey}
use Rattle.dbtg_cells.specs.declared.name.CellName.{CellName}
use Rattle.dbtg_cells.specs.Keys.{is_member}
use Rattle.dbtg_cells.specs.Members.{has_room, keys_in}
use Rattle.dbtg_cells.specs.Names.{name_eq}
use Rattle.dbtg_unit.specs.Hands.Hands.{cell_of}

-- a ring has room for k, unless k is a member
abbrev pub CanTakeMember : DbKey → Cell → Type 0
CanTakeMember k (RingCell ring) = is_member k (keys_in ring.occurrence) ≡ false → IsTrue (has_room ring k)
CanTakeMember k _ = ⊤

-- a usage cell has room for another user
abbrev pub CanTakeUser : Cell → Type 0
CanTakeUser (UsageCell usage) = 0 < usage.room
CanTakeUser _ = ⊤

-- the same for the held cell with this name, if there is one
abbrev pub OfHeld : CellName → List (CellName × Cell) → (Cell → Type 0) → Type 0
OfHeld c cells holds = (x : Cell) → cell_of c cells ≡ Some x → holds x

-- all cells but the one with this name are as they were
abbrev pub KeepsOthers : CellName → List (CellName × Cell) → List (CellName × Cell) → Type 0
KeepsOthers c old new = (d : CellName) → name_eq d c ≡ false → cell_of d new ≡ cell_of d old

-- what each held cell had room for it still has room for
pub record KeepRoom (old new : List (CellName × Cell)) : Type 0 where
  pub members : (c : CellName) (k : DbKey) → OfHeld c old (CanTakeMember k) → OfHeld c new (CanTakeMember k)
  pub users : (c : CellName) → OfHeld c old CanTakeUser → OfHeld c new CanTakeUser
