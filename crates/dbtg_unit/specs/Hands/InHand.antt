-- What is read from the held cells.
-- k is a key, s a set, o an owner, t a record type, n a number, v a version, r a stored record, a an area, c the name of a cell.
use Rattle.std.specs.Prelude.{ℕ, ◌+◌, not, ◌==◌, List, [], Option, Some, None, is_none, is_some, option_map, option_and_then, unwrap_or, if◌then◌else◌}
use Rattle.std.specs.List.{list_any}
use Rattle.dbtg_schema.specs.Lookups.{at, first}
use Rattle.dbtg_cells.specs.declared.cell.Cell.{Cell}
use Rattle.dbtg_cells.specs.declared.cell.Cell.TheVariants.{Usage as UsageCell, Extent as ExtentCell, Ring as RingCell, Slot as SlotCell}
use Rattle.dbtg_cells.specs.declared.extent.Number.{Number}
use Rattle.dbtg_cells.specs.declared.key.DbKey.{DbKey}
use Rattle.dbtg_cells.specs.declared.key.Owner.{Owner}
use Rattle.dbtg_cells.specs.declared.name.CellName.TheVariants.{Usage, Extent, Ring}
use Rattle.dbtg_cells.specs.declared.ring.Occurrence.{Occurrence}
use Rattle.dbtg_cells.specs.declared.slot.Stored.{Stored}
use Rattle.dbtg_cells.specs.declared.usage.Mode.{Mode}
use Rattle.dbtg_cells.specs.declared.key.Value.{Value}
use Rattle.dbtg_cells.specs.Keys.{owner_eq}
use Rattle.dbtg_cells.specs.Members.{has_sort_key, keys_in, members_in}
use Rattle.dbtg_cells.specs.Shown.{ExtentView, UsageView}
use Rattle.dbtg_cells.specs.Numbers.{has_values, is_free, is_number_left_out, last_of, numbers_where}
use Rattle.dbtg_unit.specs.Database.State.CellNames.{place_of, slot_name}
use Rattle.dbtg_unit.specs.Hands.Hands.{Hands, cell_of}
use Rattle.dbtg_unit.specs.Database.Statements.StoredFacts.{StoredFacts}

-- the record of this generation in a slot
abbrev pub stored_of : ℕ → Option Cell → Option Stored
stored_of generation (Some (SlotCell (Some stored))) = if stored.generation == generation then Some stored else None
stored_of generation _ = None

-- the held record k; none if its slot is not held, or has no record or another
abbrev pub stored_in : Hands → DbKey → Option Stored
stored_in hands k = stored_of k.generation (cell_of (slot_name k) hands.cells)

-- the occurrence where it is o's
abbrev pub of_owner : Owner → Option Occurrence → Option Occurrence
of_owner o None = None
of_owner o (Some occurrence) = if owner_eq occurrence.owner o then Some occurrence else None

-- the occurrence of o in a ring
abbrev pub occurrence_of : Owner → Option Cell → Option Occurrence
occurrence_of o (Some (RingCell ring)) = of_owner o ring.occurrence
occurrence_of o _ = None

-- the held occurrence of o in set s; none if its ring is not held, or has no owner or another
abbrev pub occurrence_in : Hands → ℕ → Owner → Option Occurrence
occurrence_in hands s o = occurrence_of o (cell_of (Ring s (place_of o)) hands.cells)

-- the extent that a cell is
abbrev pub extent_of : Option Cell → Option ExtentView
extent_of (Some (ExtentCell extent)) = Some extent
extent_of _ = None

-- the held extent of record type t; none if it is not held
abbrev pub extent_in : Hands → ℕ → Option ExtentView
extent_in hands t = extent_of (cell_of (Extent t) hands.cells)

-- the numbers of an extent
abbrev pub numbers_of : Option Cell → List Number
numbers_of (Some (ExtentCell extent)) = extent.numbers
numbers_of _ = []

-- the numbers of record type t; none if its extent is not held
abbrev pub numbers_in : Hands → ℕ → List Number
numbers_in hands t = numbers_of (cell_of (Extent t) hands.cells)

-- the usage cell that a cell is
abbrev pub usage_of : Option Cell → Option UsageView
usage_of (Some (UsageCell usage)) = Some usage
usage_of _ = None

-- the usage cell of area a; none if it is not held
abbrev pub usage_in : Hands → ℕ → Option UsageView
usage_in hands a = usage_of (cell_of (Usage a) hands.cells)

-- who has an area open, by its usage cell
abbrev pub users_of : Option Cell → List (ℕ × Mode)
users_of (Some (UsageCell usage)) = usage.users
users_of _ = []

-- who has area a open, by the held cells; nobody where its usage cell is not held
abbrev pub users_in : Hands → ℕ → List (ℕ × Mode)
users_in hands a = users_of (cell_of (Usage a) hands.cells)

-- the items of the held record k
abbrev pub items_in : Hands → DbKey → List Value
items_in hands k = unwrap_or (option_map (λ r. r.items) (stored_in hands k)) []

-- its version
abbrev pub version_in : Hands → DbKey → ℕ
version_in hands k = unwrap_or (option_map (λ r. r.version) (stored_in hands k)) 0

-- its owner in set s
abbrev pub owner_in : Hands → ℕ → DbKey → Option Owner
owner_in hands s k = option_and_then (λ r. at r.owners s) (stored_in hands k)

-- the next one
abbrev pub next_key_of : List Number → ℕ → ℕ → DbKey
next_key_of numbers t n = record { rtype = t; number = n; generation = last_of n numbers + 1 }

-- what the held cells answer
abbrev pub in_hand : Hands → StoredFacts
in_hand hands =
    record {
      is_live = λ k. is_some (stored_in hands k);
      items = items_in hands;
      version = version_in hands;
      owner = owner_in hands;
      is_absent = λ s o. is_none (occurrence_in hands s o);
      members = λ s o. keys_in (occurrence_in hands s o);
      has_sort_key = λ s o left v. list_any (has_sort_key left v) (members_in (occurrence_in hands s o));
      is_full = λ t. is_none (first (numbers_where is_free (numbers_in hands t)));
      fresh = λ t. next_key_of (numbers_in hands t) t (unwrap_or (first (numbers_where is_free (numbers_in hands t))) 0);
      has_calc = λ t values left.
          list_any (λ n. not (is_number_left_out (option_map (λ k. k.number) left) n)) (numbers_where (has_values values) (numbers_in hands t));
      users = users_in hands;
    }
