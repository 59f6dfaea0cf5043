-- When an edit of a cell can be made, without memory and without a refusal.
-- Letters: n a number, k a key, p the key in the position, v what a cell shows with its room.
use Rattle.std.specs.Prelude.{◌≡◌, ◌+◌, ◌<◌, ◌^◌, Bool, true, not, ◌||◌, List, Option, Some, None, is_some, IsTrue, ⊤}
use Rattle.dbtg_schema.specs.Lookups.{some_and}
use Rattle.dbtg_schema.specs.declared.shape.Order.{Order}
use Rattle.dbtg_schema.specs.declared.shape.Order.TheVariants.{First, Last, Next, Prior, Sorted}
use Rattle.dbtg_schema.specs.declared.shape.Duplicates.{Duplicates}
use Rattle.dbtg_cells.specs.declared.key.DbKey.{DbKey}
use Rattle.dbtg_cells.specs.declared.key.Value.{Value}
use Rattle.dbtg_cells.specs.declared.ring.Occurrence.{Occurrence}
use Rattle.dbtg_cells.specs.declared.slot.Stored.{Stored}
use Rattle.dbtg_cells.specs.declared.cell.Cell.{Cell}
use Rattle.dbtg_cells.specs.declared.cell.Cell.TheVariants.{Usage, Extent, Ring, Slot}
use Rattle.dbtg_cells.specs.Keys.{is_member}
use Rattle.dbtg_cells.specs.Members.{has_room, keys_in, members_in, with_members, without_key}
use Rattle.dbtg_cells.specs.Numbers.{entry_of, is_free, is_used}
use Rattle.dbtg_cells.specs.Orders.{comes_before}
use Rattle.dbtg_unit.specs.Database.State.Legal.{pairwise}
use Rattle.dbtg_unit.specs.declared.edit.Edit.{Edit}
use Rattle.dbtg_unit.specs.declared.edit.Edit.TheVariants.{EnterUser, EnterNumber, LeaveNumber, ChangeNumber, OpenRing, PlaceMember, ReplaceMember, TakeOut, RaiseVersion}

-- the members that come before a new one with this sort key are before all others
abbrev pub parts_by : Bool → Duplicates → Option Value → List (DbKey × Option Value) → Bool
parts_by ascending duplicates key = pairwise (λ x y. comes_before ascending duplicates x.1 key || not (comes_before ascending duplicates y.1 key))

-- the position, if there is one, is a member
abbrev pub IsPosition : Option DbKey → Option Occurrence → Type 0
IsPosition None occurrence = IsTrue (is_some occurrence)
IsPosition (Some p) occurrence = IsTrue (is_member p (keys_in occurrence))

-- a member can be placed by the order of the set
abbrev pub CanPlace : Order → Option DbKey → Option Value → Option Occurrence → Type 0
CanPlace First position key occurrence = IsTrue (is_some occurrence)
CanPlace Last position key occurrence = IsTrue (is_some occurrence)
CanPlace Next position key occurrence = IsPosition position occurrence
CanPlace Prior position key occurrence = IsPosition position occurrence
CanPlace (Sorted ascending duplicates) position key occurrence = IsTrue (is_some occurrence) × (parts_by ascending duplicates key (members_in occurrence) ≡ true)

-- a slot's version is not the greatest
abbrev pub HasNextVersion : Option Stored → Type 0
HasNextVersion slot = (r : Stored) → slot ≡ Some r → r.version + 1 < 2 ^ 64

-- an edit can be made of a cell; of a cell of another kind it changes nothing
abbrev pub CanEdit : Edit → Cell → Type 0
CanEdit (EnterUser unit mode) (Usage v) = 0 < v.room
CanEdit (EnterNumber n calc) (Extent v) = IsTrue (some_and is_free (entry_of n v.numbers))
CanEdit (LeaveNumber n) (Extent v) = IsTrue (some_and is_used (entry_of n v.numbers))
CanEdit (ChangeNumber n calc) (Extent v) = IsTrue (some_and is_used (entry_of n v.numbers))
CanEdit (OpenRing owner) (Ring v) = v.occurrence ≡ None
CanEdit (PlaceMember order position k key) (Ring v) = IsTrue (has_room v k) × CanPlace order position key v.occurrence
CanEdit (ReplaceMember order position k key) (Ring v) = IsTrue (is_member k (keys_in v.occurrence)) × CanPlace order position key (with_members (without_key k) v.occurrence)
CanEdit (TakeOut k) (Ring v) = IsTrue (is_member k (keys_in v.occurrence))
CanEdit RaiseVersion (Slot v) = HasNextVersion v
CanEdit _ _ = ⊤
