-- The changes of single cells by which a statement does its work.
use Rattle.std.specs.Prelude.{ℕ, ◌+◌, ◌-◌, cond, not, ◌==◌, List, [], ◌∷◌, ◌++◌, Option, Some, None, option_map, filter, slice_set}
use Rattle.dbtg_schema.specs.declared.shape.Order.{Order}
use Rattle.dbtg_schema.specs.declared.shape.Order.TheVariants.{First, Last, Next, Prior, Sorted}
use Rattle.dbtg_cells.specs.declared.key.DbKey.{DbKey}
use Rattle.dbtg_cells.specs.declared.key.Owner.{Owner}
use Rattle.dbtg_cells.specs.declared.key.Value.{Value}
use Rattle.dbtg_cells.specs.declared.extent.Number.{Number}
use Rattle.dbtg_cells.specs.declared.ring.Occurrence.{Occurrence}
use Rattle.dbtg_cells.specs.declared.slot.Stored.{Stored}
use Rattle.dbtg_cells.specs.declared.name.CellName.{CellName}
use Rattle.dbtg_cells.specs.Keys.{key_eq}
use Rattle.dbtg_cells.specs.Names.{name_eq}
use Rattle.dbtg_cells.specs.Users.{left_by}
use Rattle.dbtg_cells.specs.Placed.{Spot, Front, Back, After, Before, Among, placed}
use Rattle.dbtg_cells.specs.Shown.{CellValue, UsageValue, ExtentValue, RingValue, SlotValue}
use Rattle.dbtg_unit.specs.Database.Statements.Effect.{comes_before}
use Rattle.dbtg_unit.specs.declared.edit.Edit.{Edit}
use Rattle.dbtg_unit.specs.declared.edit.Edit.TheVariants.{EnterUser, LeaveUser, EnterNumber, LeaveNumber, ChangeNumber, OpenRing, CloseRing, PlaceMember, ReplaceMember, TakeOut, Fill, Vacate, ChangeItems, ChangeOwner, RaiseVersion}
use Rattle.dbtg_unit.specs.declared.edit.CellEdit.{CellEdit}

-- a number becomes live in its next generation; a number is no longer live; a number gets other CALC values
abbrev pub entered : List Value → Number → Number
entered calc n = record { last = n.last + 1; calc = Some calc }

-- a number is no longer live
abbrev pub vacated : Number → Number
vacated n = record { last = n.last; calc = None }

-- a live number with other CALC values
abbrev pub revalued : List Value → Number → Number
revalued calc n = record { last = n.last; calc = Some calc }

-- the numbers with one of them changed
abbrev pub with_number : ℕ → (Number → Number) → List Number → List Number
with_number n change [] = []
with_number n change (x ∷ xs) = cond (n == 1) (change x ∷ xs) (x ∷ with_number (n - 1) change xs)

-- where a new member with a sort key goes among members with theirs
abbrev pub after_key : Option DbKey → Spot (DbKey × Option Value)
after_key None = Front
after_key (Some p) = After (λ m. key_eq p m.0)

-- directly before the member in the position, or last if the position is the owner
abbrev pub before_key : Option DbKey → Spot (DbKey × Option Value)
before_key None = Back
before_key (Some p) = Before (λ m. key_eq p m.0)

-- where a member with a sort key goes in a ring, by the order of its set
abbrev pub member_spot : Order → Option DbKey → Option Value → Spot (DbKey × Option Value)
member_spot First position key = Front
member_spot Last position key = Back
member_spot Next position key = after_key position
member_spot Prior position key = before_key position
member_spot (Sorted ascending duplicates) position key = Among (λ m. comes_before ascending duplicates m.1 key)

-- an occurrence with its members changed
abbrev pub with_members : (List (DbKey × Option Value) → List (DbKey × Option Value)) → Occurrence → Occurrence
with_members change r = record { owner = r.owner; members = change r.members }

-- the members without one
abbrev pub members_without : DbKey → List (DbKey × Option Value) → List (DbKey × Option Value)
members_without k = filter (λ m. not (key_eq k m.0))

-- a stored record with other items
abbrev pub with_stored_items : List Value → Stored → Stored
with_stored_items items r = record { generation = r.generation; version = r.version; items = items; owners = r.owners }

-- a stored record with this owner in a set, or none
abbrev pub with_owner : ℕ → Option Owner → Stored → Stored
with_owner s o r = record { generation = r.generation; version = r.version; items = r.items; owners = slice_set r.owners s o }

-- a stored record in its next version
abbrev pub with_next_version : Stored → Stored
with_next_version r = record { generation = r.generation; version = r.version + 1; items = r.items; owners = r.owners }

-- a cell after an edit; a cell of another kind stays
abbrev pub edited : Edit → CellValue → CellValue
edited (EnterUser unit mode) (UsageValue users) = UsageValue (users ++ (unit, mode) ∷ [])
edited (LeaveUser unit) (UsageValue users) = UsageValue (left_by unit users)
edited (EnterNumber n calc) (ExtentValue numbers) = ExtentValue (with_number n (entered calc) numbers)
edited (LeaveNumber n) (ExtentValue numbers) = ExtentValue (with_number n vacated numbers)
edited (ChangeNumber n calc) (ExtentValue numbers) = ExtentValue (with_number n (revalued calc) numbers)
edited (OpenRing owner) (RingValue ring) = RingValue (Some (record { owner = owner; members = [] }))
edited CloseRing (RingValue ring) = RingValue None
edited (PlaceMember order position key sort_key) (RingValue ring) =
    RingValue (option_map (with_members (placed (member_spot order position sort_key) (key, sort_key))) ring)
edited (ReplaceMember order position key sort_key) (RingValue ring) =
    RingValue (option_map (with_members (placed (member_spot order position sort_key) (key, sort_key))) (option_map (with_members (members_without key)) ring))
edited (TakeOut key) (RingValue ring) = RingValue (option_map (with_members (members_without key)) ring)
edited (Fill stored) (SlotValue slot) = SlotValue (Some stored)
edited Vacate (SlotValue slot) = SlotValue None
edited (ChangeItems items) (SlotValue slot) = SlotValue (option_map (with_stored_items items) slot)
edited (ChangeOwner s owner) (SlotValue slot) = SlotValue (option_map (with_owner s owner) slot)
edited RaiseVersion (SlotValue slot) = SlotValue (option_map with_next_version slot)
edited edit value = value

-- the value of the cell with a name after the edits that name it, in their order
abbrev pub edited_at : CellName → List CellEdit → CellValue → CellValue
edited_at c [] value = value
edited_at c (e ∷ edits) value = edited_at c edits (cond (name_eq c e.name) (edited e.edit value) value)
