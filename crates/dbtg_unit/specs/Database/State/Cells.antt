-- What each cell shows of a database.
-- k is a key, t a record type, n a number, s a set, o an owner or its name in a ring, r a record, db a database.
use Rattle.std.specs.Prelude.{ℕ, List, Option, Some, None, map, option_map}
use Rattle.std.specs.List.{range_with_len}
use Rattle.dbtg_schema.specs.Lists.{Lists}
use Rattle.dbtg_cells.specs.declared.key.DbKey.{DbKey}
use Rattle.dbtg_cells.specs.declared.key.Owner.{Owner}
use Rattle.dbtg_cells.specs.declared.key.Owner.TheVariants.{System, Rec}
use Rattle.dbtg_cells.specs.declared.name.CellName.{CellName}
use Rattle.dbtg_cells.specs.declared.name.CellName.TheVariants.{Usage, Extent, Ring, Slot}
use Rattle.dbtg_cells.specs.Shown.{CellValue, UsageValue, ExtentValue, RingValue, SlotValue}
use Rattle.dbtg_cells.specs.declared.extent.Number.{Number}
use Rattle.dbtg_cells.specs.declared.ring.Occurrence.{Occurrence}
use Rattle.dbtg_cells.specs.declared.slot.Stored.{Stored}
use Rattle.dbtg_unit.specs.Database.State.Base.{Database, Record, key_at, calc_items, sort_key}
use Rattle.dbtg_unit.specs.Database.State.Units.{owners_of}

-- what an extent knows of number n of type t
abbrev pub number_of : Lists → Database → ℕ → ℕ → Number
number_of schema db t n =
    record { last = db.last t n; calc = option_map (λ r. calc_items schema t r.items) (db.records (key_at db t n)) }

-- what a slot has for the record k
abbrev pub slot_of : Lists → ℕ → Database → DbKey → Record → Stored
slot_of schema capacity db k r =
    record { generation = k.generation; version = r.version; items = r.items; owners = owners_of schema capacity db k }

-- what a ring has for a list
abbrev pub ring_of : Lists → Database → ℕ → Owner → List DbKey → Occurrence
ring_of schema db s o list = record { owner = o; members = map (λ k. (k, sort_key schema db s k)) list }

-- the owner of a ring: SYSTEM, or the latest key of the number
abbrev pub owner_at : Database → Option (ℕ × ℕ) → Owner
owner_at db None = System
owner_at db (Some p) = Rec (key_at db p.0 p.1)

-- what a cell shows of a database
unfoldable pub cell : Lists → ℕ → Database → CellName → CellValue
cell schema capacity db (Usage a) = UsageValue (db.usage a)
cell schema capacity db (Extent t) = ExtentValue (map (number_of schema db t) (range_with_len 1 capacity))
cell schema capacity db (Ring s o) = RingValue (option_map (ring_of schema db s (owner_at db o)) (db.lists s (owner_at db o)))
cell schema capacity db (Slot t n) = SlotValue (option_map (slot_of schema capacity db (key_at db t n)) (db.records (key_at db t n)))
