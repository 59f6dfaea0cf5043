-- Which of the cells that a DELETE needs is missing first.
use Rattle.std.specs.Prelude.{ℕ, Bool, ◌&&◌, ◌||◌, List, [], ◌∷◌, Option, Some, None, filter, is_some, length, nat_lt, if◌then◌else◌}
use Rattle.std.specs.List.{find, flat_map}
use Rattle.std.specs.Option.{option_or}
use Rattle.dbtg_schema.specs.Lists.{Lists}
use Rattle.dbtg_schema.specs.Lookups.{first_cause}
use Rattle.dbtg_schema.specs.Structure.{owns, set_numbers}
use Rattle.dbtg_cells.specs.declared.key.DbKey.{DbKey}
use Rattle.dbtg_cells.specs.declared.name.CellName.{CellName}
use Rattle.dbtg_cells.specs.declared.name.CellName.TheVariants.{Ring}
use Rattle.dbtg_unit.specs.Database.Statements.Checks.{own_checks}
use Rattle.dbtg_unit.specs.declared.held.Need.{Need}
use Rattle.dbtg_unit.specs.declared.held.Need.TheVariants.{Take, Ready}
use Rattle.dbtg_unit.specs.declared.statement.Erase.{Erase}
use Rattle.dbtg_unit.specs.declared.unit.Unit.{Unit}
use Rattle.dbtg_unit.specs.Database.State.CellNames.{slot_name}
use Rattle.dbtg_unit.specs.Database.Statements.Effect.{is_plain}
use Rattle.dbtg_unit.specs.Hands.Hands.{Hands}
use Rattle.dbtg_unit.specs.Hands.InHand.{in_hand}
use Rattle.dbtg_erase.specs.WorkList.{cells_of_gone, gone_in, list_in}
use Rattle.dbtg_erase.specs.NextCell.{first_missing, is_missing, least_name, outer_names}

-- k's ring of set s
abbrev pub ring_of : DbKey → ℕ → CellName
ring_of k s = Ring s (Some (k.rtype, k.number))

-- k owns set s, and its ring is not held or has a member
abbrev pub stops_at : Lists → Hands → DbKey → ℕ → Bool
stops_at schema hands k s = owns schema s k.rtype && (is_missing hands (ring_of k s) || nat_lt 0 (length (list_in hands k s)))

-- the first of the cells of the records that go, in turn, that is not held, and then of the cells around them
abbrev pub next_of_gone : Lists → Hands → List DbKey → Option CellName
next_of_gone schema hands gone =
    option_or (first_missing hands (flat_map (cells_of_gone schema hands) gone)) (least_name None (filter (is_missing hands) (flat_map (outer_names schema hands) gone)))

-- the ring at which the plain form stops, if it stops there and the ring is not held
abbrev pub unless_stopped : Hands → DbKey → Option ℕ → Option CellName → Option CellName
unless_stopped hands k None next = next
unless_stopped hands k (Some s) next = first_missing hands (ring_of k s ∷ [])

-- the plain form looks for a member first, and takes no more if it finds one
abbrev pub next_of_passed : Lists → ℕ → Hands → Erase → DbKey → Option CellName
next_of_passed schema capacity hands option k =
    unless_stopped hands k (if is_plain option then find (stops_at schema hands k) (set_numbers schema) else None) (next_of_gone schema hands (gone_in schema capacity hands option k))

-- the slot of k, and no more if k is refused for itself
abbrev pub next_cell_in : Lists → ℕ → Hands → Unit → Erase → DbKey → Option CellName
next_cell_in schema capacity hands unit option k =
    option_or (first_missing hands (slot_name k ∷ []))
    (if is_some (first_cause (own_checks (in_hand hands) unit k)) then None else next_of_passed schema capacity hands option k)

-- for the current of run-unit, or none
abbrev pub next_cell_of : Lists → ℕ → Hands → Unit → Erase → Option DbKey → Option CellName
next_cell_of schema capacity hands unit option None = None
next_cell_of schema capacity hands unit option (Some k) = next_cell_in schema capacity hands unit option k

-- the need of the next cell
abbrev pub need_of : Option CellName → Need
need_of None = Ready
need_of (Some c) = Take c
