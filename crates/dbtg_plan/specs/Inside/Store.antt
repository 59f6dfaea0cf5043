-- STORE, read from the held cells: the cells that it needs; what it plans; and then, as the code goes, some of its edits and its room.
-- k is the key of the new record, s a set, t its record type, c the name of a cell.
use Rattle.std.specs.Prelude.{◌≡◌, ℕ, ◌==◌, true, List, [], ◌∷◌, Option, Some, None, Result, Ok, Err, filter}
use Rattle.std.specs.List.{flat_map, list_any}
use Rattle.dbtg_schema.specs.Lists.{Lists}
use Rattle.dbtg_schema.specs.Structure.{automatic_sets, owns, set_numbers}
use Rattle.dbtg_cells.specs.declared.key.DbKey.{DbKey}
use Rattle.dbtg_cells.specs.declared.key.Owner.TheVariants.{Rec}
use Rattle.dbtg_cells.specs.declared.key.Value.{Value}
use Rattle.dbtg_cells.specs.declared.name.CellName.{CellName}
use Rattle.dbtg_cells.specs.declared.name.CellName.TheVariants.{Extent, Ring}
use Rattle.dbtg_unit.specs.Database.Statements.Conditions.{calc_taken, joined_place}
use Rattle.dbtg_unit.specs.declared.edit.CellEdit.{CellEdit}
use Rattle.dbtg_unit.specs.declared.edit.Edit.TheVariants.{EnterNumber, OpenRing}
use Rattle.dbtg_unit.specs.declared.statement.Suppress.{Suppress}
use Rattle.dbtg_unit.specs.declared.unit.Cause.{Cause}
use Rattle.dbtg_unit.specs.declared.unit.Unit.{Unit}
use Rattle.dbtg_unit.specs.Database.State.Base.{calc_items}
use Rattle.dbtg_unit.specs.Database.State.CellNames.{place_of}
use Rattle.dbtg_unit.specs.Hands.Hands.{Hands}
use Rattle.dbtg_unit.specs.Hands.InHand.{numbers_in, in_hand}
use Rattle.dbtg_unit.specs.Hands.Needs.{first_missing, store_cells}
use Rattle.dbtg_unit.specs.Hands.PlanOf.{storing}
use Rattle.dbtg_unit.specs.Hands.Prepared.{Plan, refusal}
use Rattle.dbtg_unit.specs.Hands.Reserving.{CanTakeMember, OfHeld}
use Rattle.dbtg_plan.specs.Inside.Calc.{fresh_key}

-- WHAT IT NEEDS

-- its cells, by the numbers of its type
abbrev pub store_cells_in : Lists → Unit → Hands → ℕ → List Value → List CellName
store_cells_in schema unit hands t items = Extent t ∷ store_cells schema unit (fresh_key (numbers_in hands t) t) (calc_taken schema (in_hand hands) t items None)

-- the first of them that is not held
abbrev pub missing_of_store : Lists → Unit → Hands → ℕ → List Value → Option CellName
missing_of_store schema unit hands t items = first_missing hands (store_cells_in schema unit hands t items)

-- WHAT IT DOES

-- what is planned for the key that the record gets, or for the cause for which it is not stored
abbrev pub plan_of_judged : Lists → Unit → List Value → Suppress → Result DbKey Cause → Plan
plan_of_judged schema unit items suppress (Ok k) = storing schema unit items suppress k
plan_of_judged schema unit items suppress (Err cause) = refusal cause

-- the edit by which the number of k is used
abbrev pub entering_edit : Lists → DbKey → List Value → CellEdit
entering_edit schema k items = record { name = Extent k.rtype; edit = EnterNumber k.number (calc_items schema k.rtype items) }

-- the edit by which k opens its occurrence of set s
abbrev pub opening_edit : DbKey → ℕ → CellEdit
opening_edit k s = record { name = Ring s (Some (k.rtype, k.number)); edit = OpenRing (Rec k) }

-- and in each set that its type owns
abbrev pub edits_of_opening : Lists → DbKey → List CellEdit
edits_of_opening schema k = flat_map (λ s. opening_edit k s ∷ []) (filter (λ s. owns schema s k.rtype) (set_numbers schema))

-- there is room for k in the current occurrence of set s, where it joins the set
abbrev pub HasRoom : Lists → Unit → Hands → DbKey → ℕ → Type 0
HasRoom schema unit hands k s =
    list_any (λ s'. s' == s) (automatic_sets schema k.rtype) ≡ true
    → OfHeld (Ring s (place_of (joined_place schema unit s).owner)) hands.cells (CanTakeMember k)
