-- What a DELETE prepares, read from the held cells.
-- k is a key, s a set.
use Rattle.std.specs.Prelude.{ℕ, ◌+◌, List, ◌++◌, Option, Some, None, map}
use Rattle.std.specs.List.{flat_map}
use Rattle.dbtg_schema.specs.Lists.{Lists}
use Rattle.dbtg_schema.specs.Lookups.{first_cause}
use Rattle.dbtg_cells.specs.declared.key.DbKey.{DbKey}
use Rattle.dbtg_cells.specs.declared.key.Owner.{Owner}
use Rattle.dbtg_unit.specs.Database.Statements.Checks.{delete_checks, refused_at_once}
use Rattle.dbtg_unit.specs.declared.edit.CellEdit.{CellEdit}
use Rattle.dbtg_unit.specs.declared.edit.Edit.TheVariants.{ChangeOwner, Vacate}
use Rattle.dbtg_unit.specs.declared.edit.UnitEdit.TheVariants.{LoseCurrent}
use Rattle.dbtg_unit.specs.declared.statement.Erase.{Erase}
use Rattle.dbtg_unit.specs.declared.statement.Statement.TheVariants.{Delete}
use Rattle.dbtg_unit.specs.declared.unit.Cause.TheVariants.{NoCurrentOfRunUnit}
use Rattle.dbtg_unit.specs.declared.unit.Status.TheVariants.{Done}
use Rattle.dbtg_unit.specs.declared.unit.Unit.{Unit}
use Rattle.dbtg_unit.specs.Hands.EditsOf.{closing_edits, erasing_edits, leave_number, leaving_edits, left_behind, slot_edit}
use Rattle.dbtg_unit.specs.Hands.Hands.{Hands}
use Rattle.dbtg_unit.specs.Hands.InHand.{owner_in, version_in, in_hand}
use Rattle.dbtg_unit.specs.Hands.Prepared.{Plan, refusal}
use Rattle.dbtg_unit.specs.Inside.Prepared.{unless_refusal}
use Rattle.dbtg_erase.specs.WorkList.{gone_in, members_in_hand}

-- the members that stay, each at its next version
abbrev pub raised_versions : Lists → Hands → List DbKey → List (DbKey × ℕ)
raised_versions schema hands gone = map (λ x. (x, version_in hands x + 1)) (left_behind (members_in_hand schema hands) gone)

-- what goes: its numbers, its places, the occurrences that it owns, its slots
abbrev pub going_edits : Lists → (ℕ → DbKey → Option Owner) → List DbKey → List CellEdit
going_edits schema owner gone =
    map leave_number gone ++ (flat_map (leaving_edits schema owner gone) gone ++ (flat_map (closing_edits schema) gone ++ map (λ d. slot_edit d Vacate) gone))

-- the edit by which x has no owner in set s
abbrev pub lose_owner : DbKey → ℕ → CellEdit
lose_owner x s = slot_edit x (ChangeOwner s None)

-- the records that go, and k no longer current of run-unit
abbrev pub erasing_plan : Lists → Hands → List DbKey → DbKey → Plan
erasing_plan schema hands gone k =
    record {
      answer = record { status = Done; key = None; items = None };
      cells = erasing_edits schema (owner_in hands) (members_in_hand schema hands) gone;
      versions = raised_versions schema hands gone;
      unit = LoseCurrent k;
    }

-- DELETE of the current of run-unit
abbrev pub delete_plan : Lists → ℕ → Hands → Unit → Erase → Option DbKey → Plan
delete_plan schema capacity hands unit option None = refusal NoCurrentOfRunUnit
delete_plan schema capacity hands unit option (Some k) = unless_refusal (first_cause (delete_checks schema (in_hand hands) unit option k)) (erasing_plan schema hands (gone_in schema capacity hands option k) k)

-- a DELETE, with the checks that need no cell
abbrev pub whole_plan : Lists → ℕ → Hands → Unit → Erase → Plan
whole_plan schema capacity hands unit option = unless_refusal (refused_at_once schema capacity unit (Delete option)) (delete_plan schema capacity hands unit option unit.currency.run_unit)
