-- The edits by which a statement changes the cells, where nothing refuses it: those of DELETE, by who goes; those of the others are their plans' (`PlanOf`); and that its edits are its effect.
-- k is a key, d a record that goes, x a member that stays, o an owner, s a set.
use Rattle.std.specs.Prelude.{◌≡◌, ℕ, Bool, true, false, not, List, [], ◌∷◌, ◌++◌, Option, Some, None, map, filter, if◌then◌else◌}
use Rattle.std.specs.List.{flat_map}
use Rattle.dbtg_schema.specs.Lists.{Lists}
use Rattle.dbtg_schema.specs.Lookups.{some_and}
use Rattle.dbtg_schema.specs.Structure.{owns, set_numbers}
use Rattle.dbtg_cells.specs.declared.key.DbKey.{DbKey}
use Rattle.dbtg_cells.specs.declared.key.Owner.{Owner}
use Rattle.dbtg_cells.specs.declared.name.CellName.{CellName}
use Rattle.dbtg_cells.specs.declared.name.CellName.TheVariants.{Extent, Ring}
use Rattle.dbtg_unit.specs.declared.edit.Edit.TheVariants.{LeaveNumber, CloseRing, TakeOut, Vacate, ChangeOwner, RaiseVersion}
use Rattle.dbtg_unit.specs.declared.edit.CellEdit.{CellEdit}
use Rattle.dbtg_unit.specs.declared.erased.Erased.{Erased}
use Rattle.dbtg_unit.specs.declared.statement.Erase.{Erase}
use Rattle.dbtg_unit.specs.declared.unit.Unit.{Unit}
use Rattle.dbtg_unit.specs.Database.State.Base.{Database, is_member, owner_of}
use Rattle.dbtg_unit.specs.declared.statement.Statement.{Statement}
use Rattle.dbtg_unit.specs.declared.statement.Statement.TheVariants.{Delete}
use Rattle.dbtg_unit.specs.declared.unit.Status.TheVariants.{Done}
use Rattle.dbtg_unit.specs.Database.State.Cells.{cell}
use Rattle.dbtg_unit.specs.Hands.Edits.{edited_at}
use Rattle.dbtg_unit.specs.Database.Statements.Effect.{effect, is_gone}
use Rattle.dbtg_unit.specs.Database.Statements.StoredFacts.{whole}
pub use Rattle.dbtg_unit.specs.Hands.PlanOf.{done_plan_of, first_owners, joining_edits, modify_edits, placed_at, replacing_edits, ring_edits, slot_edit, store_edits}
use Rattle.dbtg_unit.specs.Hands.Erasing.{doomed_in_turn, members_of_all, with_those}
use Rattle.dbtg_unit.specs.Database.State.Legal.{Legal}

-- DELETE: d's number is freed
abbrev pub leave_number : DbKey → CellEdit
leave_number d = record { name = Extent d.rtype; edit = LeaveNumber d.number }

-- an owner, if it does not go
abbrev pub staying_owner : List DbKey → Option Owner → Option Owner
staying_owner gone None = None
staying_owner gone (Some o) = if is_gone gone o then None else Some o

-- d, out of the list of each owner that stays, by the owners of each record in each set
abbrev pub leaving_edits : Lists → (ℕ → DbKey → Option Owner) → List DbKey → DbKey → List CellEdit
leaving_edits schema owner gone d = flat_map (λ s. ring_edits s (staying_owner gone (owner s d)) (TakeOut d ∷ [])) (set_numbers schema)

-- the occurrences that d owns are closed
abbrev pub closing_edits : Lists → DbKey → List CellEdit
closing_edits schema d = map (λ s. record { name = Ring s (Some (d.rtype, d.number)); edit = CloseRing }) (filter (λ s. owns schema s d.rtype) (set_numbers schema))

-- the edit that closes the ring of this name
abbrev pub close_ring : CellName → CellEdit
close_ring c = record { name = c; edit = CloseRing }

-- as a plan tells it by the records that go: their numbers, their places, the rings that they own, their slots
abbrev pub edits_of_erased : Erased → List CellEdit
edits_of_erased e = map leave_number e.gone ++ (e.places ++ (map close_ring e.rings ++ map (λ d. slot_edit d Vacate) e.gone))

-- the members of what goes that stay, each once
abbrev pub left_behind : (DbKey → List DbKey) → List DbKey → List DbKey
left_behind members gone = with_those [] (filter (λ x. not (is_member x gone)) (flat_map members gone))

-- the sets in which the owner of x goes
abbrev pub lost_sets : Lists → (ℕ → DbKey → Option Owner) → List DbKey → DbKey → List ℕ
lost_sets schema owner gone x = filter (λ s. some_and (is_gone gone) (owner s x)) (set_numbers schema)

-- a member that stays: no owner if its owner goes, its version
abbrev pub losing_edits : Lists → (ℕ → DbKey → Option Owner) → List DbKey → DbKey → List CellEdit
losing_edits schema owner gone x = map (λ s. slot_edit x (ChangeOwner s None)) (lost_sets schema owner gone x) ++ slot_edit x RaiseVersion ∷ []

-- what goes: its numbers, its places, the occurrences that it owns, its slots; then its members that stay
abbrev pub erasing_edits : Lists → (ℕ → DbKey → Option Owner) → (DbKey → List DbKey) → List DbKey → List CellEdit
erasing_edits schema owner members gone =
    map leave_number gone
    ++ (flat_map (leaving_edits schema owner gone) gone
    ++ (flat_map (closing_edits schema) gone
    ++ (map (λ d. slot_edit d Vacate) gone
    ++ flat_map (losing_edits schema owner gone) (left_behind members gone))))

-- DELETE of k, with all that it takes
abbrev pub delete_edits : Lists → ℕ → Database → Erase → DbKey → List CellEdit
delete_edits schema capacity db option k = erasing_edits schema (owner_of schema capacity db) (members_of_all schema db) (doomed_in_turn schema capacity db option k)

-- the edits of a statement about the current of run-unit
abbrev pub edits_of_current : Option DbKey → (DbKey → List CellEdit) → List CellEdit
edits_of_current None edits = []
edits_of_current (Some k) edits = edits k

-- the edits of a statement
abbrev pub edits_of : Lists → ℕ → Database → Unit → Statement → List CellEdit
edits_of schema capacity db unit (Delete option) = edits_of_current unit.currency.run_unit (delete_edits schema capacity db option)
edits_of schema capacity db unit statement = (done_plan_of schema (whole schema capacity db) unit statement).cells

-- the statement is a DELETE
abbrev pub is_delete : Statement → Bool
is_delete (Delete option) = true
is_delete _ = false

-- a statement that is done, and that leaves the database legal, changes the cells by its edits
abbrev pub EffectIsItsEdits : Type 0
EffectIsItsEdits =
    (schema : Lists) (capacity : ℕ) (db : Database) (unit : Unit) (statement : Statement)
    → Legal schema capacity db → Legal schema capacity (effect schema capacity db unit statement).database → (effect schema capacity db unit statement).answer.status ≡ Done
    → (c : CellName) → cell schema capacity (effect schema capacity db unit statement).database c ≡ edited_at c (edits_of schema capacity db unit statement) (cell schema capacity db c)
