-- What stands in the way of a statement that is refused: for each cause the unit, the area, the record type, the set or the record that
-- it is about. The conditions are those of the checks (`Checks`, `Conditions`, `Found` of dbtg_unit); here it is said what they hold for.
-- k is a key, s a set, o an owner, t and r record types, a an area, v a sort key, db a database.
use Rattle.std.specs.Prelude.{ℕ, Bool, not, ◌&&◌, nat_lt, List, Option, Some, None, is_none, is_some, length, map, option_map, option_and_then, if◌then◌else◌}
use Rattle.std.specs.List.{find}
use Rattle.dbtg_schema.specs.Lists.{Lists}
use Rattle.dbtg_schema.specs.Lookups.{at, first_cause, some_and}
use Rattle.dbtg_schema.specs.Structure.{automatic_sets, order_of, rekeyed_sets, set_numbers}
use Rattle.dbtg_cells.specs.declared.key.DbKey.{DbKey}
use Rattle.dbtg_cells.specs.declared.key.Owner.{Owner}
use Rattle.dbtg_cells.specs.declared.key.Owner.TheVariants.{Rec}
use Rattle.dbtg_cells.specs.declared.key.Value.{Value}
use Rattle.dbtg_cells.specs.declared.usage.Mode.{Mode}
use Rattle.dbtg_cells.specs.Keys.{option_value_eq}
use Rattle.dbtg_cells.specs.Members.{is_left_out}
use Rattle.dbtg_cells.specs.Modes.{conflict, is_update}
use Rattle.dbtg_unit.specs.declared.statement.Change.{Change}
use Rattle.dbtg_unit.specs.declared.statement.Form.{Form}
use Rattle.dbtg_unit.specs.declared.statement.Form.TheVariants.{Key, CurrentOfUnit, CurrentOfType, CurrentOfSet, CurrentOfArea, InSet, InArea, OwnerOf, Calc, NextDuplicate, Sorted}
use Rattle.dbtg_unit.specs.declared.statement.Statement.{Statement}
use Rattle.dbtg_unit.specs.declared.statement.Statement.TheVariants.{OpenArea, Find, Store, Insert, Remove, Modify}
use Rattle.dbtg_unit.specs.declared.unit.Cause.{Cause}
use Rattle.dbtg_unit.specs.declared.unit.Cause.TheVariants.{AlreadyMember, AreaAlreadyOpen, AreaNotOpen, ChangedByAnother, Deleted, DuplicatesNotAllowed, End, Mandatory, MandatoryAutomatic, NoCurrentOfRunUnit, NoRoom, NoSuchCurrent, NoneSatisfies, NotKept, NotMember, OtherRecordType, OwnerHasMembers, PositionLost, UpdateModeNeeded, UsageConflict}
use Rattle.dbtg_unit.specs.declared.unit.Place.{Place}
use Rattle.dbtg_unit.specs.declared.unit.Unit.{Unit}
use Rattle.dbtg_unit.specs.Database.State.Base.{Database, calc_items, key_item}
use Rattle.dbtg_unit.specs.Database.State.Units.{key_of_place, kept_version, place_in}
use Rattle.dbtg_unit.specs.Database.Statements.Checks.{place_checks}
use Rattle.dbtg_unit.specs.Database.Statements.Conditions.{calc_taken, changed_items, current_type, joined_place, names_calc, refuses_equal, sort_key_taken}
use Rattle.dbtg_unit.specs.Database.Statements.Found.{with_calc}
use Rattle.dbtg_unit.specs.Database.Statements.StoredFacts.{StoredFacts, whole}
use Rattle.dbtg_unit.specs.Hands.Needs.{areas_in_order}
use Rattle.dbtg_refusal.specs.declared.obstacle.Obstacle.{Obstacle}
use Rattle.dbtg_refusal.specs.declared.obstacle.Obstacle.TheVariants as obstacle

-- WHAT NEEDS NO CELL

-- the first of the statement's areas, ascending, whose mode by this unit passes
abbrev pub area_with : (Option Mode → Bool) → Lists → Unit → Statement → Option ℕ
area_with test schema unit statement = find (λ a. test (at unit.modes a)) (areas_in_order schema unit statement)

-- area a, as this unit has it open
abbrev pub opened_by : Unit → ℕ → Option Obstacle
opened_by unit a = option_map (obstacle.Opened a unit.number) (at unit.modes a)

-- the type of the current of run-unit in the set of an INSERT or REMOVE
abbrev pub class_of : Unit → Statement → Option Obstacle
class_of unit (Insert s) = option_map (λ t. obstacle.Class t s) (current_type unit)
class_of unit (Remove s) = option_map (λ t. obstacle.Class t s) (current_type unit)
class_of unit _ = None

-- whose current a FIND starts from
abbrev pub current_for : Form → Option Obstacle
current_for (CurrentOfType r) = Some (obstacle.RecordType r)
current_for (CurrentOfSet s) = Some (obstacle.Set s)
current_for (CurrentOfArea a) = Some (obstacle.Area a)
current_for (InSet which r s) = Some (obstacle.Set s)
current_for (InArea which r a) = Some (obstacle.Area a)
current_for (OwnerOf s) = Some (obstacle.Set s)
current_for (NextDuplicate r) = Some (obstacle.RecordType r)
current_for (Sorted s value) = Some (obstacle.Set s)
current_for _ = None

-- what has no current; for a STORE the first automatic set
abbrev pub without_current : Lists → Unit → Statement → Option Obstacle
without_current schema unit (Find suppress form) = current_for form
without_current schema unit (Store t items suppress) = option_map obstacle.Set (find (λ s. is_none (place_in schema unit s)) (automatic_sets schema t))
without_current schema unit (Insert s) = Some (obstacle.Set s)
without_current schema unit _ = None

-- WHAT IS STORED

-- the first of the records of a type with some CALC items, other than the one that is left out
abbrev pub Holder : Type 0
Holder = ℕ → List Value → Option DbKey → Option DbKey

-- what a database answers
abbrev pub holder_in : Lists → ℕ → Database → Holder
holder_in schema capacity db t values left = find (λ x. not (is_left_out left x)) (with_calc schema capacity db t values)

-- the first member of o's list of set s with this sort key, other than the one that is left out
abbrev pub member_with : Lists → StoredFacts → ℕ → Owner → Option DbKey → Option Value → Option DbKey
member_with schema view s o left v =
    find (λ x. not (is_left_out left x) && option_value_eq (key_item schema s x.rtype (view.items x)) v) (view.members s o)

-- where a member with sort key v would go in set s: its occurrence; the position; the member with that key
abbrev pub at_place : Lists → StoredFacts → ℕ → Place → Option Value → Cause → Option Obstacle
at_place schema view s place v PositionLost = option_map (obstacle.Member s place.owner) place.at
at_place schema view s place v DuplicatesNotAllowed = option_map (obstacle.Member s place.owner) (member_with schema view s place.owner None v)
at_place schema view s place v _ = Some (obstacle.Occurrence s place.owner)

-- the first set in which a STORE may not connect the record
abbrev pub refusing_set : Lists → StoredFacts → Unit → ℕ → List Value → Option ℕ
refusing_set schema view unit t items =
    find (λ s. is_some (first_cause (place_checks schema view unit s (key_item schema s t items)))) (automatic_sets schema t)

-- what is in the way there
abbrev pub in_store : Lists → StoredFacts → Unit → ℕ → List Value → Cause → Option Obstacle
in_store schema view unit t items cause =
    option_and_then (λ s. at_place schema view s (joined_place schema unit s) (key_item schema s t items) cause) (refusing_set schema view unit t items)

-- the record from which a FIND starts, or the occurrence
abbrev pub start_of : Lists → Unit → Form → Option Obstacle
start_of schema unit CurrentOfUnit = option_map obstacle.Record unit.currency.run_unit
start_of schema unit (CurrentOfType r) = option_map obstacle.Record (at unit.currency.types r)
start_of schema unit (CurrentOfSet s) = option_map obstacle.Record (option_and_then key_of_place (place_in schema unit s))
start_of schema unit (CurrentOfArea a) = option_map obstacle.Record (at unit.currency.areas a)
start_of schema unit (InSet which r s) = Some (obstacle.Occurrence s (joined_place schema unit s).owner)
start_of schema unit (OwnerOf s) = Some (obstacle.Occurrence s (joined_place schema unit s).owner)
start_of schema unit (NextDuplicate r) = option_map obstacle.Record (at unit.currency.types r)
start_of schema unit (Sorted s value) = Some (obstacle.Occurrence s (joined_place schema unit s).owner)
start_of schema unit _ = None

-- what is deleted: the record itself, or the owner in the current of a set
abbrev pub deleted_for : Lists → StoredFacts → Unit → Statement → Option Obstacle
deleted_for schema view unit (Find suppress form) = start_of schema unit form
deleted_for schema view unit (Store t items suppress) = in_store schema view unit t items Deleted
deleted_for schema view unit (Insert s) =
    option_map (λ k. if view.is_live k then obstacle.Occurrence s (joined_place schema unit s).owner else obstacle.Record k) unit.currency.run_unit
deleted_for schema view unit _ = option_map obstacle.Record unit.currency.run_unit

-- the position that is lost
abbrev pub lost_for : Lists → StoredFacts → Unit → Statement → Option Obstacle
lost_for schema view unit (Find suppress (InSet which r s)) = at_place schema view s (joined_place schema unit s) None PositionLost
lost_for schema view unit (Store t items suppress) = in_store schema view unit t items PositionLost
lost_for schema view unit (Insert s) = at_place schema view s (joined_place schema unit s) None PositionLost
lost_for schema view unit _ = None

-- the member with the sort key that k would have with these items, in the list of set s in which k is
abbrev pub rekeyed_member : Lists → StoredFacts → DbKey → List Value → ℕ → Option Obstacle
rekeyed_member schema view k items s =
    option_and_then (λ o. option_map (obstacle.Member s o) (member_with schema view s o (Some k) (key_item schema s k.rtype items))) (view.owner s k)

-- a MODIFY of k that leaves it with these items: the record with its CALC items, or the member with its sort key in the first set that
-- has one
abbrev pub in_modify : Lists → StoredFacts → Holder → List Change → DbKey → List Value → Option Obstacle
in_modify schema view holder changes k items =
    if names_calc schema k.rtype changes && calc_taken schema view k.rtype items (Some k)
    then option_map obstacle.Record (holder k.rtype (calc_items schema k.rtype items) (Some k))
    else option_and_then (rekeyed_member schema view k items)
    (find (λ s. refuses_equal (order_of schema s) && sort_key_taken schema view k items s) (rekeyed_sets schema k.rtype (map (λ c. c.item) changes)))

-- who has the same CALC items or sort key
abbrev pub duplicate_for : Lists → StoredFacts → Holder → Unit → Statement → Option Obstacle
duplicate_for schema view holder unit (Store t items suppress) =
    if calc_taken schema view t items None
    then option_map obstacle.Record (holder t (calc_items schema t items) None)
    else in_store schema view unit t items DuplicatesNotAllowed
duplicate_for schema view holder unit (Insert s) =
    option_and_then (λ k. at_place schema view s (joined_place schema unit s) (key_item schema s k.rtype (view.items k)) DuplicatesNotAllowed) unit.currency.run_unit
duplicate_for schema view holder unit (Modify t changes) = option_and_then (λ k. in_modify schema view holder changes k (changed_items changes (view.items k))) unit.currency.run_unit
duplicate_for schema view holder unit _ = None

-- where a FIND looks in vain
abbrev pub searched : Lists → Unit → Statement → Option Obstacle
searched schema unit (Find suppress (Key k)) = Some (obstacle.Record k)
searched schema unit (Find suppress (InSet which r s)) = Some (obstacle.Occurrence s (joined_place schema unit s).owner)
searched schema unit (Find suppress (InArea which r a)) = Some (obstacle.Area a)
searched schema unit (Find suppress (Calc r values)) = Some (obstacle.RecordType r)
searched schema unit (Find suppress (NextDuplicate r)) = Some (obstacle.RecordType r)
searched schema unit (Find suppress (Sorted s value)) = Some (obstacle.Occurrence s (joined_place schema unit s).owner)
searched schema unit _ = None

-- the first unit, in the order of opening, whose mode conflicts
abbrev pub conflicting : StoredFacts → Statement → Option Obstacle
conflicting view (OpenArea a mode) = option_map (λ e. obstacle.Opened a e.0 e.1) (find (λ e. conflict e.1 mode) (view.users a))
conflicting view _ = None

-- the record type of a STORE
abbrev pub stored_type : Statement → Option Obstacle
stored_type (Store t items suppress) = Some (obstacle.RecordType t)
stored_type _ = None

-- the current of run-unit, at the version that is kept of it and at its own
abbrev pub changed_since : StoredFacts → Unit → Option Obstacle
changed_since view unit =
    option_and_then (λ k. option_map (λ n. obstacle.Changed k n (view.version k)) (kept_version unit k)) unit.currency.run_unit

-- whose list of the set of an INSERT has the current of run-unit
abbrev pub listed : StoredFacts → Unit → Statement → Option Obstacle
listed view unit (Insert s) = option_and_then (λ k. option_map (λ o. obstacle.Member s o k) (view.owner s k)) unit.currency.run_unit
listed view unit _ = None

-- the set of a REMOVE, in which the current of run-unit is in no list
abbrev pub unlisted : Unit → Statement → Option Obstacle
unlisted unit (Remove s) = option_map (obstacle.Outside s) unit.currency.run_unit
unlisted unit _ = None

-- the first set in which the current of run-unit has members
abbrev pub owning : Lists → StoredFacts → Unit → Option Obstacle
owning schema view unit =
    option_and_then (λ k. option_map (λ s. obstacle.Occurrence s (Rec k)) (find (λ s. nat_lt 0 (length (view.members s (Rec k)))) (set_numbers schema))) unit.currency.run_unit

-- EVERY CAUSE

-- what is in the way, by what a view answers
abbrev pub obstacle_by : Lists → StoredFacts → Holder → Unit → Statement → Cause → Option Obstacle
obstacle_by schema view holder unit statement NoCurrentOfRunUnit = Some (obstacle.RunUnit unit.number)
obstacle_by schema view holder unit statement OtherRecordType = option_map obstacle.Record unit.currency.run_unit
obstacle_by schema view holder unit statement MandatoryAutomatic = class_of unit statement
obstacle_by schema view holder unit statement Mandatory = class_of unit statement
obstacle_by schema view holder unit statement AreaAlreadyOpen = option_and_then (opened_by unit) (area_with is_some schema unit statement)
obstacle_by schema view holder unit statement NoSuchCurrent = without_current schema unit statement
obstacle_by schema view holder unit statement AreaNotOpen = option_map obstacle.Area (area_with is_none schema unit statement)
obstacle_by schema view holder unit statement UpdateModeNeeded = option_and_then (opened_by unit) (area_with (λ mode. not (some_and is_update mode)) schema unit statement)
obstacle_by schema view holder unit statement NotKept = option_map obstacle.Record unit.currency.run_unit
obstacle_by schema view holder unit statement UsageConflict = conflicting view statement
obstacle_by schema view holder unit statement End = searched schema unit statement
obstacle_by schema view holder unit statement NoneSatisfies = searched schema unit statement
obstacle_by schema view holder unit statement Deleted = deleted_for schema view unit statement
obstacle_by schema view holder unit statement ChangedByAnother = changed_since view unit
obstacle_by schema view holder unit statement PositionLost = lost_for schema view unit statement
obstacle_by schema view holder unit statement DuplicatesNotAllowed = duplicate_for schema view holder unit statement
obstacle_by schema view holder unit statement NoRoom = stored_type statement
obstacle_by schema view holder unit statement AlreadyMember = listed view unit statement
obstacle_by schema view holder unit statement NotMember = unlisted unit statement
obstacle_by schema view holder unit statement OwnerHasMembers = owning schema view unit

-- what is in the way of a statement that is refused for this cause
abbrev pub obstacle_of : Lists → ℕ → Database → Unit → Statement → Cause → Option Obstacle
obstacle_of schema capacity db = obstacle_by schema (whole schema capacity db) (holder_in schema capacity db)
