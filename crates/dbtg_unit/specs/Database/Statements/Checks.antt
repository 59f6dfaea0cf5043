-- Why a statement is refused: every check, in its order. The cause of the first that applies is the answer.
-- First come the checks that need no cell, the same list for each statement; then those on what is stored, a line for each
-- statement. They ask a view, so the same text serves a whole database and the held cells.
-- k is the current of run-unit, s a set, t a record type, a an area, v a sort key.
use Rattle.std.specs.Prelude.{ℕ, Bool, not, ◌&&◌, ◌==◌, List, [], ◌∷◌, ◌++◌, Option, Some, None, is_none, is_some, map}
use Rattle.std.specs.List.{flat_map, list_any}
use Rattle.dbtg_schema.specs.Lists.{Lists}
use Rattle.dbtg_schema.specs.Lookups.{at, first_cause, some_and}
use Rattle.dbtg_schema.specs.Structure.{automatic_sets, order_of, rekeyed_sets}
use Rattle.dbtg_cells.specs.declared.key.DbKey.{DbKey}
use Rattle.dbtg_cells.specs.declared.key.Value.{Value}
use Rattle.dbtg_cells.specs.declared.usage.Mode.{Mode}
use Rattle.dbtg_cells.specs.Modes.{conflict}
pub use Rattle.dbtg_cells.specs.Modes.{is_update}
use Rattle.dbtg_unit.specs.declared.statement.Change.{Change}
use Rattle.dbtg_unit.specs.declared.statement.Erase.{Erase}
use Rattle.dbtg_unit.specs.declared.statement.Statement.{Statement}
use Rattle.dbtg_unit.specs.declared.statement.Statement.TheVariants.{OpenArea, CloseArea, Find, Get, Store, Insert, Remove, Modify, Delete, Keep, Free}
use Rattle.dbtg_unit.specs.declared.unit.Cause.{Cause}
use Rattle.dbtg_unit.specs.declared.unit.Cause.TheVariants.{AlreadyMember, AreaAlreadyOpen, AreaNotOpen, ChangedByAnother, Deleted, DuplicatesNotAllowed, Mandatory, MandatoryAutomatic, NoCurrentOfRunUnit, NoRoom, NoSuchCurrent, NoneSatisfies, NotKept, NotMember, OtherRecordType, OwnerHasMembers, PositionLost, UpdateModeNeeded, UsageConflict}
use Rattle.dbtg_unit.specs.declared.unit.Place.{Place}
use Rattle.dbtg_unit.specs.declared.unit.Unit.{Unit}
use Rattle.dbtg_unit.specs.Database.State.Base.{key_item}
pub use Rattle.dbtg_unit.specs.Database.Statements.Conditions.{accepts_type, area_of_current, areas_of, changes_records, class_in, current_type, find_areas, find_lacks_current, frees_what_is_not_kept, is_beyond, is_inserting_mandatory_automatic, is_open_statement, is_opening_again, is_removing_mandatory, lacks_current, needs_current}
use Rattle.dbtg_unit.specs.Database.Statements.Conditions.{calc_taken, changed_items, has_members, is_plain, joined_place, names_calc, refuses_equal, sort_key_taken, uses_position}
use Rattle.dbtg_unit.specs.Database.Statements.Found.{is_lost}
use Rattle.dbtg_unit.specs.Database.State.Units.{kept_version}
use Rattle.dbtg_unit.specs.Database.Statements.StoredFacts.{StoredFacts}

-- WHAT NEEDS NO CELL

-- the checks that need no cell
abbrev pub checks_at_once : Lists → ℕ → Unit → Statement → List (Bool × Cause)
checks_at_once schema capacity unit statement =
    let areas = areas_of schema unit statement in
    (needs_current statement && is_none unit.currency.run_unit, NoCurrentOfRunUnit)
    ∷ (some_and (λ t. not (accepts_type schema statement t)) (current_type unit), OtherRecordType)
    ∷ (is_inserting_mandatory_automatic schema unit statement, MandatoryAutomatic)
    ∷ (is_removing_mandatory schema unit statement, Mandatory)
    ∷ (is_opening_again unit statement, AreaAlreadyOpen)
    ∷ (lacks_current schema unit statement, NoSuchCurrent)
    ∷ (not (is_open_statement statement) && list_any (λ a. is_none (at unit.modes a)) areas, AreaNotOpen)
    ∷ (changes_records statement && list_any (λ a. not (some_and is_update (at unit.modes a))) areas, UpdateModeNeeded)
    ∷ (is_beyond capacity statement, NoneSatisfies)
    ∷ (frees_what_is_not_kept unit statement, NotKept)
    ∷ []

-- the cause of the first that applies
abbrev pub refused_at_once : Lists → ℕ → Unit → Statement → Option Cause
refused_at_once schema capacity unit statement = first_cause (checks_at_once schema capacity unit statement)

-- WHAT IS STORED

-- OPEN of area a in a mode
abbrev pub open_checks : StoredFacts → ℕ → Mode → List (Bool × Cause)
open_checks view a mode = (list_any (λ e. conflict e.1 mode) (view.users a), UsageConflict) ∷ []

-- GET and KEEP
abbrev pub live_checks : StoredFacts → DbKey → List (Bool × Cause)
live_checks view k = (not (view.is_live k), Deleted) ∷ []

-- the record that is changed: deleted; kept, with another version than it has
abbrev pub own_checks : StoredFacts → Unit → DbKey → List (Bool × Cause)
own_checks view unit k =
    (not (view.is_live k), Deleted)
    ∷ (some_and (λ n. not (n == view.version k)) (kept_version unit k), ChangedByAnother)
    ∷ []

-- a new member with this sort key into set s at a place: owner deleted, position lost, duplicates
abbrev pub checks_at : Lists → StoredFacts → ℕ → Place → Option Value → List (Bool × Cause)
checks_at schema view s place v =
    (view.is_absent s place.owner, Deleted)
    ∷ (uses_position (order_of schema s) && is_lost place.at (view.members s place.owner), PositionLost)
    ∷ (refuses_equal (order_of schema s) && view.has_sort_key s place.owner None v, DuplicatesNotAllowed)
    ∷ []

-- a new member with this sort key into the current occurrence of set s
abbrev pub place_checks : Lists → StoredFacts → Unit → ℕ → Option Value → List (Bool × Cause)
place_checks schema view unit s = checks_at schema view s (joined_place schema unit s)

-- STORE of a record of type t: no number, CALC items taken; then its place in each automatic set
abbrev pub store_checks : Lists → StoredFacts → Unit → ℕ → List Value → List (Bool × Cause)
store_checks schema view unit t items =
    (view.is_full t, NoRoom)
    ∷ (calc_taken schema view t items None, DuplicatesNotAllowed)
    ∷ flat_map (λ s. place_checks schema view unit s (key_item schema s t items)) (automatic_sets schema t)

-- INSERT into set s: already a member; then the place
abbrev pub insert_checks : Lists → StoredFacts → Unit → ℕ → DbKey → List (Bool × Cause)
insert_checks schema view unit s k =
    own_checks view unit k ++ (is_some (view.owner s k), AlreadyMember) ∷ place_checks schema view unit s (key_item schema s k.rtype (view.items k))

-- REMOVE out of set s: not a member
abbrev pub remove_checks : StoredFacts → Unit → ℕ → DbKey → List (Bool × Cause)
remove_checks view unit s k = own_checks view unit k ++ (is_none (view.owner s k), NotMember) ∷ []

-- MODIFY: new CALC items taken; then the new sort key taken, in each sorted set whose key item is named
abbrev pub modify_checks : Lists → StoredFacts → Unit → List Change → DbKey → List (Bool × Cause)
modify_checks schema view unit changes k =
    let items = changed_items changes (view.items k) in
    own_checks view unit k
    ++ (names_calc schema k.rtype changes && calc_taken schema view k.rtype items (Some k), DuplicatesNotAllowed)
    ∷ map (λ s. (refuses_equal (order_of schema s) && sort_key_taken schema view k items s, DuplicatesNotAllowed)) (rekeyed_sets schema k.rtype (map (λ c. c.item) changes))

-- DELETE: the plain form wants no members
abbrev pub delete_checks : Lists → StoredFacts → Unit → Erase → DbKey → List (Bool × Cause)
delete_checks schema view unit option k = own_checks view unit k ++ (is_plain option && has_members schema view k, OwnerHasMembers) ∷ []

-- the checks about a current, if there is one
abbrev pub about : Option DbKey → (DbKey → List (Bool × Cause)) → List (Bool × Cause)
about None checks = []
about (Some k) checks = checks k

-- the checks of each statement; those of a FIND are with what it finds, in `Found`
abbrev pub checks_on_cells : Lists → StoredFacts → Unit → Statement → List (Bool × Cause)
checks_on_cells schema view unit (OpenArea a mode) = open_checks view a mode
checks_on_cells schema view unit (CloseArea a) = []
checks_on_cells schema view unit (Find suppress form) = []
checks_on_cells schema view unit (Get r) = about unit.currency.run_unit (live_checks view)
checks_on_cells schema view unit (Store t items suppress) = store_checks schema view unit t items
checks_on_cells schema view unit (Insert s) = about unit.currency.run_unit (insert_checks schema view unit s)
checks_on_cells schema view unit (Remove s) = about unit.currency.run_unit (remove_checks view unit s)
checks_on_cells schema view unit (Modify t changes) = about unit.currency.run_unit (modify_checks schema view unit changes)
checks_on_cells schema view unit (Delete option) = about unit.currency.run_unit (delete_checks schema view unit option)
checks_on_cells schema view unit Keep = about unit.currency.run_unit (live_checks view)
checks_on_cells schema view unit (Free all) = []
