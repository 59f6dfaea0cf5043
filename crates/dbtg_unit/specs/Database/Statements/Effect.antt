-- The effect of each statement on a database and a unit: what a statement leaves, done or refused; places in the lists of sets;
-- then STORE, the versions that statements raise, INSERT and REMOVE, MODIFY, DELETE; and at the end `done_on_cells`, a line for
-- each statement, and `effect`, which puts the checks before it.
-- k is a key, m a new member, o an owner, s a set, t a record type, n a number, a and b areas, db a database.
use Rattle.std.specs.Prelude.{ℕ, ◌+◌, Bool, true, false, not, ◌&&◌, ◌==◌, List, [], ◌∷◌, ◌++◌, Option, Some, None, Result, Ok, Err, map, filter, slice_set, option_map, option_and_then, unwrap_or, if◌then◌else◌}
use Rattle.std.specs.List.{list_any}
use Rattle.dbtg_schema.specs.Lists.{Lists}
use Rattle.dbtg_schema.specs.declared.shape.Order.{Order}
use Rattle.dbtg_schema.specs.declared.shape.Order.TheVariants.{First, Last, Next, Prior, Sorted}
use Rattle.dbtg_cells.specs.declared.key.DbKey.{DbKey}
use Rattle.dbtg_cells.specs.declared.key.Owner.{Owner}
use Rattle.dbtg_cells.specs.declared.key.Owner.TheVariants.{System, Rec}
use Rattle.dbtg_cells.specs.declared.key.Value.{Value}
pub use Rattle.dbtg_cells.specs.Keys.{option_value_eq}
pub use Rattle.dbtg_cells.specs.Modes.{is_exclusive, is_protected, conflict}
pub use Rattle.dbtg_cells.specs.Orders.{sort_key_below, comes_before}
use Rattle.dbtg_cells.specs.Keys.{key_eq, owner_eq}
use Rattle.dbtg_cells.specs.Placed.{Spot, Front, Back, After, Before, Among, placed}
use Rattle.dbtg_unit.specs.declared.statement.Change.{Change}
use Rattle.dbtg_unit.specs.declared.statement.Erase.{Erase}
use Rattle.dbtg_unit.specs.declared.statement.Statement.{Statement}
use Rattle.dbtg_unit.specs.declared.statement.Statement.TheVariants.{OpenArea, CloseArea, Find, Get, Store, Insert, Remove, Modify, Delete, Keep, Free}
use Rattle.dbtg_unit.specs.declared.statement.Suppress.{Suppress}
use Rattle.dbtg_unit.specs.declared.unit.Place.{Place}
use Rattle.dbtg_unit.specs.declared.unit.Unit.{Unit}
use Rattle.dbtg_unit.specs.declared.unit.Answer.{Answer}
use Rattle.dbtg_unit.specs.declared.unit.Status.TheVariants.{Done, Refused}
use Rattle.dbtg_unit.specs.declared.unit.Cause.{Cause}
use Rattle.dbtg_unit.specs.declared.unit.Cause.TheVariants.{NoCurrentOfRunUnit}
use Rattle.dbtg_schema.specs.Lookups.{some_and, first_cause}
pub use Rattle.dbtg_unit.specs.Database.State.Base.{free_number, new_key, version_of}
use Rattle.dbtg_unit.specs.Database.State.Base.{Database, Record, items_of, members_of, is_member, sort_key}
pub use Rattle.dbtg_unit.specs.Database.Statements.StoredFacts.{whole}
pub use Rattle.dbtg_unit.specs.Database.Statements.Conditions.{calc_taken, changed_items, has_members, is_plain, names_calc, refuses_equal, uses_position}
use Rattle.dbtg_unit.specs.Database.State.Units.{place_in, seen, forgotten, noted}
use Rattle.dbtg_unit.specs.Database.Statements.Found.{found}
use Rattle.dbtg_unit.specs.Database.Statements.Doomed.{doomed}
use Rattle.dbtg_unit.specs.Database.Statements.Checks.{checks_on_cells, refused_at_once}
pub use Rattle.dbtg_unit.specs.Database.Statements.Checks.{delete_checks, insert_checks, modify_checks, own_checks, place_checks, remove_checks, store_checks}
use Rattle.dbtg_schema.specs.Structure.{automatic_sets, order_of, owns, rekeyed_sets, set_numbers}

-- what a statement leaves: a database, a unit, an answer
pub record StatementEffect : Type 0 where
  pub database : Database
  pub unit : Unit
  pub answer : Answer

-- done: a database, a unit, a key or none, items or none
abbrev pub done : Database → Unit → Option DbKey → Option (List Value) → StatementEffect
done db unit key items = record { database = db; unit = unit; answer = record { status = Done; key = key; items = items } }

-- a refusal leaves database and unit as they were
abbrev pub refused : Database → Unit → Cause → StatementEffect
refused db unit cause = record { database = db; unit = unit; answer = record { status = Refused cause; key = None; items = None } }

-- refused for the first cause, if there is one; otherwise this outcome
abbrev pub unless_refused : Database → Unit → Option Cause → StatementEffect → StatementEffect
unless_refused db unit (Some cause) outcome = refused db unit cause
unless_refused db unit None outcome = outcome

-- PLACES IN SETS

-- directly after the position; first if that is the owner
abbrev pub after_position : Option DbKey → Spot DbKey
after_position None = Front
after_position (Some p) = After (key_eq p)

-- directly before the position; last if that is the owner
abbrev pub before_position : Option DbKey → Spot DbKey
before_position None = Back
before_position (Some p) = Before (key_eq p)

-- where m goes in a list of an order, from a position
abbrev pub spot : Order → Option DbKey → (DbKey → Option Value) → DbKey → Spot DbKey
spot First p key m = Front
spot Last p key m = Back
spot Next p key m = after_position p
spot Prior p key m = before_position p
spot (Sorted ascending duplicates) p key m = Among (λ x. comes_before ascending duplicates (key x) (key m))

-- the list with m in its place
abbrev pub joined : Lists → Database → Unit → ℕ → DbKey → List DbKey → List DbKey
joined schema db unit s m list =
    placed (spot (order_of schema s) (option_and_then (λ place. place.at) (place_in schema unit s)) (sort_key schema db s) m) m list

-- the list without k
abbrev pub without : DbKey → List DbKey → List DbKey
without k = filter (λ x. not (key_eq k x))

-- o is the owner in the current of set s
abbrev pub is_current_owner : Lists → Unit → ℕ → Owner → Bool
is_current_owner schema unit s o = some_and (λ place. owner_eq place.owner o) (place_in schema unit s)

-- STORE

-- the database with the new record k, an empty list in each set that it owns
abbrev pub with_new : Lists → Database → DbKey → List Value → Database
with_new schema db k items =
    record {
      records = λ x. if key_eq k x then Some (record { items = items; version = 1 }) else db.records x;
      lists = λ s o. if owns schema s k.rtype && owner_eq (Rec k) o then Some [] else db.lists s o;
      last = λ t n. if t == k.rtype && n == k.number then k.generation else db.last t n;
      usage = db.usage;
    }

-- the database with m placed in these sets, in the current owner's lists
abbrev pub connected_in : Lists → Database → Unit → List ℕ → DbKey → Database
connected_in schema db unit sets m =
    record db {
      lists = λ s o. if list_any (λ s'. s' == s) sets && is_current_owner schema unit s o then option_map (joined schema db unit s m) (db.lists s o) else db.lists s o;
    }

-- the record added, connected in its automatic sets, and seen
abbrev pub stored : Lists → ℕ → Database → Unit → DbKey → List Value → Suppress → StatementEffect
stored schema capacity db unit k items suppress =
    let new = connected_in schema (with_new schema db k items) unit (automatic_sets schema k.rtype) k in
    done new (seen schema capacity new unit k suppress) (Some k) None

-- VERSIONS

-- the record with its next version
abbrev pub next_version : Record → Record
next_version r = record { items = r.items; version = r.version + 1 }

-- the database in which the records that pass the test have the next version
abbrev pub raised : (DbKey → Bool) → Database → Database
raised test db = record db { records = λ x. if test x then option_map next_version (db.records x) else db.records x }

-- the kept list after this unit's own statement raised the versions of the records that pass the test
abbrev pub renoted : (DbKey → Bool) → Database → Unit → Unit
renoted test db unit = record unit { kept = map (λ e. if test e.0 then (e.0, version_of db e.0) else e) unit.kept }

-- INSERT and REMOVE

-- the unit with another current of set s
abbrev pub moved : Unit → ℕ → Place → Unit
moved unit s place = record unit { currency = record unit.currency { sets = slice_set unit.currency.sets s (Some place) } }

-- k in its place in the current occurrence, and current of the set
abbrev pub inserted : Lists → Database → Unit → ℕ → DbKey → StatementEffect
inserted schema db unit s k =
    let new = raised (key_eq k) (connected_in schema db unit (s ∷ []) k) in
    let owner = unwrap_or (option_map (λ place. place.owner) (place_in schema unit s)) System in
    done new (renoted (key_eq k) new (moved unit s (record { owner = owner; at = Some k }))) None None

-- k out of its list of set s
abbrev pub removed : Database → Unit → ℕ → DbKey → StatementEffect
removed db unit s k =
    let new = raised (key_eq k) (record db { lists = λ s' o. if s' == s then option_map (without k) (db.lists s' o) else db.lists s' o }) in
    done new (renoted (key_eq k) new unit) None None

-- MODIFY

-- the record with these items
abbrev pub with_its_items : List Value → Record → Record
with_its_items items r = record { items = items; version = r.version }

-- the database in which k has these items
abbrev pub with_items : Database → DbKey → List Value → Database
with_items db k items = record db { records = λ x. if key_eq k x then option_map (with_its_items items) (db.records x) else db.records x }

-- k with its changed items, placed again
abbrev pub modified : Lists → ℕ → Database → Unit → List Change → DbKey → StatementEffect
modified schema capacity db unit changes k =
    let with_new_items = with_items db k (changed_items changes (items_of db k)) in
    let sets = rekeyed_sets schema k.rtype (map (λ c. c.item) changes) in
    let new = raised (key_eq k) (record with_new_items {
      lists = λ s o.
          if list_any (λ s'. s' == s) sets && is_member k (members_of db s o)
          then option_map (λ list. joined schema with_new_items unit s k (without k list)) (db.lists s o)
          else db.lists s o;
    }) in
    done new (renoted (key_eq k) new unit) None None

-- DELETE

-- the owner is one of the records that go
abbrev pub is_gone : List DbKey → Owner → Bool
is_gone gone System = false
is_gone gone (Rec o) = is_member o gone

-- the records that go, each out of all lists, with their own lists; a member of one of these lists that stays gets its next version
abbrev pub deleted : Lists → ℕ → Database → Unit → Erase → DbKey → StatementEffect
deleted schema capacity db unit option k =
    let gone = doomed schema capacity db option k in
    let is_taken_out : DbKey → Bool = λ x. not (is_member x gone) && list_any (λ s. list_any (λ o. is_member x (members_of db s (Rec o))) gone) (set_numbers schema) in
    let new : Database = raised is_taken_out (record db {
      records = λ x. if is_member x gone then None else db.records x;
      lists = λ s o. if is_gone gone o then None else option_map (filter (λ x. not (is_member x gone))) (db.lists s o);
    }) in
    let after = renoted is_taken_out new unit in
    done new (record after { currency = record after.currency { run_unit = None }; kept = forgotten k after.kept }) None None

-- THE WHOLE

-- the outcome of a FIND
abbrev pub finding : Database → Unit → Result DbKey Cause → (DbKey → Unit) → StatementEffect
finding db unit (Ok k) after = done db (after k) (Some k) None
finding db unit (Err cause) after = refused db unit cause

-- what is done about a current, if there is one
abbrev pub done_on_current : Database → Unit → Option DbKey → (DbKey → StatementEffect) → StatementEffect
done_on_current db unit None outcome = refused db unit NoCurrentOfRunUnit
done_on_current db unit (Some k) outcome = outcome k

-- what a statement does that no check refuses
abbrev pub done_on_cells : Lists → ℕ → Database → Unit → Statement → StatementEffect
done_on_cells schema capacity db unit (OpenArea a mode) =
    done (record db { usage = λ b. if b == a then db.usage b ++ (unit.number, mode) ∷ [] else db.usage b }) (record unit { modes = slice_set unit.modes a (Some mode) }) None None
done_on_cells schema capacity db unit (CloseArea a) =
    done (record db { usage = λ b. if b == a then filter (λ e. not (e.0 == unit.number)) (db.usage b) else db.usage b }) (record unit { modes = slice_set unit.modes a None }) None None
done_on_cells schema capacity db unit (Find suppress form) = finding db unit (found schema capacity db unit form) (λ k. seen schema capacity db unit k suppress)
done_on_cells schema capacity db unit (Get r) = done_on_current db unit unit.currency.run_unit (λ k. done db unit (Some k) (Some (items_of db k)))
done_on_cells schema capacity db unit (Store t items suppress) = stored schema capacity db unit (new_key db t (unwrap_or (free_number capacity db t) 0)) items suppress
done_on_cells schema capacity db unit (Insert s) = done_on_current db unit unit.currency.run_unit (inserted schema db unit s)
done_on_cells schema capacity db unit (Remove s) = done_on_current db unit unit.currency.run_unit (removed db unit s)
done_on_cells schema capacity db unit (Modify t changes) = done_on_current db unit unit.currency.run_unit (modified schema capacity db unit changes)
done_on_cells schema capacity db unit (Delete option) = done_on_current db unit unit.currency.run_unit (deleted schema capacity db unit option)
done_on_cells schema capacity db unit Keep = done_on_current db unit unit.currency.run_unit (λ k. done db (record unit { kept = noted k (version_of db k) unit.kept }) None None)
done_on_cells schema capacity db unit (Free true) = done db (record unit { kept = [] }) None None
done_on_cells schema capacity db unit (Free false) = done_on_current db unit unit.currency.run_unit (λ k. done db (record unit { kept = forgotten k unit.kept }) None None)

-- the effect of a statement that no check without cells refuses
abbrev pub effect_on_cells : Lists → ℕ → Database → Unit → Statement → StatementEffect
effect_on_cells schema capacity db unit statement =
    unless_refused db unit (first_cause (checks_on_cells schema (whole schema capacity db) unit statement)) (done_on_cells schema capacity db unit statement)

-- the effect of a statement on a database and a unit
unfoldable pub effect : Lists → ℕ → Database → Unit → Statement → StatementEffect
effect schema capacity db unit statement =
    unless_refused db unit (refused_at_once schema capacity unit statement) (effect_on_cells schema capacity db unit statement)
