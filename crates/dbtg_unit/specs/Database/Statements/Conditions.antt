-- What the checks of a statement ask: about the unit and the statement alone, and about what is stored, through a view.
-- s is a set, t and r record types, a an area, k a key, c a class or a change.
use Rattle.std.specs.Prelude.{ℕ, Bool, true, false, not, ◌&&◌, ◌==◌, nat_lt, List, [], ◌∷◌, Option, Some, None, is_none, is_some, length, map, option_map, option_and_then, slice_set, unwrap_or}
use Rattle.std.specs.List.{list_any}
use Rattle.dbtg_schema.specs.Lists.{Lists}
use Rattle.dbtg_schema.specs.declared.shape.Class.{Class}
use Rattle.dbtg_schema.specs.declared.shape.Duplicates.TheVariants.{NotAllowed}
use Rattle.dbtg_schema.specs.declared.shape.Order.{Order}
use Rattle.dbtg_schema.specs.declared.shape.Order.TheVariants.{Next, Prior, Sorted as SortedBy}
use Rattle.dbtg_cells.specs.declared.key.DbKey.{DbKey}
use Rattle.dbtg_cells.specs.declared.key.Owner.TheVariants.{System, Rec}
use Rattle.dbtg_cells.specs.declared.key.Value.{Value}
use Rattle.dbtg_unit.specs.declared.statement.Change.{Change}
use Rattle.dbtg_unit.specs.declared.statement.Erase.{Erase}
use Rattle.dbtg_unit.specs.declared.statement.Erase.TheVariants.{Plain}
use Rattle.dbtg_unit.specs.declared.statement.Form.{Form}
use Rattle.dbtg_unit.specs.declared.statement.Form.TheVariants.{Key, CurrentOfUnit, CurrentOfType, CurrentOfSet, CurrentOfArea, InSet, InArea, OwnerOf, Calc, NextDuplicate, Sorted}
use Rattle.dbtg_unit.specs.declared.statement.Statement.{Statement}
use Rattle.dbtg_unit.specs.declared.statement.Statement.TheVariants.{OpenArea, CloseArea, Find, Get, Store, Insert, Remove, Modify, Delete, Keep, Free}
use Rattle.dbtg_unit.specs.declared.unit.Place.{Place}
use Rattle.dbtg_unit.specs.declared.unit.Unit.{Unit}
use Rattle.dbtg_schema.specs.Lookups.{at, some_and}
use Rattle.dbtg_unit.specs.Database.State.Base.{calc_items, key_item}
use Rattle.dbtg_unit.specs.Database.State.Units.{place_in, key_of_place, kept_version}
use Rattle.dbtg_unit.specs.Database.Statements.Found.{needs_position}
use Rattle.dbtg_schema.specs.Structure.{area_of, automatic_sets, calc_of, erase_areas, home, is_automatic, is_mandatory, member_clause, rekeyed_sets, set_member_types, set_numbers}
use Rattle.dbtg_unit.specs.Database.Statements.StoredFacts.{StoredFacts}

-- the type of the current of run-unit
abbrev pub current_type : Unit → Option ℕ
current_type unit = option_map (λ k. k.rtype) unit.currency.run_unit

-- the area of a current, if there is one
abbrev pub area_of_current : Lists → Option DbKey → List ℕ
area_of_current schema None = []
area_of_current schema (Some k) = area_of schema k.rtype ∷ []

-- the areas of a FIND
abbrev pub find_areas : Lists → Unit → Form → List ℕ
find_areas schema unit (Key k) = area_of schema k.rtype ∷ []
find_areas schema unit CurrentOfUnit = area_of_current schema unit.currency.run_unit
find_areas schema unit (CurrentOfType r) = area_of schema r ∷ []
find_areas schema unit (CurrentOfSet s) = area_of_current schema (option_and_then key_of_place (place_in schema unit s))
find_areas schema unit (CurrentOfArea a) = area_of_current schema (at unit.currency.areas a)
find_areas schema unit (InSet which r s) = home schema s ∷ map (area_of schema) (unwrap_or (option_map (λ t. t ∷ []) r) (set_member_types schema s))
find_areas schema unit (InArea which r a) = a ∷ []
find_areas schema unit (OwnerOf s) = home schema s ∷ []
find_areas schema unit (Calc r values) = area_of schema r ∷ []
find_areas schema unit (NextDuplicate r) = area_of schema r ∷ []
find_areas schema unit (Sorted s value) = home schema s ∷ map (area_of schema) (set_member_types schema s)

-- the areas of a statement
abbrev pub areas_of : Lists → Unit → Statement → List ℕ
areas_of schema unit (OpenArea a mode) = a ∷ []
areas_of schema unit (CloseArea a) = a ∷ []
areas_of schema unit (Find suppress form) = find_areas schema unit form
areas_of schema unit (Get r) = area_of_current schema unit.currency.run_unit
areas_of schema unit (Store r items suppress) = area_of schema r ∷ map (home schema) (automatic_sets schema r)
areas_of schema unit (Insert s) = home schema s ∷ area_of_current schema unit.currency.run_unit
areas_of schema unit (Remove s) = home schema s ∷ area_of_current schema unit.currency.run_unit
areas_of schema unit (Modify r changes) = area_of schema r ∷ map (home schema) (rekeyed_sets schema r (map (λ c. c.item) changes))
areas_of schema unit (Delete option) = unwrap_or (option_map (erase_areas schema) (current_type unit)) []
areas_of schema unit Keep = area_of_current schema unit.currency.run_unit
areas_of schema unit (Free all) = []

-- GET, INSERT, REMOVE, MODIFY, DELETE, KEEP, FREE without ALL and FIND CURRENT OF RUN-UNIT
abbrev pub needs_current : Statement → Bool
needs_current (OpenArea a mode) = false
needs_current (CloseArea a) = false
needs_current (Find suppress CurrentOfUnit) = true
needs_current (Find suppress form) = false
needs_current (Get r) = true
needs_current (Store r items suppress) = false
needs_current (Insert s) = true
needs_current (Remove s) = true
needs_current (Modify r changes) = true
needs_current (Delete option) = true
needs_current Keep = true
needs_current (Free all) = not all

-- whether a statement that needs the current of run-unit may have one of type t
abbrev pub accepts_type : Lists → Statement → ℕ → Bool
accepts_type schema (Get (Some r)) t = t == r
accepts_type schema (Modify r changes) t = t == r
accepts_type schema (Insert s) t = is_some (member_clause schema s t)
accepts_type schema (Remove s) t = is_some (member_clause schema s t)
accepts_type schema _ t = true

-- the class of the current of run-unit in the set of an INSERT or REMOVE
abbrev pub class_in : Lists → Unit → ℕ → Option Class
class_in schema unit s = option_and_then (λ t. option_map (λ m. m.class) (member_clause schema s t)) (current_type unit)

-- an INSERT into a set in which only STORE connects
abbrev pub is_inserting_mandatory_automatic : Lists → Unit → Statement → Bool
is_inserting_mandatory_automatic schema unit (Insert s) = some_and (λ c. is_mandatory c && is_automatic c) (class_in schema unit s)
is_inserting_mandatory_automatic schema unit _ = false

-- a REMOVE from a set in which a member must stay
abbrev pub is_removing_mandatory : Lists → Unit → Statement → Bool
is_removing_mandatory schema unit (Remove s) = some_and is_mandatory (class_in schema unit s)
is_removing_mandatory schema unit _ = false

-- an OPEN of an area that the unit has open
abbrev pub is_opening_again : Unit → Statement → Bool
is_opening_again unit (OpenArea a mode) = is_some (at unit.modes a)
is_opening_again unit _ = false

-- a FIND whose current is null
abbrev pub find_lacks_current : Lists → Unit → Form → Bool
find_lacks_current schema unit (Key k) = false
find_lacks_current schema unit CurrentOfUnit = false
find_lacks_current schema unit (CurrentOfType r) = is_none (at unit.currency.types r)
find_lacks_current schema unit (CurrentOfSet s) = is_none (option_and_then key_of_place (place_in schema unit s))
find_lacks_current schema unit (CurrentOfArea a) = is_none (at unit.currency.areas a)
find_lacks_current schema unit (InSet which r s) = is_none (place_in schema unit s)
find_lacks_current schema unit (InArea which r a) = needs_position which && is_none (at unit.currency.areas a)
find_lacks_current schema unit (OwnerOf s) = is_none (place_in schema unit s)
find_lacks_current schema unit (Calc r values) = false
find_lacks_current schema unit (NextDuplicate r) = is_none (at unit.currency.types r)
find_lacks_current schema unit (Sorted s value) = is_none (place_in schema unit s)

-- a current that the statement needs is null
abbrev pub lacks_current : Lists → Unit → Statement → Bool
lacks_current schema unit (Find suppress form) = find_lacks_current schema unit form
lacks_current schema unit (Store r items suppress) = list_any (λ s. is_none (place_in schema unit s)) (automatic_sets schema r)
lacks_current schema unit (Insert s) = is_none (place_in schema unit s)
lacks_current schema unit _ = false

-- OPEN alone needs no open area
abbrev pub is_open_statement : Statement → Bool
is_open_statement (OpenArea a mode) = true
is_open_statement _ = false

-- the statements that want an update mode
abbrev pub changes_records : Statement → Bool
changes_records (Store r items suppress) = true
changes_records (Insert s) = true
changes_records (Remove s) = true
changes_records (Modify r changes) = true
changes_records (Delete option) = true
changes_records _ = false

-- a FIND KEY above the capacity
abbrev pub is_beyond : ℕ → Statement → Bool
is_beyond capacity (Find suppress (Key k)) = nat_lt capacity k.number
is_beyond capacity _ = false

-- a FREE of a record that is not kept
abbrev pub frees_what_is_not_kept : Unit → Statement → Bool
frees_what_is_not_kept unit (Free false) = is_none (option_and_then (kept_version unit) unit.currency.run_unit)
frees_what_is_not_kept unit _ = false

-- WHAT IS STORED

-- a live record of type t has the CALC items of these, if their duplicates are not allowed, other than the one that is left out
abbrev pub calc_taken : Lists → StoredFacts → ℕ → List Value → Option DbKey → Bool
calc_taken schema view t items left =
    some_and (λ calc. not calc.duplicates_allowed && view.has_calc t (calc_items schema t items) left) (calc_of schema t)

-- orders in which a new member goes beside the position
abbrev pub uses_position : Order → Bool
uses_position Next = true
uses_position Prior = true
uses_position _ = false

-- orders in which sort keys are unique
abbrev pub refuses_equal : Order → Bool
refuses_equal (SortedBy ascending NotAllowed) = true
refuses_equal _ = false

-- the current of set s; SYSTEM if there is none
abbrev pub joined_place : Lists → Unit → ℕ → Place
joined_place schema unit s = unwrap_or (place_in schema unit s) (record { owner = System; at = None })

-- the items after the changes, one after another
abbrev pub changed_items : List Change → List Value → List Value
changed_items [] items = items
changed_items (c ∷ changes) items = changed_items changes (slice_set items c.item c.value)

-- a change names a CALC item
abbrev pub names_calc : Lists → ℕ → List Change → Bool
names_calc schema t changes = some_and (λ calc. list_any (λ i. list_any (λ c. c.item == i) changes) calc.items) (calc_of schema t)

-- a member of the list of set s in which k is, other than k, has the sort key that k has with these items
abbrev pub sort_key_taken : Lists → StoredFacts → DbKey → List Value → ℕ → Bool
sort_key_taken schema view k items s = some_and (λ o. view.has_sort_key s o (Some k) (key_item schema s k.rtype items)) (view.owner s k)

-- the form that takes only the record
abbrev pub is_plain : Erase → Bool
is_plain Plain = true
is_plain _ = false

-- k owns a member in some set
abbrev pub has_members : Lists → StoredFacts → DbKey → Bool
has_members schema view k = list_any (λ s. nat_lt 0 (length (view.members s (Rec k)))) (set_numbers schema)
