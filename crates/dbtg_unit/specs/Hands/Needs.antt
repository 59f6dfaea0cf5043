-- What a statement has to hold.
-- k is a key, s a set, o an owner, t and r record types, n a number, a an area, c a cell or a change, db a database.
use Rattle.std.specs.Prelude.{ℕ, Bool, true, false, not, ◌&&◌, ◌==◌, List, [], ◌∷◌, ◌++◌, Option, Some, None, Result, Ok, Err, is_some, map, filter, length, if◌then◌else◌, unwrap_or, option_map, option_and_then}
use Rattle.std.specs.List.{list_any, range_with_len, find, flat_map}
use Rattle.dbtg_schema.specs.Lists.{Lists}
use Rattle.dbtg_cells.specs.declared.key.DbKey.{DbKey}
use Rattle.dbtg_cells.specs.declared.key.Owner.{Owner}
use Rattle.dbtg_cells.specs.Keys.{owner_eq}
use Rattle.dbtg_cells.specs.declared.name.CellName.{CellName}
use Rattle.dbtg_cells.specs.declared.name.CellName.TheVariants.{Usage, Extent, Ring}
use Rattle.dbtg_unit.specs.declared.statement.Form.{Form}
use Rattle.dbtg_unit.specs.declared.statement.Form.TheVariants.{Key, CurrentOfUnit, CurrentOfType, CurrentOfSet, CurrentOfArea, InSet, InArea, OwnerOf, Calc, NextDuplicate, Sorted}
use Rattle.dbtg_unit.specs.declared.statement.Statement.{Statement}
use Rattle.dbtg_unit.specs.declared.statement.Statement.TheVariants.{OpenArea, CloseArea, Find, Get, Store, Insert, Remove, Modify, Delete, Keep, Free}
use Rattle.dbtg_unit.specs.declared.held.Need.{Need}
use Rattle.dbtg_unit.specs.declared.held.Need.TheVariants.{Area, Take, Stale, Ready}
use Rattle.dbtg_unit.specs.declared.unit.Cause.{Cause}
use Rattle.dbtg_unit.specs.declared.unit.Unit.{Unit}
use Rattle.dbtg_unit.specs.Hands.Hands.{Hands}
use Rattle.dbtg_schema.specs.Lookups.{at, some_and}
use Rattle.dbtg_unit.specs.Database.State.Base.{Database, free_number, is_live, owner_of}
use Rattle.dbtg_unit.specs.Database.State.Units.{place_in, key_of_place}
use Rattle.dbtg_unit.specs.Database.Statements.Found.{found}
use Rattle.dbtg_unit.specs.Database.Statements.Checks.{areas_of, refused_at_once}
use Rattle.dbtg_unit.specs.Database.Statements.Conditions.{calc_taken, names_calc}
use Rattle.dbtg_unit.specs.Database.Statements.Effect.{new_key}
use Rattle.dbtg_unit.specs.Database.Statements.StoredFacts.{whole}
use Rattle.dbtg_schema.specs.Structure.{automatic_sets, owns, rekeyed_sets, set_numbers, types_in}
use Rattle.dbtg_cells.specs.Names.{name_eq}
use Rattle.dbtg_unit.specs.Database.State.CellNames.{slot_name, place_of}
use Rattle.dbtg_unit.specs.Hands.Erasing.{delete_cells_of}

-- the areas, ascending
abbrev pub areas_in_order : Lists → Unit → Statement → List ℕ
areas_in_order schema unit statement = filter (λ a. list_any (λ b. b == a) (areas_of schema unit statement)) (range_with_len 0 (length schema.areas))

-- the slot of a key, if there is one
abbrev pub slot_names : Option DbKey → List CellName
slot_names None = []
slot_names (Some k) = slot_name k ∷ []

-- the ring of an owner in set s, if there is one
abbrev pub ring_names : ℕ → Option Owner → List CellName
ring_names s None = []
ring_names s (Some o) = Ring s (place_of o) ∷ []

-- the owner in the current of set s
abbrev pub current_owner : Lists → Unit → ℕ → Option Owner
current_owner schema unit s = option_map (λ place. place.owner) (place_in schema unit s)

-- the cells by which a FIND finds: a slot, a ring, or extents
abbrev pub cells_to_find : Lists → Unit → Form → List CellName
cells_to_find schema unit (Key k) = slot_name k ∷ []
cells_to_find schema unit CurrentOfUnit = slot_names unit.currency.run_unit
cells_to_find schema unit (CurrentOfType r) = slot_names (at unit.currency.types r)
cells_to_find schema unit (CurrentOfSet s) = slot_names (option_and_then key_of_place (place_in schema unit s))
cells_to_find schema unit (CurrentOfArea a) = slot_names (at unit.currency.areas a)
cells_to_find schema unit (InSet which r s) = ring_names s (current_owner schema unit s)
cells_to_find schema unit (InArea which r a) = map Extent (unwrap_or (option_map (λ t. t ∷ []) r) (types_in schema a))
cells_to_find schema unit (OwnerOf s) = slot_names (option_and_then (λ place. key_of_place (record place { at = None })) (place_in schema unit s))
cells_to_find schema unit (Calc r values) = Extent r ∷ []
cells_to_find schema unit (NextDuplicate r) = Extent r ∷ []
cells_to_find schema unit (Sorted s v) = ring_names s (current_owner schema unit s)

-- the slot of what is found
abbrev pub found_slot : Result DbKey Cause → List CellName
found_slot (Ok k) = slot_name k ∷ []
found_slot (Err cause) = []

-- the cells of a FIND; after a ring and extents comes the slot of what it finds
abbrev pub find_cells : Lists → ℕ → Database → Unit → Form → List CellName
find_cells schema capacity db unit (InSet which r s) = cells_to_find schema unit (InSet which r s) ++ found_slot (found schema capacity db unit (InSet which r s))
find_cells schema capacity db unit (InArea which r a) = cells_to_find schema unit (InArea which r a) ++ found_slot (found schema capacity db unit (InArea which r a))
find_cells schema capacity db unit (Calc r values) = cells_to_find schema unit (Calc r values) ++ found_slot (found schema capacity db unit (Calc r values))
find_cells schema capacity db unit (NextDuplicate r) = cells_to_find schema unit (NextDuplicate r) ++ found_slot (found schema capacity db unit (NextDuplicate r))
find_cells schema capacity db unit (Sorted s v) = cells_to_find schema unit (Sorted s v) ++ found_slot (found schema capacity db unit (Sorted s v))
find_cells schema capacity db unit form = cells_to_find schema unit form

-- the rings of a STORE of k in set s: the current owner's where it is connected, its own where it is the owner
abbrev pub store_rings_of : Lists → Unit → DbKey → ℕ → List CellName
store_rings_of schema unit k s =
    (if list_any (λ s'. s' == s) (automatic_sets schema k.rtype) then ring_names s (current_owner schema unit s) else [])
    ++ (if owns schema s k.rtype then Ring s (Some (k.rtype, k.number)) ∷ [] else [])

-- its rings, by set
abbrev pub store_rings : Lists → Unit → DbKey → List CellName
store_rings schema unit k = flat_map (store_rings_of schema unit k) (set_numbers schema)

-- the cells of a STORE beside its extent; none if there is no key, or its CALC items are taken
abbrev pub store_cells : Lists → Unit → Option DbKey → Bool → List CellName
store_cells schema unit None taken = []
store_cells schema unit (Some k) true = []
store_cells schema unit (Some k) false = store_rings schema unit k ++ slot_name k ∷ []

-- the cells of a statement on a database, in the order of taking
abbrev pub cells_of : Lists → ℕ → Database → Unit → List (Option Owner) → Statement → List CellName
cells_of schema capacity db unit guesses (OpenArea a mode) = Usage a ∷ []
cells_of schema capacity db unit guesses (CloseArea a) = Usage a ∷ []
cells_of schema capacity db unit guesses (Find suppress form) = find_cells schema capacity db unit form
cells_of schema capacity db unit guesses (Get r) = slot_names unit.currency.run_unit
cells_of schema capacity db unit guesses (Store t items suppress) =
    Extent t ∷ store_cells schema unit (option_map (new_key db t) (free_number capacity db t)) (calc_taken schema (whole schema capacity db) t items None)
cells_of schema capacity db unit guesses (Insert s) = ring_names s (current_owner schema unit s) ++ slot_names unit.currency.run_unit
cells_of schema capacity db unit guesses (Remove s) = ring_names s (at guesses s) ++ slot_names unit.currency.run_unit
cells_of schema capacity db unit guesses (Modify t changes) =
    (if names_calc schema t changes then Extent t ∷ [] else [])
    ++ flat_map (λ s. ring_names s (at guesses s)) (rekeyed_sets schema t (map (λ c. c.item) changes))
    ++ slot_names unit.currency.run_unit
cells_of schema capacity db unit guesses (Delete option) = delete_cells_of schema capacity db unit option unit.currency.run_unit
cells_of schema capacity db unit guesses Keep = slot_names unit.currency.run_unit
cells_of schema capacity db unit guesses (Free all) = []

-- the sets in which the live record's own owner must be the guess
abbrev pub guessed_sets : Lists → Unit → Statement → List ℕ
guessed_sets schema unit (Remove s) = s ∷ []
guessed_sets schema unit (Modify t changes) = rekeyed_sets schema t (map (λ c. c.item) changes)
guessed_sets schema unit _ = []

-- there is an owner, and it is not the guess
abbrev pub is_wrong_guess : Option Owner → Option Owner → Bool
is_wrong_guess truth guess = some_and (λ o. not (some_and (owner_eq o) guess)) truth

-- an owner in a needed set is not the guess
abbrev pub is_stale : Lists → ℕ → Database → Unit → List (Option Owner) → Statement → Bool
is_stale schema capacity db unit guesses statement =
    some_and (λ k. is_live db k && list_any (λ s. is_wrong_guess (owner_of schema capacity db s k) (at guesses s)) (guessed_sets schema unit statement)) unit.currency.run_unit

-- the owner of k in set s, if the set is needed and that owner is not the guess
abbrev pub wrong_owner : Lists → ℕ → Database → List (Option Owner) → List ℕ → DbKey → ℕ → Option Owner
wrong_owner schema capacity db guesses needed k s =
    let truth = owner_of schema capacity db s k in
    if list_any (λ s'. s' == s) needed && is_wrong_guess truth (at guesses s) then truth else None

-- by set, the owners that differ from the guesses; none elsewhere: what a statement notes whose guesses are stale
abbrev pub stale_owners : Lists → ℕ → Database → Unit → List (Option Owner) → Statement → List (Option Owner)
stale_owners schema capacity db unit guesses statement =
    unwrap_or (option_map (λ k. map (wrong_owner schema capacity db guesses (guessed_sets schema unit statement) k) (set_numbers schema)) unit.currency.run_unit) []

-- the cell with this name is not held
abbrev pub is_missing : Hands → CellName → Bool
is_missing hands c = not (list_any (λ e. name_eq c e.0) hands.cells)

-- the first of some cells that is not held
abbrev pub first_missing : Hands → List CellName → Option CellName
first_missing hands = find (is_missing hands)

-- the first area, and then the first cell, that is not held; then a wrong guess
abbrev pub next_of : Option ℕ → Option CellName → Bool → Need
next_of (Some a) c stale = Area a
next_of None (Some c) stale = Take c
next_of None None true = Stale
next_of None None false = Ready

-- what is needed next, if no check without cells refuses
abbrev pub need_of_cells : Lists → ℕ → Database → Unit → Hands → Statement → Need
need_of_cells schema capacity db unit hands statement =
    next_of
    (find (λ a. not (list_any (λ b. b == a) hands.areas)) (areas_in_order schema unit statement))
    (first_missing hands (cells_of schema capacity db unit hands.guesses statement))
    (is_stale schema capacity db unit hands.guesses statement)

-- what a statement needs next, if the held cells are this database's
unfoldable pub need : Lists → ℕ → Database → Unit → Hands → Statement → Need
need schema capacity db unit hands statement =
    if is_some (refused_at_once schema capacity unit statement) then Ready else need_of_cells schema capacity db unit hands statement
