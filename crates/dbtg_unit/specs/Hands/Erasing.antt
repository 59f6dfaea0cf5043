-- The cells of a DELETE, in the order of taking.
-- k and d are keys, s a set, o an owner, t a record type, c a cell, db a database.
use Rattle.std.specs.Prelude.{ℕ, zero, suc, ◌&&◌, ◌==◌, nat_lt, List, [], ◌∷◌, ◌++◌, Option, Some, None, is_some, map, filter, length, slice_get, if◌then◌else◌}
use Rattle.std.specs.List.{list_any, range_with_len, flat_map}
use Rattle.dbtg_schema.specs.Lists.{Lists}
use Rattle.dbtg_cells.specs.declared.key.DbKey.{DbKey}
use Rattle.dbtg_cells.specs.declared.key.Owner.TheVariants.{Rec}
use Rattle.dbtg_cells.specs.declared.name.CellName.{CellName}
use Rattle.dbtg_cells.specs.declared.name.CellName.TheVariants.{Extent, Ring}
use Rattle.dbtg_unit.specs.declared.statement.Erase.{Erase}
use Rattle.dbtg_unit.specs.declared.unit.Unit.{Unit}
use Rattle.dbtg_schema.specs.Lookups.{first_cause}
use Rattle.dbtg_unit.specs.Database.State.Base.{Database, owners, members_of, is_member}
use Rattle.dbtg_unit.specs.Database.Statements.Doomed.{all_keys, takes}
use Rattle.dbtg_unit.specs.Database.Statements.StoredFacts.{whole}
use Rattle.dbtg_unit.specs.Database.Statements.Checks.{own_checks}
use Rattle.dbtg_unit.specs.Database.Statements.Conditions.{has_members, is_plain}
use Rattle.dbtg_unit.specs.Database.State.CellNames.{slot_name, place_of}
use Rattle.dbtg_schema.specs.Structure.{owns, set_numbers}
use Rattle.dbtg_cells.specs.Names.{name_eq}

-- a list of keys, followed by those of another that it does not have yet
abbrev pub with_those : List DbKey → List DbKey → List DbKey
with_those order [] = order
with_those order (x ∷ xs) = with_those (if is_member x order then order else order ++ x ∷ []) xs

-- the members that the option takes with d, set by set
abbrev pub taken_with : Lists → ℕ → Database → Erase → DbKey → List DbKey
taken_with schema capacity db option d = flat_map (λ s. filter (takes schema capacity db option s (Rec d)) (members_of db s (Rec d))) (set_numbers schema)

-- the list after its key d, with those that d takes along added
abbrev pub brought_from : (DbKey → List DbKey) → List DbKey → Option DbKey → List DbKey
brought_from taken order None = order
brought_from taken order (Some d) = with_those order (taken d)

-- first in, first out: the key at i adds those that it takes along, then the next key
abbrev pub brought : (DbKey → List DbKey) → ℕ → ℕ → List DbKey → List DbKey
brought taken zero i order = order
brought taken (suc n) i order = brought taken n (suc i) (brought_from taken order (slice_get order i))

-- each key in turn adds those that the option takes along
abbrev pub spread : Lists → ℕ → Database → Erase → ℕ → ℕ → List DbKey → List DbKey
spread schema capacity db option n i order = brought (taken_with schema capacity db option) n i order

-- the doomed records in the order in which they are met
abbrev pub doomed_in_turn : Lists → ℕ → Database → Erase → DbKey → List DbKey
doomed_in_turn schema capacity db option k = spread schema capacity db option (length (all_keys schema capacity db)) 0 (k ∷ [])

-- the rings that d owns, by set
abbrev pub own_rings : Lists → DbKey → List CellName
own_rings schema d = map (λ s. Ring s (Some (d.rtype, d.number))) (filter (λ s. owns schema s d.rtype) (set_numbers schema))

-- the members of all lists of d, set by set
abbrev pub members_of_all : Lists → Database → DbKey → List DbKey
members_of_all schema db d = flat_map (λ s. members_of db s (Rec d)) (set_numbers schema)

-- the slot of a doomed record, its own rings by set, the slot of each member in order
abbrev pub cells_of_doomed : Lists → Database → DbKey → List CellName
cells_of_doomed schema db d = slot_name d ∷ own_rings schema d ++ map slot_name (members_of_all schema db d)

-- the extents of the doomed types, and the rings in which a doomed record is a member
abbrev pub outer_cells : Lists → ℕ → Database → List DbKey → List CellName
outer_cells schema capacity db gone =
    map Extent (filter (λ t. list_any (λ d. d.rtype == t) gone) (range_with_len 0 (length schema.types)))
    ++ flat_map (λ s. map (λ o. Ring s (place_of o)) (filter (λ o. list_any (λ d. is_member d (members_of db s o)) gone) (owners schema capacity db s))) (set_numbers schema)

-- each name at its first place
abbrev pub names_once : List CellName → List CellName → List CellName
names_once met [] = []
names_once met (c ∷ cs) = if list_any (name_eq c) met then names_once met cs else c ∷ names_once (c ∷ met) cs

-- k's own rings up to the first that has a member
abbrev pub rings_to_member : Lists → Database → DbKey → List ℕ → List CellName
rings_to_member schema db k [] = []
rings_to_member schema db k (s ∷ sets) =
    Ring s (Some (k.rtype, k.number)) ∷ (if nat_lt 0 (length (members_of db s (Rec k))) then [] else rings_to_member schema db k sets)

-- deleted or changed by another: only the slot; refused for its members: up to the first; otherwise all
abbrev pub delete_cells : Lists → ℕ → Database → Unit → Erase → DbKey → List CellName
delete_cells schema capacity db unit option k =
    if is_some (first_cause (own_checks (whole schema capacity db) unit k)) then slot_name k ∷ []
    else if is_plain option && has_members schema (whole schema capacity db) k then slot_name k ∷ rings_to_member schema db k (filter (λ s. owns schema s k.rtype) (set_numbers schema))
    else (
    let gone = doomed_in_turn schema capacity db option k in
    names_once [] (slot_name k ∷ own_rings schema k ++ flat_map (cells_of_doomed schema db) gone ++ outer_cells schema capacity db gone))

-- for the current of run-unit, or none
abbrev pub delete_cells_of : Lists → ℕ → Database → Unit → Erase → Option DbKey → List CellName
delete_cells_of schema capacity db unit option None = []
delete_cells_of schema capacity db unit option (Some k) = delete_cells schema capacity db unit option k
