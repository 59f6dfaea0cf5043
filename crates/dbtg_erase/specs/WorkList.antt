-- What a DELETE takes, read from the held cells.
-- d and m are keys, s a set, o an owner.
use Rattle.std.specs.Prelude.{ℕ, ◌*◌, Bool, not, ◌&&◌, ◌==◌, List, [], ◌∷◌, ◌++◌, filter, length, map}
use Rattle.std.specs.List.{flat_map, list_any}
use Rattle.dbtg_schema.specs.Lists.{Lists}
use Rattle.dbtg_schema.specs.Lookups.{some_and}
use Rattle.dbtg_schema.specs.Structure.{owns, set_numbers}
use Rattle.dbtg_cells.specs.declared.key.DbKey.{DbKey}
use Rattle.dbtg_cells.specs.declared.key.Owner.{Owner}
use Rattle.dbtg_cells.specs.declared.key.Owner.TheVariants.{Rec}
use Rattle.dbtg_cells.specs.declared.name.CellName.{CellName}
use Rattle.dbtg_cells.specs.Keys.{owner_eq}
use Rattle.dbtg_cells.specs.Members.{keys_in}
use Rattle.dbtg_unit.specs.declared.statement.Erase.{Erase}
use Rattle.dbtg_unit.specs.Database.State.CellNames.{slot_name}
use Rattle.dbtg_unit.specs.Database.Statements.Doomed.{takes_member}
use Rattle.dbtg_unit.specs.Hands.Erasing.{brought, own_rings}
use Rattle.dbtg_unit.specs.Hands.Hands.{Hands}
use Rattle.dbtg_unit.specs.Hands.InHand.{occurrence_in, owner_in}

-- the sets that d owns, by number
abbrev pub own_sets : Lists → DbKey → List ℕ
own_sets schema d = filter (λ s. owns schema s d.rtype) (set_numbers schema)

-- the members of d's list of set s, read from the held cells
abbrev pub list_in : Hands → DbKey → ℕ → List DbKey
list_in hands d s = keys_in (occurrence_in hands s (Rec d))

-- the members of all lists of d that are held, set by set
abbrev pub members_in_hand : Lists → Hands → DbKey → List DbKey
members_in_hand schema hands d = flat_map (list_in hands d) (own_sets schema d)

-- m is a member of a list other than o's list of s, by its held slot
abbrev pub elsewhere_in : Lists → Hands → ℕ → Owner → DbKey → Bool
elsewhere_in schema hands s o m = list_any (λ s'. some_and (λ o'. not (s' == s && owner_eq o' o)) (owner_in hands s' m)) (set_numbers schema)

-- the members of d's list of set s that the option takes with d
abbrev pub taken_of_set : Lists → Hands → Erase → DbKey → ℕ → List DbKey
taken_of_set schema hands option d s = filter (λ m. takes_member schema option s (elsewhere_in schema hands s (Rec d) m) m) (list_in hands d s)

-- the members that the option takes with d, set by set
abbrev pub taken_in : Lists → Hands → Erase → DbKey → List DbKey
taken_in schema hands option d = flat_map (taken_of_set schema hands option d) (own_sets schema d)

-- no more records go than there are numbers
abbrev pub most_gone : Lists → ℕ → ℕ
most_gone schema capacity = length schema.types * capacity

-- the records that go, in the order in which they are met
abbrev pub gone_in : Lists → ℕ → Hands → Erase → DbKey → List DbKey
gone_in schema capacity hands option k = brought (taken_in schema hands option) (most_gone schema capacity) 0 (k ∷ [])

-- the slot of a record that goes, its own rings by set, the slots of its members, read from the held cells
abbrev pub cells_of_gone : Lists → Hands → DbKey → List CellName
cells_of_gone schema hands d = slot_name d ∷ own_rings schema d ++ map slot_name (members_in_hand schema hands d)
