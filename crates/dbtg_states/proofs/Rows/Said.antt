-- Worked rows: what a cell says, spelled as numbers.
use Rattle.std.proofs.Common.{◌≡◌, refl, ℕ, [], ◌∷◌, Some, None, true, false}
use Rattle.dbtg_cells.specs.Shown.{UsageValue, ExtentValue, RingValue, SlotValue}
use Rattle.dbtg_cells.specs.declared.extent.Number.{Number}
use Rattle.dbtg_cells.specs.declared.key.DbKey.{DbKey}
use Rattle.dbtg_cells.specs.declared.key.Owner.TheVariants.{Rec, System}
use Rattle.dbtg_cells.specs.declared.key.Value.TheVariants.{Num}
use Rattle.dbtg_cells.specs.declared.slot.Stored.{Stored}
use Rattle.dbtg_cells.specs.declared.usage.Mode.TheVariants.{Retrieval, Update}
use Rattle.dbtg_states.specs.Parts.{shown_numbers}

-- users are in the order of units, whoever opened the area first
users_by_unit : shown_numbers true 2 (UsageValue ((2, Update) ∷ (1, Retrieval) ∷ [])) ≡ 1 ∷ 0 ∷ 2 ∷ 1 ∷ []
users_by_unit = refl

-- a number that a record with the value 7 has, one that a record had twice, and one that no record had
abbrev live : Number
live = record { last = 1; calc = Some (Num 7 ∷ []) }

abbrev free : Number
free = record { last = 2; calc = None }

abbrev never : Number
never = record { last = 0; calc = None }

-- those behind the last that was used say nothing
behind_the_last : shown_numbers true 2 (ExtentValue (live ∷ never ∷ free ∷ never ∷ [])) ≡ 1 ∷ 1 ∷ 1 ∷ 0 ∷ 7 ∷ 0 ∷ 0 ∷ 2 ∷ 0 ∷ []
behind_the_last = refl

none_was_used : shown_numbers true 2 (ExtentValue (never ∷ never ∷ [])) ≡ []
none_was_used = refl

-- the third record of type 1 that had the number 4, as a member without a sort key
abbrev key : DbKey
key = record { number = 4; rtype = 1; generation = 3 }

-- an occurrence without members is told from none
no_occurrence : shown_numbers true 2 (RingValue None) ≡ []
no_occurrence = refl

no_members : shown_numbers true 2 (RingValue (Some (record { owner = System; members = [] }))) ≡ 0 ∷ []
no_members = refl

one_member : shown_numbers true 2 (RingValue (Some (record { owner = System; members = (key, None) ∷ [] }))) ≡ 0 ∷ 1 ∷ 4 ∷ 3 ∷ 0 ∷ []
one_member = refl

-- the record of a slot, which is a member of its second set alone
abbrev stored : ℕ → Stored
stored version = record { generation = 3; version = version; items = Num 7 ∷ []; owners = None ∷ Some (Rec key) ∷ [] }

with_its_version : shown_numbers true 2 (SlotValue (Some (stored 5))) ≡ 3 ∷ 5 ∷ 1 ∷ 0 ∷ 7 ∷ 0 ∷ 1 ∷ 1 ∷ 1 ∷ 4 ∷ 3 ∷ []
with_its_version = refl

without_versions : shown_numbers false 2 (SlotValue (Some (stored 5))) ≡ shown_numbers false 2 (SlotValue (Some (stored 6)))
without_versions = refl
