-- How far a DELETE has come with its cells, as it is kept from one need to the next.
-- k and d are keys, c the name of a cell, p a test of names.
use Rattle.std.specs.Prelude.{ℕ, ◌≡◌, ◌≤◌, Bool, List, [], ◌∷◌, Option, Some, None, filter, length, map, slice_get, take, ⊤}
use Rattle.std.specs.List.{find, flat_map}
use Rattle.dbtg_schema.specs.Lists.{Lists}
use Rattle.dbtg_cells.specs.declared.key.DbKey.{DbKey}
use Rattle.dbtg_cells.specs.declared.name.CellName.{CellName}
use Rattle.dbtg_unit.specs.declared.statement.Erase.{Erase}
use Rattle.dbtg_unit.specs.declared.unit.Unit.{Unit}
use Rattle.dbtg_unit.specs.Database.State.CellNames.{slot_name}
use Rattle.dbtg_unit.specs.Hands.Erasing.{brought, own_rings}
use Rattle.dbtg_unit.specs.Hands.Hands.{Hands}
use Rattle.dbtg_erase.specs.declared.course.Course.{Course}
use Rattle.dbtg_erase.specs.declared.names.Names.{Names}
use Rattle.dbtg_erase.specs.NextCell.{first_missing, least_name, outer_names}
use Rattle.dbtg_erase.specs.WorkList.{cells_of_gone, gone_in, members_in_hand, most_gone, taken_in}

-- the names that are passed are held
abbrev pub ArePassed : Hands → Names → Type 0
ArePassed hands names = first_missing hands (take names.passed names.names.items) ≡ None

-- the slots of d's members, if its own slot and its rings are held
pub record AreOfMembers (schema : Lists) (hands : Hands) (d : DbKey) (names : Names) : Type 0 where
  pub own : first_missing hands (slot_name d ∷ own_rings schema d) ≡ None
  pub members : names.names.items ≡ map slot_name (members_in_hand schema hands d)
  pub passed : ArePassed hands names

-- the cells around the records that go, in such an order that the first that passes a test comes before all others that do
pub record AreAround (schema : Lists) (hands : Hands) (gone : List DbKey) (names : Names) : Type 0 where
  pub in_order : (p : CellName → Bool) → find p names.names.items ≡ least_name None (filter p (flat_map (outer_names schema hands) gone))
  pub passed : ArePassed hands names

-- the names that are kept of the members of the next record
abbrev pub MembersFit : Lists → Hands → Option DbKey → Option Names → Type 0
MembersFit schema hands d None = ⊤
MembersFit schema hands d (Some names) = (k : DbKey) → d ≡ Some k → AreOfMembers schema hands k names

-- the names that are kept of the cells around; all records that go are met, and their cells are held
abbrev pub AroundFits : Lists → ℕ → Hands → Erase → DbKey → List DbKey → Option Names → Type 0
AroundFits schema capacity hands option k gone None = ⊤
AroundFits schema capacity hands option k gone (Some names) =
    (gone ≡ gone_in schema capacity hands option k)
    × (first_missing hands (flat_map (cells_of_gone schema hands) gone) ≡ None)
    × AreAround schema hands gone names

-- what is kept while a DELETE of k goes on
pub record IsCourse (schema : Lists) (capacity : ℕ) (hands : Hands) (option : Erase) (k : DbKey) (course : Course) : Type 0 where
  -- the first `done` records hold all their cells, and those that go with them are added
  pub few : course.done ≤ most_gone schema capacity
  pub within : course.done ≤ length course.gone
  pub gone : course.gone ≡ brought (taken_in schema hands option) course.done 0 (k ∷ [])
  pub cells : first_missing hands (flat_map (cells_of_gone schema hands) (take course.done course.gone)) ≡ None
  pub members : MembersFit schema hands (slice_get course.gone course.done) course.members
  pub around : AroundFits schema capacity hands option k course.gone course.around

-- what is kept of a DELETE of k; nothing before it began
abbrev pub IsCourseIfBegun : Lists → ℕ → Hands → Erase → DbKey → Option Course → Type 0
IsCourseIfBegun schema capacity hands option k None = ⊤
IsCourseIfBegun schema capacity hands option k (Some course) = IsCourse schema capacity hands option k course

-- for a DELETE of the current of run-unit. Callers know no more of it than the public lemmas say: nothing kept is right, and what is
-- kept stays right while more cells are taken
unfoldable pub IsCourseOfCurrent : Lists → ℕ → Hands → Unit → Erase → Option Course → Type 0
IsCourseOfCurrent schema capacity hands unit option course = (k : DbKey) → unit.currency.run_unit ≡ Some k → IsCourseIfBegun schema capacity hands option k course
