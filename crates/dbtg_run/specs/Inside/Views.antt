-- Views of the members of a table: how they are cut, joined and changed.
use Rattle.std.specs.Prelude.{◌≡◌, ℕ, zero, suc, ◌+◌, ◌<◌, Bool, true, false, List, [], ◌∷◌, ◌++◌, map, length, reverse, cond, ◌==◌}
use mathlib.Core.Option.{some}
use lib.ListN.{get_elem?}
use Rattle.dbtg_cells.specs.declared.cell.Cell.{Cell}
use Rattle.dbtg_cells.specs.declared.cell.Cell.TheVariants.{Usage, Extent, Ring, Slot}
use Rattle.dbtg_cells.specs.declared.name.CellName.{CellName}
use Rattle.dbtg_cells.specs.Cells.{shown}
use Rattle.dbtg_cells.specs.Shown.{CellValue, UsageValue, ExtentValue, RingValue, SlotValue}
use Rattle.dbtg_unit.specs.declared.unit.Entry.{Entry}
use Rattle.dbtg_unit.specs.declared.unit.Unit.{Unit}
use Rattle.dbtg_run.specs.declared.view.About.{About}
use Rattle.dbtg_run.specs.declared.view.SeatUnit.{SeatUnit}
use Rattle.dbtg_run.specs.declared.view.SeatKnowledge.{SeatKnowledge}
use Rattle.dbtg_run.specs.Views.{Has}

-- f of each, added up
abbrev pub total : {A : Type 0} → (A → ℕ) → List A → ℕ
total f [] = 0
total f (x ∷ xs) = f x + total f xs

-- f of each number below n, added up
abbrev pub total_below : (ℕ → ℕ) → ℕ → ℕ
total_below f zero = 0
total_below f (suc n) = total_below f n + f n

-- f with x at k
abbrev pub put : {A : Type 0} → (ℕ → A) → ℕ → A → ℕ → A
put f k x j = cond (j == k) x (f j)

-- 1 if it is so; otherwise 0
abbrev pub one_if : Bool → ℕ
one_if b = cond b 1 0

-- 1 where u is below n
abbrev pub once_below : ℕ → ℕ → ℕ
once_below u zero = 0
once_below u (suc n) = once_below u n + one_if (n == u)

-- how often the number is in the list
abbrev pub times : ℕ → List ℕ → ℕ
times a [] = 0
times a (b ∷ bs) = one_if (b == a) + times a bs

-- how often the member has the area in this way
abbrev pub latched : Bool → ℕ → SeatUnit → ℕ
latched true a m = cond m.exclusive (times a m.areas) 0
latched false a m = cond m.exclusive 0 (times a m.areas)

-- how many members are at place u
abbrev pub times_place : ℕ → List SeatUnit → ℕ
times_place u ms = total (λ (m : SeatUnit). one_if (m.place == u)) ms

-- the cell of a value, with no room for more
abbrev pub bare : CellValue → Cell
bare (UsageValue users) = Usage (record { users = users; room = 0 })
bare (ExtentValue numbers) = Extent (record { numbers = numbers })
bare (RingValue occurrence) = Ring (record { occurrence = occurrence; reserved = [] })
bare (SlotValue stored) = Slot stored

-- the cells of these, with no room for more
abbrev pub bared : List (CellName × Cell) → List (CellName × Cell)
bared = map (λ e. (e.0, bare (shown e.1)))

-- the list without its first
abbrev pub rest_of : {A : Type 0} → List A → List A
rest_of [] = []
rest_of (x ∷ xs) = xs

-- all but the last
abbrev pub init : {A : Type 0} → List A → List A
init xs = reverse (rest_of (reverse xs))

-- the view of one member
abbrev pub lone : About → SeatUnit → SeatKnowledge
lone about m = record { live = true; about = about; members = m ∷ [] }

-- the view with each member changed in this way
abbrev pub changed : (SeatUnit → SeatUnit) → SeatKnowledge → SeatKnowledge
changed f v = record { live = v.live; about = v.about; members = map f v.members }

-- the member with area a as well, exclusively or not
abbrev pub with_area : ℕ → Bool → SeatUnit → SeatUnit
with_area a x m = record m { exclusive = x; areas = m.areas ++ a ∷ [] }

-- the member without the area that it took last
abbrev pub less_area : SeatUnit → SeatUnit
less_area m = record m { areas = init m.areas }

-- the member with cell c as well
abbrev pub with_cell : CellName → Cell → SeatUnit → SeatUnit
with_cell c x m = record m { held = m.held ++ (c, x) ∷ [] }

-- the member without the cell that it took last
abbrev pub less_cell : SeatUnit → SeatUnit
less_cell m = record m { held = init m.held }

-- the member with one entry more, and with the unit and cells that the statement leaves
abbrev pub drawn : Entry → Unit → List (CellName × Cell) → SeatUnit → SeatUnit
drawn e unit held m = record m { unit = unit; journal = m.journal ++ e ∷ []; held = held }

-- member m is in this seat, as the unit at its place
pub record Sits (about : About) (all : ℕ → SeatUnit) (seat : ℕ → ℕ) (id : ℕ) (m : SeatUnit) : Type 0 where
  pub same : m ≡ all m.place
  pub here : seat m.place ≡ id
  pub inside : m.place < about.units

-- each unit is in exactly one view
pub record Seated (about : About) (all : ℕ → SeatUnit) (views : List SeatKnowledge) : Type 0 where
  -- the seat of each unit
  pub seat : ℕ → ℕ
  -- a view is of this database, and its members sit there
  pub live : (id : ℕ) (v : SeatKnowledge) → get_elem? views id ≡ some v → v.live ≡ true → v.about ≡ about
  pub seated : (id : ℕ) (v : SeatKnowledge) (m : SeatUnit) → get_elem? views id ≡ some v → Has m v.members → Sits about all seat id m
  -- over all views each unit is there once, and no other
  pub each_once : (u : ℕ) → total (λ (v : SeatKnowledge). times_place u v.members) views ≡ once_below u about.units
  pub all_there : total (λ (v : SeatKnowledge). length v.members) views ≡ about.units
