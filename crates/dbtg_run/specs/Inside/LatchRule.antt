-- The rule of the table: words, cells at home and views show a lawful state of the machine. Word 0 counts the tickets, then
-- there is a word for each area, then one for each cell. Bits u and 8 + u of an area's word: the unit at place u has it
-- shared, or exclusively. A cell's word is 0 at home, else the number of the unit that has it.
use Rattle.std.specs.Prelude.{◌≡◌, ◌≢◌, ℕ, zero, suc, ◌+◌, ◌-◌, ◌<◌, ◌≤◌, Bool, true, false, not, List, [], ◌∷◌, ◌++◌, map, length, reverse, slice_index, Option, Some, None}
use Rattle.std.specs.Int.{bit_at}
use Rattle.std.specs.List.{list_all}
use mathlib.Core.Option.{some}
use mathlib.Core.Option as maybe
use lib.ListN.{get_elem?}
use Rattle.atomic_table.specs.Table.{State, Me, Step, rest}
use Rattle.dbtg_schema.specs.Sound.{IsSound}
use Rattle.dbtg_cells.specs.declared.cell.Cell.{Cell}
use Rattle.dbtg_cells.specs.declared.name.CellName.{CellName}
use Rattle.dbtg_cells.specs.CellNumbers.{cell_at, cell_count}
use Rattle.dbtg_cells.specs.Cells.{shown}
use Rattle.dbtg_cells.specs.Names.{name_eq}
use Rattle.dbtg_cells.specs.Shown.{CellValue}
use Rattle.dbtg_unit.specs.declared.limits.TheConstants.{MOST_STATEMENTS}
use Rattle.dbtg_unit.specs.declared.statement.Statement.{Statement}
use Rattle.dbtg_unit.specs.declared.unit.Answer.{Answer}
use Rattle.dbtg_unit.specs.declared.unit.Entry.{Entry}
use Rattle.dbtg_unit.specs.declared.unit.Unit.{Unit}
use Rattle.dbtg_unit.specs.Database.State.Base.{Database}
use Rattle.dbtg_unit.specs.Database.State.Units.{opening_unit}
use Rattle.dbtg_schema.specs.Lists.{Lists}
use Rattle.dbtg_unit.specs.Database.Statements.Fits.{fits}
use Rattle.dbtg_unit.specs.Hands.Hands.{Hands}
use Rattle.dbtg_unit.specs.Database.State.Legal.{pairwise}
use Rattle.dbtg_unit.specs.Hands.Local.{Agrees, holds}
use Rattle.dbtg_unit.specs.Hands.Making.{HaveNextVersions}
use Rattle.dbtg_unit.specs.Database.Laws.Replay.{IsHistoryOf, entries_of, opening_state, replay as replay_entries, unit_of}
use Rattle.dbtg_step.specs.Machine.SequentialDatabase.{SequentialDatabase, unit_at}
use Rattle.dbtg_step.specs.Machine.Machine.{CellLocation, Home, HeldBy, StatementProgress, UnitState, SequentialState, State as Machine}
use Rattle.dbtg_step.specs.Machine.Lawful.{Lawful}
use Rattle.dbtg_step.specs.Machine.Network.{network}
use Rattle.dbtg_step.specs.Machine.Headline.{opening_of}
use Rattle.dbtg_step.specs.Core.Parts.{held_cells_of, note_of}
use Rattle.dbtg_run.specs.declared.view.About.{About}
use Rattle.dbtg_run.specs.declared.view.SeatUnit.{SeatUnit}
use Rattle.dbtg_run.specs.declared.view.SeatKnowledge.{SeatKnowledge}
use Rattle.dbtg_run.specs.Views.{Has}
use Rattle.dbtg_run.specs.Inside.Views.{Seated, rest_of, times_place, once_below, latched, total_below, changed, with_area, less_area, with_cell, less_cell, drawn, bare}
use Rattle.dbtg_run.specs.Entries.{entry}

-- the machine's database
abbrev pub net : About → SequentialDatabase
net about = network about.schema.value about.capacity

-- the sequential state before the first statement
abbrev pub opens : (about : About) → SequentialState (net about)
opens about = opening_of about.schema.value about.capacity about.units

-- how many areas the schema has
abbrev pub area_count : About → ℕ
area_count about = length about.schema.value.areas

-- how many cells the table has, and as many slots
abbrev pub cells_of_table : About → ℕ
cells_of_table about = cell_count about.schema.value about.capacity

-- which word is area a's
abbrev pub area_word : ℕ → ℕ
area_word a = 1 + a

-- which word is that of cell k
abbrev pub cell_word : About → ℕ → ℕ
cell_word about k = 1 + area_count about + k

-- the name of the cell of slot k
abbrev pub slot_name : About → ℕ → Option CellName
slot_name about k = cell_at about.schema.value about.capacity k

-- the database of a history
abbrev pub database_after : About → List Entry → Database
database_after about log = (replay_entries about.schema.value about.capacity (opening_state about.schema.value about.units) log).database

-- a member as a unit of the machine
abbrev pub progress_of : (about : About) → SeatUnit → StatementProgress (net about)
progress_of about m = record { exclusive = m.exclusive; areas = reverse m.areas; cells = held_cells_of m.held; turning_back = false; ticket = None; linked = 0 }

-- the machine has the member as its unit at place u, numbered from 0, in mid-statement
pub record Shows (about : About) (machine : Machine (net about)) (u : ℕ) (m : SeatUnit) : Type 0 where
  pub state : UnitState (net about)
  pub found : unit_at machine.units (suc u) ≡ Some state
  pub unit : state.unit ≡ m.unit
  pub progress : state.progress ≡ Some (progress_of about m)

-- an area's word has exactly the bits of those who have it
pub record AreaOk (word : ℕ) (has : Bool → ℕ → ℕ) : Type 0 where
  pub small : word < 65536
  pub shared : (u : ℕ) → u < 8 → bit_at word u ≡ has false u
  pub alone : (u : ℕ) → u < 8 → bit_at word (8 + u) ≡ has true u

-- the slot has cell c, with the value that the machine has at home
pub record AtHome (location : CellName → CellLocation CellValue) (home : maybe.Option (maybe.Option (Option Cell))) (c : CellName) : Type 0 where
  pub value : Cell
  pub is : home ≡ some (some (Some value))
  pub location_is : location c ≡ Home (shown value)

-- the words and the homes show the machine
pub record TableShows (about : About) (words : List ℕ) (homes : List (maybe.Option (Option Cell))) (all : ℕ → SeatUnit) : Type 0 where
  -- there is such a state, lawful and with a history of statements that fit; and the table has its words
  pub log : List Entry
  pub machine : Machine (net about)
  pub wide : length words ≡ 1 + area_count about + cells_of_table about
  pub lawful : Lawful (net about) (opens about) machine
  pub history : machine.history ≡ map note_of log
  pub fitting : list_all (λ e. fits about.schema.value e.statement) log ≡ true
  -- word 0 counts its entries; the machine has as many units as there are
  pub counter : slice_index words 0 ≡ length log
  pub count : length machine.units ≡ about.units
  -- each unit is the machine's, with its entries as its journal
  pub shows : (u : ℕ) → u < about.units → Shows about machine u (all u)
  pub place : (u : ℕ) → u < about.units → (all u).place ≡ u
  pub journal : (u : ℕ) → u < about.units → entries_of (suc u) log ≡ (all u).journal
  pub short : (u : ℕ) → u < about.units → length (all u).journal ≤ MOST_STATEMENTS
  -- if there is no unit, no area is held; there are no other entries
  pub none : (u : ℕ) → about.units ≤ u → (all u).areas ≡ []
  pub entries : total_below (λ u. length (all u).journal) about.units ≡ length log
  -- the areas' words have the bits of those who hold them
  pub areas : (a : ℕ) → a < area_count about → AreaOk (slice_index words (area_word a)) (λ x u. latched x a (all u))
  -- a cell whose word is 0 is at home in its slot, and any other is with the unit that its word names
  pub home : (k : ℕ) (c : CellName) → slot_name about k ≡ Some c → slice_index words (cell_word about k) ≡ 0 → AtHome machine.location (get_elem? homes k) c
  pub out : (k : ℕ) (c : CellName) → slot_name about k ≡ Some c → slice_index words (cell_word about k) ≢ 0 → machine.location c ≡ HeldBy (slice_index words (cell_word about k))

-- the rule: a sound schema, no more than eight units, each of them in a seat, and words and homes that show the machine
pub record LatchRule (about : About) (s : State (Option Cell) SeatKnowledge) : Type 0 where
  pub sound : IsSound about.schema.value
  pub few : about.units ≤ 8
  pub all : ℕ → SeatUnit
  pub seats : Seated about all s.views
  pub worded : TableShows about s.words s.homes all

-- what a seat has in a step: its view, and the slots in its hands
abbrev pub Sat : Type 0
Sat = Me (Option Cell) SeatKnowledge

-- a step on a word of the table
abbrev pub At : Type 0
At = Step (Option Cell)

-- in a database of one unit an area's word is 0 if this unit does not have the area
abbrev pub FreeAlone : ℕ → SeatKnowledge → ℕ → Type 0
FreeAlone a v found = (m : SeatUnit) → v.members ≡ m ∷ [] → v.about.units ≡ 1 → latched false a m ≡ 0 → latched true a m ≡ 0 → found ≡ 0

-- what a member holds, without guesses
abbrev pub hands_of : SeatUnit → Hands
hands_of m = record { areas = m.areas; cells = m.held; guesses = [] }

-- some database agrees with what the unit holds; in a database of one unit it is that of the unit's own entries. No cell is
-- held twice, and no held record is at the greatest version
pub record IsReal (about : About) (unit : Unit) (journal : List Entry) (hands : Hands) : Type 0 where
  pub db : Database
  pub agrees : Agrees about.schema.value about.capacity db hands unit
  pub alone : about.units ≡ 1 → db ≡ database_after about journal
  pub once : pairwise (λ (e f : CellName × Cell). not (name_eq e.0 f.0)) hands.cells ≡ true
  pub versions : HaveNextVersions hands.cells

-- if a view has one member, some database agrees with what it holds
abbrev pub TellsReal : SeatKnowledge → Type 0
TellsReal v = (m : SeatUnit) → v.members ≡ m ∷ [] → IsReal v.about m.unit m.journal (hands_of m)

-- a look at an area's word: nothing changes
abbrev pub LooksAtArea : At → Sat → ℕ → Sat → Type 0
LooksAtArea st me found after = (after ≡ me) × (found < 65536) × FreeAlone (st.word - 1) me.0 found

-- an area is taken, exclusively or not, if its word was as expected; otherwise nothing changes
abbrev pub TakesArea : Bool → At → Sat → ℕ → Sat → Type 0
TakesArea x st me found after =
    (found ≡ st.first → after ≡ (changed (with_area (st.word - 1) x) me.0, me.1)) × (found ≢ st.first → after ≡ me)
    × FreeAlone (st.word - 1) me.0 found

-- the area that was taken last is left
abbrev pub LeavesArea : At → Sat → ℕ → Sat → Type 0
LeavesArea st me found after = after ≡ (changed less_area me.0, me.1)

-- the number of the slot that a word guards
abbrev pub slot_of_word : SeatKnowledge → ℕ → ℕ
slot_of_word v word = word - (1 + area_count v.about)

-- slot k was taken, with the cell of that number
abbrev pub TookAt : ℕ → Sat → Sat → Type 0
TookAt k me after =
    (c : CellName) × (x : Cell) × (slot_name me.0.about k ≡ Some c)
    × (after ≡ (changed (with_cell c (bare (shown x))) me.0, (k, Some x) ∷ me.1))

-- in a database of one unit, a cell that it does not hold is at home
abbrev pub CellFreeAlone : ℕ → SeatKnowledge → ℕ → Type 0
CellFreeAlone k v found = (m : SeatUnit) (c : CellName) → v.members ≡ m ∷ [] → v.about.units ≡ 1 → slot_name v.about k ≡ Some c → holds m.held c ≡ false → found ≡ 0

-- slot k is taken if its word was 0; otherwise nothing changes
abbrev pub TakesAt : ℕ → Sat → ℕ → Sat → Type 0
TakesAt k me found after = (found ≡ 0 → TookAt k me after × TellsReal after.0) × (found ≢ 0 → after ≡ me) × CellFreeAlone k me.0 found

-- the same for the slot that the word guards
abbrev pub TakesCell : At → Sat → ℕ → Sat → Type 0
TakesCell st me found after = TakesAt (slot_of_word me.0 st.word) me found after

-- the cell that was taken last goes home
abbrev pub PutsCell : At → Sat → ℕ → Sat → Type 0
PutsCell st me found after = after ≡ (changed less_cell me.0, rest me.1)

-- there is a history of the sequential database that gives the unit as it is; it ends with the unit's last entry, and has just
-- the unit's journal of it
pub record Recorded (about : About) (m : SeatUnit) : Type 0 where
  pub before : List Entry
  pub last : Entry
  pub mine : List Entry
  pub history : IsHistoryOf about.schema.value about.capacity about.units (before ++ last ∷ [])
  pub unit : unit_of (replay_entries about.schema.value about.capacity (opening_state about.schema.value about.units) (before ++ last ∷ [])) (suc m.place) ≡ Some m.unit
  pub entries : entries_of (suc m.place) (before ++ last ∷ []) ≡ m.journal
  pub ends : m.journal ≡ mine ++ last ∷ []
  pub ticket : last.ticket ≡ length before

-- a ticket is drawn: the view has the entry and what the statement leaves; some database agreed with what was held, and some history has the unit's entries
abbrev pub Draws : Statement → Answer → Unit → List (CellName × Cell) → At → Sat → ℕ → Sat → Type 0
Draws x a unit held st me found after =
    (after ≡ (changed (λ m. drawn (entry found (suc m.place) x a) unit held m) me.0, me.1))
    × ((m : SeatUnit) → me.0.members ≡ m ∷ [] → (db : Database) × Agrees me.0.about.schema.value me.0.about.capacity db (hands_of m) m.unit)
    × ((m : SeatUnit) → after.0.members ≡ m ∷ [] → Recorded me.0.about m)
    × TellsReal after.0

-- n units before their first statements, numbered from this place on
abbrev pub numbered : (about : About) → ℕ → ℕ → List SeatUnit
numbered about place zero = []
numbered about place (suc n) = record { place = place; unit = opening_unit about.schema.value (suc place); journal = []; exclusive = false; areas = []; held = [] } ∷ numbered about (suc place) n

-- the view before the first cut: all units
abbrev pub first_view : About → SeatKnowledge
first_view about = record { live = true; about = about; members = numbered about 0 about.units }

-- the first of a list, as a list
abbrev pub first_of : {A : Type 0} → List A → List A
first_of [] = []
first_of (x ∷ xs) = x ∷ []

-- the view without its first member
abbrev pub others_of : SeatKnowledge → SeatKnowledge
others_of v = record { live = v.live; about = v.about; members = rest_of v.members }

-- the view of the first member alone
abbrev pub one_of : SeatKnowledge → SeatKnowledge
one_of v = record { live = v.live; about = v.about; members = first_of v.members }

-- the members of both views in one
abbrev pub gathered : SeatKnowledge → SeatKnowledge → SeatKnowledge
gathered v w = record { live = v.live; about = v.about; members = w.members ++ v.members }

-- a schema with nothing in it
abbrev pub no_schema : Lists
no_schema = record { name = []; areas = []; types = []; sets = [] }

-- what a join leaves of the view that was joined
abbrev pub vacated : SeatKnowledge
vacated = record { live = false; about = record { schema = record { marker = record {}; value = no_schema }; capacity = 0; units = 0 }; members = [] }

-- all units are in this view
pub record Whole (v : SeatKnowledge) : Type 0 where
  pub log : List Entry
  pub history : IsHistoryOf v.about.schema.value v.about.capacity v.about.units log
  pub each : (m : SeatUnit) → Has m v.members → (m.place < v.about.units) × (entries_of (suc m.place) log ≡ m.journal)
      × (unit_of (replay_entries v.about.schema.value v.about.capacity (opening_state v.about.schema.value v.about.units) log) (suc m.place) ≡ Some m.unit)
  pub once : (u : ℕ) → times_place u v.members ≡ once_below u v.about.units

-- nothing changes; a live view with as many members as there are units has them all
abbrev pub Learns : At → Sat → ℕ → Sat → Type 0
Learns st me found after = (after ≡ me) × (me.0.live ≡ true → (length me.0.members ≤ me.0.about.units) × (length me.0.members ≡ me.0.about.units → Whole me.0))
