-- The table as it is made, and its units, which are cut off one by one.
use Rattle.std.proofs.Common.{◌≡◌, ℕ, zero, suc, ◌+◌, ◌-◌, ◌<◌, ◌≤◌, true, false, List, [], ◌∷◌, ◌++◌, map, length, get_or, replicate, Option, Some, slice_get, refl, sym, ap, ◌∙◌, subst, arith, All}
use Rattle.std.specs.List.{range_with_len}
use Rattle.std.proofs.lemmas.List.{length-map, length-replicate}
use Rattle.std.proofs.lemmas.List.FromFn.{length-range_with_len, map-range_with_len_more}
use mathlib.Core.Option.{some}
use lib.ListN.{get_elem?}
use Rattle.atomic_table.specs.Seated.{TableId}
use Rattle.atomic_table.specs.Table.{opening}
use Rattle.dbtg_schema.specs.Lists.{Lists}
use Rattle.dbtg_schema.specs.Sound.{IsSound}
use Rattle.dbtg_cells.specs.declared.cell.Cell.{Cell}
use Rattle.dbtg_cells.specs.declared.key.Owner.{Owner}
use Rattle.dbtg_cells.specs.declared.name.CellName.{CellName}
use Rattle.dbtg_cells.specs.CellNumbers.{cell_count, cells_in_order}
use Rattle.dbtg_cells.specs.Cells.{shown}
use Rattle.dbtg_unit.specs.declared.unit.Entry.{Entry}
use Rattle.dbtg_unit.specs.declared.unit.Unit.{Unit}
use Rattle.dbtg_unit.specs.Database.State.Base.{opening as first_database}
use Rattle.dbtg_unit.specs.Database.State.Cells.{cell}
use Rattle.dbtg_unit.specs.Hands.Hands.{Hands}
use Rattle.dbtg_unit.specs.Database.Laws.Replay.{replay}
use Rattle.dbtg_unit.specs.Database.State.Units.{opening_unit}
use Rattle.dbtg_unit.proofs.Public.{nothing_at, opening_is_legal, opening_unit_of_schema, opening_unit_within}
use Rattle.dbtg_step.specs.Core.Openings.{homes_of, homes_shown}
use Rattle.dbtg_run.specs.declared.view.About.{About}
use Rattle.dbtg_run.specs.declared.view.SeatUnit.{SeatUnit}
use Rattle.dbtg_run.specs.declared.view.SeatKnowledge.{SeatKnowledge}
use Rattle.dbtg_run.specs.Inside.Views.{lone}
use Rattle.dbtg_run.specs.Inside.LatchRule.{Sat, IsReal, LatchRule, first_view, numbered, one_of, others_of}
use Rattle.dbtg_run.specs.Inside.Posed.{IsOurs, posed}
use Rattle.dbtg_run.specs.UnitView.{BelongsTo, UnitView, opening_view, opening_views}
use Rattle.dbtg_run.specs.declared.database.Database.{Database}
use Rattle.dbtg_run.proofs.TheRule.Opens.{newcomer, opens}

-- THE TABLE

zero_at : (n i : ℕ) → ◌≡◌ {A = ℕ} (get_or (replicate n 0) i 0) 0
zero_at zero i = refl
zero_at (suc n) zero = refl
zero_at (suc n) (suc i) = zero_at n i

-- the cell in each slot is as the opening database has the cell of that number
opening_at : (schema : Lists) (capacity : ℕ) (names : List CellName) (cells : List Cell) → homes_shown cells ≡ homes_of schema capacity names
    → (k : ℕ) (c : CellName) → slice_get names k ≡ Some c → (x : Cell) × (get_elem? (map (λ (y : Cell). Some y) cells) k ≡ some (Some x)) × (shown x ≡ cell schema capacity (first_database schema) c)
opening_at schema capacity [] cells e k c h = absurd (cc (h))
opening_at schema capacity (n ∷ names) [] e k c h = absurd (cc (e))
opening_at schema capacity (n ∷ names) (x ∷ cells) e zero c h =
    let value : shown x ≡ cell schema capacity (first_database schema) n = cc (e) in
    let name : n ≡ c = cc (h) in
    (x, refl, value ∙ ap (cell schema capacity (first_database schema)) name)
opening_at schema capacity (n ∷ names) (x ∷ cells) e (suc k) c h =
    let left : homes_shown cells ≡ homes_of schema capacity names = cc (e) in
    opening_at schema capacity names cells left k c h

pub table_opens : (about : About) (schema : Lists) → about.schema.value ≡ schema → IsSound schema → about.units ≤ 8
    → (n : ℕ) (words : List ℕ) (slots : List (Option Cell)) (cells : List Cell) → n ≡ 1 + length schema.areas + cell_count schema about.capacity → words ≡ replicate n 0
    → slots ≡ map (λ (y : Cell). Some y) cells → homes_shown cells ≡ homes_of schema about.capacity (cells_in_order schema about.capacity) → LatchRule about (opening words slots (first_view about))
table_opens about schema same sound few n words slots cells wide zeros held shows =
    let own : homes_shown cells ≡ homes_of about.schema.value about.capacity (cells_in_order about.schema.value about.capacity) =
    subst (λ (s : Lists). homes_shown cells ≡ homes_of s about.capacity (cells_in_order s about.capacity)) (sym same) shows in
    opens about (subst IsSound (sym same) sound) few words slots
    (ap (λ (l : List ℕ). length l) zeros ∙ length-replicate n 0 ∙ wide ∙ (λ j. 1 + length (sym same j).areas + cell_count (sym same j) about.capacity))
    (λ i. ap (λ (l : List ℕ). get_or l i 0) zeros ∙ zero_at n i)
    (λ k c h. subst (λ (l : List (Option Cell)). (x : Cell) × (get_elem? l k ≡ some (Some x)) × (shown x ≡ cell about.schema.value about.capacity (first_database about.schema.value) c)) (sym held)
    (opening_at about.schema.value about.capacity (cells_in_order about.schema.value about.capacity) cells own k c h))

-- A NEW UNIT

abbrev no_hands : Hands
no_hands = record { areas = []; cells = []; guesses = [] }

is_ours : (about : About) (number : ℕ) → IsSound about.schema.value → 0 < number → number ≤ about.units → about.units ≤ 8 → IsOurs about (opening_unit about.schema.value number)
is_ours about number sound low high few = record {
  sound = sound;
  of_schema = opening_unit_of_schema about.schema.value number;
  within = opening_unit_within about.schema.value about.capacity number;
  numbered = low;
  inside = high;
  few = few;
}

is_real : (about : About) (number : ℕ) (guesses : List (Option Owner)) → IsReal about (opening_unit about.schema.value number) [] (record { areas = []; cells = []; guesses = guesses })
unfolding replay
is_real about number guesses = record {
  db = first_database about.schema.value;
  agrees = record { legal = (opening_is_legal about.schema.value about.capacity about.units).legal; cells = tt; usage = λ a. sym (nothing_at (length about.schema.value.areas) a) };
  alone = λ _. refl;
  once = refl;
  versions = λ c stored e. absurd (cc (e));
}

-- a new unit alone at a seat
alone_posed : (about : About) (place number : ℕ) → number ≡ place + 1 → ◌≡◌ {A = Sat} (lone about (newcomer about place), []) (posed about (opening_unit about.schema.value number) [] false no_hands)
alone_posed about place number e =
    let before : place ≡ number - 1 = omega arith in
    let next : suc place ≡ number = omega arith in
    λ j. (lone about (record { place = before j; unit = opening_unit about.schema.value (next j); journal = []; exclusive = false; areas = []; held = [] }), [])

-- THE SEATS

-- the view of the seat that has the units from this place on
abbrev pub waiting : About → ℕ → SeatKnowledge
waiting about place = record { live = true; about = about; members = numbered about place (about.units - place) }

-- this many units from this place on
abbrev line : About → ℕ → ℕ → SeatKnowledge
line about place n = record { live = true; about = about; members = numbered about place n }

module _ (about : About) (place : ℕ) (inside : place < about.units) (me : Sat) (is : me ≡ (waiting about place, [])) where
  -- the first of them and the others
  two : me ≡ (line about place (suc (about.units - (place + 1))), [])
  two =
      let more : about.units - place ≡ suc (about.units - (place + 1)) = omega arith in
      let along : ◌≡◌ {A = Sat} (line about place (about.units - place), []) (line about place (suc (about.units - (place + 1))), []) = λ j. (line about place (more j), []) in
      is ∙ along

  -- one may be cut off
  pub may_cut : (key : About) → key ≡ about → (m : SeatUnit) × (ms : List SeatUnit) × (me.0 ≡ record { live = true; about = key; members = m ∷ ms })
  may_cut key known =
      let ms = numbered about (suc place) (about.units - (place + 1)) in
      let along : line about place (suc (about.units - (place + 1))) ≡ record { live = true; about = key; members = newcomer about place ∷ ms } = λ j. record { live = true; about = sym known j; members = newcomer about place ∷ ms } in
      (newcomer about place, ms, ap (λ (x : Sat). x.0) two ∙ along)

  -- the others wait
  pub cut_left : (after : Sat) → after ≡ (others_of me.0, me.1) → after ≡ (waiting about (place + 1), [])
  cut_left after then =
      let along : ◌≡◌ {A = Sat} (others_of me.0, me.1) (line about (suc place) (about.units - (place + 1)), []) = λ j. (others_of (two j).0, (two j).1) in
      let next : suc place ≡ place + 1 = omega arith in
      let last : ◌≡◌ {A = Sat} (line about (suc place) (about.units - (place + 1)), []) (waiting about (place + 1), []) = λ j. (line about (next j) (about.units - (place + 1)), []) in
      then ∙ along ∙ last

  -- the first has a seat of its own
  pub cut_one : (cut : Sat) (number : ℕ) → number ≡ place + 1 → cut ≡ (one_of me.0, []) → cut ≡ posed about (opening_unit about.schema.value number) [] false no_hands
  cut_one cut number e then =
      let along : ◌≡◌ {A = Sat} (one_of me.0, []) (lone about (newcomer about place), []) = λ j. (one_of (two j).0, []) in
      then ∙ along ∙ alone_posed about place number e

  -- where there is but one, it has this seat
  pub one_left : (number : ℕ) → number ≡ place + 1 → number ≡ about.units → me ≡ posed about (opening_unit about.schema.value number) [] false no_hands
  one_left number e all =
      let none_more : about.units - (place + 1) ≡ 0 = omega arith in
      let along : ◌≡◌ {A = Sat} (line about place (suc (about.units - (place + 1))), []) (lone about (newcomer about place), []) = λ j. (line about place (suc (none_more j)), []) in
      two ∙ along ∙ alone_posed about place number e

-- ITS VALUES

pub at_work_as : (about : About) (number : ℕ) (unit : Unit) (journal : List Entry) (guesses : List (Option Owner)) (hands : Hands) → IsSound about.schema.value → (0 < number) × (number ≤ about.units) × (about.units ≤ 8)
    → unit ≡ opening_unit about.schema.value number → journal ≡ [] → hands ≡ record { areas = []; cells = []; guesses = guesses } → IsOurs about unit × IsReal about unit journal hands
at_work_as about number unit journal guesses hands sound n u e h = (
  subst (IsOurs about) (sym u) (is_ours about number sound n.0 n.1 n.2),
  subst (λ (t : Unit × List Entry × Hands). IsReal about t.0 t.1 t.2) (λ j. (sym u j, sym e j, sym h j)) (is_real about number guesses),
)

-- one unit more
pub views_more : (table : TableId) (about : About) (place number : ℕ) (views after : List UnitView) (new : UnitView) → number ≡ place + 1 → views ≡ opening_views table about place → new ≡ opening_view table about number → after ≡ views ++ new ∷ []
    → after ≡ opening_views table about number
views_more table about place number views after new e all one more =
    let next : 1 + place ≡ number = omega arith in
    more ∙ (λ j. all j ++ one j ∷ []) ∙ sym (ap (λ n. opening_views table about n) e ∙ map-range_with_len_more (opening_view table about) 1 place number next)

-- ALL UNITS

views_belong : (db : Database) (numbers : List ℕ) → All (BelongsTo db) (map (opening_view db.board.shared.table_id db.about) numbers)
views_belong db [] k d below = absurd (omega arith)
views_belong db (n ∷ numbers) zero d below = record { about = refl; table = refl }
views_belong db (n ∷ numbers) (suc k) d below = views_belong db numbers k d (omega arith)

-- the units that a database is made with belong to it
pub opened_belong : (db : Database) (units : List UnitView) (count : ℕ) → units ≡ opening_views db.board.shared.table_id db.about count → All (BelongsTo db) units
opened_belong db units count is = subst (All (BelongsTo db)) (sym is) (views_belong db (range_with_len 1 count))

-- and there are as many
pub opened_count : (table : TableId) (about : About) (units : List UnitView) (count : ℕ) → units ≡ opening_views table about count → length units ≡ count
opened_count table about units count is = ap length is ∙ (length-map (range_with_len 1 count) (opening_view table about) ∙ length-range_with_len 1 count)
