-- The table of cells as the machine's locations, and the parts of the core as its state.
use Rattle.std.proofs.Common.{ℕ, ◌≡◌, ◌<◌, Bool, true, false, cond, List, [], ◌∷◌, ◌++◌, Option, Some, None, map, length, reverse, slice_get, slice_set, refl, sym, ap, ◌∙◌, subst}
use Rattle.std.proofs.lemmas.List.{reverse-append, length-set}
use Rattle.std.proofs.lemmas.Option.{slice_get_within, same_Some}
use Rattle.dbtg_schema.specs.Lists.{Lists}
use Rattle.dbtg_cells.specs.declared.cell.Cell.{Cell}
use Rattle.dbtg_cells.specs.declared.name.CellName.{CellName}
use Rattle.dbtg_cells.specs.CellNumbers.{cells_in_order, cell_count, cell_number}
use Rattle.dbtg_cells.specs.Cells.{shown}
use Rattle.dbtg_cells.specs.Names.{name_eq}
use Rattle.dbtg_cells.specs.Shown.{CellValue}
use Rattle.dbtg_cells.proofs.Public.{get_set_other, get_set_same, name_eq_refl, same_name, stands_at}
use Rattle.dbtg_unit.specs.declared.unit.Entry.{Entry}
use Rattle.dbtg_step.specs.declared.parts.CellLocation.{CellLocation as CoreLocation}
use Rattle.dbtg_step.specs.declared.parts.CellLocation.TheVariants.{Home as AtHome, HeldBy as WithUnit}
use Rattle.dbtg_step.specs.declared.parts.UnitState.{UnitState}
use Rattle.dbtg_step.specs.Machine.SequentialDatabase.{with_unit_at}
use Rattle.dbtg_step.specs.Machine.Machine.{CellLocation, Home, HeldBy, StatementProgress, relocated}
use Rattle.dbtg_step.specs.Machine.Step.{updated, with_progress}
use Rattle.dbtg_step.specs.Machine.Network.{network}
use Rattle.dbtg_step.specs.Core.Parts.{found_location, held_cells_of, held_of, location_at, location_in, location_of, note_of, state_from, unit_state_of}
use Rattle.dbtg_step.specs.Inside.Parts.{home_at, written_home}
use Rattle.dbtg_step.specs.Inside.Stands.{HasPlace}
use Rattle.dbtg_step.proofs.EachEvent.UnitLists.{map_set}

module _ (schema : Lists) (capacity : ℕ) where
  -- two cells have two numbers
  one_cell : (c d : CellName) (n : ℕ) → cell_number schema capacity c ≡ Some n → cell_number schema capacity d ≡ Some n → name_eq d c ≡ true
  one_cell c d n e f =
      let same : d ≡ c = same_Some d c (sym (stands_at d (cells_in_order schema capacity) n f) ∙ stands_at c (cells_in_order schema capacity) n e) in
      subst (λ x. name_eq d x ≡ true) same (name_eq_refl d)

  pub number_within : (c : CellName) (n : ℕ) → cell_number schema capacity c ≡ Some n → n < cell_count schema capacity
  number_within c n e = slice_get_within (cells_in_order schema capacity) n c (stands_at c (cells_in_order schema capacity) n e)

  -- the number of a cell that has a place is one of the table
  pub place_within : (c : CellName) (table : List CoreLocation) → HasPlace schema capacity c table → (n : ℕ) → cell_number schema capacity c ≡ Some n → n < length table
  place_within c table p n e = subst (λ k. k < length table) (same_Some p.number n (sym p.is ∙ e)) p.within

  -- a table that is written at one cell
  pub written_is : (table : List CoreLocation) (c : CellName) (n : ℕ) (p : CoreLocation) → cell_number schema capacity c ≡ Some n → n < length table →
      location_at schema capacity (slice_set table n p) ≡ relocated (network schema capacity) (location_at schema capacity table) c (location_of p)
  unfolding location_at relocated
  written_is table c n p e l = λ i d. each d (name_eq d c) refl i
    where
      other : (d : CellName) → name_eq d c ≡ false → (o : Option ℕ) → cell_number schema capacity d ≡ o → location_in schema capacity (slice_set table n p) d o ≡ location_in schema capacity table d o
      other d q None f = refl
      other d q (Some m) f = ap (found_location schema capacity d) (get_set_other table n m p (λ s. let t : name_eq d c ≡ true = one_cell c d n e (f ∙ ap Some s) in cc (t, q)))

      each : (d : CellName) (b : Bool) → name_eq d c ≡ b → location_in schema capacity (slice_set table n p) d (cell_number schema capacity d) ≡ cond (name_eq d c) (location_of p) (location_in schema capacity table d (cell_number schema capacity d))
      each d true q =
          let number : cell_number schema capacity d ≡ Some n = ap (cell_number schema capacity) (same_name d c q) ∙ e in
          ap (location_in schema capacity (slice_set table n p) d) number ∙ ap (found_location schema capacity d) (get_set_same table n p l)
          ∙ sym (ap (λ b. cond b (location_of p) (location_in schema capacity table d (cell_number schema capacity d))) q)
      each d false q = other d q (cell_number schema capacity d) refl ∙ sym (ap (λ b. cond b (location_of p) (location_in schema capacity table d (cell_number schema capacity d))) q)

  -- a cell that is with a unit has a number, and stands there
  pub record IsPlaced (table : List CoreLocation) (c : CellName) (p : CoreLocation) : Type 0 where
    pub number : ℕ
    pub is : cell_number schema capacity c ≡ Some number
    pub there : slice_get table number ≡ Some p

  pub held_is_placed : (table : List CoreLocation) (c : CellName) (u : ℕ) → location_at schema capacity table c ≡ HeldBy u → IsPlaced table c (WithUnit u)
  unfolding location_at
  held_is_placed table c u e = by (cell_number schema capacity c) refl e
    where
      of_place : (n : ℕ) → cell_number schema capacity c ≡ Some n → (o : Option CoreLocation) → slice_get table n ≡ o → found_location schema capacity c o ≡ HeldBy u → IsPlaced table c (WithUnit u)
      of_place n f None g e = absurd (cc (e))
      of_place n f (Some (AtHome x)) g e = absurd (cc (e))
      of_place n f (Some (WithUnit w)) g e = let same : w ≡ u = cc (e) in record { number = n; is = f; there = g ∙ ap (λ v. Some (WithUnit v)) same }

      by : (o : Option ℕ) → cell_number schema capacity c ≡ o → location_in schema capacity table c o ≡ HeldBy u → IsPlaced table c (WithUnit u)
      by None f e = absurd (cc (e))
      by (Some n) f e = of_place n f (slice_get table n) refl e

  -- where a cell is, by its place
  pub location_placed : (table : List CoreLocation) (c : CellName) (n : ℕ) (p : CoreLocation) → cell_number schema capacity c ≡ Some n → slice_get table n ≡ Some p → location_at schema capacity table c ≡ location_of p
  unfolding location_at
  location_placed table c n p e g = ap (location_in schema capacity table c) e ∙ ap (found_location schema capacity c) g

  -- a held cell that goes home
  pub written_home_is : (table : List CoreLocation) (c : CellName) (x : Cell) (u : ℕ) → location_at schema capacity table c ≡ HeldBy u →
      location_at schema capacity (written_home schema capacity c x table) ≡ relocated (network schema capacity) (location_at schema capacity table) c (Home (shown x))
  written_home_is table c x u e =
      let p = held_is_placed table c u e in
      ap (λ o. location_at schema capacity (home_at x table o)) p.is ∙ written_is table c p.number (AtHome x) p.is (slice_get_within table p.number (WithUnit u) p.there)

  pub length_home : (table : List CoreLocation) (c : CellName) (x : Cell) → length (written_home schema capacity c x table) ≡ length table
  length_home table c x = by (cell_number schema capacity c)
    where
      by : (o : Option ℕ) → length (home_at x table o) ≡ length table
      by None = refl
      by (Some n) = length-set table n (AtHome x)

  -- one unit is written, and the locations are these
  pub updated_is : (table after : List CoreLocation) (history : List Entry) (runners : List UnitState) (u : ℕ) (old new : UnitState) (location : CellName → CellLocation CellValue) (guesses : _) (progress : Option (StatementProgress (network schema capacity))) →
      location_at schema capacity after ≡ location → unit_state_of schema capacity new ≡ with_progress (network schema capacity) (unit_state_of schema capacity old) guesses progress →
      state_from schema capacity after history (with_unit_at runners u new) ≡ updated (network schema capacity) (state_from schema capacity table history runners) u (unit_state_of schema capacity old) location guesses progress
  unfolding updated state_from
  updated_is table after history runners u old new location guesses progress p e =
      let units = map_set (unit_state_of schema capacity) runners u new ∙ ap (with_unit_at (map (unit_state_of schema capacity) runners) u) e in
      λ i. record { location = p i; history = map note_of history; counter = length history; units = units i }

-- a list with one more at the end, reversed
pub held_behind : (es : List (CellName × Cell)) (e : CellName × Cell) → held_cells_of (es ++ e ∷ []) ≡ held_of e ∷ held_cells_of es
held_behind es e = ap reverse (mapped es) ∙ reverse-append (map held_of es) (held_of e ∷ [])
  where
    mapped : (es : List (CellName × Cell)) → map held_of (es ++ e ∷ []) ≡ map held_of es ++ held_of e ∷ []
    mapped [] = refl
    mapped (x ∷ xs) = ap (λ ys. held_of x ∷ ys) (mapped xs)
