-- In a well core each cell is found where it is, and shows what the database of the history has.
use Rattle.std.proofs.Common.{◌≡◌, refl, sym, ◌∙◌, ap, subst, ℕ, zero, suc, ◌-◌, ◌<◌, true, false, cond, List, [], ◌∷◌, length, map, Option, Some, None, arith, inl, inr, reverse, slice_get}
use Rattle.std.specs.Prelude.{option_and_then}
use Rattle.dbtg_schema.specs.Lists.{Lists}
use Rattle.dbtg_cells.specs.declared.cell.Cell.{Cell}
use Rattle.dbtg_cells.specs.declared.name.CellName.{CellName}
use Rattle.dbtg_cells.specs.declared.name.CellName.TheVariants.{Usage, Extent, Ring, Slot}
use Rattle.dbtg_cells.specs.CellNumbers.{cell_number, is_cell}
use Rattle.dbtg_cells.specs.Cells.{shown}
use Rattle.dbtg_cells.specs.Names.{name_eq}
use Rattle.dbtg_cells.specs.Shown.{CellValue}
use Rattle.dbtg_cells.proofs.Public.{extent_number, name_eq_refl, ring_number, slot_number, system_ring_number, there_is, usage_number}
use Rattle.dbtg_unit.specs.declared.unit.Entry.{Entry}
use Rattle.dbtg_unit.specs.Hands.Hands.{cell_of}
use Rattle.dbtg_unit.specs.Database.State.Image.{image_of}
use Rattle.dbtg_unit.specs.Hands.Local.{holds}
use Rattle.dbtg_unit.specs.Database.Laws.Replay.{opening_state, replay as replay_entries, State as DatabaseState}
use Rattle.dbtg_unit.proofs.Public.{In as AmongKeys, held_cell_agrees, held_is_there, of_reverse}
use Rattle.dbtg_step.specs.declared.parts.Parts.{Parts}
use Rattle.dbtg_step.specs.declared.parts.CellLocation.{CellLocation}
use Rattle.dbtg_step.specs.declared.parts.CellLocation.TheVariants.{Home as AtHome, HeldBy as WithUnit}
use Rattle.dbtg_step.specs.declared.parts.UnitState.{UnitState as CoreUnit}
use Rattle.dbtg_step.specs.declared.parts.StatementProgress.{StatementProgress}
use Rattle.dbtg_step.specs.Machine.SequentialDatabase.{HeldCell, In, unit_at}
use Rattle.dbtg_step.specs.Machine.Machine.{UnitState, held_cells}
use Rattle.dbtg_step.specs.Machine.Lawful.{HoldsCell}
use Rattle.dbtg_step.specs.Machine.Network.{network}
use Rattle.dbtg_step.specs.Machine.Headline.{entry_of}
use Rattle.dbtg_step.specs.Core.Parts.{held_of, note_of, progress_of, state_from, unit_state_of}
use Rattle.dbtg_step.specs.Inside.Events.{IsWell, database_of, opening_for}
use Rattle.dbtg_step.specs.Inside.Imaging.{cell_in, found_cell, image_from}
use Rattle.dbtg_step.proofs.Runs.Headlines.{replays_same}
use Rattle.dbtg_step.proofs.TheCore.ImagesRead.{ShowsCell, read_is_image}
use Rattle.dbtg_step.proofs.TheCore.NeedsShown.{agrees_now}
use Rattle.dbtg_step.proofs.TheCore.PlacesOfCells.{location_placed, number_within}
use Rattle.dbtg_step.proofs.Runs.Waiting.{came_from}

-- units are numbered from 1
pub unit_before : {X : Type 0} (xs : List X) (u : ℕ) → 0 < u → unit_at xs u ≡ slice_get xs (u - 1)
unfolding unit_at
unit_before xs zero low = absurd (omega arith)
unit_before xs (suc n) low = let e : n ≡ suc n - 1 = omega arith in ap (slice_get xs) e

pub unit_none : {X : Type 0} (xs : List X) (u : ℕ) → u ≡ 0 → unit_at xs u ≡ None
unfolding unit_at
unit_none xs zero e = refl
unit_none xs (suc n) e = absurd (omega arith)

pub numbered : {X : Type 0} (xs : List X) (u : ℕ) (x : X) → unit_at xs u ≡ Some x → (0 < u) × (slice_get xs (u - 1) ≡ Some x)
unfolding unit_at
numbered xs zero x e = absurd (cc (e))
numbered xs (suc n) x e = let i : suc n - 1 ≡ n = omega arith in (omega arith, ap (slice_get xs) i ∙ e)

-- an element of a list is one of the reversed list
flipped : {X : Type 0} (x : X) (xs : List X) → In x xs → AmongKeys x xs
flipped x [] i = i
flipped x (y ∷ ys) (inl e) = inl (sym e)
flipped x (y ∷ ys) (inr i) = inr (flipped x ys i)

flipped_back : {X : Type 0} (x : X) (xs : List X) → AmongKeys x xs → In x xs
flipped_back x [] i = i
flipped_back x (y ∷ ys) (inl e) = inl (sym e)
flipped_back x (y ∷ ys) (inr i) = inr (flipped_back x ys i)

pub in_reversed : {X : Type 0} (x : X) (xs : List X) → In x (reverse xs) → In x xs
in_reversed x xs i = flipped_back x xs (of_reverse x xs (flipped x (reverse xs) i))

-- a held cell is held
in_hand : (cells : List (CellName × Cell)) (h : HeldCell CellName CellValue) → In h (map held_of cells) → holds cells h.name ≡ true
in_hand [] h i = absurd i
in_hand (e ∷ es) h (inl q) =
    let same : name_eq h.name e.0 ≡ true = ap (λ (x : HeldCell CellName CellValue). name_eq x.name e.0) q ∙ name_eq_refl e.0 in
    ap (λ b. cond b true (holds es h.name)) same
in_hand (e ∷ es) h (inr i) =
    let rest = in_hand es h i in
    elim (name_eq h.name e.0) as (λ b. cond b true (holds es h.name) ≡ true) [ true ↦ refl | false ↦ rest ]

-- a cell of the schema has a number
number_there : (schema : Lists) (capacity : ℕ) (c : CellName) → is_cell schema capacity c ≡ true → (n : ℕ) × (cell_number schema capacity c ≡ Some n)
number_there schema capacity (Usage a) h = (_, usage_number schema capacity a h)
number_there schema capacity (Extent t) h = (_, extent_number schema capacity t h)
number_there schema capacity (Ring s None) h = (_, system_ring_number schema capacity s h)
number_there schema capacity (Ring s (Some p)) h = (_, ring_number schema capacity s p.0 p.1 h)
number_there schema capacity (Slot t n) h = (_, slot_number schema capacity t n h)

-- a history noted, and read again
pub entries_again : (schema : Lists) (capacity : ℕ) (history : List Entry) → map (entry_of {schema = schema} {capacity = capacity}) (map note_of history) ≡ history
entries_again schema capacity [] = refl
entries_again schema capacity (e ∷ es) = ap (λ rest. e ∷ rest) (entries_again schema capacity es)

module _ (schema : Lists) (capacity : ℕ) (parts : Parts) (well : IsWell schema capacity parts) where
  held_there : (r : CoreUnit) (c : CellName) → HoldsCell (network schema capacity) (progress_of schema capacity r.held r.progress) c → holds r.held.cells c ≡ true
  unfolding held_cells
  held_there r c h = by r.progress h where
    by : (o : Option StatementProgress) → HoldsCell (network schema capacity) (progress_of schema capacity r.held o) c → holds r.held.cells c ≡ true
    by None h = absurd h.is_in
    by (Some w) h = ap (holds r.held.cells) (sym h.name) ∙ in_hand r.held.cells h.which (in_reversed h.which (map held_of r.held.cells) h.is_in)

  placed : (c : CellName) (n : ℕ) → cell_number schema capacity c ≡ Some n → (p : CellLocation) → slice_get parts.table.items n ≡ Some p → found_cell schema capacity parts c ≡ cell_in parts.runners.items c p
  placed c n e p f = ap (option_and_then (λ m. option_and_then (cell_in parts.runners.items c) (slice_get parts.table.items m))) e ∙ ap (option_and_then (cell_in parts.runners.items c)) f

  shows_home : (c : CellName) (n : ℕ) → cell_number schema capacity c ≡ Some n → (x : Cell) → slice_get parts.table.items n ≡ Some (AtHome x) → ShowsCell schema capacity (database_of schema capacity parts) (found_cell schema capacity parts) c
  unfolding state_from
  shows_home c n e x f = record {
    which = x;
    there = placed c n e (AtHome x) f;
    shows = well.lawful.home c (shown x) (location_placed schema capacity parts.table.items c n (AtHome x) e f);
  }

  shows_held : (c : CellName) (n : ℕ) → cell_number schema capacity c ≡ Some n → (u : ℕ) → slice_get parts.table.items n ≡ Some (WithUnit u) → ShowsCell schema capacity (database_of schema capacity parts) (found_cell schema capacity parts) c
  unfolding state_from
  shows_held c n e u f =
      let holder = well.lawful.holder c u (location_placed schema capacity parts.table.items c n (WithUnit u) e f) in
      let unit = came_from (unit_state_of schema capacity) parts.runners.items u holder.state holder.found in
      let r = unit.it in
      let number = numbered parts.runners.items u r unit.at in
      let has = held_there r c (subst (λ (x : UnitState (network schema capacity)). HoldsCell (network schema capacity) x.progress c) (sym unit.is) holder.holds) in
      let x = held_is_there r.held.cells c has in
      record {
        which = x.0;
        there = placed c n e (WithUnit u) f ∙ ap (option_and_then (λ (r : CoreUnit). cell_of c r.held.cells)) unit.at ∙ x.1;
        shows = held_cell_agrees schema capacity (database_of schema capacity parts) r.held.cells c x.0 (agrees_now schema capacity u parts r well number.0 number.1).cells x.1;
      }

  shows_placed : (c : CellName) (n : ℕ) → cell_number schema capacity c ≡ Some n → (p : CellLocation) → slice_get parts.table.items n ≡ Some p → ShowsCell schema capacity (database_of schema capacity parts) (found_cell schema capacity parts) c
  shows_placed c n e (AtHome x) f = shows_home c n e x f
  shows_placed c n e (WithUnit u) f = shows_held c n e u f

  shows_each : (c : CellName) → is_cell schema capacity c ≡ true → ShowsCell schema capacity (database_of schema capacity parts) (found_cell schema capacity parts) c
  shows_each c h =
      let number = number_there schema capacity c h in
      let within : number.0 < length parts.table.items = subst (λ m. number.0 < m) (sym well.table) (number_within schema capacity c number.0 number.1) in
      let place = there_is parts.table.items number.0 within in
      shows_placed c number.0 number.1 place.0 place.1

  pub database_is : database_of schema capacity parts ≡ (replay_entries schema capacity (opening_state schema (length parts.runners.items)) parts.history.items).database
  unfolding state_from
  database_is =
      ap (λ (q : DatabaseState). q.database)
      (replays_same schema capacity (opening_for schema capacity parts) (map note_of parts.history.items)
      ∙ ap (replay_entries schema capacity (opening_state schema (length parts.runners.items))) (entries_again schema capacity parts.history.items))

  -- the image that is read is of the database of the history
  pub read_is : image_from schema (found_cell schema capacity parts) ≡ image_of schema capacity (replay_entries schema capacity (opening_state schema (length parts.runners.items)) parts.history.items).database
  read_is = read_is_image schema capacity (database_of schema capacity parts) well.sound well.lawful.legal.legal (found_cell schema capacity parts) shows_each ∙ ap (image_of schema capacity) database_is
