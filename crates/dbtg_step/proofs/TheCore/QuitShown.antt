-- A quit of the parts is the machine's quit.
use Rattle.std.proofs.Common.{ℕ, zero, suc, ◌≡◌, ◌<◌, ◌-◌, List, [], ◌∷◌, ◌++◌, Some, None, map, length, reverse, slice_get, slice_set, refl, sym, ap, ◌∙◌, subst, arith, inl, inr}
use Rattle.std.specs.Prelude.{◌⊎◌, option_map}
use Rattle.std.proofs.lemmas.List.{length-map, reverse-append, length-set}
use Rattle.dbtg_schema.specs.Lists.{Lists}
use Rattle.dbtg_cells.specs.declared.cell.Cell.{Cell}
use Rattle.dbtg_cells.specs.declared.name.CellName.{CellName}
use Rattle.dbtg_cells.specs.Cells.{shown}
use Rattle.dbtg_cells.specs.Names.{name_below}
use Rattle.dbtg_cells.specs.Shown.{CellValue}
use Rattle.dbtg_unit.specs.declared.unit.Entry.{Entry}
use Rattle.dbtg_unit.specs.Hands.Hands.{Hands}
use Rattle.dbtg_step.specs.declared.parts.Parts.{Parts}
use Rattle.dbtg_step.specs.declared.parts.CellLocation.{CellLocation as CoreLocation}
use Rattle.dbtg_step.specs.declared.parts.UnitState.{UnitState as CoreUnit}
use Rattle.dbtg_step.specs.declared.parts.StatementProgress.{StatementProgress}
use Rattle.dbtg_unit.specs.declared.moves.Stepped.{Stepped}
use Rattle.dbtg_unit.specs.declared.moves.Stepped.TheVariants.{Moved, Blocked, Idle, NoMemory}
use Rattle.dbtg_step.specs.Machine.SequentialDatabase.{HeldCell, In, unit_at}
use Rattle.dbtg_step.specs.Machine.Machine.{CellLocation, Home, HeldBy, UnitState, all_home, held_cells}
use Rattle.dbtg_step.specs.Inside.Step.{IfMoved}
use Rattle.dbtg_step.specs.Machine.Step.{IsIdle, MovedTo, quit, quit_if_unit, quit_of_unit, quit_unless_ticket}
use Rattle.dbtg_step.specs.Machine.Lawful.{AreDistinct, Lawful}
use Rattle.dbtg_step.specs.Inside.NeverStuck.{AllInTurn}
use Rattle.dbtg_step.specs.Machine.Network.{network}
use Rattle.dbtg_step.specs.Machine.Headline.{opening_of}
use Rattle.dbtg_step.specs.Inside.Parts.{core_of, state_of, written_home, written_homes}
use Rattle.dbtg_step.specs.Core.Parts.{held_cells_of, held_of, location_at, progress_of, shown_progress, state_from, unit_state_of, with_state}
use Rattle.dbtg_step.specs.Inside.Stands.{HavePlaces, StandsUnticketed}
use Rattle.dbtg_step.specs.Inside.Events.{HaveRings, IsQuit, IsStepped, IsWell, RunnerFits, RunnersFit, opening_for}
use Rattle.dbtg_step.specs.Core.CoreSteps.{IsNeverStuck, IsQuitStep, IsStep}
use Rattle.dbtg_step.proofs.TheCore.EventsShown.{found, no_unit, unit_written, written_fit}
use Rattle.dbtg_step.proofs.EachEvent.Keeps.{quit_keeps, step_keeps}
use Rattle.dbtg_step.proofs.Runs.GuessesFit.{AllGuesses, quit_keeps_guesses, step_keeps_guesses}
use Rattle.dbtg_step.proofs.Network.NameOrder.{names_are_ordered}
use Rattle.dbtg_step.proofs.Network.NeededCellsExist.{statements_keep_rings}
use Rattle.dbtg_step.proofs.TheCore.NeedsShown.{in_front_of}
use Rattle.dbtg_step.proofs.Network.NetworkFacts.{needs_in_order, network_is_sequential}
use Rattle.dbtg_step.proofs.Runs.Ordered.{ordered}
use Rattle.dbtg_step.proofs.EachEvent.Turns.{quit_in_turn, step_in_turn}
use Rattle.dbtg_step.proofs.Runs.Waiting.{never_stuck}
use Rattle.dbtg_step.proofs.Network.NetworkNeeds.{network_names_cells}
use Rattle.dbtg_step.proofs.TheCore.PlacesOfCells.{length_home, updated_is, written_home_is}
use Rattle.dbtg_step.proofs.EachEvent.UnitLists.{relocated_elsewhere}

-- one cell more goes home
pub homes_step : (schema : Lists) (capacity : ℕ) (old new : List (CellName × Cell)) (e : CellName × Cell) (table after : List CoreLocation) → old ≡ new ++ e ∷ [] → after ≡ written_home schema capacity e.0 e.1 table → written_homes schema capacity (reverse new) after ≡ written_homes schema capacity (reverse old) table
homes_step schema capacity old new e table after q h =
    ap (written_homes schema capacity (reverse new)) h ∙ sym (ap (λ es. written_homes schema capacity es table) (ap reverse q ∙ reverse-append new (e ∷ [])))

module _ (schema : Lists) (capacity : ℕ) where
  pub length_homes : (es : List (CellName × Cell)) (table : List CoreLocation) → length (written_homes schema capacity es table) ≡ length table
  length_homes [] table = refl
  length_homes (e ∷ es) table = length_homes es (written_home schema capacity e.0 e.1 table) ∙ length_home schema capacity table e.0 e.1

  -- cells that one unit holds, none twice, go home
  homes_are : (u : ℕ) (es : List (CellName × Cell)) (table : List CoreLocation) → AreDistinct (network schema capacity) (map held_of es) → ((h : HeldCell CellName CellValue) → In h (map held_of es) → location_at schema capacity table h.name ≡ HeldBy u) →
      location_at schema capacity (written_homes schema capacity es table) ≡ all_home (network schema capacity) (location_at schema capacity table) (map held_of es)
  unfolding AreDistinct all_home
  homes_are u [] table d h = refl
  homes_are u (e ∷ es) table d h =
      let first = written_home_is schema capacity table e.0 e.1 u (h (held_of e) (inl refl)) in
      homes_are u es (written_home schema capacity e.0 e.1 table) d.1
      (λ g i. ap (λ (l : CellName → CellLocation CellValue). l g.name) first ∙ relocated_elsewhere (network schema capacity) (network_names_cells schema capacity) (location_at schema capacity table) e.0 g.name (Home (shown e.1)) (d.0 g i) ∙ h g (inr i))
      ∙ ap (λ l. all_home (network schema capacity) l (map held_of es)) first

-- and the table has a place for each of the others
pub places_left : (schema : Lists) (capacity : ℕ) (old new : List (CellName × Cell)) (e : CellName × Cell) (table after : List CoreLocation) → old ≡ new ++ e ∷ [] → after ≡ written_home schema capacity e.0 e.1 table → HavePlaces schema capacity old table → HavePlaces schema capacity new after
places_left schema capacity old new e table after q h places f i =
    let p = places f (subst (In f) (sym q) (in_front_of f new (e ∷ []) i)) in
    record { number = p.number; is = p.is; within = subst (λ n. p.number < n) (sym (ap length h ∙ length_home schema capacity table e.0 e.1)) p.within }

map_reversed : (es : List (CellName × Cell)) → map held_of (reverse es) ≡ held_cells_of es
map_reversed [] = refl
map_reversed (e ∷ es) =
    ap (map held_of) (reverse-append (e ∷ []) es) ∙ behind (reverse es) ∙ ap (λ xs. xs ++ held_of e ∷ []) (map_reversed es) ∙ sym (reverse-append (held_of e ∷ []) (map held_of es))
  where
    behind : (xs : List (CellName × Cell)) → map held_of (xs ++ e ∷ []) ≡ map held_of xs ++ held_of e ∷ []
    behind [] = refl
    behind (x ∷ xs) = ap (λ ys. held_of x ∷ ys) (behind xs)

-- THE QUIT

module _ (schema : Lists) (capacity u : ℕ) (old : Parts) (well : IsWell schema capacity old) where
  stays_quiet : quit (network schema capacity) (state_of schema capacity old) u ≡ IsIdle → IsQuit schema capacity u Idle old old
  stays_quiet e = record { tells = (e, refl); table = refl; count = refl; runners = well.runners }

  pub no_unit_quits : (u ≡ 0) ⊎ (length old.runners.items < u) → IsQuit schema capacity u Idle old old
  unfolding quit quit_if_unit state_from
  no_unit_quits h = stays_quiet (ap (quit_if_unit (network schema capacity) (state_of schema capacity old) u) (no_unit (map (unit_state_of schema capacity) old.runners.items) u (elim h [ inl e ↦ inl e | inr l ↦ inr (let m = length-map old.runners.items (unit_state_of schema capacity) in omega (arith, m, l)) ])))

  module _ (r : CoreUnit) (numbered : 0 < u) (at : slice_get old.runners.items (u - 1) ≡ Some r) where
    quit_here : quit (network schema capacity) (state_of schema capacity old) u ≡ quit_of_unit (network schema capacity) (state_of schema capacity old) u (unit_state_of schema capacity r) (progress_of schema capacity r.held r.progress)
    unfolding quit quit_if_unit
    quit_here = ap (quit_if_unit (network schema capacity) (state_of schema capacity old) u) (found schema capacity u old r well numbered at)

    pub between_quits : r.progress ≡ None → IsQuit schema capacity u Idle old old
    unfolding quit_of_unit
    between_quits e = stays_quiet (quit_here ∙ ap (λ o. quit_of_unit (network schema capacity) (state_of schema capacity old) u (unit_state_of schema capacity r) (progress_of schema capacity r.held o)) e)

    pub ticketed_quits : (w : StatementProgress) (t : ℕ) → r.progress ≡ Some w → w.ticket ≡ Some t → IsQuit schema capacity u Idle old old
    unfolding quit_of_unit quit_unless_ticket
    ticketed_quits w t e f =
        stays_quiet (quit_here ∙ ap (λ o. quit_of_unit (network schema capacity) (state_of schema capacity old) u (unit_state_of schema capacity r) (progress_of schema capacity r.held o)) e
        ∙ ap (quit_unless_ticket (network schema capacity) (state_of schema capacity old) u (unit_state_of schema capacity r) (shown_progress schema capacity r.held w)) f)

    pub quits_is : (s : StandsUnticketed r) (new : Parts) (n : CoreUnit) (cells areas : Hands) → new.history.items ≡ old.history.items → new.runners.items ≡ slice_set old.runners.items (u - 1) n → new.table.items ≡ written_homes schema capacity (reverse r.held.cells) old.table.items →
        cells ≡ record r.held { cells = [] } → areas ≡ record cells { areas = [] } → n ≡ record { unit = r.unit; held = areas; script = r.script; next = r.next; progress = None; course = r.course } → IsQuit schema capacity u Moved old new
    unfolding quit_of_unit quit_unless_ticket state_from held_cells
    quits_is s new n cells areas history runners table c a is =
        let held : areas ≡ record r.held { cells = []; areas = [] } = a ∙ ap (λ (h : Hands). record h { areas = [] }) c in
        let all : n ≡ record r { held = record r.held { cells = []; areas = [] }; progress = None } = is ∙ ap (λ (h : Hands). record { unit = r.unit; held = h; script = r.script; next = r.next; progress = None; course = r.course }) held in
        let units = runners ∙ unit_written old.runners.items u n numbered in
        let holding = (well.lawful.each u (unit_state_of schema capacity r) (found schema capacity u old r well numbered at)).holding in
        let at_stage = ap (λ o. held_cells (network schema capacity) (progress_of schema capacity r.held o)) s.progress in
        let reversed = map_reversed r.held.cells in
        let home : location_at schema capacity new.table.items ≡ all_home (network schema capacity) (location_at schema capacity old.table.items) (held_cells_of r.held.cells) =
        ap (location_at schema capacity) table
        ∙ homes_are schema capacity u (reverse r.held.cells) old.table.items
        (subst (AreDistinct (network schema capacity)) (at_stage ∙ sym reversed) holding.distinct)
        (λ h i. holding.held h (subst (In h) (reversed ∙ sym at_stage) i))
        ∙ ap (all_home (network schema capacity) (location_at schema capacity old.table.items)) reversed in
        record {
          tells = quit_here ∙ ap (λ o. quit_of_unit (network schema capacity) (state_of schema capacity old) u (unit_state_of schema capacity r) (progress_of schema capacity r.held o)) s.progress
              ∙ ap (quit_unless_ticket (network schema capacity) (state_of schema capacity old) u (unit_state_of schema capacity r) (shown_progress schema capacity r.held s.w)) s.ticket
              ∙ ap MovedTo (sym ((λ i. state_from schema capacity new.table.items (history i) (units i))
              ∙ updated_is schema capacity old.table.items new.table.items old.history.items old.runners.items u r n (all_home (network schema capacity) (location_at schema capacity old.table.items) (held_cells_of r.held.cells)) r.held.guesses None home (ap (unit_state_of schema capacity) all)));
          table = ap length table ∙ length_homes schema capacity (reverse r.held.cells) old.table.items;
          count = ap length runners ∙ length-set old.runners.items (u - 1) n;
          runners = subst (RunnersFit schema capacity) (sym runners) (written_fit schema capacity old.runners.items (u - 1) n well.runners (subst (RunnerFits schema capacity) (sym all) (record { settled = λ q. (refl, refl); guesses = (well.runners (u - 1) r at).guesses; course = λ w q. absurd (cc (q)) })));
        }

-- WHAT THE CORE KEEPS

guessed : (schema : Lists) (capacity : ℕ) (parts : Parts) → IsWell schema capacity parts → AllGuesses (network schema capacity) (HaveRings schema capacity) (state_of schema capacity parts)
guessed schema capacity parts well = record { each = well.guesses }

module _ (schema : Lists) (capacity u : ℕ) (old new : Parts) (well : IsWell schema capacity old) (count : length new.runners.items ≡ length old.runners.items) (table : length new.table.items ≡ length old.table.items) (runners : RunnersFit schema capacity new.runners.items) where
  kept : Lawful (network schema capacity) (opening_for schema capacity old) (state_of schema capacity new) → AllInTurn (network schema capacity) name_below (state_of schema capacity new) → AllGuesses (network schema capacity) (HaveRings schema capacity) (state_of schema capacity new) → IsWell schema capacity new
  kept l o g = record {
    sound = well.sound;
    table = table ∙ well.table;
    runners = runners;
    lawful = subst (λ m. Lawful (network schema capacity) (opening_of schema capacity m) (state_of schema capacity new)) (sym count) l;
    in_turn = o;
    guesses = g.each;
  }

  pub stayed : state_of schema capacity new ≡ state_of schema capacity old → IsWell schema capacity new
  stayed e =
      kept (subst (Lawful (network schema capacity) (opening_for schema capacity old)) (sym e) well.lawful)
      (subst (AllInTurn (network schema capacity) name_below) (sym e) well.in_turn)
      (subst (AllGuesses (network schema capacity) (HaveRings schema capacity)) (sym e) (guessed schema capacity old well))

  moved_on : core_of schema capacity new ≡ with_state (core_of schema capacity old) (state_of schema capacity new)
  moved_on = λ i. record { schema = schema; capacity = capacity; opening = opening_of schema capacity (count i); state = state_of schema capacity new }

  pub same_core : state_of schema capacity new ≡ state_of schema capacity old → core_of schema capacity new ≡ core_of schema capacity old
  same_core e = λ i. record { schema = schema; capacity = capacity; opening = opening_of schema capacity (count i); state = e i }

module _ (schema : Lists) (capacity u : ℕ) (old new : Parts) (well : IsWell schema capacity old) where
  pub stepped_well : (result : Stepped) → IsStepped schema capacity u result old new → IsWell schema capacity new
  unfolding IfMoved
  stepped_well Moved s =
      kept schema capacity u old new well s.count s.table s.runners
      (subst (λ t. IfMoved (network schema capacity) t (Lawful (network schema capacity) (opening_for schema capacity old))) s.tells (step_keeps (network schema capacity) (network_is_sequential schema capacity well.sound) (opening_for schema capacity old) (state_of schema capacity old) well.lawful u))
      (subst (λ t. IfMoved (network schema capacity) t (AllInTurn (network schema capacity) name_below)) s.tells (step_in_turn (network schema capacity) name_below (needs_in_order schema capacity well.sound) (opening_for schema capacity old) (state_of schema capacity old) well.lawful well.in_turn u))
      (subst (λ t. IfMoved (network schema capacity) t (AllGuesses (network schema capacity) (HaveRings schema capacity))) s.tells (step_keeps_guesses (network schema capacity) (HaveRings schema capacity) (statements_keep_rings schema capacity well.sound) (opening_for schema capacity old) (state_of schema capacity old) well.lawful (guessed schema capacity old well) u))
  stepped_well Blocked s = stayed schema capacity u old new well s.count s.table s.runners s.tells.1
  stepped_well Idle s = stayed schema capacity u old new well s.count s.table s.runners s.tells.1
  stepped_well NoMemory s = stayed schema capacity u old new well s.count s.table s.runners s.tells.1

  pub core_stepped : (result : Stepped) → IsStepped schema capacity u result old new → IsStep (core_of schema capacity old) u result (core_of schema capacity new)
  core_stepped Moved s = (state_of schema capacity new, s.tells, moved_on schema capacity u old new well s.count s.table s.runners)
  core_stepped Blocked s = (s.tells.0, same_core schema capacity u old new well s.count s.table s.runners s.tells.1)
  core_stepped Idle s = (s.tells.0, same_core schema capacity u old new well s.count s.table s.runners s.tells.1)
  core_stepped NoMemory s = (s.tells.0, same_core schema capacity u old new well s.count s.table s.runners s.tells.1)

  pub quit_well : (result : Stepped) → IsQuit schema capacity u result old new → IsWell schema capacity new
  unfolding IfMoved
  quit_well Moved s =
      kept schema capacity u old new well s.count s.table s.runners
      (subst (λ t. IfMoved (network schema capacity) t (Lawful (network schema capacity) (opening_for schema capacity old))) s.tells (quit_keeps (network schema capacity) (network_is_sequential schema capacity well.sound) (opening_for schema capacity old) (state_of schema capacity old) well.lawful u))
      (subst (λ t. IfMoved (network schema capacity) t (AllInTurn (network schema capacity) name_below)) s.tells (quit_in_turn (network schema capacity) name_below (needs_in_order schema capacity well.sound) (opening_for schema capacity old) (state_of schema capacity old) well.lawful well.in_turn u))
      (subst (λ t. IfMoved (network schema capacity) t (AllGuesses (network schema capacity) (HaveRings schema capacity))) s.tells (quit_keeps_guesses (network schema capacity) (HaveRings schema capacity) (statements_keep_rings schema capacity well.sound) (opening_for schema capacity old) (state_of schema capacity old) well.lawful (guessed schema capacity old well) u))
  quit_well Blocked s = absurd s.tells
  quit_well Idle s = stayed schema capacity u old new well s.count s.table s.runners s.tells.1
  quit_well NoMemory s = absurd s.tells

  pub core_quit : (result : Stepped) → IsQuit schema capacity u result old new → IsQuitStep (core_of schema capacity old) u result (core_of schema capacity new)
  core_quit Moved s = (state_of schema capacity new, s.tells, moved_on schema capacity u old new well s.count s.table s.runners)
  core_quit Blocked s = absurd s.tells
  core_quit Idle s = (s.tells.0, same_core schema capacity u old new well s.count s.table s.runners s.tells.1)
  core_quit NoMemory s = absurd s.tells

-- a core never gets stuck
pub never_stuck_well : (schema : Lists) (capacity : ℕ) (parts : Parts) → IsWell schema capacity parts → IsNeverStuck (core_of schema capacity parts)
never_stuck_well schema capacity parts well =
    let facts = network_is_sequential schema capacity well.sound in
    let order = ordered (network schema capacity) facts name_below (needs_in_order schema capacity well.sound) (opening_for schema capacity parts) (state_of schema capacity parts) well.lawful well.in_turn in
    never_stuck (network schema capacity) facts (opening_for schema capacity parts) name_below names_are_ordered (state_of schema capacity parts) well.lawful order

-- the units that the core shows
pub unit_shown : (schema : Lists) (capacity u : ℕ) (table : List CoreLocation) (history : List Entry) (runners : List CoreUnit) → option_map (λ (x : CoreUnit). x.unit) (unit_at runners u) ≡ option_map (λ (x : UnitState (network schema capacity)). x.unit) (unit_at (state_from schema capacity table history runners).units u)
unfolding state_from unit_at
unit_shown schema capacity zero table history runners = refl
unit_shown schema capacity (suc i) table history runners = by runners i
  where
    by : (rs : List CoreUnit) (i : ℕ) → option_map (λ (x : CoreUnit). x.unit) (slice_get rs i) ≡ option_map (λ (x : UnitState (network schema capacity)). x.unit) (slice_get (map (unit_state_of schema capacity) rs) i)
    by [] i = refl
    by (r ∷ rs) zero = refl
    by (r ∷ rs) (suc i) = by rs i
