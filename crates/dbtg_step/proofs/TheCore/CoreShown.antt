-- A well core is what every core is, and from that the headline follows.
use Rattle.std.proofs.Common.{ℕ, ◌≡◌, ◌≢◌, ◌-◌, List, [], ◌∷◌, ◌++◌, Option, Some, None, inl, inr, drop, length, map, refl, sym, ap, ◌∙◌, subst}
use Rattle.std.specs.Prelude.{option_map}
use Rattle.std.proofs.lemmas.List.{length-map}
use Rattle.dbtg_schema.specs.Lists.{Lists}
use Rattle.dbtg_cells.specs.declared.cell.Cell.{Cell}
use Rattle.dbtg_cells.specs.declared.name.CellName.{CellName}
use Rattle.dbtg_cells.specs.Cells.{shown}
use Rattle.dbtg_unit.specs.declared.unit.Entry.{Entry}
use Rattle.dbtg_unit.specs.declared.statement.Statement.{Statement}
use Rattle.dbtg_unit.specs.Database.State.Image.{image_of}
use Rattle.dbtg_unit.specs.Database.State.CellNames.{area_of_cell}
use Rattle.dbtg_unit.specs.Database.State.Cells.{cell}
use Rattle.dbtg_unit.specs.Database.State.LegalWith.{LegalWith}
use Rattle.dbtg_unit.specs.Database.Laws.Replay.{AnswersHold, State as DatabaseState, TicketsInOrder, entries_of, opening_state, replay as replay_entries}
use Rattle.dbtg_step.specs.declared.parts.Parts.{Parts}
use Rattle.dbtg_step.specs.declared.parts.CellLocation.TheVariants.{Home as AtHome, HeldBy as WithUnit}
use Rattle.dbtg_step.specs.declared.parts.UnitState.{UnitState as CoreUnit}
use Rattle.dbtg_step.specs.declared.parts.StatementProgress.{StatementProgress}
use Rattle.dbtg_step.specs.Machine.SequentialDatabase.{HeldCell, In, unit_at}
use Rattle.dbtg_step.specs.Machine.Machine.{UnitState, held_areas, held_cells, holds_exclusively, replay}
use Rattle.dbtg_step.specs.Machine.Lawful.{HoldsCell, UnitLawful}
use Rattle.dbtg_step.specs.Machine.Network.{network}
use Rattle.dbtg_step.specs.Core.Parts.{CoreParts, held_of, note_of, progress_of, state_from, unit_state_of}
use Rattle.dbtg_step.specs.Inside.Parts.{state_of}
use Rattle.dbtg_step.specs.Inside.Events.{IsWell, opening_for}
use Rattle.dbtg_step.specs.Core.Core.{AreasShared, EveryCoreIsSequential, HandsFit, HasNow, IsAt, IsCore, IsInHandsOf, IsRunner, is_alone, state_now}
use Rattle.dbtg_step.proofs.TheCore.CellsFound.{entries_again, in_reversed, numbered}
use Rattle.dbtg_step.proofs.TheCore.EventsShown.{found}
use Rattle.dbtg_step.proofs.Runs.Headlines.{answers_same, replays_same, statements_same, tickets_in_order}
use Rattle.dbtg_step.proofs.TheCore.NeedsShown.{in_mapped, in_reverse}
use Rattle.dbtg_step.proofs.TheCore.PlacesOfCells.{held_is_placed, location_placed}
use Rattle.dbtg_step.proofs.Runs.Waiting.{came_from}
use Rattle.dbtg_step.proofs.EachEvent.UnitLists.{map_at}

-- the core with these parts
abbrev pub core_with : Lists → ℕ → Parts → CoreParts
core_with schema capacity parts = record { schema = schema; capacity = capacity; table = parts.table.items; history = parts.history.items; runners = parts.runners.items }

-- a held cell of the machine is one that the core's unit holds
record FromHand (cells : List (CellName × Cell)) (c : CellName) : Type 0 where
  what : CellName × Cell
  there : In what cells
  name : what.0 ≡ c

from_hand : (cells : List (CellName × Cell)) (h : HeldCell CellName _) → In h (map held_of cells) → FromHand cells h.name
from_hand [] h i = absurd i
from_hand (e ∷ es) h (inl q) = record { what = e; there = inl refl; name = sym (ap (λ (x : HeldCell CellName _). x.name) q) }
from_hand (e ∷ es) h (inr i) = let f = from_hand es h i in record { what = f.what; there = inr f.there; name = f.name }

module _ (schema : Lists) (capacity : ℕ) (parts : Parts) (well : IsWell schema capacity parts) where
  abbrev core : CoreParts
  core = core_with schema capacity parts

  units_again : (runners : List CoreUnit) → map (λ (s : UnitState (network schema capacity)). s.unit) (map (unit_state_of schema capacity) runners) ≡ map (λ r. r.unit) runners
  units_again [] = refl
  units_again (r ∷ rs) = ap (λ us. r.unit ∷ us) (units_again rs)

  -- the two states to which the history leads are one
  state_is : ◌≡◌ {A = DatabaseState} (record { database = (replay (network schema capacity) (opening_for schema capacity parts) (state_of schema capacity parts).history).database; units = (replay (network schema capacity) (opening_for schema capacity parts) (state_of schema capacity parts).history).units }) (state_now core)
  unfolding state_from
  state_is =
      replays_same schema capacity (opening_for schema capacity parts) (map note_of parts.history.items)
      ∙ ap (replay_entries schema capacity (opening_state schema (length parts.runners.items))) (entries_again schema capacity parts.history.items)

  tickets_are : TicketsInOrder parts.history.items
  unfolding state_from
  tickets_are = subst TicketsInOrder (entries_again schema capacity parts.history.items) (tickets_in_order schema capacity (map note_of parts.history.items) well.lawful.tickets)

  answers_are : AnswersHold schema capacity (opening_state schema (length parts.runners.items)) parts.history.items
  unfolding state_from
  answers_are =
      subst (AnswersHold schema capacity (opening_state schema (length parts.runners.items))) (entries_again schema capacity parts.history.items)
      (answers_same schema capacity (opening_for schema capacity parts) (map note_of parts.history.items) well.lawful.answers)

  units_are : map (λ r. r.unit) parts.runners.items ≡ (state_now core).units
  unfolding state_from
  units_are = sym (units_again parts.runners.items) ∙ well.lawful.units ∙ ap (λ (q : DatabaseState). q.units) state_is

  now_is : (c : CellName) (x : Cell) → shown x ≡ cell schema capacity (replay (network schema capacity) (opening_for schema capacity parts) (state_of schema capacity parts).history).database c → HasNow core c x
  now_is c x e = e ∙ ap (λ (q : DatabaseState). cell schema capacity q.database c) state_is

  home_is : (c : CellName) (x : Cell) → IsAt core c (AtHome x) → HasNow core c x
  unfolding state_from
  home_is c x at = now_is c x (well.lawful.home c (shown x) (location_placed schema capacity parts.table.items c at.0 (AtHome x) at.1 at.2))

  in_hands : (r : CoreUnit) (c : CellName) → HoldsCell (network schema capacity) (progress_of schema capacity r.held r.progress) c → FromHand r.held.cells c
  unfolding held_cells
  in_hands r c h = by r.progress h where
    by : (o : Option StatementProgress) → HoldsCell (network schema capacity) (progress_of schema capacity r.held o) c → FromHand r.held.cells c
    by None h = absurd h.is_in
    by (Some w) h =
        let f = from_hand r.held.cells h.which (in_reversed h.which (map held_of r.held.cells) h.is_in) in
        record { what = f.what; there = f.there; name = f.name ∙ h.name }

  holder_is : (c : CellName) (u : ℕ) → IsAt core c (WithUnit u) → IsInHandsOf core u c
  unfolding state_from
  holder_is c u at =
      let holder = well.lawful.holder c u (location_placed schema capacity parts.table.items c at.0 (WithUnit u) at.1 at.2) in
      let unit = came_from (unit_state_of schema capacity) parts.runners.items u holder.state holder.found in
      let f = in_hands unit.it c (subst (λ (x : UnitState (network schema capacity)). HoldsCell (network schema capacity) x.progress c) (sym unit.is) holder.holds) in
      record { who = unit.it; is = unit.at; what = f.what; there = f.there; name = f.name }

  module _ (u : ℕ) (r : CoreUnit) (at : IsRunner core u r) where
    lawful_unit : UnitLawful (network schema capacity) (opening_for schema capacity parts) (state_of schema capacity parts).location (state_of schema capacity parts).history u (unit_state_of schema capacity r)
    lawful_unit =
        let n = numbered parts.runners.items u r at in
        well.lawful.each u (unit_state_of schema capacity r) (found schema capacity u parts r well n.0 n.1)

    settled : r.progress ≡ None → (r.held.areas ≡ []) × (r.held.cells ≡ [])
    settled = let n = numbered parts.runners.items u r at in (well.runners (u - 1) r n.1).settled

    scripts_are : map (λ (e : Entry). e.statement) (entries_of u parts.history.items) ++ drop r.next r.script ≡ r.script
    unfolding state_from
    scripts_are =
        ap (λ es. map (λ (e : Entry). e.statement) (entries_of u es) ++ drop r.next r.script) (sym (entries_again schema capacity parts.history.items))
        ∙ ap (λ xs. xs ++ drop r.next r.script) (statements_same schema capacity u (map note_of parts.history.items)) ∙ lawful_unit.script

    -- a held cell is one that the machine's unit holds
    held_there : (e : CellName × Cell) → In e r.held.cells → In (held_of e) (held_cells (network schema capacity) (progress_of schema capacity r.held r.progress))
    unfolding held_cells
    held_there e i = by r.progress refl
      where
        by : (o : Option StatementProgress) → r.progress ≡ o → In (held_of e) (held_cells (network schema capacity) (progress_of schema capacity r.held o))
        by None q = absurd (subst (In e) (settled q).1 i)
        by (Some w) q = in_reverse (held_of e) (map held_of r.held.cells) (in_mapped held_of e r.held.cells i)

    area_there : (a : ℕ) → In a (held_areas (network schema capacity) (progress_of schema capacity r.held r.progress)) → In a r.held.areas
    unfolding held_areas
    area_there a = by r.progress
      where
        by : (o : Option StatementProgress) → In a (held_areas (network schema capacity) (progress_of schema capacity r.held o)) → In a r.held.areas
        by None i = absurd i
        by (Some w) i = in_reversed a r.held.areas i

    area_held : (a : ℕ) → In a r.held.areas → In a (held_areas (network schema capacity) (progress_of schema capacity r.held r.progress))
    unfolding held_areas
    area_held a i = by r.progress refl
      where
        by : (o : Option StatementProgress) → r.progress ≡ o → In a (held_areas (network schema capacity) (progress_of schema capacity r.held o))
        by None q = absurd (subst (In a) (settled q).0 i)
        by (Some w) q = in_reverse a r.held.areas i

    alone_is : holds_exclusively (network schema capacity) (progress_of schema capacity r.held r.progress) ≡ is_alone r
    unfolding holds_exclusively
    alone_is = by r.progress refl
      where
        by : (o : Option StatementProgress) → r.progress ≡ o → holds_exclusively (network schema capacity) (progress_of schema capacity r.held o) ≡ is_alone (record r { progress = o })
        by None q = refl
        by (Some w) q = refl

    hands_fit : HandsFit core u r
    unfolding state_from
    hands_fit = record {
      taken = λ e i. let p = held_is_placed schema capacity parts.table.items e.0 u (lawful_unit.holding.held (held_of e) (held_there e i)) in (p.number, p.is, p.there);
      values = λ e i. now_is e.0 e.1 (lawful_unit.holding.values (held_of e) (held_there e i));
      in_area = λ e i. area_there (area_of_cell schema e.0) (lawful_unit.holding.in_area (held_of e) (held_there e i));
      settled = settled;
    }

  areas_are : (u w : ℕ) (r q : CoreUnit) → u ≢ w → IsRunner core u r → IsRunner core w q → AreasShared r q
  areas_are u w r q ne at at' a i j =
      let n = numbered parts.runners.items u r at in
      let m = numbered parts.runners.items w q at' in
      let both = well.lawful.apart u w (unit_state_of schema capacity r) (unit_state_of schema capacity q) ne (found schema capacity u parts r well n.0 n.1) (found schema capacity w parts q well m.0 m.1) a (area_held u r at a i) (area_held w q at' a j) in
      (sym (alone_is u r at) ∙ both.0, sym (alone_is w q at') ∙ both.1)

  pub core_is : IsCore (core_with schema capacity parts)
  core_is = record {
    tickets = tickets_are;
    answers = answers_are;
    units = units_are;
    legal = subst (λ (q : DatabaseState). LegalWith schema capacity q.database q.units) state_is well.lawful.legal;
    scripts = scripts_are;
    places = well.table;
    home = home_is;
    holder = holder_is;
    hands = hands_fit;
    areas = areas_are;
  }

  -- each unit is the one to which the history leads
  pub unit_led_to : (u : ℕ) → option_map (λ (r : CoreUnit). r.unit) (unit_at parts.runners.items u) ≡ unit_at (state_now (core_with schema capacity parts)).units u
  unit_led_to u = sym (map_at (λ (r : CoreUnit). r.unit) parts.runners.items u) ∙ ap (λ us. unit_at us u) units_are

-- THE HEADLINE

script_begins : (core : CoreParts) → IsCore core → (u : ℕ) (script : List Statement) → unit_at (map (λ r. r.script) core.runners) u ≡ Some script → (remaining : List Statement) × (map (λ (e : Entry). e.statement) (entries_of u core.history) ++ remaining ≡ script)
script_begins core is u script at =
    let unit = came_from (λ (r : CoreUnit). r.script) core.runners u script at in
    (drop unit.it.next unit.it.script, is.scripts u unit.it unit.at ∙ unit.is)

pub core_sequential : EveryCoreIsSequential
core_sequential core is =
    let units : length core.runners ≡ length (map (λ (r : CoreUnit). r.script) core.runners) = sym (length-map core.runners (λ (r : CoreUnit). r.script)) in
    record {
      tickets = is.tickets;
      answers = subst (λ n. AnswersHold core.schema core.capacity (opening_state core.schema n) core.history) units is.answers;
      image_is = ap (λ n. image_of core.schema core.capacity (replay_entries core.schema core.capacity (opening_state core.schema n) core.history).database) units;
      units_are = is.units ∙ ap (λ n. (replay_entries core.schema core.capacity (opening_state core.schema n) core.history).units) units;
      scripts_begin = script_begins core is;
    }
