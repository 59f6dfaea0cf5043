-- The ticket that a unit draws is the one that the machine's unit draws.
use Rattle.std.proofs.Common.{ℕ, suc, ◌≡◌, ◌<◌, ◌≤◌, ◌-◌, ◌+◌, ◌^◌, Bool, true, false, cond, List, [], ◌∷◌, Option, Some, None, drop, map, length, reverse, slice_get, slice_set, refl, sym, ap, ◌∙◌, subst, arith}
use Rattle.std.specs.Prelude.{option_map, unwrap_or}
use Rattle.std.proofs.lemmas.List.{length-append, length-map, map-append, length-set}
use Rattle.std.proofs.lemmas.List.FromFn.{length-range_with_len}
use Rattle.dbtg_schema.specs.Lists.{Lists}
use Rattle.dbtg_schema.specs.Structure.{set_numbers}
use Rattle.dbtg_cells.specs.declared.cell.Cell.{Cell}
use Rattle.dbtg_cells.specs.declared.cell.Cell.TheVariants.{Slot as SlotCell}
use Rattle.dbtg_cells.specs.declared.key.DbKey.{DbKey}
use Rattle.dbtg_cells.specs.declared.key.Owner.{Owner}
use Rattle.dbtg_cells.specs.declared.name.CellName.{CellName}
use Rattle.dbtg_cells.specs.declared.name.CellName.TheVariants.{Usage, Extent, Ring, Slot}
use Rattle.dbtg_cells.specs.declared.slot.Stored.{Stored}
use Rattle.dbtg_cells.specs.Cells.{shown}
use Rattle.dbtg_cells.specs.Names.{name_eq}
use Rattle.dbtg_cells.specs.Shown.{CellValue, SlotValue}
use Rattle.dbtg_cells.proofs.Public.{map_reverse, there_is}
use Rattle.dbtg_unit.specs.declared.held.Need.TheVariants.{Ready}
use Rattle.dbtg_unit.specs.declared.statement.Statement.{Statement}
use Rattle.dbtg_unit.specs.declared.statement.Statement.TheVariants.{OpenArea, CloseArea, Find, Get, Store, Insert, Remove, Modify, Delete, Keep, Free}
use Rattle.dbtg_unit.specs.declared.unit.Entry.{Entry}
use Rattle.dbtg_unit.specs.Database.State.Base.{Database, Record, key_at, owner_of}
use Rattle.dbtg_unit.specs.Database.State.Cells.{cell, slot_of}
use Rattle.dbtg_unit.specs.Database.Statements.Effect.{StatementEffect, effect, version_of}
use Rattle.dbtg_unit.specs.Database.Statements.Codes.{is_done}
use Rattle.dbtg_unit.specs.Hands.Guesses.{guesses_after, noted_guesses}
use Rattle.dbtg_unit.specs.Hands.Hands.{Hands, cell_of}
use Rattle.dbtg_unit.specs.Hands.Local.{Agrees, AllAgree}
use Rattle.dbtg_unit.specs.Hands.Making.{HaveNextVersions, MayPrepare}
use Rattle.dbtg_unit.specs.Hands.Prepared.{values_of}
use Rattle.dbtg_unit.specs.Database.Laws.Replay.{State as DatabaseState, opening_state, replay as replay_entries}
use Rattle.dbtg_unit.specs.Database.State.Units.{owners_of}
use Rattle.dbtg_unit.specs.Database.State.Versions.{VersionsUpTo}
use Rattle.dbtg_unit.proofs.Public.{versions_are_bounded}
use Rattle.dbtg_step.specs.declared.parts.Parts.{Parts}
use Rattle.dbtg_step.specs.declared.parts.UnitState.{UnitState}
use Rattle.dbtg_step.specs.declared.parts.StatementProgress.{StatementProgress}
use Rattle.dbtg_unit.specs.declared.moves.Stepped.TheVariants.{Moved, NoMemory}
use Rattle.dbtg_step.specs.Machine.SequentialDatabase.{HeldCell, NeedsNothing, with_unit_at}
use Rattle.dbtg_step.specs.Machine.Machine.{unless_over}
use Rattle.dbtg_step.specs.Machine.Step.{MovedTo, due_cells, follows_need, with_ticket}
use Rattle.dbtg_step.specs.Machine.Network.{network}
use Rattle.dbtg_step.specs.Core.Parts.{held_cells_of, held_of, location_at, note_of, progress_of, state_from, unit_state_of}
use Rattle.dbtg_step.specs.Inside.Parts.{progress_while_held}
use Rattle.dbtg_step.specs.Inside.Stands.{StandsNeeding}
use Rattle.dbtg_step.specs.Inside.Leaves.{IsDrawn, IsUnmade}
use Rattle.dbtg_step.specs.Inside.Events.{IsStepped, IsWell, NeedsNext, RunnerFits, RunnersFit, opening_for}
use Rattle.dbtg_step.proofs.TheCore.CoursesMatch.{no_course}
use Rattle.dbtg_step.proofs.TheCore.EventsShown.{over_is_empty, unit_written, while_held_is, written_fit}
use Rattle.dbtg_step.proofs.TheCore.FollowsShown.{follows, refused_is, statement, wants}
use Rattle.dbtg_step.proofs.Runs.Headlines.{replays_same}
use Rattle.dbtg_step.proofs.TheCore.NeedsShown.{agrees_now, database_now, statement_fits, unit_in}
use Rattle.dbtg_step.proofs.EachEvent.UnitLists.{map_set}
use Rattle.dbtg_step.proofs.TheCore.CellsFound.{entries_again}

-- WHAT IS DUE

module _ (schema : Lists) (capacity : ℕ) (db : Database) where
  abbrev due_one : HeldCell CellName CellValue → HeldCell CellName CellValue
  due_one h = record { name = h.name; value = cell schema capacity db h.name }

  due_map : (cells : List (HeldCell CellName CellValue)) → due_cells (network schema capacity) db cells ≡ map due_one cells
  unfolding due_cells
  due_map [] = refl
  due_map (h ∷ hs) = ap (λ xs. due_one h ∷ xs) (due_map hs)

  abbrev to_held : CellName × CellValue → HeldCell CellName CellValue
  to_held v = record { name = v.0; value = v.1 }

  of_values : (cs : List (CellName × Cell)) → map held_of cs ≡ map to_held (values_of cs)
  of_values [] = refl
  of_values (c ∷ cs) = ap (λ xs. held_of c ∷ xs) (of_values cs)

  due_values : (cs : List (CellName × Cell)) → map to_held (map (λ (e : CellName × Cell). (e.0, cell schema capacity db e.0)) cs) ≡ map due_one (map held_of cs)
  due_values [] = refl
  due_values (c ∷ cs) = ap (λ xs. due_one (held_of c) ∷ xs) (due_values cs)

  -- cells that show what the database has are what is due
  pub held_are_due : (old new : List (CellName × Cell)) → values_of new ≡ map (λ (e : CellName × Cell). (e.0, cell schema capacity db e.0)) old → held_cells_of new ≡ due_cells (network schema capacity) db (held_cells_of old)
  held_are_due old new e =
      ap reverse (of_values new ∙ ap (map to_held) e ∙ due_values old)
      ∙ sym (map_reverse due_one (map held_of old)) ∙ sym (due_map (held_cells_of old))

-- GUESSES

module _ (schema : Lists) (capacity : ℕ) where
  owners_length : (db : Database) (k : DbKey) → length (owners_of schema capacity db k) ≡ length schema.sets
  owners_length db k = length-map (set_numbers schema) (λ s. owner_of schema capacity db s k) ∙ length-range_with_len 0 (length schema.sets)

  noted_length : (db : Database) (x : Statement) (guesses : List (Option Owner)) (o : Option DbKey) → length guesses ≡ length schema.sets → length (noted_guesses schema capacity db x guesses o) ≡ length schema.sets
  noted_length db (Find suppress form) guesses (Some k) e = owners_length db k
  noted_length db (Store t items suppress) guesses (Some k) e = owners_length db k
  noted_length db (Insert s) guesses (Some k) e = length-set guesses s (owner_of schema capacity db s k) ∙ e
  noted_length db (Remove s) guesses (Some k) e = length-set guesses s None ∙ e
  noted_length db (OpenArea a mode) guesses (Some k) e = e
  noted_length db (CloseArea a) guesses (Some k) e = e
  noted_length db (Get r) guesses (Some k) e = e
  noted_length db (Modify t changes) guesses (Some k) e = e
  noted_length db (Delete option) guesses (Some k) e = e
  noted_length db Keep guesses (Some k) e = e
  noted_length db (Free all) guesses (Some k) e = e
  noted_length db (Find suppress form) guesses None e = e
  noted_length db (Store t items suppress) guesses None e = e
  noted_length db (Insert s) guesses None e = e
  noted_length db (Remove s) guesses None e = e
  noted_length db (OpenArea a mode) guesses None e = e
  noted_length db (CloseArea a) guesses None e = e
  noted_length db (Get r) guesses None e = e
  noted_length db (Modify t changes) guesses None e = e
  noted_length db (Delete option) guesses None e = e
  noted_length db Keep guesses None e = e
  noted_length db (Free all) guesses None e = e

  -- there are as many guesses as sets after a statement too
  pub guesses_length : (x : Statement) (guesses : List (Option Owner)) (outcome : StatementEffect) → length guesses ≡ length schema.sets → length (guesses_after schema capacity x guesses outcome) ≡ length schema.sets
  guesses_length x guesses outcome e = by (is_done outcome.answer.status)
    where
      by : (b : Bool) → length (cond b (noted_guesses schema capacity outcome.database x guesses outcome.unit.currency.run_unit) guesses) ≡ length schema.sets
      by true = noted_length outcome.database x guesses outcome.unit.currency.run_unit e
      by false = e

-- VERSIONS

module _ (schema : Lists) (capacity : ℕ) (db : Database) (bound : ℕ) (upto : VersionsUpTo bound db) where
  of_record : (k : DbKey) (o : Option Record) → db.records k ≡ o → (stored : Stored) → SlotValue (Some stored) ≡ SlotValue (option_map (slot_of schema capacity db k) o) → stored.version ≤ bound
  of_record k None e stored q = absurd (cc (q))
  of_record k (Some r) e stored q =
      let same : stored ≡ slot_of schema capacity db k r = cc (q) in
      let version : version_of db k ≡ r.version = ap (λ o. unwrap_or (option_map (λ (x : Record). x.version) o) 0) e in
      let here : stored.version ≡ r.version = ap (λ (x : Stored). x.version) same in
      let most = upto k in
      omega (arith, version, here, most)

  shown_version : (c : CellName) (stored : Stored) → SlotValue (Some stored) ≡ cell schema capacity db c → stored.version ≤ bound
  unfolding cell
  shown_version (Usage a) stored e = absurd (cc (e))
  shown_version (Extent t) stored e = absurd (cc (e))
  shown_version (Ring s o) stored e = absurd (cc (e))
  shown_version (Slot t n) stored e = of_record (key_at db t n) (db.records (key_at db t n)) refl stored e

  -- where versions are bounded, no held record is at the greatest
  pub versions_next : (cells : List (CellName × Cell)) → AllAgree schema capacity db cells → bound + 1 < 2 ^ 64 → HaveNextVersions cells
  versions_next [] a l c stored e = absurd (cc (e))
  versions_next (x ∷ xs) a l c stored e = by (name_eq c x.0) e (versions_next xs a.1 l c stored)
    where
      by : (b : Bool) → cond b (Some x.1) (cell_of c xs) ≡ Some (SlotCell (Some stored)) → (cell_of c xs ≡ Some (SlotCell (Some stored)) → stored.version + 1 < 2 ^ 64) → stored.version + 1 < 2 ^ 64
      by true e rest =
          let same : x.1 ≡ SlotCell (Some stored) = cc (e) in
          let most = shown_version x.0 stored (ap shown (sym same) ∙ a.0) in
          omega (arith, most, l)
      by false e rest = rest e

progress_shows : (schema : Lists) (capacity : ℕ) (old new : Hands) → new.areas ≡ old.areas → held_cells_of new.cells ≡ held_cells_of old.cells → (o : Option StatementProgress) → progress_of schema capacity new o ≡ progress_of schema capacity old o
progress_shows schema capacity old new a c None = refl
progress_shows schema capacity old new a c (Some w) = λ i. Some (record { exclusive = w.exclusive; areas = reverse (a i); cells = c i; turning_back = w.turning_back; ticket = w.ticket; linked = w.linked })

-- THE TICKET

module _ (schema : Lists) (capacity u : ℕ) (old : Parts) (r : UnitState) (well : IsWell schema capacity old) (numbered : 0 < u) (at : slice_get old.runners.items (u - 1) ≡ Some r) (w : StatementProgress) (s : StandsNeeding r w) (needs : NeedsNext schema capacity old u w Ready) where
  abbrev db : Database
  db = database_now schema capacity u old r well numbered at

  versions_here : VersionsUpTo (length old.history.items) db
  unfolding state_from
  versions_here =
      let same : db ≡ (replay_entries schema capacity (opening_state schema (length old.runners.items)) old.history.items).database =
      ap (λ (q : DatabaseState). q.database) (replays_same schema capacity (opening_for schema capacity old) (map note_of old.history.items))
      ∙ ap (λ es. (replay_entries schema capacity (opening_state schema (length old.runners.items)) es).database) (entries_again schema capacity old.history.items) in
      subst (VersionsUpTo (length old.history.items)) (sym same) (versions_are_bounded schema capacity (length old.runners.items) old.history.items)

  pub may_prepare : length old.history.items + 1 < 2 ^ 64 → (x : Statement) → slice_get r.script r.next ≡ Some x → MayPrepare schema capacity r.unit r.held x
  may_prepare few x is =
      let unit = unit_in schema capacity u old r well numbered at in
      let agrees = agrees_now schema capacity u old r well numbered at in
      record {
        sound = well.sound;
        fits = statement_fits schema capacity u old r well numbered at x is;
        of_schema = unit.of_schema;
        within = unit.within;
        ready = λ d a. sym ((needs r x at is).everywhere d a);
        versions = versions_next schema capacity db (length old.history.items) versions_here r.held.cells agrees.cells few;
      }

  pub unmade_is : (new : Parts) (n : UnitState) → new.table.items ≡ old.table.items → new.history.items ≡ old.history.items → new.runners.items ≡ slice_set old.runners.items (u - 1) n → IsUnmade r n → IsStepped schema capacity u NoMemory old new
  unfolding follows_need
  unmade_is new n t h runners m =
      let cells : held_cells_of n.held.cells ≡ held_cells_of r.held.cells = ap reverse (of_values schema capacity db n.held.cells ∙ ap (map (to_held schema capacity db)) m.shows.cells ∙ sym (of_values schema capacity db r.held.cells)) in
      let state : unit_state_of schema capacity (record r { held = n.held }) ≡ unit_state_of schema capacity r = λ i. record {
        unit = r.unit;
        guesses = m.shows.guesses i;
        script = r.script;
        remaining = drop r.next r.script;
        progress = progress_shows schema capacity r.held n.held m.shows.areas cells r.progress i;
      } in
      let y = statement schema capacity u old r well numbered at w s in
      let wanting = wants schema capacity u old r well numbered at w s _ (follows schema capacity u old r well numbered at w s Ready needs) NeedsNothing (needs r y.0 at y.1).is (λ others q. absurd (cc (q))) in
      refused_is schema capacity u old r well numbered at w s wanting new n t h runners (ap (unit_state_of schema capacity) m.rest ∙ state)
      (subst (RunnerFits schema capacity) (sym m.rest) (record { settled = λ q. absurd (cc (q, s.before.progress)); guesses = ap length m.shows.guesses ∙ (well.runners (u - 1) r at).guesses; course = λ v q t x is. no_course schema capacity n.held r.unit x }))

  pub drawn_is : (new : Parts) (n : UnitState) → new.table.items ≡ old.table.items → new.runners.items ≡ slice_set old.runners.items (u - 1) n → ((x : Statement) (d : Database) → slice_get r.script r.next ≡ Some x → Agrees schema capacity d r.held r.unit → IsDrawn schema capacity d x u w old.history.items new.history.items r n) → IsStepped schema capacity u Moved old new
  unfolding follows_need with_ticket state_from
  drawn_is new n t runners f =
      let x = there_is r.script r.next s.before.left in
      let d = f x.0 db x.1 (agrees_now schema capacity u old r well numbered at) in
      let done : StatementEffect = effect schema capacity db r.unit x.0 in
      let ticket : StatementProgress = record { exclusive = w.exclusive; turning_back = false; ticket = Some (length old.history.items); linked = 0 } in
      let entry : Entry = record { ticket = length old.history.items; unit = u; statement = x.0; answer = done.answer } in
      let due : held_cells_of n.held.cells ≡ due_cells (network schema capacity) done.database (held_cells_of r.held.cells) = held_are_due schema capacity done.database r.held.cells n.held.cells d.made.cells_are in
      let next : r.next + 1 ≡ suc r.next = omega arith in
      let progress : progress_of schema capacity n.held (progress_while_held n.held.areas n.held.cells (Some ticket)) ≡ unless_over (network schema capacity) (record { exclusive = w.exclusive; areas = reverse r.held.areas; cells = due_cells (network schema capacity) done.database (held_cells_of r.held.cells); turning_back = false; ticket = Some (length old.history.items); linked = 0 }) (reverse r.held.areas) (due_cells (network schema capacity) done.database (held_cells_of r.held.cells)) =
      while_held_is schema capacity n.held ticket ∙ (λ i. unless_over (network schema capacity) (record { exclusive = w.exclusive; areas = reverse (d.made.areas_are i); cells = due i; turning_back = false; ticket = Some (length old.history.items); linked = 0 }) (reverse (d.made.areas_are i)) (due i)) in
      let state = ap (unit_state_of schema capacity) d.rest ∙ (λ i. record { unit = d.made.unit_is i; guesses = d.made.guesses_are i; script = r.script; remaining = drop (next i) r.script; progress = progress i }) in
      let units = ap (map (unit_state_of schema capacity)) (runners ∙ unit_written old.runners.items u n numbered) ∙ map_set (unit_state_of schema capacity) old.runners.items u n ∙ ap (with_unit_at (map (unit_state_of schema capacity) old.runners.items) u) state in
      let history = ap (map (note_of {schema = schema} {capacity = capacity})) d.history_is ∙ map-append note_of old.history.items (entry ∷ []) in
      let counter : length new.history.items ≡ suc (length old.history.items) = let a = ap length d.history_is in let b = length-append old.history.items (entry ∷ []) in omega (arith, a, b) in
      record {
        tells = follows schema capacity u old r well numbered at w s Ready needs ∙ ap MovedTo (sym (λ i. record { location = location_at schema capacity (t i); history = history i; counter = counter i; units = units i }));
        table = ap length t;
        count = ap length runners ∙ length-set old.runners.items (u - 1) n;
        runners = subst (RunnersFit schema capacity) (sym runners) (written_fit schema capacity old.runners.items (u - 1) n well.runners
            (subst (RunnerFits schema capacity) (sym d.rest) (record {
              settled = over_is_empty n.held.areas n.held.cells ticket;
              guesses = ap length d.made.guesses_are ∙ guesses_length schema capacity x.0 r.held.guesses done (well.runners (u - 1) r at).guesses;
              course = λ v q t y is. no_course schema capacity n.held n.unit y;
            })));
      }
