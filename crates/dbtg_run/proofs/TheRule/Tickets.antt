-- The ticket keeps the rule.
use Rattle.std.proofs.Common.{◌≡◌, ℕ, suc, ◌+◌, ◌%◌, ◌<◌, ◌≤◌, ◌^◌, Bool, true, false, List, [], ◌∷◌, ◌++◌, map, length, reverse, set, get_or, Option, Some, None, refl, sym, ap, ◌∙◌, subst, arith, length-set, get_or-set_other, get_or-set_same}
use Rattle.std.proofs.lemmas.List.{length-append, length-map, map-append}
use mathlib.Core.Option.{some, none}
use lib.ListN.{get_elem?}
use Rattle.atomic_table.specs.Table.{State, step, keeps, Allows}
use Rattle.dbtg_cells.specs.declared.cell.Cell.{Cell}
use Rattle.dbtg_cells.specs.declared.name.CellName.{CellName}
use Rattle.dbtg_cells.specs.declared.key.Owner.{Owner}
use Rattle.dbtg_cells.specs.Shown.{CellValue}
use Rattle.dbtg_unit.specs.declared.limits.TheConstants.{MOST_STATEMENTS}
use Rattle.dbtg_unit.specs.declared.held.Need.TheVariants.{Ready}
use Rattle.dbtg_unit.specs.declared.statement.Statement.{Statement}
use Rattle.dbtg_unit.specs.declared.unit.Answer.{Answer}
use Rattle.dbtg_unit.specs.declared.unit.Entry.{Entry}
use Rattle.dbtg_unit.specs.declared.unit.Unit.{Unit}
use Rattle.dbtg_unit.specs.Database.State.Base.{Database}
use Rattle.dbtg_unit.specs.Database.State.Cells.{cell}
use Rattle.dbtg_unit.specs.Database.Statements.Effect.{effect}
use Rattle.dbtg_unit.specs.Database.Statements.Fits.{fits}
use Rattle.dbtg_unit.specs.Hands.Local.{Agrees}
use Rattle.dbtg_unit.specs.Hands.Needs.{need}
use Rattle.dbtg_unit.specs.Hands.Prepared.{values_of}
use Rattle.dbtg_unit.specs.Database.Laws.Replay.{entries_of, opening_state, replay, unit_of}
use Rattle.dbtg_unit.proofs.Public.{entries_mine, entries_other}
use Rattle.dbtg_step.specs.Machine.SequentialDatabase.{NeedsNothing}
use Rattle.dbtg_step.specs.Machine.Machine.{CellLocation, HeldBy, State as Machine}
use Rattle.dbtg_step.specs.Machine.Step.{due_cells}
use Rattle.dbtg_step.specs.Core.Parts.{held_cells_of, note_of}
use Rattle.dbtg_step.proofs.Public.{Drawn, draws as draws_anew, fits_more, held_are_due}
use Rattle.dbtg_run.specs.declared.view.About.{About}
use Rattle.dbtg_run.specs.declared.view.SeatUnit.{SeatUnit}
use Rattle.dbtg_run.specs.declared.view.SeatKnowledge.{SeatKnowledge}
use Rattle.dbtg_run.specs.Inside.Views.{put, latched, drawn, total_below, lone}
use Rattle.dbtg_run.specs.Inside.LatchRule.{net, opens, area_word, cell_word, progress_of, hands_of, AtHome, AreaOk, Shows, TableShows, LatchRule, Recorded, Draws}
use Rattle.dbtg_run.specs.Entries.{entry}
use Rattle.dbtg_run.proofs.TheRule.Base.{put_here, put_else, each_put, below_put, below_same, seats_changed}
use Rattle.dbtg_run.proofs.TheRule.Alone.{few_entries, tells_real}
use Rattle.dbtg_run.proofs.TheRule.Areas.{ok_same}
use Rattle.dbtg_run.proofs.TheRule.CellSteps.{there_here}
use Rattle.dbtg_run.proofs.TheRule.Facts.{database_now, agrees_now, needs_now}
use Rattle.dbtg_run.proofs.TheRule.History.{is_history, unit_is}
use Rattle.dbtg_run.proofs.TheRule.Moves.{laws, sits, is_at_place, mine}

-- the outcome of the statement on a database
pub record Comes (about : About) (m : SeatUnit) (x : Statement) (answer : Answer) (unit' : Unit) (held' : List (CellName × Cell)) (db : Database) : Type 0 where
  pub answer_is : answer ≡ (effect about.schema.value about.capacity db m.unit x).answer
  pub unit_is : unit' ≡ (effect about.schema.value about.capacity db m.unit x).unit
  pub cells_are : values_of held' ≡ map (λ (e : CellName × Cell). (e.0, cell about.schema.value about.capacity (effect about.schema.value about.capacity db m.unit x).database e.0)) m.held

latched_drawn : (y : Bool) (a : ℕ) (m : SeatUnit) (e : Entry) (unit : Unit) (held : List (CellName × Cell)) → latched y a (drawn e unit held m) ≡ latched y a m
latched_drawn true a m e unit held = refl
latched_drawn false a m e unit held = refl

module _ (about : About) (s : State (Option Cell) SeatKnowledge) (K : LatchRule about s) (id : ℕ) (m : SeatUnit) (at : get_elem? s.views id ≡ some (lone about m)) (x : Statement) (g : List (Option Owner)) (answer : Answer) (unit' : Unit) (held' : List (CellName × Cell))
    (fit : fits about.schema.value x ≡ true)
    (ready : (db : Database) → Agrees about.schema.value about.capacity db (hands_of m) m.unit → Ready ≡ need about.schema.value about.capacity db m.unit (record { areas = m.areas; cells = m.held; guesses = g }) x)
    (comes : (db : Database) → Agrees about.schema.value about.capacity db (hands_of m) m.unit → Comes about m x answer unit' held' db)
    (room : length m.journal < MOST_STATEMENTS) where
  abbrev now : ℕ
  now = get_or s.words 0 0

  abbrev new_entry : Entry
  new_entry = entry now (suc m.place) x answer

  abbrev new_member : SeatUnit
  new_member = drawn new_entry unit' held' m

  abbrev new_all : ℕ → SeatUnit
  new_all = put K.all m.place new_member

  abbrev db : Database
  db = database_now about K.worded.machine K.worded.lawful

  my : Shows about K.worded.machine m.place m
  my = mine about s K id m at

  came : Comes about m x answer unit' held' db
  came = comes db (agrees_now about K.worded.machine K.worded.lawful m.place m my)

  draw : (t : Machine (net about)) × Drawn (net about) (laws about s K id m at) (opens about) K.worded.machine (suc m.place) my.state (progress_of about m) x t
  draw = draws_anew (net about) (laws about s K id m at) (opens about) K.worded.machine (suc m.place) my.state (progress_of about m) x g K.worded.lawful my.found my.progress fit
      (subst (λ (u : Unit). (net about).need db u x g (progress_of about m).areas (progress_of about m).cells ≡ NeedsNothing) (sym my.unit)
      (needs_now about K.worded.machine K.worded.lawful m.place m my x g Ready ready))

  count_is : now ≡ length K.worded.log
  count_is = K.worded.counter

  machine_count : K.worded.machine.counter ≡ now
  machine_count = K.worded.lawful.counter ∙ (ap length K.worded.history ∙ (length-map K.worded.log note_of ∙ sym count_is))

  same_unit : {A : Type 0} (f : Unit → A) → f my.state.unit ≡ f m.unit
  same_unit f = ap f my.unit

  history : draw.0.history ≡ map note_of (K.worded.log ++ new_entry ∷ [])
  history =
      let a : (effect about.schema.value about.capacity db my.state.unit x).answer ≡ answer = same_unit (λ u. (effect about.schema.value about.capacity db u x).answer) ∙ sym came.answer_is in
      draw.1.history ∙ ((λ i. K.worded.history i ++ record { ticket = machine_count i; unit = suc m.place; statement = x; answer = a i } ∷ []) ∙ sym (map-append note_of K.worded.log (new_entry ∷ [])))

  shown_now : Shows about draw.0 m.place new_member
  shown_now = record {
    state = draw.1.state_now;
    found = draw.1.found;
    unit = draw.1.unit_is ∙ (same_unit (λ u. (effect about.schema.value about.capacity db u x).unit) ∙ sym came.unit_is);
    progress = draw.1.progress_is ∙ (λ i. Some (record { exclusive = m.exclusive; areas = reverse m.areas; cells = dues i; turning_back = false; ticket = None; linked = 0 }));
  }
    where
      dues : due_cells (net about) (effect about.schema.value about.capacity db my.state.unit x).database (held_cells_of m.held) ≡ held_cells_of held'
      dues = same_unit (λ u. due_cells (net about) (effect about.schema.value about.capacity db u x).database (held_cells_of m.held))
          ∙ sym (held_are_due about.schema.value about.capacity (effect about.schema.value about.capacity db m.unit x).database m.held held' came.cells_are)

  lengths : total_below (λ u. length (new_all u).journal) about.units ≡ length K.worded.log + 1
  lengths =
      let before = λ (u : ℕ). length (K.all u).journal in
      let pointwise : total_below (λ u. length (new_all u).journal) about.units ≡ total_below (put before m.place (length new_member.journal)) about.units
      = below_same (λ u. length (new_all u).journal) (put before m.place (length new_member.journal)) about.units
      (each_put (λ (u : ℕ) (y : SeatUnit). length y.journal ≡ put before m.place (length new_member.journal) u) K.all m.place new_member
      (sym (put_here before m.place (length new_member.journal)))
      (λ u ne. sym (put_else before m.place (length new_member.journal) u ne))) in
      let changed_one : total_below (put before m.place (length new_member.journal)) about.units + length (K.all m.place).journal ≡ total_below before about.units + length new_member.journal
      = below_put before m.place (length new_member.journal) about.units (sits about s K id m at).inside in
      let one_more : length new_member.journal ≡ length m.journal + 1 = length-append m.journal (new_entry ∷ []) in
      let mine_is : length (K.all m.place).journal ≡ length m.journal = ap (λ (y : SeatUnit). length y.journal) (is_at_place about s K id m at) in
      let all_of = K.worded.entries in omega arith

  abbrev words_now : List ℕ
  words_now = set s.words 0 ((now + 1) % 2 ^ 64)

  drew : TableShows about words_now s.homes new_all
  drew =
      let W = K.worded in
      let area : (a : ℕ) → get_or words_now (area_word a) 0 ≡ get_or s.words (area_word a) 0 = λ a. get_or-set_other s.words 0 (area_word a) ((now + 1) % 2 ^ 64) 0 (λ e. omega arith) in
      let cellw : (k : ℕ) → get_or words_now (cell_word about k) 0 ≡ get_or s.words (cell_word about k) 0 = λ k. get_or-set_other s.words 0 (cell_word about k) ((now + 1) % 2 ^ 64) 0 (λ e. omega arith) in
      record {
        log = W.log ++ new_entry ∷ [];
        machine = draw.0;
        wide = length-set s.words 0 ((now + 1) % 2 ^ 64) ∙ W.wide;
        lawful = draw.1.lawful;
        history = history;
        fitting = fits_more about.schema.value W.log new_entry W.fitting fit;
        counter = get_or-set_same s.words 0 ((now + 1) % 2 ^ 64) 0 (let w = W.wide in omega arith) ∙ (let c = count_is in let f = few_entries about s K in omega (arith, length-append W.log (new_entry ∷ [])));
        count = draw.1.count ∙ W.count;
        shows = each_put (λ (u : ℕ) (y : SeatUnit). u < about.units → Shows about draw.0 u y) K.all m.place new_member (λ l. shown_now)
            (λ u ne l. let o = W.shows u l in record { state = o.state; found = draw.1.others (suc u) (λ q. ne (cc (q))) ∙ o.found; unit = o.unit; progress = o.progress });
        place = each_put (λ (u : ℕ) (y : SeatUnit). u < about.units → y.place ≡ u) K.all m.place new_member (λ l. refl) (λ u ne l. W.place u l);
        journal = each_put (λ (u : ℕ) (y : SeatUnit). u < about.units → entries_of (suc u) (W.log ++ new_entry ∷ []) ≡ y.journal) K.all m.place new_member
            (λ l. entries_mine (suc m.place) W.log new_entry refl ∙ ap (λ z. z ++ new_entry ∷ []) (W.journal m.place l ∙ ap (λ (y : SeatUnit). y.journal) (is_at_place about s K id m at)))
            (λ u ne l. entries_other (suc u) W.log new_entry (λ q. ne (cc (sym q))) ∙ W.journal u l);
        short = each_put (λ (u : ℕ) (y : SeatUnit). u < about.units → length y.journal ≤ MOST_STATEMENTS) K.all m.place new_member (λ l. omega (arith, length-append m.journal (new_entry ∷ []))) (λ u ne l. W.short u l);
        none = each_put (λ (u : ℕ) (y : SeatUnit). about.units ≤ u → y.areas ≡ []) K.all m.place new_member (λ l. let k = (sits about s K id m at).inside in absurd (omega arith)) (λ u ne l. W.none u l);
        entries = lengths ∙ sym (length-append W.log (new_entry ∷ []));
        areas = λ a l. subst (λ (n : ℕ). AreaOk n (λ y u. latched y a (new_all u))) (sym (area a))
            (ok_same (get_or s.words (area_word a) 0) (λ y u. latched y a (K.all u)) (λ y u. latched y a (new_all u))
            (λ y u. each_put (λ (u : ℕ) (z : SeatUnit). latched y a z ≡ latched y a (K.all u)) K.all m.place new_member (latched_drawn y a m new_entry unit' held' ∙ sym (ap (λ (z : SeatUnit). latched y a z) (is_at_place about s K id m at))) (λ u ne. refl) u)
            (W.areas a l));
        home = λ k c named free. subst (λ (location : CellName → CellLocation CellValue). AtHome location (get_elem? s.homes k) c) (sym draw.1.location) (W.home k c named (sym (cellw k) ∙ free));
        out = λ k c named busy. ap (λ (location : CellName → CellLocation CellValue). location c) draw.1.location ∙ (W.out k c named (λ z. busy (cellw k ∙ z)) ∙ ap (λ n. HeldBy n) (sym (cellw k)));
      }

  kept_now : LatchRule about record { words = words_now; homes = s.homes; views = set s.views id (lone about new_member) }
  kept_now = record { sound = K.sound; few = K.few; all = new_all; seats = seats_changed about K.all s.views id m new_member at refl K.seats; worded = drew }

  recorded : Recorded about new_member
  unfolding drew
  recorded = record {
    before = K.worded.log;
    last = new_entry;
    mine = m.journal;
    history = is_history about words_now s.homes new_all drew;
    unit = subst (λ (y : SeatUnit). unit_of (replay about.schema.value about.capacity (opening_state about.schema.value about.units) (K.worded.log ++ new_entry ∷ [])) (suc m.place) ≡ Some y.unit) (put_here K.all m.place new_member) (unit_is about words_now s.homes new_all drew m.place (sits about s K id m at).inside);
    entries = subst (λ (y : SeatUnit). entries_of (suc m.place) (K.worded.log ++ new_entry ∷ []) ≡ y.journal) (put_here K.all m.place new_member) (drew.journal m.place (sits about s K id m at).inside);
    ends = refl;
    ticket = count_is;
  }

-- kind 4
pub whole_draw : (about : About) (id : ℕ) (m : SeatUnit) (slots : ℕ) (rest : List (ℕ × Option Cell)) (x : Statement) (g : List (Option Owner)) (answer : Answer) (unit' : Unit) (held' : List (CellName × Cell)) → fits about.schema.value x ≡ true
    → ((db : Database) → Agrees about.schema.value about.capacity db (hands_of m) m.unit → Ready ≡ need about.schema.value about.capacity db m.unit (record { areas = m.areas; cells = m.held; guesses = g }) x)
    → ((db : Database) → Agrees about.schema.value about.capacity db (hands_of m) m.unit → Comes about m x answer unit' held' db)
    → length m.journal < MOST_STATEMENTS
    → Allows (LatchRule about) slots id (lone about m, rest) 0 (λ n. (n + 1) % 2 ^ 64) (Draws x answer unit' held' (step slots 0 1 0 none) (lone about m, rest))
whole_draw about id m slots rest x g answer unit' held' fit ready comes room s K deep at bound = (
  lone about (drawn (entry (get_or s.words 0 0) (suc m.place) x answer) unit' held' m),
  keeps,
  tt,
  kept_now about s K id m at x g answer unit' held' fit ready comes room,
  (
    refl,
    (λ y is. subst (λ (z : SeatUnit). (db : Database) × Agrees about.schema.value about.capacity db (hands_of z) z.unit) (heads m y is)
        (database_now about K.worded.machine K.worded.lawful, agrees_now about K.worded.machine K.worded.lawful m.place m (mine about s K id m at))),
    (λ y is. subst (Recorded about) (heads (drawn (entry (get_or s.words 0 0) (suc m.place) x answer) unit' held' m) y is) (recorded about s K id m at x g answer unit' held' fit ready comes room)),
    tells_real about _ (kept_now about s K id m at x g answer unit' held' fit ready comes room) id (drawn (entry (get_or s.words 0 0) (suc m.place) x answer) unit' held' m) (there_here s.views id (lone about m) _ at),
  ),
)
  where
    heads : (p q : SeatUnit) → p ∷ [] ≡ q ∷ [] → p ≡ q
    heads p q e = cc (e)
