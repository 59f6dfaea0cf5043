-- A lawful state of the machine over the network database is what the headline says.
use Rattle.std.proofs.Common.{ℕ, zero, suc, ◌+◌, ◌-◌, ◌≡◌, Bool, true, false, cond, eqb, List, [], ◌∷◌, ◌++◌, length, map, Option, Some, None, slice_get, slice_set, refl, sym, ap, ◌∙◌, subst, inl, inr, arith}
use Rattle.std.specs.Prelude.{option_map, replicate}
use Rattle.std.specs.List.{range_with_len, list_all}
use Rattle.std.proofs.lemmas.Bool.{and_parts}
use Rattle.std.proofs.lemmas.Option.{same_Some}
use Rattle.std.proofs.lemmas.List.{length-map}
use Rattle.dbtg_schema.specs.Lists.{Lists}
use Rattle.dbtg_unit.specs.declared.statement.Statement.{Statement}
use Rattle.dbtg_unit.specs.declared.unit.Unit.{Unit}
use Rattle.dbtg_unit.specs.declared.unit.Entry.{Entry}
use Rattle.dbtg_unit.specs.Database.State.Base.{opening}
use Rattle.dbtg_unit.specs.Database.Statements.Effect.{effect}
use Rattle.dbtg_unit.specs.Database.Statements.Fits.{fits}
use Rattle.dbtg_unit.specs.Database.State.Image.{image_of}
use Rattle.dbtg_unit.specs.Database.State.LegalWith.{LegalWith}
use Rattle.dbtg_unit.specs.Database.State.Units.{opening_unit}
use Rattle.dbtg_unit.specs.Database.Laws.Replay.{State as DatabaseState, after_entry as after_one, entries_of, replay as replay_entries, AnswersHold as AnswersAre, TicketsInOrder, effect_of_unit, after_effect}
use Rattle.dbtg_step.specs.Machine.SequentialDatabase.{In, unit_at, with_unit_at}
use Rattle.dbtg_step.specs.Inside.SequentialDatabase.{IsSequentialDatabase}
use Rattle.dbtg_step.specs.Machine.Machine.{UnitState, HistoryEntry, State, SequentialState, with_effect, after_entry, replay, AnswersHold, statements_of}
use Rattle.dbtg_step.specs.Machine.Lawful.{Lawful, IsOpening}
use Rattle.dbtg_step.specs.Machine.Network.{network}
use Rattle.dbtg_step.specs.Machine.Headline.{IsSequential, entry_of, machine_after, machine_of, opening_of, units_from}
use Rattle.dbtg_step.specs.Laws.{scripts_fit}
use Rattle.dbtg_unit.specs.declared.moves.Move.{Move}
use Rattle.dbtg_step.proofs.EachEvent.Keeps.{run_keeps}
use Rattle.dbtg_step.proofs.Runs.Opening.{opening_is_lawful}
use Rattle.dbtg_step.proofs.Runs.Histories.{run_keeps_scripts}
use Rattle.dbtg_step.proofs.Runs.Waiting.{came_from}

module _ (schema : Lists) (capacity : ℕ) where
  abbrev state_of : SequentialState (network schema capacity) → DatabaseState
  state_of q = record { database = q.database; units = q.units }

  after_unit : (q : SequentialState (network schema capacity)) (u : ℕ) (x : Statement) → state_of (with_effect (network schema capacity) q u x (unit_at q.units u)) ≡ after_effect (state_of q) u (effect_of_unit schema capacity (state_of q) u x)
  unfolding with_effect unit_at with_unit_at
  after_unit q zero x = refl
  after_unit q (suc n) x = go (slice_get q.units n)
    where
      go : (o : Option Unit) → state_of (with_effect (network schema capacity) q (suc n) x o) ≡ after_effect (state_of q) (suc n) (option_map (λ unit. effect schema capacity q.database unit x) o)
      go None = refl
      go (Some unit) = let index : n ≡ suc n - 1 = omega arith in λ i. record { database = (effect schema capacity q.database unit x).database; units = slice_set q.units (index i) (effect schema capacity q.database unit x).unit }

  after_same : (q : SequentialState (network schema capacity)) (e : HistoryEntry (network schema capacity)) → state_of (after_entry (network schema capacity) q e) ≡ after_one schema capacity (state_of q) (entry_of e)
  unfolding after_entry
  after_same q e = after_unit q e.unit e.statement

  -- the two replays are one
  pub replays_same : (q : SequentialState (network schema capacity)) (es : List (HistoryEntry (network schema capacity))) → state_of (replay (network schema capacity) q es) ≡ replay_entries schema capacity (state_of q) (map entry_of es)
  unfolding replay replay_entries
  replays_same q [] = refl
  replays_same q (e ∷ es) = replays_same (after_entry (network schema capacity) q e) es ∙ ap (λ s. replay_entries schema capacity s (map entry_of es)) (after_same q e)

  answer_found : (q : SequentialState (network schema capacity)) (u : ℕ) (x : Statement) (unit : Unit) → unit_at q.units u ≡ Some unit → effect_of_unit schema capacity (state_of q) u x ≡ Some (effect schema capacity q.database unit x)
  unfolding unit_at
  answer_found q zero x unit e = absurd (cc (e))
  answer_found q (suc n) x unit e = ap (option_map (λ unit. effect schema capacity q.database unit x)) e

  pub answers_same : (q : SequentialState (network schema capacity)) (es : List (HistoryEntry (network schema capacity))) → AnswersHold (network schema capacity) q es → AnswersAre schema capacity (state_of q) (map entry_of es)
  unfolding AnswersHold AnswersAre
  answers_same q [] h = tt
  answers_same q (e ∷ es) h = (
    ap (option_map (λ o. o.answer)) (answer_found q e.unit e.statement h.0 h.1) ∙ ap Some h.2,
    subst (λ s. AnswersAre schema capacity s (map entry_of es)) (after_same q e) (answers_same (after_entry (network schema capacity) q e) es h.3),
  )

  statements_filtered : (b : Bool) (e : HistoryEntry (network schema capacity)) (es : List Entry) (xs : List Statement) → map (λ (f : Entry). f.statement) es ≡ xs → map (λ (f : Entry). f.statement) (cond b (entry_of e ∷ es) es) ≡ cond b (e.statement ∷ xs) xs
  statements_filtered true e es xs h = ap (λ ys. e.statement ∷ ys) h
  statements_filtered false e es xs h = h

  pub statements_same : (u : ℕ) (es : List (HistoryEntry (network schema capacity))) → map (λ (f : Entry). f.statement) (entries_of u (map entry_of es)) ≡ statements_of (network schema capacity) u es
  unfolding statements_of
  statements_same u [] = refl
  statements_same u (e ∷ es) = statements_filtered (eqb e.unit u) e (entries_of u (map entry_of es)) _ (statements_same u es)

  tickets_from : (n : ℕ) (es : List (HistoryEntry (network schema capacity))) → ((k : ℕ) (e : HistoryEntry (network schema capacity)) → slice_get es k ≡ Some e → e.ticket ≡ n + k) → map (λ (f : Entry). f.ticket) (map entry_of es) ≡ range_with_len n (length es)
  tickets_from n [] h = refl
  tickets_from n (e ∷ es) h =
      let first : e.ticket ≡ n = h 0 e refl ∙ omega arith in
      let rest = tickets_from (n + 1) es (λ k f g. h (suc k) f g ∙ omega arith) in
      λ i. first i ∷ rest i

  pub tickets_in_order : (es : List (HistoryEntry (network schema capacity))) → ((k : ℕ) (e : HistoryEntry (network schema capacity)) → slice_get es k ≡ Some e → e.ticket ≡ k) → TicketsInOrder (map entry_of es)
  tickets_in_order es h = tickets_from 0 es (λ k e g. h k e g ∙ omega arith) ∙ ap (range_with_len 0) (sym (length-map es entry_of))

-- THE OPENING STATE

units_opening : (schema : Lists) (capacity n : ℕ) (scripts : List (List Statement)) → map (λ (x : UnitState (network schema capacity)). x.unit) (units_from schema capacity n scripts) ≡ map (opening_unit schema) (range_with_len n (length scripts))
units_opening schema capacity n [] = refl
units_opening schema capacity n (x ∷ xs) =
    let next : suc n ≡ n + 1 = omega arith in
    let rest = units_opening schema capacity (suc n) xs in
    λ i. opening_unit schema n ∷ (rest ∙ ap (λ m. map (opening_unit schema) (range_with_len m (length xs))) next) i

-- the scripts of the units that begin with them
pub scripts_opening : (schema : Lists) (capacity n : ℕ) (scripts : List (List Statement)) → map (λ (x : UnitState (network schema capacity)). x.script) (units_from schema capacity n scripts) ≡ scripts
scripts_opening schema capacity n [] = refl
scripts_opening schema capacity n (x ∷ xs) = ap (λ ys. x ∷ ys) (scripts_opening schema capacity (suc n) xs)

-- a unit of the opening state stands before a script that fits
record IsBefore (schema : Lists) (capacity : ℕ) (state : UnitState (network schema capacity)) : Type 0 where
  idle : state.progress ≡ None
  whole : state.remaining ≡ state.script
  fit : list_all (fits schema) state.script ≡ true

all_before : (schema : Lists) (capacity n : ℕ) (scripts : List (List Statement)) → scripts_fit schema scripts ≡ true → (i : ℕ) (state : UnitState (network schema capacity)) → slice_get (units_from schema capacity n scripts) i ≡ Some state → IsBefore schema capacity state
all_before schema capacity n [] f i state e = absurd (cc (e))
all_before schema capacity n (x ∷ xs) f zero state e =
    let same : record { unit = opening_unit schema n; guesses = replicate (length schema.sets) None; script = x; remaining = x; progress = None } ≡ state = same_Some _ state e in
    subst (IsBefore schema capacity) same (record { idle = refl; whole = refl; fit = (and_parts _ _ f).0 })
all_before schema capacity n (x ∷ xs) f (suc i) state e = all_before schema capacity (suc n) xs (and_parts _ _ f).1 i state e

fits_in : (schema : Lists) (xs : List Statement) (x : Statement) → list_all (fits schema) xs ≡ true → In x xs → fits schema x ≡ true
fits_in schema [] x f i = absurd i
fits_in schema (y ∷ ys) x f (inl q) = subst (λ z. fits schema z ≡ true) (sym q) (and_parts _ _ f).0
fits_in schema (y ∷ ys) x f (inr i) = fits_in schema ys x (and_parts _ _ f).1 i

module _ (schema : Lists) (capacity : ℕ) (scripts : List (List Statement)) (legal : LegalWith schema capacity (opening schema) (opening_of schema capacity (length scripts)).units) (fit : scripts_fit schema scripts ≡ true) where
  before : (u : ℕ) (state : UnitState (network schema capacity)) → unit_at (units_from schema capacity 1 scripts) u ≡ Some state → IsBefore schema capacity state
  unfolding unit_at
  before zero state e = absurd (cc (e))
  before (suc i) state e = all_before schema capacity 1 scripts fit i state e

  pub machine_is_opening : IsOpening (network schema capacity) (opening_of schema capacity (length scripts)) (machine_of schema capacity scripts)
  machine_is_opening = record {
    location = λ c. refl;
    history = refl;
    counter = refl;
    units = units_opening schema capacity 1 scripts;
    legal = legal;
    idle = λ u state at. let b = before u state at in (b.idle, b.whole);
    fits = λ u state x at i. fits_in schema state.script x (before u state at).fit i;
  }

  module _ (facts : IsSequentialDatabase (network schema capacity)) (moves : List Move) where
    abbrev pub first : SequentialState (network schema capacity)
    first = opening_of schema capacity (length scripts)

    abbrev pub last : State (network schema capacity)
    last = machine_after schema capacity scripts moves

    pub machine_stays_lawful : Lawful (network schema capacity) first last
    unfolding machine_after
    machine_stays_lawful = run_keeps (network schema capacity) facts first (machine_of schema capacity scripts) moves (opening_is_lawful (network schema capacity) facts first (machine_of schema capacity scripts) machine_is_opening)

    scripts_are : map (λ (x : UnitState (network schema capacity)). x.script) last.units ≡ scripts
    unfolding machine_after
    scripts_are = run_keeps_scripts (network schema capacity) first (machine_of schema capacity scripts) moves ∙ scripts_opening schema capacity 1 scripts

    script_begins : (u : ℕ) (script : List Statement) → unit_at scripts u ≡ Some script → (remaining : List Statement) × (map (λ (e : Entry). e.statement) (entries_of u (map entry_of last.history)) ++ remaining ≡ script)
    script_begins u script at =
        let found = came_from (λ (x : UnitState (network schema capacity)). x.script) last.units u script (subst (λ xs. unit_at xs u ≡ Some script) (sym scripts_are) at) in
        (found.it.remaining, ap (λ xs. xs ++ found.it.remaining) (statements_same schema capacity u last.history) ∙ (machine_stays_lawful.each u found.it found.at).script ∙ found.is)

    pub run_is_sequential : IsSequential schema capacity scripts (map entry_of last.history) (image_of schema capacity (replay (network schema capacity) first last.history).database) (map (λ (x : UnitState (network schema capacity)). x.unit) last.units)
    run_is_sequential = record {
      tickets = tickets_in_order schema capacity last.history machine_stays_lawful.tickets;
      answers = answers_same schema capacity first last.history machine_stays_lawful.answers;
      image_is = ap (λ (q : DatabaseState). image_of schema capacity q.database) (replays_same schema capacity first last.history);
      units_are = machine_stays_lawful.units ∙ ap (λ (q : DatabaseState). q.units) (replays_same schema capacity first last.history);
      scripts_begin = script_begins;
    }
