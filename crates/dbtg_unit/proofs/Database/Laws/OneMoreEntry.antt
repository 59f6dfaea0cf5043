-- The replay of one more entry, and of statements.
use Rattle.std.proofs.Common.{◌≡◌, refl, sym, ◌∙◌, ap, ℕ, zero, suc, ◌+◌, List, [], ◌∷◌, ◌++◌, length, Option, Some, None, arith, eqb, map, length-append, cond, eq-eqb, ne_eqb, ◌≢◌, append-nil}
use Rattle.std.specs.Prelude.{option_map, slice_get, slice_set}
use Rattle.std.specs.List.{range_with_len}
use Rattle.std.proofs.lemmas.List.Elements.{filter-append}
use Rattle.std.proofs.lemmas.List.{map-append, length-map}
use Rattle.std.proofs.lemmas.List.FromFn.{length-range_with_len}
use Rattle.dbtg_schema.specs.Lists.{Lists}
use Rattle.dbtg_unit.specs.declared.unit.Unit.{Unit}
use Rattle.dbtg_unit.specs.declared.unit.Entry.{Entry}
use Rattle.dbtg_unit.specs.Database.Statements.Effect.{StatementEffect, effect}
use Rattle.dbtg_unit.specs.Database.Laws.Replay.{State, AnswersHold, TicketsInOrder, after, after_entry, after_effect, opening_state, effect_of_unit, replay, unit_of, entries_of}
use Rattle.dbtg_unit.specs.Database.Laws.Replaying.{ReplaysOneMore, IsDetermined}
use Rattle.dbtg_unit.specs.Database.Laws.Forward.{GoesForward, ReplayGoesForward}
use Rattle.dbtg_unit.specs.Database.State.Versions.{VersionsUpTo}
use Rattle.dbtg_unit.specs.Database.State.Units.{opening_unit}
use Rattle.dbtg_unit.proofs.Database.Laws.GoForward.{each_goes_forward, same_forward}

-- one history after another
pub replay_append : (schema : Lists) (capacity : ℕ) (state : State) (xs ys : List Entry) → replay schema capacity state (xs ++ ys) ≡ replay schema capacity (replay schema capacity state xs) ys
unfolding replay
replay_append schema capacity state [] ys = refl
replay_append schema capacity state (x ∷ xs) ys = replay_append schema capacity (after_entry schema capacity state x) xs ys

pub answers_append : (schema : Lists) (capacity : ℕ) (state : State) (xs ys : List Entry) → AnswersHold schema capacity state xs → AnswersHold schema capacity (replay schema capacity state xs) ys → AnswersHold schema capacity state (xs ++ ys)
unfolding replay AnswersHold
answers_append schema capacity state [] ys h g = g
answers_append schema capacity state (x ∷ xs) ys h g = (h.0, answers_append schema capacity (after_entry schema capacity state x) xs ys h.1 g)

pub earlier_answers_hold : (schema : Lists) (capacity : ℕ) (state : State) (xs ys : List Entry) → AnswersHold schema capacity state (xs ++ ys) → AnswersHold schema capacity state xs
unfolding replay AnswersHold
earlier_answers_hold schema capacity state [] ys h = tt
earlier_answers_hold schema capacity state (x ∷ xs) ys h = (h.0, earlier_answers_hold schema capacity (after_entry schema capacity state x) xs ys h.1)

pub answers_behind : (schema : Lists) (capacity : ℕ) (state : State) (xs ys : List Entry) → AnswersHold schema capacity state (xs ++ ys) → AnswersHold schema capacity (replay schema capacity state xs) ys
unfolding replay AnswersHold
answers_behind schema capacity state [] ys h = h
answers_behind schema capacity state (x ∷ xs) ys h = answers_behind schema capacity (after_entry schema capacity state x) xs ys h.1

-- TICKETS

-- one number more
pub range_more : (n a : ℕ) → range_with_len a (suc n) ≡ range_with_len a n ++ (a + n) ∷ []
range_more zero a = ap (λ m. m ∷ []) (omega arith)
range_more (suc n) a = ap (λ ms. a ∷ ms) (range_more n (a + 1) ∙ ap (λ m. range_with_len (a + 1) n ++ m ∷ []) (omega arith))

-- the last element, and those before it
init : {X : Type 0} → List X → List X
init [] = []
init (x ∷ []) = []
init (x ∷ (y ∷ ys)) = x ∷ init (y ∷ ys)

init_push : {X : Type 0} (xs : List X) (y : X) → init (xs ++ y ∷ []) ≡ xs
unfolding init
init_push [] y = refl
init_push (x ∷ []) y = refl
init_push (x ∷ (z ∷ xs)) y = ap (λ zs. x ∷ zs) (init_push (z ∷ xs) y)

last_of : {X : Type 0} → X → List X → X
last_of d [] = d
last_of d (x ∷ xs) = last_of x xs

last_of_push : {X : Type 0} (d : X) (xs : List X) (y : X) → last_of d (xs ++ y ∷ []) ≡ y
unfolding last_of
last_of_push d [] y = refl
last_of_push d (x ∷ xs) y = last_of_push x xs y

module _ (history : List Entry) (entry : Entry) where
  tickets_are : map (λ (e : Entry). e.ticket) (history ++ entry ∷ []) ≡ map (λ (e : Entry). e.ticket) history ++ entry.ticket ∷ []
  tickets_are = map-append (λ (e : Entry). e.ticket) history (entry ∷ [])

  range_is : range_with_len 0 (length (history ++ entry ∷ [])) ≡ range_with_len 0 (length history) ++ length history ∷ []
  range_is = ap (range_with_len 0) longer ∙ range_more (length history) 0 ∙ ap (λ m. range_with_len 0 (length history) ++ m ∷ []) (omega arith) where
    longer : length (history ++ entry ∷ []) ≡ suc (length history)
    longer = omega (arith, length-append history (entry ∷ []))

  pub tickets_go_on : TicketsInOrder history → entry.ticket ≡ length history → TicketsInOrder (history ++ entry ∷ [])
  tickets_go_on h e = tickets_are ∙ (λ i. h i ++ e i ∷ []) ∙ sym range_is

  pushed : TicketsInOrder (history ++ entry ∷ []) → map (λ (e : Entry). e.ticket) history ++ entry.ticket ∷ [] ≡ range_with_len 0 (length history) ++ length history ∷ []
  pushed h = sym tickets_are ∙ h ∙ range_is

  pub earlier_tickets_in_order : TicketsInOrder (history ++ entry ∷ []) → TicketsInOrder history
  earlier_tickets_in_order h = sym (init_push _ entry.ticket) ∙ ap init (pushed h) ∙ init_push _ (length history)

  pub last_ticket_is_next : TicketsInOrder (history ++ entry ∷ []) → entry.ticket ≡ length history
  last_ticket_is_next h = sym (last_of_push 0 _ entry.ticket) ∙ ap (last_of 0) (pushed h) ∙ last_of_push 0 _ (length history)

-- UNITS

slice_get_set_other : {X : Type 0} (xs : List X) (i j : ℕ) (x : X) → (i ≡ j → ⊥) → slice_get (slice_set xs i x) j ≡ slice_get xs j
slice_get_set_other [] i j x h = refl
slice_get_set_other (y ∷ xs) zero zero x h = absurd (h refl)
slice_get_set_other (y ∷ xs) zero (suc j) x h = refl
slice_get_set_other (y ∷ xs) (suc i) zero x h = refl
slice_get_set_other (y ∷ xs) (suc i) (suc j) x h = slice_get_set_other xs i j x (λ e. h (ap suc e))

-- an entry leaves each other unit as it was
pub other_unit : (schema : Lists) (capacity : ℕ) (state : State) (entry : Entry) (number : ℕ) → (entry.unit ≡ number → ⊥) → unit_of (after_entry schema capacity state entry) number ≡ unit_of state number
other_unit schema capacity state entry number h = by_unit entry.unit number h where
  by_number : (m number : ℕ) (outcome : StatementEffect) → (suc m ≡ number → ⊥) → unit_of (after state (suc m) outcome) number ≡ unit_of state number
  by_number m zero outcome h = refl
  by_number m (suc n) outcome h = ap (λ i. slice_get (slice_set state.units i outcome.unit) n) (omega arith) ∙ slice_get_set_other state.units m n outcome.unit (λ e. h (ap suc e))

  by_outcome : (m number : ℕ) → (suc m ≡ number → ⊥) → (outcome : Option StatementEffect) → unit_of (after_effect state (suc m) outcome) number ≡ unit_of state number
  by_outcome m number h None = refl
  by_outcome m number h (Some outcome) = by_number m number outcome h

  by_unit : (m number : ℕ) → (m ≡ number → ⊥) → unit_of (after_effect state m (effect_of_unit schema capacity state m entry.statement)) number ≡ unit_of state number
  by_unit zero number h = refl
  by_unit (suc m) number h = by_outcome m number h (effect_of_unit schema capacity state (suc m) entry.statement)

pub replays_one_more : (schema : Lists) (capacity : ℕ) (state : State) (history : List Entry) (entry : Entry) → ReplaysOneMore schema capacity state history entry
unfolding replay AnswersHold
replays_one_more schema capacity state history entry =
    let state_is : replay schema capacity state (history ++ entry ∷ []) ≡ after_entry schema capacity (replay schema capacity state history) entry = replay_append schema capacity state history (entry ∷ []) in
    record {
      state_is = state_is;
      answers_on = λ h g. answers_append schema capacity state history (entry ∷ []) h (g, tt);
      answers_before = λ h. earlier_answers_hold schema capacity state history (entry ∷ []) h;
      answer_is = λ h. (answers_behind schema capacity state history (entry ∷ []) h).0;
      tickets_on = λ h e. tickets_go_on history entry h e;
      tickets_before = λ h. earlier_tickets_in_order history entry h;
      ticket_is = λ h. last_ticket_is_next history entry h;
      entries_are = λ number. filter-append (λ (e : Entry). eqb e.unit number) history (entry ∷ []);
      others = λ number h. ap (λ s. unit_of s number) state_is ∙ other_unit schema capacity (replay schema capacity state history) entry number h;
    }

-- STATEMENTS ALONE

pub statements_determine : (schema : Lists) (capacity : ℕ) (state : State) (history : List Entry) → IsDetermined schema capacity state history
unfolding replay AnswersHold
statements_determine schema capacity state [] = record { state_is = refl; answers_are = λ h. refl }
statements_determine schema capacity state (e ∷ es) =
    let rest = statements_determine schema capacity (after_entry schema capacity state e) es in
    record { state_is = rest.state_is; answers_are = λ h. λ i. sym h.0 i ∷ rest.answers_are h.1 i }

-- FORWARD

-- the database after an entry is as it was, or what a statement made of it
pub entry_forward : (schema : Lists) (capacity : ℕ) (state : State) (entry : Entry) → GoesForward state.database (after_entry schema capacity state entry).database
entry_forward schema capacity state entry = by_unit (unit_of state entry.unit) where
  by_unit : (unit : Option Unit) → GoesForward state.database (after_effect state entry.unit (option_map (λ unit. effect schema capacity state.database unit entry.statement) unit)).database
  by_unit None = same_forward state.database
  by_unit (Some unit) = each_goes_forward schema capacity state.database unit entry.statement

pub versions_replay : (schema : Lists) (capacity : ℕ) (state : State) (bound : ℕ) (history : List Entry) → VersionsUpTo bound state.database → VersionsUpTo (bound + length history) (replay schema capacity state history).database
unfolding replay
versions_replay schema capacity state bound [] h k = let here = h k in omega arith
versions_replay schema capacity state bound (e ∷ es) h k =
    let step : VersionsUpTo (bound + 1) (after_entry schema capacity state e).database = λ x. let old = h x in let new = (entry_forward schema capacity state e).versions x in omega arith in
    let rest = versions_replay schema capacity (after_entry schema capacity state e) (bound + 1) es step k in
    omega arith

pub versions_are_bounded : (schema : Lists) (capacity units : ℕ) (history : List Entry) → VersionsUpTo (length history) (replay schema capacity (opening_state schema units) history).database
versions_are_bounded schema capacity units history k =
    let bound = versions_replay schema capacity (opening_state schema units) 0 history (λ x. omega arith) k in omega arith

pub replay_goes_forward : (schema : Lists) (capacity : ℕ) (state : State) (entries : List Entry) → ReplayGoesForward schema capacity state entries
unfolding replay
replay_goes_forward schema capacity state [] = record { generations = λ t n. omega arith; deleted = λ k h. h }
replay_goes_forward schema capacity state (e ∷ es) =
    let step = entry_forward schema capacity state e in
    let rest = replay_goes_forward schema capacity (after_entry schema capacity state e) es in
    record { generations = λ t n. let a = step.generations t n in let b = rest.generations t n in omega arith; deleted = λ k h. rest.deleted k (step.deleted k h) }

-- there are as many units at the beginning as are wanted
pub opening_length : (schema : Lists) (units : ℕ) → length (opening_state schema units).units ≡ units
opening_length schema units = length-map (range_with_len 1 units) (opening_unit schema) ∙ length-range_with_len 1 units

-- a unit's entries with one more entry
pub entries_more : (u : ℕ) (before : List Entry) (e : Entry) → entries_of u (before ++ e ∷ []) ≡ entries_of u before ++ cond (eqb e.unit u) (e ∷ []) []
entries_more u before e = filter-append (λ x. eqb x.unit u) before (e ∷ [])

-- an entry of the unit comes after its others
pub entries_mine : (u : ℕ) (log : List Entry) (e : Entry) → e.unit ≡ u → entries_of u (log ++ e ∷ []) ≡ entries_of u log ++ e ∷ []
entries_mine u log e q = entries_more u log e ∙ ap (λ b. entries_of u log ++ cond b (e ∷ []) []) (eq-eqb e.unit u q)

-- an entry of another unit leaves the unit's as they are
pub entries_other : (u : ℕ) (log : List Entry) (e : Entry) → e.unit ≢ u → entries_of u (log ++ e ∷ []) ≡ entries_of u log
entries_other u log e n = entries_more u log e ∙ (ap (λ b. entries_of u log ++ cond b (e ∷ []) []) (ne_eqb e.unit u n) ∙ append-nil (entries_of u log))
