-- What comes after a state depends only on its essence.
-- m is a meeting, u a unit, o and p are orders.
use Rattle.std.proofs.Common.{◌≡◌, ℕ, zero, suc, ◌+◌, ◌-◌, Bool, true, false, ◌&&◌, List, [], ◌∷◌, ◌++◌, length, Option, Some, None, refl, ap, sym, ◌∙◌, slice_get, arith}
use Rattle.std.specs.Prelude.{◌==◌, if◌then◌else◌, is_some, not, option_and_then, option_map, slice_set}
use Rattle.std.specs.List.{list_any, range_with_len}
use Rattle.dbtg_schema.specs.Lists.{Lists}
use Rattle.dbtg_unit.specs.declared.statement.Statement.{Statement}
use Rattle.dbtg_unit.specs.declared.unit.Answer.{Answer}
use Rattle.dbtg_unit.specs.declared.unit.Entry.{Entry}
use Rattle.dbtg_unit.specs.Database.Statements.Effect.{StatementEffect}
use Rattle.dbtg_unit.specs.Database.Statements.Fits.{fits}
use Rattle.dbtg_unit.specs.Database.Laws.Replay.{State, after, after_effect, entries_of, opening_state, effect_of_unit}
use Rattle.dbtg_unit.proofs.Public.{entries_mine, entries_other, replays_one_more}
use Rattle.dbtg_program.specs.declared.program.Program.{Program}
use Rattle.dbtg_program.specs.States.{ProgramState, beginning as program_beginning}
use Rattle.dbtg_program.specs.Going.{Due, after_due, due, ended, next, state_after as program_state_after, told}
use Rattle.dbtg_step.specs.Machine.SequentialDatabase.{unit_at, with_unit_at}
use Rattle.dbtg_going.specs.Turns as turns
use Rattle.dbtg_going.specs.Turns.{comes, made, statement_due}
use Rattle.dbtg_going.proofs.Turning.{state_behind}
use Rattle.dbtg_explore.specs.Counted.{counted, counted_each}
use Rattle.dbtg_explore.specs.Orders.{Meeting, after_order, after_turn, can_go_on, can_turn, due_of, history_of}
use Rattle.dbtg_explore.specs.Laws.{answer_of}
use Rattle.dbtg_explore.specs.States.{Essence, MeetingState, comes_of_each, essence, essence_of, sequential_after, state_after, state_of}
use Rattle.dbtg_explore.specs.Versions.{essential}
use Rattle.dbtg_explore.proofs.Counted.{counted_at, counted_by, counted_due, counted_says, counted_with, next_same}
use Rattle.dbtg_explore.proofs.Turning.{history_on}
use Rattle.dbtg_explore.proofs.Versions.Same.{IsKept, both_step, history_kept}

-- WHAT A STATE SAYS

-- the statement that is due in the program of unit u
abbrev pub due_in : Meeting → List Due → ℕ → Option Statement
due_in m dues u = option_and_then (statement_due m.schema) (unit_at dues u)

-- the unit can have its turn
abbrev pub can_turn_in : Meeting → List Due → ℕ → Bool
can_turn_in m dues u =
    is_some (due_in m dues u)
    && not (m.last_waits && (u == length m.programs && list_any (λ v. is_some (due_in m dues v)) (range_with_len 1 (length m.programs - 1))))

-- what comes of a program after this answer
abbrev pub comes_then : Lists → Program → Answer → Due → Due
comes_then schema program answer (due at s) = next schema program (told program at s answer)
comes_then schema program answer (ended at how) = ended at how

-- the programs, after that of unit u has gone on
abbrev pub programs_then : Lists → List Due → ℕ → Answer → Option Program → Option Due → List Due
programs_then schema dues u answer (Some program) (Some d) = with_unit_at dues u (comes_then schema program answer d)
programs_then schema dues u answer (Some program) None = dues
programs_then schema dues u answer None d = dues

-- the state after this outcome of the statement of unit u
abbrev pub with_outcome : Meeting → MeetingState → ℕ → Option StatementEffect → MeetingState
with_outcome m state u None = state
with_outcome m state u (Some o) = record {
  sequential = after state.sequential u o;
  programs = programs_then m.schema state.programs u o.answer (unit_at m.programs u) (unit_at state.programs u);
}

-- the state after the statement, if there is one
abbrev pub with_made : Meeting → MeetingState → ℕ → Option Statement → MeetingState
with_made m state u None = state
with_made m state u (Some s) = with_outcome m state u (effect_of_unit m.schema m.capacity state.sequential u s)

-- the state after a turn of unit u
abbrev pub state_then : Meeting → MeetingState → ℕ → MeetingState
state_then m state u = with_made m state u (due_in m state.programs u)

-- WHAT COUNTS OF THE PROGRAMS

-- a program of which the same counts goes on alike
pub comes_same : (schema : Lists) (program : Program) (answer : Answer) (d e : Due) → counted program d ≡ counted program e → counted program (comes_then schema program answer d) ≡ counted program (comes_then schema program answer e)
comes_same schema program answer (due x s) (due y t) is =
    let said : s ≡ t = cc in
    next_same program schema x y s answer (ap (λ (d : Due). (turns.state_in d).at) is) (ap (λ (d : Due). (turns.state_in d).values) is)
    ∙ ap (λ v. counted program (next schema program (told program y v answer))) said
comes_same schema program answer (ended x how) (ended y other) is = is
comes_same schema program answer (due x s) (ended y other) is = absurd cc
comes_same schema program answer (ended x how) (due y t) is = absurd cc

module _ (schema : Lists) (ps : List Program) (u : ℕ) (ds es : List Due) (same : counted_each ps ds ≡ counted_each ps es) where
  then_same : (answer : Answer) → counted_each ps (programs_then schema ds u answer (unit_at ps u) (unit_at ds u)) ≡ counted_each ps (programs_then schema es u answer (unit_at ps u) (unit_at es u))
  then_same answer = by (unit_at ps u) refl (unit_at ds u) (unit_at es u) (sym (counted_at ps ds u) ∙ ap (λ l. unit_at l u) same ∙ counted_at ps es u) where
    by : (o : Option Program) → unit_at ps u ≡ o → (d e : Option Due) → option_map (counted_by (unit_at ps u)) d ≡ option_map (counted_by (unit_at ps u)) e → counted_each ps (programs_then schema ds u answer o d) ≡ counted_each ps (programs_then schema es u answer o e)
    by None found d e is = same
    by (Some p) found None None is = same
    by (Some p) found None (Some e) is = absurd cc
    by (Some p) found (Some d) None is = absurd cc
    by (Some p) found (Some d) (Some e) is =
        let one : counted_by (unit_at ps u) d ≡ counted_by (unit_at ps u) e = cc in
        let own : counted p d ≡ counted p e = ap (λ o. counted_by o d) (sym found) ∙ one ∙ ap (λ o. counted_by o e) found in
        counted_with ps ds u (comes_then schema p answer d)
        ∙ (λ i. with_unit_at (same i) u (counted_by (found i) (comes_then schema p answer d)))
        ∙ ap (with_unit_at (counted_each ps es) u) (comes_same schema p answer d e own)
        ∙ (λ i. with_unit_at (counted_each ps es) u (counted_by (sym found i) (comes_then schema p answer e)))
        ∙ sym (counted_with ps es u (comes_then schema p answer e))

-- EACH PROGRAM

module _ (m : Meeting) where
  comes_there : (history : List Entry) (k : ℕ) (ps : List Program) (i : ℕ) → slice_get (comes_of_each m history k ps) i ≡ option_map (λ (p : Program). comes m.schema p (k + i) history) (slice_get ps i)
  comes_there history k [] i = refl
  comes_there history k (p ∷ ps) zero = let same : k + 0 ≡ k = omega arith in ap (λ v. Some (comes m.schema p v history)) (sym same)
  comes_there history k (p ∷ ps) (suc i) =
      let same : (k + 1) + i ≡ k + suc i = omega arith in
      comes_there history (k + 1) ps i ∙ ap (λ v. option_map (λ (p : Program). comes m.schema p v history) (slice_get ps i)) same

  pub comes_at : (history : List Entry) (u : ℕ) → unit_at (state_after m history).programs u ≡ option_map (λ (p : Program). comes m.schema p u history) (unit_at m.programs u)
  unfolding unit_at
  comes_at history zero = refl
  comes_at history (suc i) =
      let number : 1 + i ≡ suc i = omega arith in
      comes_there history 1 m.programs i ∙ ap (λ v. option_map (λ (p : Program). comes m.schema p v history) (slice_get m.programs i)) number

  chained : {X Y Z : Type 0} (o : Option X) (f : X → Y) (g : Y → Option Z) → option_and_then (λ x. g (f x)) o ≡ option_and_then g (option_map f o)
  chained None f g = refl
  chained (Some x) f g = refl

  pub due_is : (history : List Entry) (u : ℕ) → due_of m history u ≡ due_in m (state_after m history).programs u
  due_is history u = chained (unit_at m.programs u) (λ (p : Program). comes m.schema p u history) (statement_due m.schema) ∙ ap (option_and_then (statement_due m.schema)) (sym (comes_at history u))

  -- it is the same by what counts
  due_in_same : (dues : List Due) (u : ℕ) → due_in m (counted_each m.programs dues) u ≡ due_in m dues u
  due_in_same dues u = counted_says (statement_due m.schema) (counted_due m.schema) m.programs dues u

  due_counted : (history : List Entry) (u : ℕ) → due_of m history u ≡ due_in m (essence m (state_after m history)).programs u
  due_counted history u = due_is history u ∙ sym (due_in_same (state_after m history).programs u)

  can_turn_is : (history : List Entry) (u : ℕ) → can_turn m history u ≡ can_turn_in m (essence m (state_after m history)).programs u
  can_turn_is history u =
      λ i. is_some (due_counted history u i) && not (m.last_waits && (u == length m.programs && list_any (λ v. is_some (due_counted history v i)) (range_with_len 1 (length m.programs - 1))))

  -- ONE MORE ENTRY

  module _ (history : List Entry) (u : ℕ) (s : Statement) (answer : Answer) where
    abbrev entry : Entry
    entry = record { ticket = length history; unit = u; statement = s; answer = answer }

    others_come : (k : ℕ) (ps : List Program) → ((i : ℕ) → i + k ≡ u → ⊥) → comes_of_each m (history ++ entry ∷ []) k ps ≡ comes_of_each m history k ps
    others_come k [] none = refl
    others_come k (p ∷ ps) none =
        let here : entries_of k (history ++ entry ∷ []) ≡ entries_of k history = entries_other k history entry (λ e. none 0 (omega (arith, e))) in
        λ i. next m.schema p (program_state_after m.schema p (program_beginning p) (here i)) ∷ others_come (k + 1) ps (λ j e. none (suc j) (omega (arith, e))) i

    this_comes : (p : Program) (at : ProgramState) → comes m.schema p u history ≡ due at s → comes m.schema p u (history ++ entry ∷ []) ≡ comes_then m.schema p answer (comes m.schema p u history)
    this_comes p at is =
        ap (λ (es : List Entry). next m.schema p (program_state_after m.schema p (program_beginning p) es)) (entries_mine u history entry refl)
        ∙ ap (next m.schema p) (state_behind m.schema p (program_beginning p) (entries_of u history) entry ∙ ap (λ (d : Due). after_due p (program_state_after m.schema p (program_beginning p) (entries_of u history)) d entry) is)
        ∙ ap (comes_then m.schema p answer) (sym is)

    come_then : (k i : ℕ) (ps : List Program) (p : Program) (at : ProgramState) → k + i ≡ u → slice_get ps i ≡ Some p → comes m.schema p u history ≡ due at s
        → comes_of_each m (history ++ entry ∷ []) k ps ≡ slice_set (comes_of_each m history k ps) i (comes_then m.schema p answer (comes m.schema p u history))
    come_then k i [] p at is found d = absurd cc
    come_then k zero (q ∷ ps) p at is found d =
        let unit : u ≡ k = omega (arith, is) in
        let same : q ≡ p = cc in
        let here : comes m.schema q k (history ++ entry ∷ []) ≡ comes_then m.schema p answer (comes m.schema p u history) = ap (λ (r : Program). comes m.schema r k (history ++ entry ∷ [])) same ∙ ap (λ v. comes m.schema p v (history ++ entry ∷ [])) (sym unit) ∙ this_comes p at d in
        λ j. here j ∷ others_come (k + 1) ps (λ n e. omega (arith, e, is)) j
    come_then k (suc i) (q ∷ ps) p at is found d =
        let here : entries_of k (history ++ entry ∷ []) ≡ entries_of k history = entries_other k history entry (λ e. omega (arith, e, is)) in
        λ j. next m.schema q (program_state_after m.schema q (program_beginning q) (here j)) ∷ come_then (k + 1) i ps p at (omega (arith, is)) found d j

    -- the programs after the entry
    programs_are : (p : Program) (at : ProgramState) → unit_at m.programs u ≡ Some p → comes m.schema p u history ≡ due at s
        → comes_of_each m (history ++ entry ∷ []) 1 m.programs ≡ with_unit_at (comes_of_each m history 1 m.programs) u (comes_then m.schema p answer (comes m.schema p u history))
    unfolding unit_at with_unit_at
    programs_are p at found d = by u refl found where
      by : (v : ℕ) → v ≡ u → unit_at m.programs v ≡ Some p → comes_of_each m (history ++ entry ∷ []) 1 m.programs ≡ with_unit_at (comes_of_each m history 1 m.programs) v (comes_then m.schema p answer (comes m.schema p u history))
      by zero e f = absurd cc
      by (suc i) e f = come_then 1 i m.programs p at (omega (arith, e)) f d

  -- ONE MORE TURN

  -- the statement that is due, and the state of its program
  pub record IsDueOf (history : List Entry) (u : ℕ) (s : Statement) : Type 0 where
    pub program : Program
    pub found : unit_at m.programs u ≡ Some program
    pub at : ProgramState
    pub comes_is : comes m.schema program u history ≡ due at s

  pub due_by : (d : Due) (s : Statement) → statement_due m.schema d ≡ Some s → (at : ProgramState) × (d ≡ due at s)
  due_by (ended at how) s e = absurd cc
  due_by (due at t) s e = (at, ap (due at) (same (fits m.schema t) e)) where
    same : (b : Bool) → (if b then Some t else None) ≡ Some s → t ≡ s
    same true f = cc
    same false f = absurd cc

  pub due_there : (history : List Entry) (u : ℕ) (s : Statement) → due_of m history u ≡ Some s → IsDueOf history u s
  due_there history u s e = by (unit_at m.programs u) refl e where
    by : (o : Option Program) → unit_at m.programs u ≡ o → option_and_then (λ (p : Program). statement_due m.schema (comes m.schema p u history)) o ≡ Some s → IsDueOf history u s
    by None found f = absurd cc
    by (Some p) found f = let d = due_by (comes m.schema p u history) s f in record { program = p; found = found; at = d.0; comes_is = d.1 }

  made_state : (history : List Entry) (u : ℕ) (s : Statement) → IsDueOf history u s → (o : Option StatementEffect) → effect_of_unit m.schema m.capacity (sequential_after m history) u s ≡ o
      → state_after m (turns.with_effect_of history u s o) ≡ with_outcome m (state_after m history) u o
  made_state history u s d None is = refl
  made_state history u s d (Some o) is =
      let opening = opening_state m.schema (length m.programs) in
      let more = replays_one_more m.schema m.capacity opening history (entry history u s o.answer) in
      let sequential : sequential_after m (history ++ entry history u s o.answer ∷ []) ≡ after (sequential_after m history) u o = more.state_is ∙ ap (after_effect (sequential_after m history) u) is in
      let there : unit_at (state_after m history).programs u ≡ Some (comes m.schema d.program u history) = comes_at history u ∙ ap (option_map (λ (p : Program). comes m.schema p u history)) d.found in
      let programs : comes_of_each m (history ++ entry history u s o.answer ∷ []) 1 m.programs ≡ programs_then m.schema (state_after m history).programs u o.answer (unit_at m.programs u) (unit_at (state_after m history).programs u)
      = programs_are history u s o.answer d.program d.at d.found d.comes_is ∙ (λ i. programs_then m.schema (state_after m history).programs u o.answer (sym d.found i) (sym there i)) in
      λ i. record { sequential = sequential i; programs = programs i }

  pub state_on : (history : List Entry) (u : ℕ) → state_after m (after_turn m history u) ≡ state_then m (state_after m history) u
  state_on history u = by (due_of m history u) refl ∙ ap (with_made m (state_after m history) u) (due_is history u) where
    by : (o : Option Statement) → due_of m history u ≡ o → state_after m (made m.schema m.capacity (length m.programs) history u o) ≡ with_made m (state_after m history) u o
    by None is = refl
    by (Some s) is = made_state history u s (due_there history u s is) (effect_of_unit m.schema m.capacity (sequential_after m history) u s) refl

  -- STATES WITH THE SAME ESSENCE CONTINUE ALIKE

  kept_after : (history : List Entry) → IsKept (sequential_after m history)
  kept_after history = history_kept m.schema m.capacity (length m.programs) history

  -- the programs after an answer to a statement of unit u
  abbrev programs_by : List Due → ℕ → Option Answer → List Due
  programs_by dues u None = dues
  programs_by dues u (Some answer) = programs_then m.schema dues u answer (unit_at m.programs u) (unit_at dues u)

  programs_alike : (ds es : List Due) (u : ℕ) (answer : Option Answer) → counted_each m.programs ds ≡ counted_each m.programs es → counted_each m.programs (programs_by ds u answer) ≡ counted_each m.programs (programs_by es u answer)
  programs_alike ds es u None e = e
  programs_alike ds es u (Some answer) e = then_same m.schema m.programs u ds es e answer

  essence_then : (state : MeetingState) (u : ℕ) (q : Option StatementEffect) → essence m (with_outcome m state u q) ≡ record { sequential = essential (after_effect state.sequential u q); programs = counted_each m.programs (programs_by state.programs u (option_map (λ (o : StatementEffect). o.answer) q)) }
  essence_then state u None = refl
  essence_then state u (Some o) = refl

  made_alike : (x y : MeetingState) (u : ℕ) (o : Option Statement) → IsKept x.sequential → IsKept y.sequential → essence m x ≡ essence m y → essence m (with_made m x u o) ≡ essence m (with_made m y u o)
  made_alike x y u None k l e = e
  made_alike x y u (Some s) k l e =
      let step = both_step m.schema m.capacity x.sequential y.sequential k l u s (ap (λ (z : Essence). z.sequential) e) in
      let answer : Option Answer = option_map (λ (o : StatementEffect). o.answer) (effect_of_unit m.schema m.capacity x.sequential u s) in
      let programs = programs_alike x.programs y.programs u answer (ap (λ (z : Essence). z.programs) e) ∙ ap (λ a. counted_each m.programs (programs_by y.programs u a)) step.answer in
      essence_then x u (effect_of_unit m.schema m.capacity x.sequential u s)
      ∙ (λ i. record { sequential = step.alike i; programs = programs i })
      ∙ sym (essence_then y u (effect_of_unit m.schema m.capacity y.sequential u s))

  then_alike : (x y : MeetingState) (u : ℕ) → IsKept x.sequential → IsKept y.sequential → essence m x ≡ essence m y → essence m (state_then m x u) ≡ essence m (state_then m y u)
  then_alike x y u k l e =
      let dues = sym (due_in_same x.programs u) ∙ ap (λ (s : Essence). due_in m s.programs u) e ∙ due_in_same y.programs u in
      made_alike x y u (due_in m x.programs u) k l e ∙ ap (λ d. essence m (with_made m y u d)) dues

  pub due_alike : (h g : List Entry) (u : ℕ) → essence m (state_after m h) ≡ essence m (state_after m g) → due_of m h u ≡ due_of m g u
  due_alike h g u e = due_counted h u ∙ ap (λ (s : Essence). due_in m s.programs u) e ∙ sym (due_counted g u)

  pub can_turn_alike : (h g : List Entry) (u : ℕ) → essence m (state_after m h) ≡ essence m (state_after m g) → can_turn m h u ≡ can_turn m g u
  can_turn_alike h g u e = can_turn_is h u ∙ ap (λ (s : Essence). can_turn_in m s.programs u) e ∙ sym (can_turn_is g u)

  turn_alike : (h g : List Entry) (u : ℕ) → essence m (state_after m h) ≡ essence m (state_after m g) → essence m (state_after m (after_turn m h u)) ≡ essence m (state_after m (after_turn m g u))
  turn_alike h g u e = ap (essence m) (state_on h u) ∙ then_alike (state_after m h) (state_after m g) u (kept_after h) (kept_after g) e ∙ sym (ap (essence m) (state_on g u))

  -- ORDERS

  pub order_alike : (h g : List Entry) (o : List ℕ) → essence m (state_after m h) ≡ essence m (state_after m g) → essence m (state_after m (after_order m h o)) ≡ essence m (state_after m (after_order m g o))
  unfolding after_order
  order_alike h g [] e = e
  order_alike h g (u ∷ o) e = order_alike (after_turn m h u) (after_turn m g u) o (turn_alike h g u e)

  abbrev answer_in : State → ℕ → Statement → Option Answer
  answer_in state u s = option_map (λ (o : StatementEffect). o.answer) (effect_of_unit m.schema m.capacity state u s)

  -- the answer that is due
  pub answer_alike : (h g : List Entry) (u : ℕ) → essence m (state_after m h) ≡ essence m (state_after m g) → answer_of m h u ≡ answer_of m g u
  answer_alike h g u e = by (due_of m h u) ∙ ap (option_and_then (answer_in (sequential_after m g) u)) (due_alike h g u e) where
    by : (o : Option Statement) → option_and_then (answer_in (sequential_after m h) u) o ≡ option_and_then (answer_in (sequential_after m g) u) o
    by None = refl
    by (Some s) = (both_step m.schema m.capacity (sequential_after m h) (sequential_after m g) (kept_after h) (kept_after g) u s (ap (λ (z : Essence). z.sequential) e)).answer

  -- the state after one more turn
  pub state_of_on : (o : List ℕ) (u : ℕ) → state_of m (o ++ u ∷ []) ≡ state_then m (state_of m o) u
  state_of_on o u = ap (state_after m) (history_on m o u) ∙ state_on (history_of m o) u

  pub same_after : (o p : List ℕ) (u : ℕ) → essence_of m o ≡ essence_of m p → essence_of m (o ++ u ∷ []) ≡ essence_of m (p ++ u ∷ [])
  same_after o p u e = ap (essence m) (state_of_on o u) ∙ then_alike (state_of m o) (state_of m p) u (kept_after (history_of m o)) (kept_after (history_of m p)) e ∙ sym (ap (essence m) (state_of_on p u))

  pub can_go_on_alike : (h g : List Entry) (u : ℕ) → essence m (state_after m h) ≡ essence m (state_after m g) → can_go_on m h u ≡ can_go_on m g u
  can_go_on_alike h g u e = ap is_some (due_alike h g u e)
