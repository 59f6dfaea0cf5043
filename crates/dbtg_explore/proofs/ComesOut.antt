-- A run of moves that makes all statements of programs has the history of one of the orders.
-- m is a meeting, es are entries, o is an order, u is a unit.
use Rattle.std.proofs.Common.{◌≡◌, ◌≢◌, refl, sym, ◌∙◌, ap, subst, ℕ, zero, suc, ◌+◌, ◌<◌, ◌≤◌, Bool, true, false, ◌&&◌, List, [], ◌∷◌, ◌++◌, length, map, Option, Some, None, inl, inr, arith, append-nil, append_assoc, slice_get}
use Rattle.std.specs.Prelude.{◌==◌, if◌then◌else◌, is_some, not, option_and_then, option_map}
use Rattle.std.specs.List.{list_all, range_with_len}
use Rattle.std.proofs.lemmas.List.{length-append}
use Rattle.std.proofs.lemmas.List.Elements.{filter-append}
use Rattle.dbtg_script.specs.Printing.Texts.{run_text}
use Rattle.dbtg_unit.specs.declared.moves.Move.{Move}
use Rattle.dbtg_unit.specs.declared.statement.Statement.{Statement}
use Rattle.dbtg_unit.specs.declared.unit.Entry.{Entry}
use Rattle.dbtg_unit.specs.Database.State.Image.{image_of}
use Rattle.dbtg_unit.specs.Database.Statements.Effect.{StatementEffect}
use Rattle.dbtg_unit.specs.Database.Statements.Fits.{fits}
use Rattle.dbtg_unit.specs.Database.Laws.Replay.{AnswersHold, TicketsInOrder, entries_of, opening_state, effect_of_unit, replay}
use Rattle.dbtg_unit.proofs.Public.{In, all_at, answers_behind, element_at, entries_mine, entries_other, in_filter, in_left, in_map, in_right, opening_length, replays_one_more}
use Rattle.dbtg_program.specs.declared.program.Program.{Program}
use Rattle.dbtg_program.specs.States.{ProgramState, beginning as program_beginning}
use Rattle.dbtg_program.specs.Going.{Due, GoOn, IsDue, after_due, due, ended, next, state_after as program_state_after}
use Rattle.dbtg_step.specs.declared.results.Run.{Run}
use Rattle.dbtg_step.specs.Laws.{scripts_fit}
use Rattle.dbtg_step.specs.Machine.Headline.{RunIs}
use Rattle.dbtg_step.specs.Machine.SequentialDatabase.{unit_at}
use Rattle.dbtg_going.specs.Texts.{programs_text}
use Rattle.dbtg_going.specs.Turns as turns
use Rattle.dbtg_going.specs.Turns.{comes, made, statement_due}
use Rattle.dbtg_going.proofs.Turning.{numbered_one, state_behind}
use Rattle.dbtg_states.specs.Users.{by_unit}
use Rattle.dbtg_states.proofs.States.Units.{units_within}
use Rattle.dbtg_explore.specs.Laws.{ComesOut, EveryRunComesOut, MakesAll}
use Rattle.dbtg_explore.specs.Orders.{IsOrder, Meeting, after_turn, beginning, can_go_on, can_turn, due_of, history_of, waits}
use Rattle.dbtg_explore.specs.Results.{reached_of, state_text}
use Rattle.dbtg_explore.specs.States.{sequential_after, state_after}
use Rattle.dbtg_explore.proofs.Turning.{history_on, no_turn, none_follow, order_on}

-- LISTS

place_in : {X : Type 0} (xs : List X) (x : X) → In x xs → (i : ℕ) × (slice_get xs i ≡ Some x)
place_in [] x j = absurd j
place_in (y ∷ xs) x (inl e) = (0, ap Some e)
place_in (y ∷ xs) x (inr j) = let at = place_in xs x j in (suc at.0, at.1)

number_in : {X : Type 0} (xs : List X) (u : ℕ) (x : X) → unit_at xs u ≡ Some x → In x xs
unfolding unit_at
number_in xs zero x e = absurd cc
number_in xs (suc k) x e = element_at xs k x e

tickets_behind : (a : ℕ) (xs ys : List Entry) → map (λ (e : Entry). e.ticket) (xs ++ ys) ≡ range_with_len a (length (xs ++ ys)) → map (λ (e : Entry). e.ticket) ys ≡ range_with_len (a + length xs) (length ys)
tickets_behind a [] ys h = let none : a ≡ a + 0 = omega arith in h ∙ ap (λ k. range_with_len k (length ys)) none
tickets_behind a (x ∷ xs) ys h =
    let rest : map (λ (e : Entry). e.ticket) (xs ++ ys) ≡ range_with_len (a + 1) (length (xs ++ ys)) = cc in
    let sum : (a + 1) + length xs ≡ a + suc (length xs) = omega arith in
    tickets_behind (a + 1) xs ys rest ∙ ap (λ k. range_with_len k (length ys)) sum

go_on_behind : (m : Meeting) (p : Program) (state : ProgramState) (xs ys : List Entry) → GoOn m.schema p state (xs ++ ys) → GoOn m.schema p (program_state_after m.schema p state xs) ys
go_on_behind m p state [] ys g = g
go_on_behind m p state (x ∷ xs) ys g = go_on_behind m p (after_due p state (next m.schema p state) x) xs ys g.1

module _ (m : Meeting) where
  -- where the program of unit u is after a history
  abbrev stands : Program → ℕ → List Entry → ProgramState
  stands p u history = program_state_after m.schema p (program_beginning p) (entries_of u history)

  -- what is left of a history after some of its entries
  record IsLeft (before rest : List Entry) : Type 0 where
    answers : AnswersHold m.schema m.capacity (sequential_after m before) rest
    tickets : map (λ (e : Entry). e.ticket) rest ≡ range_with_len (length before) (length rest)
    fitting : (e : Entry) → In e rest → fits m.schema e.statement ≡ true
    there : (e : Entry) → In e rest → (p : Program) × (unit_at m.programs e.unit ≡ Some p)
    of_programs : (u : ℕ) (p : Program) → unit_at m.programs u ≡ Some p → GoOn m.schema p (stands p u before) (entries_of u rest)
    waited : (b a : List Entry) (e : Entry) → rest ≡ b ++ e ∷ a → waits m (before ++ b) e.unit ≡ false

  -- ONE ENTRY

  due_said : (d : Due) (e : Entry) → IsDue d e.statement → fits m.schema e.statement ≡ true → statement_due m.schema d ≡ Some e.statement
  due_said (ended at how) e i f = absurd i
  due_said (due at s) e i f =
      let ok : fits m.schema s ≡ true = ap (fits m.schema) i ∙ f in
      ap (λ b. if b then Some s else None) ok ∙ ap Some i

  mine : (e : Entry) (rest : List Entry) → entries_of e.unit (e ∷ rest) ≡ e ∷ entries_of e.unit rest
  mine e rest = cons_back (e.unit == e.unit) refl where
    same : e.unit == e.unit ≡ true
    same = grind arith

    cons_back : (b : Bool) → e.unit == e.unit ≡ b → entries_of e.unit (e ∷ rest) ≡ e ∷ entries_of e.unit rest
    cons_back true h = ap (λ b. if b then e ∷ entries_of e.unit rest else entries_of e.unit rest) h
    cons_back false h = absurd (cc (h, same))

  module _ (before : List Entry) (e : Entry) (rest : List Entry) (l : IsLeft before (e ∷ rest)) where
    abbrev program : Program
    program = (l.there e (inl refl)).0

    found : unit_at m.programs e.unit ≡ Some program
    found = (l.there e (inl refl)).1

    goes : GoOn m.schema program (stands program e.unit before) (e ∷ entries_of e.unit rest)
    goes = subst (GoOn m.schema program (stands program e.unit before)) (mine e rest) (l.of_programs e.unit program found)

    due_there : due_of m before e.unit ≡ Some e.statement
    due_there = ap (option_and_then (λ (p : Program). statement_due m.schema (comes m.schema p e.unit before))) found ∙ due_said (comes m.schema program e.unit before) e goes.0 (l.fitting e (inl refl))

    turn_there : can_turn m before e.unit ≡ true
    turn_there =
        let free : waits m before e.unit ≡ false = ap (λ es. waits m es e.unit) (sym (append-nil before)) ∙ l.waited [] rest e refl in
        ap (λ (o : Option Statement). is_some o && not (waits m before e.unit)) due_there ∙ ap not free

    outcome_there : (o : Option StatementEffect) → effect_of_unit m.schema m.capacity (sequential_after m before) e.unit e.statement ≡ o → option_map (λ (o : StatementEffect). o.answer) o ≡ Some e.answer → turns.with_effect_of before e.unit e.statement o ≡ before ++ e ∷ []
    outcome_there None is h = absurd cc
    outcome_there (Some o) is h =
        let answer : o.answer ≡ e.answer = cc in
        let ticket : length before ≡ e.ticket = cc (l.tickets) in
        λ i. before ++ record { ticket = ticket i; unit = e.unit; statement = e.statement; answer = answer i } ∷ []

    turn_made : after_turn m before e.unit ≡ before ++ e ∷ []
    unfolding AnswersHold
    turn_made = ap (made m.schema m.capacity (length m.programs) before e.unit) due_there ∙ outcome_there (effect_of_unit m.schema m.capacity (sequential_after m before) e.unit e.statement) refl l.answers.0

    goes_then : (u : ℕ) (p : Program) → unit_at m.programs u ≡ Some p → GoOn m.schema p (stands p u (before ++ e ∷ [])) (entries_of u rest)
    goes_then u p is = by (e.unit == u) refl where
      by : (b : Bool) → e.unit == u ≡ b → GoOn m.schema p (stands p u (before ++ e ∷ [])) (entries_of u rest)
      by true h =
          let unit : e.unit ≡ u = grind (arith, h) in
          let whole : entries_of u (e ∷ rest) ≡ e ∷ entries_of u rest = ap (λ b. if b then e ∷ entries_of u rest else entries_of u rest) h in
          let g : GoOn m.schema p (stands p u before) (e ∷ entries_of u rest) = subst (GoOn m.schema p (stands p u before)) whole (l.of_programs u p is) in
          let state : stands p u (before ++ e ∷ []) ≡ after_due p (stands p u before) (next m.schema p (stands p u before)) e
          = ap (program_state_after m.schema p (program_beginning p)) (entries_mine u before e unit) ∙ state_behind m.schema p (program_beginning p) (entries_of u before) e in
          subst (λ s. GoOn m.schema p s (entries_of u rest)) (sym state) g.1
      by false h =
          let other : e.unit ≢ u = λ q. absurd (grind (arith, h, q)) in
          let whole : entries_of u (e ∷ rest) ≡ entries_of u rest = ap (λ b. if b then e ∷ entries_of u rest else entries_of u rest) h in
          let state : stands p u (before ++ e ∷ []) ≡ stands p u before = ap (program_state_after m.schema p (program_beginning p)) (entries_other u before e other) in
          subst (λ s. GoOn m.schema p s (entries_of u rest)) (sym state) (subst (GoOn m.schema p (stands p u before)) whole (l.of_programs u p is))

    left_then : IsLeft (before ++ e ∷ []) rest
    unfolding AnswersHold
    left_then = record {
      answers = subst (λ s. AnswersHold m.schema m.capacity s rest) (sym (replays_one_more m.schema m.capacity (opening_state m.schema (length m.programs)) before e).state_is) l.answers.1;
      tickets =
          let tail : map (λ (f : Entry). f.ticket) rest ≡ range_with_len (length before + 1) (length rest) = cc (l.tickets) in
          tail ∙ ap (λ k. range_with_len k (length rest)) (sym (length-append before (e ∷ [])));
      fitting = λ f i. l.fitting f (inr i);
      there = λ f i. l.there f (inr i);
      of_programs = goes_then;
      waited = λ b a f is. ap (λ es. waits m es f.unit) (append_assoc before (e ∷ []) b) ∙ l.waited (e ∷ b) a f (ap (λ es. e ∷ es) is);
    }

  -- ALL ENTRIES

  pub record HasOrder (history : List Entry) : Type 0 where
    pub order : List ℕ
    pub is_order : IsOrder m order
    pub history_is : history ≡ history_of m order

  along : (o : List ℕ) (before rest : List Entry) → IsOrder m o → before ≡ history_of m o → IsLeft before rest → HasOrder (before ++ rest)
  along o before [] is at l = record { order = o; is_order = is; history_is = append-nil before ∙ at }
  along o before (e ∷ rest) is at l =
      let can : can_turn m (history_of m o) e.unit ≡ true = ap (λ es. can_turn m es e.unit) (sym at) ∙ turn_there before e rest l in
      let there : before ++ e ∷ [] ≡ history_of m (o ++ e.unit ∷ []) = sym (turn_made before e rest l) ∙ ap (λ es. after_turn m es e.unit) at ∙ sym (history_on m o e.unit) in
      subst HasOrder (append_assoc before (e ∷ []) rest) (along (o ++ e.unit ∷ []) (before ++ e ∷ []) rest (order_on m o e.unit is can) there (left_then before e rest l))

  -- the conclusion: a run whose history has an order, and after which no program can go on
  pub from_order : (run : Run) → HasOrder run.history → run.image ≡ image_of m.schema m.capacity (sequential_after m run.history).database → run.units ≡ (sequential_after m run.history).units
      → ((u : ℕ) → can_go_on m run.history u ≡ false) → ComesOut m run
  from_order run has image units at_end =
      record {
        order = has.order;
        is_end = record { is_order = has.is_order; at_end = λ u. ap (λ es. can_go_on m es u) (sym has.history_is) ∙ at_end u };
        history_is = has.history_is;
        text_is =
            (λ i. run_text m.schema [] (image i).records (image i).lists (image i).next (map (by_unit (range_with_len 1 (length m.programs))) (image i).usage) (units i) ++ programs_text 1 m.programs (map reached_of (state_after m run.history).programs))
            ∙ ap (λ es. state_text m (state_after m es)) has.history_is;
      }

  -- A RUN

  module _ (scripts : List (List Statement)) (moves : List Move) (run : Run) (count : length scripts ≡ length m.programs) (fit : scripts_fit m.schema scripts ≡ true) (is : RunIs m.schema m.capacity scripts moves run) (all : MakesAll m run.history) where
    number : (e : Entry) → In e run.history → (0 < e.unit) × (e.unit ≤ length scripts)
    number e i =
        let place = place_in run.history e i in
        let within = units_within m.schema m.capacity (opening_state m.schema (length scripts)) run.history place.0 e is.sequential.answers place.1 in
        let units : length (opening_state m.schema (length scripts)).units ≡ length scripts = opening_length m.schema (length scripts) in
        let low = within.0 in
        let high = within.1 in
        (omega (arith, low), omega (arith, high, units))

    program_at : (e : Entry) → In e run.history → (p : Program) × (unit_at m.programs e.unit ≡ Some p)
    program_at e i = let n = number e i in numbered_one m.programs e.unit n.0 (omega (arith, n.1, count))

    statement_fits : (e : Entry) → In e run.history → fits m.schema e.statement ≡ true
    statement_fits e i =
        let n = number e i in
        let script = numbered_one scripts e.unit n.0 n.1 in
        let begin = is.sequential.scripts_begin e.unit script.0 script.1 in
        let same : e.unit == e.unit ≡ true = grind arith in
        let own : In e (entries_of e.unit run.history) = in_filter (λ (f : Entry). f.unit == e.unit) e run.history i same in
        let said : In e.statement (map (λ (f : Entry). f.statement) (entries_of e.unit run.history)) = in_map (λ (f : Entry). f.statement) e (entries_of e.unit run.history) own in
        let in_script : In e.statement script.0 = subst (λ (ss : List Statement). In e.statement ss) begin.1 (in_left e.statement (map (λ (f : Entry). f.statement) (entries_of e.unit run.history)) begin.0 said) in
        all_at (fits m.schema) e.statement script.0 (all_at (list_all (fits m.schema)) script.0 scripts fit (number_in scripts e.unit script.0 script.1)) in_script

    behind : (e : Entry) → In e all.rest → In e run.history
    behind e i = subst (λ (es : List Entry). In e es) (sym all.begins) (in_right e (beginning m) all.rest i)

    left : IsLeft (beginning m) all.rest
    left = record {
      answers = answers_behind m.schema m.capacity (opening_state m.schema (length m.programs)) (beginning m) all.rest
          (subst (λ n. AnswersHold m.schema m.capacity (opening_state m.schema n) (beginning m ++ all.rest)) count (subst (λ es. AnswersHold m.schema m.capacity (opening_state m.schema (length scripts)) es) all.begins is.sequential.answers));
      tickets =
          let whole : map (λ (e : Entry). e.ticket) (beginning m ++ all.rest) ≡ range_with_len 0 (length (beginning m ++ all.rest)) = subst TicketsInOrder all.begins is.sequential.tickets in
          let none : 0 + length (beginning m) ≡ length (beginning m) = omega arith in
          tickets_behind 0 (beginning m) all.rest whole ∙ ap (λ k. range_with_len k (length all.rest)) none;
      fitting = λ e i. statement_fits e (behind e i);
      there = λ e i. program_at e (behind e i);
      of_programs = λ u p f.
          let parts : entries_of u run.history ≡ entries_of u (beginning m) ++ entries_of u all.rest = ap (entries_of u) all.begins ∙ filter-append (λ (e : Entry). e.unit == u) (beginning m) all.rest in
          go_on_behind m p (program_beginning p) (entries_of u (beginning m)) (entries_of u all.rest) (subst (GoOn m.schema p (program_beginning p)) parts (all.of_programs u p f));
      waited = all.waited;
    }

    pub comes_out : ComesOut m run
    comes_out =
        let start : beginning m ≡ history_of m [] = sym (no_turn m (beginning m)) in
        let has = along [] (beginning m) all.rest (none_follow m (beginning m)) start left in
        let history : run.history ≡ history_of m has.order = all.begins ∙ has.history_is in
        let image : run.image ≡ image_of m.schema m.capacity (sequential_after m run.history).database
        = is.sequential.image_is ∙ ap (λ n. image_of m.schema m.capacity (replay m.schema m.capacity (opening_state m.schema n) run.history).database) count in
        let units : run.units ≡ (sequential_after m run.history).units = is.sequential.units_are ∙ ap (λ n. (replay m.schema m.capacity (opening_state m.schema n) run.history).units) count in
        from_order run (record { order = has.order; is_order = has.is_order; history_is = history }) image units all.at_end

pub every_run : (m : Meeting) → EveryRunComesOut m
every_run m scripts moves run count fit is all = comes_out m scripts moves run count fit is all
