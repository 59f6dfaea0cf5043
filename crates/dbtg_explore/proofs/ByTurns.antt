-- A run of programs by turns, after which none can go on, has the history of one of the orders.
-- m is a meeting, es are entries, u and k are units.
use Rattle.std.proofs.Common.{◌≡◌, ◌≢◌, refl, sym, ◌∙◌, ap, subst, ℕ, zero, suc, ◌+◌, ◌-◌, ◌<◌, ◌≤◌, Bool, true, false, ◌&&◌, List, [], ◌∷◌, ◌++◌, length, Option, Some, None, arith, append_assoc}
use Rattle.std.specs.Prelude.{◌==◌, if◌then◌else◌, filter, is_some, nat_lt, not, option_and_then, replicate}
use Rattle.std.specs.List.{list_any, range_with_len}
use Rattle.std.proofs.lemmas.List.Elements.{filter-append}
use Rattle.dbtg_unit.specs.declared.statement.Statement.{Statement}
use Rattle.dbtg_unit.specs.declared.limits.TheConstants.{MOST_STATEMENTS}
use Rattle.dbtg_unit.specs.declared.unit.Entry.{Entry}
use Rattle.dbtg_unit.specs.Database.State.Image.{image_of}
use Rattle.dbtg_unit.specs.Database.Statements.Effect.{StatementEffect}
use Rattle.dbtg_unit.specs.Database.Laws.Replay.{entries_of, opening_state, effect_of_unit, replay}
use Rattle.dbtg_unit.proofs.Public.{entries_other}
use Rattle.dbtg_program.specs.declared.program.Program.{Program}
use Rattle.dbtg_program.specs.States.{beginning as program_beginning}
use Rattle.dbtg_program.specs.Going.{next, state_after as program_state_after}
use Rattle.dbtg_step.specs.Machine.SequentialDatabase.{unit_at}
use Rattle.dbtg_going.specs.declared.around.Around.{Around}
use Rattle.dbtg_going.specs.declared.going.ProgramRun.{ProgramRun}
use Rattle.dbtg_going.specs.Turns as turns
use Rattle.dbtg_going.specs.Turns.{after_turns, comes, first_turns, have_ended, is_heard, last_turns, made, statement_due, to_the_end, turns_before}
use Rattle.dbtg_going.proofs.Turning.{turns_behind}
use Rattle.dbtg_explore.specs.Laws.{ComesOut, EveryRunByTurnsComesOut, RunsToItsEnd}
use Rattle.dbtg_explore.specs.Orders.{Meeting, after_turn, beginning, can_go_on, can_turn, due_of, history_of, waits}
use Rattle.dbtg_explore.specs.States.{sequential_after}
use Rattle.dbtg_explore.proofs.ComesOut.{HasOrder, from_order}
use Rattle.dbtg_explore.proofs.Turning.{history_on, no_turn, none_follow, order_on}

-- TESTS

passed : {X : Type 0} (b : Bool) (o : Option X) (x : X) → (if b then o else None) ≡ Some x → o ≡ Some x
passed true o x e = e
passed false o x e = absurd cc

shut : (a b c : Bool) → not (a && b) ≡ true → (a && (b && c)) ≡ false
shut true true c e = absurd cc
shut true false c e = refl
shut false b c e = refl

dead : (a b : Bool) → (a && (b && false)) ≡ false
dead true true = refl
dead true false = refl
dead false b = refl

none_of : (f : ℕ → Bool) (s c : ℕ) → ((k : ℕ) → s ≤ k → k < s + c → f k ≡ false) → list_any f (range_with_len s c) ≡ false
none_of f s zero h = refl
none_of f s (suc c) h =
    let rest : list_any f (range_with_len (s + 1) c) ≡ false = none_of f (s + 1) c (λ k low high. h k (omega (arith, low)) (omega (arith, high))) in
    let here : f s ≡ false = h s (omega arith) (omega arith) in
    cc (here, rest)

-- all turns that a unit can have
whole_turns : (u : ℕ) → (c : ℕ) × (to_the_end u ≡ replicate c u)
unfolding to_the_end
whole_turns u = (MOST_STATEMENTS, refl)

-- OTHERS' TURNS

module _ (m : Meeting) where
  entries_kept : (es : List Entry) (u k : ℕ) (o : Option Statement) → u ≢ k → entries_of k (made m.schema m.capacity (length m.programs) es u o) ≡ entries_of k es
  entries_kept es u k None other = refl
  entries_kept es u k (Some s) other = by (effect_of_unit m.schema m.capacity (replay m.schema m.capacity (opening_state m.schema (length m.programs)) es) u s) where
    by : (o : Option StatementEffect) → entries_of k (turns.with_effect_of es u s o) ≡ entries_of k es
    by None = refl
    by (Some o) = entries_other k es (record { ticket = length es; unit = u; statement = s; answer = o.answer }) other

  -- whatever a unit makes, each other can go on if it could before
  pub others_go_on : (es : List Entry) (u k : ℕ) (o : Option Statement) → u ≢ k → can_go_on m (made m.schema m.capacity (length m.programs) es u o) k ≡ can_go_on m es k
  others_go_on es u k o other =
      ap (λ es. is_some (option_and_then (λ (p : Program). statement_due m.schema (next m.schema p (program_state_after m.schema p (program_beginning p) es))) (unit_at m.programs k)))
      (entries_kept es u k o other)

module _ (m : Meeting) (around : Around) (last_is : m.last_waits ≡ around.last) where
  abbrev units : ℕ
  units = length m.programs

  -- the history after a turn, and after turns
  abbrev turned : List Entry → ℕ → List Entry
  turned = turns.after_turn m.schema m.capacity m.programs

  abbrev all_turned : List Entry → List ℕ → List Entry
  all_turned = after_turns m.schema m.capacity m.programs

  abbrev heard : List ℕ → List ℕ
  heard = filter (is_heard around units)

  -- ONE TURN

  due_also : (es : List Entry) (u : ℕ) (s : Statement) → turns.statement_of m.schema m.programs es u ≡ Some s → due_of m es u ≡ Some s
  due_also es u s = by (unit_at m.programs u) where
    by : (o : Option Program) → option_and_then (λ (p : Program). turns.due_after m.schema (length (entries_of u es)) (comes m.schema p u es)) o ≡ Some s
        → option_and_then (λ (p : Program). statement_due m.schema (comes m.schema p u es)) o ≡ Some s
    by None e = absurd cc
    by (Some p) e = passed (nat_lt (length (entries_of u es)) MOST_STATEMENTS) (statement_due m.schema (comes m.schema p u es)) s e

  goes_on : (es : List Entry) (u : ℕ) → waits m es u ≡ false → HasOrder m es → HasOrder m (turned es u)
  goes_on es u free has = by (turns.statement_of m.schema m.programs es u) refl where
    by : (o : Option Statement) → turns.statement_of m.schema m.programs es u ≡ o → HasOrder m (turned es u)
    by None e = subst (HasOrder m) (sym (ap (made m.schema m.capacity units es u) e)) has
    by (Some s) e =
        let due : due_of m es u ≡ Some s = due_also es u s e in
        let can : can_turn m es u ≡ true = ap (λ (o : Option Statement). is_some o && not (waits m es u)) due ∙ ap not free in
        let there : can_turn m (history_of m has.order) u ≡ true = ap (λ es. can_turn m es u) (sym has.history_is) ∙ can in
        let same : turned es u ≡ after_turn m es u = ap (made m.schema m.capacity units es u) (e ∙ sym due) in
        record {
          order = has.order ++ u ∷ [];
          is_order = order_on m has.order u has.is_order there;
          history_is = same ∙ ap (λ es. after_turn m es u) has.history_is ∙ sym (history_on m has.order u);
        }

  -- TURNS THAT ARE NOT IGNORED

  not_waiting : (es : List Entry) (u : ℕ) → is_heard around units u ≡ true → waits m es u ≡ false
  not_waiting es u e =
      let others : Bool = list_any (can_go_on m es) (range_with_len 1 (units - 1)) in
      ap (λ b. b && (u == units && others)) last_is ∙ shut around.last (u == units) others e

  go_on : (us : List ℕ) (es : List Entry) → HasOrder m es → HasOrder m (all_turned es (heard us))
  unfolding after_turns
  go_on [] es has = has
  go_on (u ∷ us) es has = by (is_heard around units u) refl (go_on us) where
    by : (b : Bool) → is_heard around units u ≡ b → ((es : List Entry) → HasOrder m es → HasOrder m (all_turned es (heard us))) → HasOrder m (all_turned es (heard (u ∷ us)))
    by true e rest =
        subst (λ ts. HasOrder m (all_turned es ts)) (sym (ap (λ b. if b then u ∷ heard us else heard us) e)) (rest (turned es u) (goes_on es u (not_waiting es u e) has))
    by false e rest = subst (λ ts. HasOrder m (all_turned es ts)) (sym (ap (λ b. if b then u ∷ heard us else heard us) e)) (rest es has)

  -- TURNS OF THE LAST PROGRAM

  others_stay : (es : List Entry) (u k : ℕ) → u ≢ k → can_go_on m (turned es u) k ≡ can_go_on m es k
  others_stay es u k other = others_go_on m es u k (turns.statement_of m.schema m.programs es u) other

  others_stay_through : (c : ℕ) (es : List Entry) (u k : ℕ) → u ≢ k → can_go_on m (all_turned es (replicate c u)) k ≡ can_go_on m es k
  unfolding after_turns
  others_stay_through zero es u k other = refl
  others_stay_through (suc c) es u k other = others_stay_through c (turned es u) u k other ∙ others_stay es u k other

  -- none of the others can go on
  abbrev HaveEnded : List Entry → Type 0
  HaveEnded es = (k : ℕ) → units ≢ k → can_go_on m es k ≡ false

  last_turn : (es : List Entry) → HaveEnded es → waits m es units ≡ false
  last_turn es ended =
      let none : list_any (can_go_on m es) (range_with_len 1 (units - 1)) ≡ false
      = none_of (can_go_on m es) 1 (units - 1) (λ k low high. ended k (λ q. absurd (omega (arith, low, high, q)))) in
      ap (λ b. m.last_waits && (units == units && b)) none ∙ dead m.last_waits (units == units)

  go_to_the_end : (c : ℕ) (es : List Entry) → HaveEnded es → HasOrder m es → HasOrder m (all_turned es (replicate c units))
  unfolding after_turns
  go_to_the_end zero es ended has = has
  go_to_the_end (suc c) es ended has = go_to_the_end c (turned es units) (λ k other. others_stay es units k other ∙ ended k other) (goes_on es units (last_turn es ended) has)

  -- A RUN

  module _ (told ts : List ℕ) (given : ProgramRun) (is : RunsToItsEnd m around told ts given) where
    -- the history before the last program
    abbrev before : List Entry
    before = all_turned [] (turns_before around units (Some (told ++ ts)))

    before_is : before ≡ all_turned (beginning m) (heard ts)
    before_is =
        ap (λ us. all_turned [] (first_turns around units ++ us)) (filter-append (is_heard around units) told ts)
        ∙ ap (all_turned []) (sym (append_assoc (first_turns around units) (heard told) (heard ts)))
        ∙ turns_behind m.schema m.capacity m.programs [] (first_turns around units ++ heard told) (heard ts)
        ∙ ap (λ es. all_turned es (heard ts)) (sym is.begins)

    order_before : HasOrder m before
    order_before =
        let start : HasOrder m (beginning m) = record { order = []; is_order = none_follow m (beginning m); history_is = sym (no_turn m (beginning m)) } in
        subst (HasOrder m) (sym before_is) (go_on ts (beginning m) start)

    -- the history after it
    abbrev behind : List Entry
    behind = all_turned before (last_turns m.schema m.programs around before)

    history_is_behind : given.run.history ≡ behind
    history_is_behind = is.is_run.run.history_is ∙ turns_behind m.schema m.capacity m.programs [] (turns_before around units (Some (told ++ ts))) (last_turns m.schema m.programs around before)

    none_behind : (us : List ℕ) → us ≡ [] → HasOrder m (all_turned before us)
    unfolding after_turns
    none_behind us e = subst (λ us. HasOrder m (all_turned before us)) (sym e) order_before

    last_behind : (us : List ℕ) (c : ℕ) → us ≡ replicate c units → given.run.history ≡ all_turned before us → HasOrder m (all_turned before us)
    last_behind us c e history =
        let same : given.run.history ≡ all_turned before (replicate c units) = history ∙ ap (all_turned before) e in
        let ended : HaveEnded before = λ k other. sym (others_stay_through c before units k other) ∙ ap (λ es. can_go_on m es k) (sym same) ∙ is.at_end k in
        subst (λ us. HasOrder m (all_turned before us)) (sym e) (go_to_the_end c before ended order_before)

    order_behind : HasOrder m behind
    order_behind = by (around.last && have_ended m.schema m.programs before) refl where
      by : (b : Bool) → (around.last && have_ended m.schema m.programs before) ≡ b → HasOrder m behind
      by true e =
          let whole = whole_turns units in
          last_behind (last_turns m.schema m.programs around before) whole.0 (ap (λ b. if b then to_the_end units else []) e ∙ whole.1) history_is_behind
      by false e = none_behind (last_turns m.schema m.programs around before) (ap (λ b. if b then to_the_end units else []) e)

    pub comes_out : ComesOut m given.run
    comes_out =
        let run = given.run in
        let made_run = is.is_run.run in
        let has = order_behind in
        let history : run.history ≡ history_of m has.order = history_is_behind ∙ has.history_is in
        let image : run.image ≡ image_of m.schema m.capacity (sequential_after m run.history).database
        = made_run.image_is ∙ ap (λ es. image_of m.schema m.capacity (sequential_after m es).database) (sym made_run.history_is) in
        let units_are : run.units ≡ (sequential_after m run.history).units = made_run.units_are ∙ ap (λ es. (sequential_after m es).units) (sym made_run.history_is) in
        from_order m run (record { order = has.order; is_order = has.is_order; history_is = history }) image units_are is.at_end

pub every_run_by_turns : (m : Meeting) → EveryRunByTurnsComesOut m
every_run_by_turns m around told ts given is = comes_out m around is.last_is told ts given is
