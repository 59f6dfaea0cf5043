-- Turns of a first program, of others, and of a last one are those of a run with a first and a last program around the others.
-- u and v are units, us are turns.
use Rattle.std.proofs.Common.{◌≡◌, ◌≢◌, ◌⊎◌, refl, sym, ◌∙◌, ap, subst, ℕ, zero, suc, ◌+◌, ◌-◌, ◌<◌, ◌≤◌, true, false, Bool, ◌&&◌, List, [], ◌∷◌, ◌++◌, length, map, take, drop, Option, Some, None, inl, inr, arith, append-nil}
use Rattle.std.specs.Prelude.{◌==◌, filter, if◌then◌else◌, is_none, not, option_and_then, option_map, replicate, ⊤}
use Rattle.std.specs.List.{list_all, range_with_len}
use Rattle.std.proofs.lemmas.Bool.{and_parts}
use Rattle.std.proofs.lemmas.Bool.Decides.{nat_tests}
use Rattle.std.proofs.lemmas.List.Elements.{filter-append}
use Rattle.std.proofs.lemmas.List.{length-map, replicate-append-replicate, take-append-drop, take_all}
use Rattle.dbtg_schema.specs.Lists.{Lists}
use Rattle.dbtg_unit.specs.declared.limits.TheConstants.{MOST_STATEMENTS}
use Rattle.dbtg_unit.specs.declared.statement.Statement.{Statement}
use Rattle.dbtg_unit.specs.declared.unit.Entry.{Entry}
use Rattle.dbtg_unit.specs.Database.Statements.Effect.{StatementEffect}
use Rattle.dbtg_unit.specs.Database.State.Image.{image_of}
use Rattle.dbtg_unit.specs.Database.Laws.Replay.{IsHistoryOf, entries_of, opening_state, effect_of_unit, replay}
use Rattle.dbtg_unit.proofs.Public.{entries_other}
use Rattle.dbtg_program.specs.declared.program.Program.{Program}
use Rattle.dbtg_program.specs.Going.{AreOf}
use Rattle.dbtg_step.specs.Machine.SequentialDatabase.{unit_at}
use Rattle.dbtg_step.proofs.Public.{map_at}
use Rattle.dbtg_going.specs.declared.around.Around.{Around}
use Rattle.dbtg_going.specs.declared.going.ProgramRun.{ProgramRun}
use Rattle.dbtg_going.specs.declared.member.Member.{Member}
use Rattle.dbtg_going.specs.Goings.{reached_by}
use Rattle.dbtg_going.specs.Turns.{after_turn, after_turns, first_turns, have_ended, is_heard, last_turns, made, one_less, others, reached, statement_of, to_the_end, turns_before, turns_of, with_effect_of}
use Rattle.dbtg_going.proofs.Together.{reached_there}
use Rattle.dbtg_going.proofs.Turning.{turns_behind}
use Rattle.dbtg_run.specs.declared.settled.Settled.{Settled}
use Rattle.dbtg_threading.specs.Threading.{IsRunOnThreads, is_between}
use Rattle.dbtg_threading.specs.Inside.Between.{AreBetween}
use Rattle.dbtg_threading.specs.Inside.Gone.{IsHistoryOfAll, statement_after}
use Rattle.dbtg_threading.proofs.Again.{made_again}

-- none of the turns belongs to the unit
abbrev Miss : ℕ → List ℕ → Type 0
Miss u [] = ⊤
Miss u (v ∷ vs) = (v ≢ u) × Miss u vs

miss_again : (u v n : ℕ) → v ≢ u → Miss u (replicate n v)
miss_again u v zero other = tt
miss_again u v (suc n) other = (other, miss_again u v n other)

all_in_range : (f : ℕ → Bool) (s n : ℕ) → ((u : ℕ) → s ≤ u → u < s + n → f u ≡ true) → list_all f (range_with_len s n) ≡ true
all_in_range f s zero h = refl
all_in_range f s (suc n) h =
    ap (λ b. b && list_all f (range_with_len (s + 1) n)) (h s (omega arith) (omega arith)) ∙ all_in_range f (s + 1) n (λ u low high. h u (omega (arith, low)) (omega (arith, high)))

-- a filter that all pass keeps everything, and one that none passes keeps nothing
pub all_kept : (f : ℕ → Bool) (us : List ℕ) → list_all f us ≡ true → filter f us ≡ us
all_kept f [] all = refl
all_kept f (u ∷ us) all =
    let parts = and_parts (f u) (list_all f us) all in
    ap (λ b. if b then u ∷ filter f us else filter f us) parts.0 ∙ ap (λ vs. u ∷ vs) (all_kept f us parts.1)

pub none_kept : (f : ℕ → Bool) (u n : ℕ) → f u ≡ false → filter f (replicate n u) ≡ []
none_kept f u zero fails = refl
none_kept f u (suc n) fails = ap (λ b. if b then u ∷ filter f (replicate n u) else filter f (replicate n u)) fails ∙ none_kept f u n fails

and_no : (b : Bool) → (b && false) ≡ false
and_no true = refl
and_no false = refl

pub same_unit : (u : ℕ) → (u == u) ≡ true
same_unit u = grind arith

module _ (around : Around) (units : ℕ) where
  -- turns of the others are not ignored
  pub all_heard : (us : List ℕ) → list_all (is_between around units) us ≡ true → list_all (is_heard around units) us ≡ true
  all_heard [] all = refl
  all_heard (u ∷ us) all =
      let parts = and_parts (is_between around units u) (list_all (is_between around units) us) all in
      let heard = (and_parts (not (around.first && u == others around units + 1)) (is_heard around units u) parts.0).1 in
      ap (λ b. b && list_all (is_heard around units) us) heard ∙ all_heard us parts.1

  -- turns of the first unit and of the last are not between
  pub first_is_not : around.first ≡ true → is_between around units (others around units + 1) ≡ false
  first_is_not first =
      let f = others around units + 1 in
      ap (λ b. not (b && f == f) && is_heard around units f) first ∙ ap (λ b. not b && is_heard around units f) (same_unit f)

  pub last_is_not : around.last ≡ true → is_between around units units ≡ false
  last_is_not last =
      let front = not (around.first && units == others around units + 1) in
      ap (λ b. front && not (b && units == units)) last ∙ ap (λ b. front && not b) (same_unit units) ∙ and_no front

  fronts_left_out : (b : Bool) → around.first ≡ b → (n : ℕ) → (around.first ≡ false → n ≡ 0) → filter (is_between around units) (replicate n (others around units + 1)) ≡ []
  fronts_left_out true h n none = none_kept (is_between around units) (others around units + 1) n (first_is_not h)
  fronts_left_out false h n none = ap (λ k. filter (is_between around units) (replicate k (others around units + 1))) (none h)

  backs_left_out : (b : Bool) → around.last ≡ b → (n : ℕ) → (around.last ≡ false → n ≡ 0) → filter (is_between around units) (replicate n units) ≡ []
  backs_left_out true h n none = none_kept (is_between around units) units n (last_is_not h)
  backs_left_out false h n none = ap (λ k. filter (is_between around units) (replicate k units)) (none h)

  -- the turns between are what is left without those of the first unit and the last
  left_between : (us between : List ℕ) → AreBetween around units us between → between ≡ filter (is_between around units) us
  left_between us between is =
      let p = is_between around units in
      let fronts = replicate is.front (others around units + 1) in
      let backs = replicate is.back units in
      sym (ap (filter p) is.turns_are ∙ filter-append p fronts (between ++ backs) ∙ ap (λ vs. vs ++ filter p (between ++ backs)) (fronts_left_out around.first refl is.front is.front_none)
      ∙ filter-append p between backs ∙ (λ i. all_kept p between is.others_only i ++ backs_left_out around.last refl is.back is.back_none i) ∙ append-nil between)

  pub not_first : (u : ℕ) → around.first ≡ true → is_between around units u ≡ true → u ≢ others around units + 1
  not_first u first between same =
      let apart = (and_parts (not (around.first && u == others around units + 1)) (is_heard around units u) between).0 in
      let eq : (u == others around units + 1) ≡ true = grind (arith, nat_tests, same) in
      let both : (around.first && u == others around units + 1) ≡ true = ap (λ b. b && u == others around units + 1) first ∙ eq in
      let fails : not (around.first && u == others around units + 1) ≡ false = ap not both in
      absurd (cc (fails, apart))

  -- none of them belongs to the first unit
  miss_first : around.first ≡ true → (us : List ℕ) → list_all (is_between around units) us ≡ true → Miss (others around units + 1) us
  miss_first first [] all = tt
  miss_first first (u ∷ us) all =
      let parts = and_parts (is_between around units u) (list_all (is_between around units) us) all in
      (not_first u first parts.0, miss_first first us parts.1)

one_less_is_less : (b : Bool) (n : ℕ) → one_less b n ≤ n
one_less_is_less true n = omega arith
one_less_is_less false n = omega arith

pub others_few : (around : Around) (units : ℕ) → others around units ≤ units
others_few around units =
    let one = one_less_is_less around.last units in
    let two = one_less_is_less around.first (one_less around.last units) in
    omega (arith, one, two)

-- turns that are split into three parts
pub cut_in_three : (around : Around) (units : ℕ) (turns behind between rest : List ℕ) (front count back : ℕ) → behind ≡ drop front turns → between ≡ take count behind → rest ≡ drop count behind → back ≡ length rest
    → take front turns ≡ replicate front (others around units + 1) → list_all (is_between around units) (take count behind) ≡ true → take back rest ≡ replicate back units
    → front ≤ MOST_STATEMENTS → back ≤ MOST_STATEMENTS → (around.first ≡ false → front ≡ 0) → (around.last ≡ false → back ≡ 0) → (around.first ≡ true → (back ≡ 0) ⊎ (others around units + 1 ≢ units))
    → AreBetween around units turns between
cut_in_three around units turns behind between rest front count back behind_is between_is rest_is all fronts others_only backs front_few back_few front_none back_none apart =
    let last : rest ≡ replicate back units = sym (take_all back rest (omega (arith, all))) ∙ backs in
    let middle : behind ≡ between ++ replicate back units = sym (take-append-drop count behind) ∙ (λ i. sym between_is i ++ sym rest_is i) ∙ ap (λ us. between ++ us) last in
    record {
      front = front;
      back = back;
      turns_are = sym (take-append-drop front turns) ∙ (λ i. fronts i ++ sym behind_is i) ∙ ap (λ us. replicate front (others around units + 1) ++ us) middle;
      others_only = subst (λ us. list_all (is_between around units) us ≡ true) (sym between_is) others_only;
      front_few = front_few;
      back_few = back_few;
      front_none = front_none;
      back_none = back_none;
      apart = apart;
    }

module _ (schema : Lists) (capacity : ℕ) (programs : List Program) where
  abbrev after : List Entry → List ℕ → List Entry
  after = after_turns schema capacity programs

  -- TURNS OF OTHERS

  not_mine : (u v : ℕ) (h : List Entry) (s : Statement) (o : Option StatementEffect) → v ≢ u → entries_of u (with_effect_of h v s o) ≡ entries_of u h
  not_mine u v h s None other = refl
  not_mine u v h s (Some o) other = entries_other u h (record { ticket = length h; unit = v; statement = s; answer = o.answer }) other

  not_mine_made : (u v : ℕ) (h : List Entry) (s : Option Statement) → v ≢ u → entries_of u (made schema capacity (length programs) h v s) ≡ entries_of u h
  not_mine_made u v h None other = refl
  not_mine_made u v h (Some s) other = not_mine u v h s (effect_of_unit schema capacity (replay schema capacity (opening_state schema (length programs)) h) v s) other

  unmoved : (u : ℕ) (us : List ℕ) (h : List Entry) → Miss u us → entries_of u (after h us) ≡ entries_of u h
  unfolding after_turns
  unmoved u [] h miss = refl
  unmoved u (v ∷ us) h miss = unmoved u us (after_turn schema capacity programs h v) miss.1 ∙ not_mine_made u v h (statement_of schema programs h v) miss.0

  -- what a unit makes next depends only on its own entries
  same_next : (u : ℕ) (h k : List Entry) → entries_of u h ≡ entries_of u k → statement_of schema programs h u ≡ statement_of schema programs k u
  same_next u h k same = ap (λ es. option_and_then (λ (p : Program). statement_after schema p es) (unit_at programs u)) same

  -- TURNS TO THE END

  no_more : (u n : ℕ) (h : List Entry) → statement_of schema programs h u ≡ None → after h (replicate n u) ≡ h
  unfolding after_turns
  no_more u zero h none = refl
  no_more u (suc n) h none = ap (λ es. after es (replicate n u)) (ap (made schema capacity (length programs) h u) none) ∙ no_more u n h none

  none_at_all : (h : List Entry) → after h [] ≡ h
  unfolding after_turns
  none_at_all h = refl

  at_its_end : (u n : ℕ) (h : List Entry) → n ≤ MOST_STATEMENTS → statement_of schema programs (after h (replicate n u)) u ≡ None → after h (to_the_end u) ≡ after h (replicate n u)
  unfolding to_the_end
  at_its_end u n h few none =
      let sum : n + (MOST_STATEMENTS - n) ≡ MOST_STATEMENTS = omega (arith, few) in
      ap (λ k. after h (replicate k u)) (sym sum) ∙ ap (after h) (sym (replicate-append-replicate n (MOST_STATEMENTS - n) u))
      ∙ turns_behind schema capacity programs h (replicate n u) (replicate (MOST_STATEMENTS - n) u) ∙ no_more u (MOST_STATEMENTS - n) (after h (replicate n u)) none

  module _ (around : Around) (us between : List ℕ) (is : AreBetween around (length programs) us between) (history : List Entry) (again : after [] us ≡ history) (ended : (u : ℕ) → statement_of schema programs history u ≡ None) where
    abbrev first_unit : ℕ
    first_unit = others around (length programs) + 1

    abbrev one : List Entry
    one = after [] (replicate is.front first_unit)

    abbrev two : List Entry
    two = after one between

    last_part : after two (replicate is.back (length programs)) ≡ history
    last_part =
        sym (turns_behind schema capacity programs one between (replicate is.back (length programs)))
        ∙ sym (turns_behind schema capacity programs [] (replicate is.front first_unit) (between ++ replicate is.back (length programs))) ∙ ap (after []) (sym is.turns_are) ∙ again

    miss_last : (u : ℕ) → (is.back ≡ 0) ⊎ (length programs ≢ u) → Miss u (replicate is.back (length programs))
    miss_last u h = elim h [
      | inl none ↦ subst (λ n. Miss u (replicate n (length programs))) (sym none) tt
      | inr other ↦ miss_again u (length programs) is.back other
    ]

    none_after_two : (u : ℕ) → (is.back ≡ 0) ⊎ (length programs ≢ u) → statement_of schema programs two u ≡ None
    none_after_two u h = same_next u two history (sym (unmoved u (replicate is.back (length programs)) two (miss_last u h)) ∙ ap (entries_of u) last_part) ∙ ended u

    first_part : (b : Bool) → around.first ≡ b → after [] (first_turns around (length programs)) ≡ one
    first_part false h =
        ap (λ b. after [] (if b then to_the_end first_unit else [])) h ∙ ap (λ n. after [] (replicate n first_unit)) (sym (is.front_none h))
    first_part true h =
        let apart : (is.back ≡ 0) ⊎ (length programs ≢ first_unit) = elim (is.apart h) [ inl none ↦ inl none | inr other ↦ inr (λ same. other (sym same)) ] in
        let own = sym (unmoved first_unit between one (miss_first around (length programs) h between is.others_only)) in
        let none = same_next first_unit one two own ∙ none_after_two first_unit apart in
        ap (λ b. after [] (if b then to_the_end first_unit else [])) h ∙ at_its_end first_unit is.front [] is.front_few none

    before_last : after [] (turns_before around (length programs) (Some between)) ≡ two
    before_last =
        turns_behind schema capacity programs [] (first_turns around (length programs)) (filter (is_heard around (length programs)) between)
        ∙ ap (λ es. after es (filter (is_heard around (length programs)) between)) (first_part around.first refl) ∙ ap (after one) (all_kept (is_heard around (length programs)) between (all_heard around (length programs) between is.others_only))

    others_ended : have_ended schema programs two ≡ true
    others_ended = all_in_range (λ u. is_none (statement_of schema programs two u)) 1 (length programs - 1)
        (λ u low high. ap is_none (none_after_two u (inr (λ same. absurd (omega (arith, low, high, same))))))

    last_made : (b : Bool) → around.last ≡ b → after two (last_turns schema programs around two) ≡ history
    last_made false h =
        ap (λ b. after two (if b && have_ended schema programs two then to_the_end (length programs) else [])) h
        ∙ ap (λ n. after two (replicate n (length programs))) (sym (is.back_none h)) ∙ last_part
    last_made true h =
        let none = ap (λ es. statement_of schema programs es (length programs)) last_part ∙ ended (length programs) in
        ap (λ b. after two (if b && have_ended schema programs two then to_the_end (length programs) else [])) h
        ∙ ap (λ b. after two (if b then to_the_end (length programs) else [])) others_ended
        ∙ at_its_end (length programs) is.back two is.back_few none ∙ last_part

    pub turns_again : after [] (turns_of schema capacity programs around (Some between)) ≡ history
    turns_again =
        turns_behind schema capacity programs [] (turns_before around (length programs) (Some between)) (last_turns schema programs around (after [] (turns_before around (length programs) (Some between))))
        ∙ ap (λ es. after es (last_turns schema programs around es)) before_last ∙ last_made around.last refl

-- THE RUN

nobody : (schema : Lists) (programs : List Program) (history : List Entry) (u : ℕ) (o : Option Program) → ((p : Program) → o ≡ Some p → statement_after schema p (entries_of u history) ≡ None) → option_and_then (λ (p : Program). statement_after schema p (entries_of u history)) o ≡ None
nobody schema programs history u None all = refl
nobody schema programs history u (Some p) all = all p refl

-- the settled database is the result of such a run
pub run_on_threads : (schema : Lists) (capacity : ℕ) (programs : List Program) (around : Around) (turns : List ℕ) (settled : Settled) (members : List Member) (given : ProgramRun)
    → IsHistoryOfAll schema capacity programs settled members → AreBetween around (length programs) (map (λ (e : Entry). e.unit) settled.history) turns
    → given.run.results ≡ [] → given.run.history ≡ settled.history → given.run.image ≡ settled.image → given.run.units ≡ settled.units → given.programs ≡ map reached_by members
    → IsRunOnThreads schema capacity programs around turns given
run_on_threads schema capacity programs around turns settled members given all between results history image units each =
    let at_end : (u : ℕ) → statement_of schema programs settled.history u ≡ None = λ u. nobody schema programs settled.history u (unit_at programs u) (λ p is. (all.made.each u p is).2.at_end) in
    let again = made_again schema capacity programs members settled.history all.made all.leads.history_of in
    let by : settled.history ≡ after_turns schema capacity programs [] (turns_of schema capacity programs around (Some turns))
    = sym (turns_again schema capacity programs around (map (λ (e : Entry). e.unit) settled.history) turns between settled.history again at_end) in
    record {
      is_run = record {
        run = record {
          results_are = results;
          history_is = history ∙ by;
          history_of = subst (IsHistoryOf schema capacity (length programs)) by all.leads.history_of;
          image_is = image ∙ all.leads.image_is ∙ ap (λ es. image_of schema capacity (replay schema capacity (opening_state schema (length programs)) es).database) by;
          units_are = units ∙ all.leads.units_are ∙ ap (λ es. (replay schema capacity (opening_state schema (length programs)) es).units) by;
        };
        of_programs = λ u program is. subst (λ es. AreOf schema program (entries_of u es)) (sym history) (all.made.each u program is).2.at.going.are_of;
        count = ap length each ∙ length-map members reached_by ∙ all.made.count;
        reached_are = λ u program is.
            let there = all.made.each u program is in
            ap (λ rs. unit_at rs u) each ∙ map_at reached_by members u
            ∙ ap (option_map reached_by) there.1 ∙ ap Some (reached_there schema program u settled.history there.0 there.2.at ∙ ap (reached schema program u) (sym history));
      };
      at_end = λ u. ap (λ es. statement_of schema programs es u) history ∙ at_end u;
      turns_are = left_between around (length programs) (map (λ (e : Entry). e.unit) settled.history) turns between ∙ ap (λ es. filter (is_between around (length programs)) (map (λ (e : Entry). e.unit) es)) (sym history);
    }
