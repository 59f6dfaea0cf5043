-- The turns that are saved after a run of programs on threads: they are read back, and `run` by them prints the same.
-- u and v are units, us are turns, h is a history.
use Rattle.std.proofs.Common.{◌≡◌, ℕ, zero, suc, ◌+◌, ◌<◌, ◌≤◌, Bool, true, false, ◌&&◌, List, [], ◌∷◌, ◌++◌, length, map, Option, Some, None, slice_get, refl, sym, ap, ◌∙◌, subst, arith}
use Rattle.std.specs.Prelude.{◌==◌, filter, if◌then◌else◌, nat_lt, option_and_then}
use Rattle.std.specs.List.{list_all}
use Rattle.std.proofs.lemmas.Bool.{and_from, and_parts}
use Rattle.std.proofs.lemmas.Bool.Decides.{nat_tests}
use Rattle.std.proofs.lemmas.List.{length-append, length-map}
use Rattle.dbtg_schema.specs.Lists.{Lists}
use Rattle.dbtg_unit.specs.declared.limits.TheConstants.{MOST_STATEMENTS}
use Rattle.dbtg_unit.specs.declared.statement.Statement.{Statement}
use Rattle.dbtg_unit.specs.declared.unit.Entry.{Entry}
use Rattle.dbtg_unit.specs.Database.Statements.Effect.{StatementEffect}
use Rattle.dbtg_unit.specs.Database.Laws.Replay.{entries_of, effect_of_unit, opening_state, replay}
use Rattle.dbtg_unit.proofs.Public.{entries_more, opening_length}
use Rattle.dbtg_program.specs.declared.program.Program.{Program}
use Rattle.dbtg_program.specs.Going.{Due}
use Rattle.dbtg_program.specs.Reading.{program}
use Rattle.dbtg_step.specs.Machine.SequentialDatabase.{unit_at}
use Rattle.dbtg_going.specs.declared.going.ProgramRun.{ProgramRun}
use Rattle.dbtg_going.specs.Turns.{IsRunOf, after_turn, after_turns, comes, due_after, made, reached, statement_due, statement_of, turns_of, with_effect_of}
use Rattle.dbtg_threading.specs.Threading.{IsRunOnThreads, is_between}
use Rattle.dbtg_script.specs.declared.limits.TheConstants.{MOST_MOVES}
use Rattle.dbtg_script.specs.Laws.{is_unit_number}
use Rattle.dbtg_script.specs.Turns.{turns_refusal}
use Rattle.dbtg_script.specs.Printing.WordTexts.{turns_text}
use Rattle.dbtg_script.proofs.Public.{turns_read_back}
use Rattle.dbtg_command.specs.Refusals.{turns_in}
use Rattle.dbtg_replay.proofs.Public.{AllWithin, all_made, all_within, numbers, total_few}
use Rattle.dbtg_running.specs.declared.command.RunOptions.{RunOptions}
use Rattle.dbtg_running.specs.declared.threads.PrintedOnThreads.{PrintedOnThreads}
use Rattle.dbtg_running.specs.Running.{PrintsRun, run_text}
use Rattle.dbtg_running.specs.Threading.{IsPrintedOf, audit_line}

-- LISTS

kept_all : (p q : ℕ → Bool) (us : List ℕ) → list_all p us ≡ true → list_all p (filter q us) ≡ true
kept_all p q [] all = refl
kept_all p q (u ∷ us) all =
    let parts = and_parts (p u) (list_all p us) all in
    let rest = kept_all p q us parts.1 in
    elim (q u) as (λ b. list_all p (if b then u ∷ filter q us else filter q us) ≡ true) [ true ↦ and_from (p u) (list_all p (filter q us)) parts.0 rest | false ↦ rest ]

kept_few : (q : ℕ → Bool) (us : List ℕ) → length (filter q us) ≤ length us
kept_few q [] = omega arith
kept_few q (u ∷ us) =
    let rest = kept_few q us in
    elim (q u) as (λ b. length (if b then u ∷ filter q us else filter q us) ≤ length (u ∷ us)) [ true ↦ omega (arith, rest) | false ↦ omega (arith, rest) ]

same_lists : {A : Type 0} (xs ys : List A) → length xs ≡ length ys → ((k : ℕ) → k < length xs → slice_get xs k ≡ slice_get ys k) → xs ≡ ys
same_lists [] [] long same = refl
same_lists [] (y ∷ ys) long same = absurd (omega (arith, long))
same_lists (x ∷ xs) [] long same = absurd (omega (arith, long))
same_lists (x ∷ xs) (y ∷ ys) long same =
    let one : Some x ≡ Some y = same 0 (omega arith) in
    let first : x ≡ y = cc (one) in
    let rest = same_lists xs ys (omega (arith, long)) (λ k below. same (suc k) (omega (arith, below))) in
    λ i. first i ∷ rest i

there : {A : Type 0} (xs : List A) (k : ℕ) → k < length xs → (x : A) × (slice_get xs k ≡ Some x)
there [] k below = absurd (omega (arith, below))
there (x ∷ xs) zero below = (x, refl)
there (x ∷ xs) (suc k) below = there xs k (omega (arith, below))

-- NO UNIT MAKES MORE STATEMENTS THAN IT CAN

one_more : (b : Bool) (u v : ℕ) (h : List Entry) (e : Entry) → (v == u) ≡ b → length (entries_of v h) < MOST_STATEMENTS → length (entries_of u h) ≤ MOST_STATEMENTS → length (entries_of u h ++ (if b then e ∷ [] else [])) ≤ MOST_STATEMENTS
one_more true u v h e is below few =
    let same : v ≡ u = grind (arith, nat_tests, is) in
    let mine : length (entries_of u h) < MOST_STATEMENTS = subst (λ w. length (entries_of w h) < MOST_STATEMENTS) same below in
    let long = length-append (entries_of u h) (e ∷ []) in
    omega (arith, mine, long)
one_more false u v h e is below few = let long = length-append (entries_of u h) [] in omega (arith, few, long)

few_with : (u v : ℕ) (h : List Entry) (s : Statement) (o : Option StatementEffect) → length (entries_of v h) < MOST_STATEMENTS → length (entries_of u h) ≤ MOST_STATEMENTS → length (entries_of u (with_effect_of h v s o)) ≤ MOST_STATEMENTS
few_with u v h s None below few = few
few_with u v h s (Some o) below few =
    let e : Entry = record { ticket = length h; unit = v; statement = s; answer = o.answer } in
    subst (λ es. length es ≤ MOST_STATEMENTS) (sym (entries_more u h e)) (one_more (v == u) u v h e refl below few)

below_most : (schema : Lists) (b : Bool) (n : ℕ) (d : Due) (s : Statement) → nat_lt n MOST_STATEMENTS ≡ b → (if b then statement_due schema d else None) ≡ Some s → n < MOST_STATEMENTS
below_most schema true n d s is due = grind (arith, nat_tests, is)
below_most schema false n d s is due = absurd (cc (due))

module _ (schema : Lists) (capacity : ℕ) (programs : List Program) where
  below_of : (v : ℕ) (h : List Entry) (o : Option Program) (s : Statement) → option_and_then (λ program. due_after schema (length (entries_of v h)) (comes schema program v h)) o ≡ Some s → length (entries_of v h) < MOST_STATEMENTS
  below_of v h None s is = absurd (cc (is))
  below_of v h (Some p) s is = below_most schema (nat_lt (length (entries_of v h)) MOST_STATEMENTS) (length (entries_of v h)) (comes schema p v h) s refl is

  few_made : (u v : ℕ) (h : List Entry) (o : Option Statement) → statement_of schema programs h v ≡ o → length (entries_of u h) ≤ MOST_STATEMENTS → length (entries_of u (made schema capacity (length programs) h v o)) ≤ MOST_STATEMENTS
  few_made u v h None is few = few
  few_made u v h (Some s) is few =
      few_with u v h s (effect_of_unit schema capacity (replay schema capacity (opening_state schema (length programs)) h) v s) (below_of v h (unit_at programs v) s is) few

  few_after : (us : List ℕ) (h : List Entry) → ((u : ℕ) → length (entries_of u h) ≤ MOST_STATEMENTS) → (u : ℕ) → length (entries_of u (after_turns schema capacity programs h us)) ≤ MOST_STATEMENTS
  unfolding after_turns
  few_after [] h few u = few u
  few_after (v ∷ us) h few u = few_after us (after_turn schema capacity programs h v) (λ w. few_made w v h (statement_of schema programs h v) refl (few w)) u

-- how many statements each unit can make
abbrev lefts : List Program → List ℕ
lefts = map (λ (p : Program). MOST_STATEMENTS)

each_left : (programs : List Program) (k j : ℕ) → slice_get (lefts programs) k ≡ Some j → MOST_STATEMENTS ≡ j
each_left [] k j at = absurd (cc (at))
each_left (p ∷ ps) zero j at = cc (at)
each_left (p ∷ ps) (suc k) j at = each_left ps k j at

unit_left : (programs : List Program) (u j : ℕ) → unit_at (lefts programs) u ≡ Some j → MOST_STATEMENTS ≡ j
unfolding unit_at
unit_left programs zero j at = absurd (cc (at))
unit_left programs (suc k) j at = each_left programs k j at

-- a run of up to 8 programs has few entries, each of a unit that turns can name
units_named : (schema : Lists) (capacity : ℕ) (programs : List Program) (turns : List ℕ) (given : ProgramRun) → length programs ≤ 8 → IsRunOf schema capacity programs turns given
    → (list_all is_unit_number (map (λ (e : Entry). e.unit) given.run.history) ≡ true) × (length given.run.history ≤ MOST_MOVES)
units_named schema capacity programs turns given most is =
    let h = after_turns schema capacity programs [] turns in
    let within = all_within schema capacity (length programs) (opening_state schema (length programs)) h (opening_length schema (length programs)) is.run.history_of.answers_hold in
    let many = length-map programs (λ (p : Program). MOST_STATEMENTS) in
    let few = few_after schema capacity programs turns [] (λ u. omega arith) in
    let all = all_made (lefts programs) h (subst (λ n. AllWithin n h) (sym many) within) (λ u k at. subst (λ n. length (entries_of u h) ≤ n) (unit_left programs u k at) (few u)) in
    let total = total_few (lefts programs) MOST_STATEMENTS (λ k below j at. let e = each_left programs k j at in omega (arith, e)) in
    let made = all.1 in (
      ap (λ es. list_all is_unit_number (map (λ (e : Entry). e.unit) es)) is.run.history_is ∙ numbers (length programs) h (omega (arith, most)) within,
      let same = ap length is.run.history_is in omega (arith, made, total, many, most, same),
    )

-- TWO RUNS BY THE SAME TURNS ARE THE SAME

same_run : (schema : Lists) (capacity : ℕ) (programs : List Program) (turns : List ℕ) (a b : ProgramRun) → IsRunOf schema capacity programs turns a → IsRunOf schema capacity programs turns b → a ≡ b
unfolding unit_at
same_run schema capacity programs turns a b is_a is_b =
    let history = is_a.run.history_is ∙ sym is_b.run.history_is in
    let each = same_lists a.programs b.programs (is_a.count ∙ sym is_b.count) (λ k below.
    let p = there programs k (let n = is_a.count in omega (arith, below, n)) in
    is_a.reached_are (suc k) p.0 p.1 ∙ ap (λ es. Some (reached schema p.0 (suc k) es)) history ∙ sym (is_b.reached_are (suc k) p.0 p.1)) in
    λ i. record {
      run = record {
        results = (is_a.run.results_are ∙ sym is_b.run.results_are) i;
        image = (is_a.run.image_is ∙ sym is_b.run.image_is) i;
        history = history i;
        units = (is_a.run.units_are ∙ sym is_b.run.units_are) i;
      };
      programs = each i;
    }

-- THE SAVED TURNS

-- the turns are accepted, and a run by them is printed as this one, but for the last line
pub saved_again : (lists : Lists) (options : RunOptions) (texts : List (List ℕ)) (turns : List ℕ) (given : ProgramRun) (said : PrintedOnThreads) → length texts ≤ 8
    → IsRunOnThreads lists options.capacity (map (program lists) texts) options.around turns given → IsPrintedOf lists options texts turns given said
    → (turns_refusal said.turns.items ≡ None) × ((by : ProgramRun) → IsRunOf lists options.capacity (map (program lists) texts) (turns_of lists options.capacity (map (program lists) texts) options.around (Some (turns_in said.turns.items))) by
    → PrintsRun lists options texts by (run_text lists options.form texts by ++ audit_line) said.printed)
saved_again lists options texts turns given said most on printed =
    let programs = map (program lists) texts in
    let p = is_between options.around (length programs) in
    let units = map (λ (e : Entry). e.unit) given.run.history in
    let count = length-map texts (program lists) in
    let named = units_named lists options.capacity programs (turns_of lists options.capacity programs options.around (Some turns)) given (omega (arith, count, most)) on.is_run in
    let fewer = kept_few p units in
    let long = length-map given.run.history (λ (e : Entry). e.unit) in
    let short = ap length on.turns_are in
    let back = turns_read_back turns (ap (list_all is_unit_number) on.turns_are ∙ kept_all is_unit_number p units named.0) (let all = named.1 in omega (arith, all, fewer, long, short)) in
    let read : turns_in said.turns.items ≡ turns = ap turns_in printed.turns_are ∙ back.1 in (
      ap turns_refusal printed.turns_are ∙ back.0,
      λ by is.
          let again = subst (λ us. IsRunOf lists options.capacity programs (turns_of lists options.capacity programs options.around (Some us)) by) read is in
          let same = same_run lists options.capacity programs (turns_of lists options.capacity programs options.around (Some turns)) given by on.is_run again in
          subst (λ g. PrintsRun lists options texts g (run_text lists options.form texts g ++ audit_line) said.printed) same printed.is_printed,
    )
