-- The units of a run on threads in which no program goes last: those of the first program, and then those of the turns.
-- u is a unit, us are turns, es are entries, h is a history.
use Rattle.std.proofs.Common.{◌≡◌, refl, sym, ◌∙◌, ap, ℕ, zero, suc, ◌+◌, true, false, Bool, ◌&&◌, List, [], ◌∷◌, ◌++◌, length, map, Option, Some, None, append-nil, append_assoc, arith}
use Rattle.std.specs.Prelude.{◌==◌, filter, if◌then◌else◌, not, replicate}
use Rattle.std.specs.List.{list_all}
use Rattle.std.proofs.lemmas.Bool.{and_from, and_parts}
use Rattle.std.proofs.lemmas.Bool.Decides.{nat_tests}
use Rattle.std.proofs.lemmas.List.{map-append}
use Rattle.std.proofs.lemmas.List.Elements.{filter-append}
use Rattle.std.proofs.lemmas.List.Folds.{list_all-append}
use Rattle.dbtg_schema.specs.Lists.{Lists}
use Rattle.dbtg_unit.specs.declared.limits.TheConstants.{MOST_STATEMENTS}
use Rattle.dbtg_unit.specs.declared.statement.Statement.{Statement}
use Rattle.dbtg_unit.specs.declared.unit.Entry.{Entry}
use Rattle.dbtg_unit.specs.Database.Statements.Effect.{StatementEffect}
use Rattle.dbtg_unit.specs.Database.Laws.Replay.{effect_of_unit, entries_of, opening_state, replay}
use Rattle.dbtg_program.specs.declared.program.Program.{Program}
use Rattle.dbtg_going.specs.declared.around.Around.{Around}
use Rattle.dbtg_going.specs.declared.going.ProgramRun.{ProgramRun}
use Rattle.dbtg_going.specs.Turns.{after_turn, after_turns, first_turns, have_ended, is_heard, last_turns, made, others, statement_of, to_the_end, turns_before, turns_of, with_effect_of}
use Rattle.dbtg_going.proofs.Turning.{turns_behind}
use Rattle.dbtg_threading.specs.Threading.{IsRunOnThreads, is_between}
use Rattle.dbtg_threading.proofs.Around.{all_heard, all_kept, first_is_not, none_kept}
use Rattle.dbtg_threading.proofs.Found.{all_equal}

-- LISTS

abbrev units_of : List Entry → List ℕ
units_of es = map (λ (e : Entry). e.unit) es

kept_or_not : (p : ℕ → Bool) (u : ℕ) (us : List ℕ) (b : Bool) → p u ≡ b → list_all p us ≡ true → list_all p (if b then u ∷ us else us) ≡ true
kept_or_not p u us true is all = and_from (p u) (list_all p us) is all
kept_or_not p u us false is all = all

-- what a test has left passes it
left_pass : (p : ℕ → Bool) (us : List ℕ) → list_all p (filter p us) ≡ true
left_pass p [] = refl
left_pass p (u ∷ us) = kept_or_not p u (filter p us) (p u) refl (left_pass p us)

every : (p : ℕ → Bool) (us : List ℕ) → ((u : ℕ) → p u ≡ true) → list_all p us ≡ true
every p [] passes = refl
every p (u ∷ us) passes = and_from (p u) (list_all p us) (passes u) (every p us passes)

-- turns of one unit
all_of_one : (f : ℕ) (us : List ℕ) → list_all (λ u. u == f) us ≡ true → us ≡ replicate (length us) f
all_of_one f [] all = refl
all_of_one f (u ∷ us) all =
    let parts = and_parts (u == f) (list_all (λ v. v == f) us) all in
    let same : u ≡ f = grind (arith, nat_tests, parts.0) in
    λ i. same i ∷ all_of_one f us parts.1 i

mine : (f : ℕ) (es : List Entry) → list_all (λ u. u == f) (units_of es) ≡ true → entries_of f es ≡ es
mine f [] all = refl
mine f (e ∷ es) all =
    let parts = and_parts (e.unit == f) (list_all (λ u. u == f) (units_of es)) all in
    ap (λ b. if b then e ∷ entries_of f es else entries_of f es) parts.0 ∙ ap (λ fs. e ∷ fs) (mine f es parts.1)

not_mine : (f : ℕ) (p : ℕ → Bool) (es : List Entry) → p f ≡ false → list_all p (units_of es) ≡ true → entries_of f es ≡ []
not_mine f p [] fails all = refl
not_mine f p (e ∷ es) fails all =
    let parts = and_parts (p e.unit) (list_all p (units_of es)) all in
    let other : (e.unit == f) ≡ false = elim (e.unit == f) as (λ b. (e.unit == f) ≡ b → b ≡ false) [
      | true ↦ λ is. let same : e.unit ≡ f = grind (arith, nat_tests, is) in absurd (cc (ap p same, parts.0, fails))
      | false ↦ λ is. refl
    ] refl in
    ap (λ b. if b then e ∷ entries_of f es else entries_of f es) other ∙ not_mine f p es fails parts.1

module _ (schema : Lists) (capacity : ℕ) (programs : List Program) where
  abbrev after : List Entry → List ℕ → List Entry
  after = after_turns schema capacity programs

  -- a history with more entries, whose units pass a test
  record Grown (p : ℕ → Bool) (h new : List Entry) : Type 0 where
    entries : List Entry
    new_is : new ≡ h ++ entries
    pass : list_all p (units_of entries) ≡ true

  not_grown : (p : ℕ → Bool) (h : List Entry) → Grown p h h
  not_grown p h = record { entries = []; new_is = sym (append-nil h); pass = refl }

  by_effect : (p : ℕ → Bool) (h : List Entry) (u : ℕ) (s : Statement) (o : Option StatementEffect) → p u ≡ true → Grown p h (with_effect_of h u s o)
  by_effect p h u s None passes = not_grown p h
  by_effect p h u s (Some o) passes = record { entries = record { ticket = length h; unit = u; statement = s; answer = o.answer } ∷ []; new_is = refl; pass = and_from (p u) true passes refl }

  by_turn : (p : ℕ → Bool) (h : List Entry) (u : ℕ) (o : Option Statement) → p u ≡ true → Grown p h (made schema capacity (length programs) h u o)
  by_turn p h u None passes = not_grown p h
  by_turn p h u (Some s) passes = by_effect p h u s (effect_of_unit schema capacity (replay schema capacity (opening_state schema (length programs)) h) u s) passes

  by_turns : (p : ℕ → Bool) (us : List ℕ) (h : List Entry) → list_all p us ≡ true → Grown p h (after h us)
  unfolding after_turns
  by_turns p [] h all = not_grown p h
  by_turns p (u ∷ us) h all =
      let parts = and_parts (p u) (list_all p us) all in
      let one = by_turn p h u (statement_of schema programs h u) parts.0 in
      let rest = by_turns p us (after_turn schema capacity programs h u) parts.1 in
      record {
        entries = one.entries ++ rest.entries;
        new_is = rest.new_is ∙ ap (λ es. es ++ rest.entries) one.new_is ∙ append_assoc h one.entries rest.entries;
        pass = ap (list_all p) (map-append (λ (e : Entry). e.unit) one.entries rest.entries) ∙ list_all-append p (units_of one.entries) (units_of rest.entries)
            ∙ and_from (list_all p (units_of one.entries)) (list_all p (units_of rest.entries)) one.pass rest.pass;
      }

  to_end_of_one : (f : ℕ) → list_all (λ u. u == f) (to_the_end f) ≡ true
  unfolding to_the_end
  to_end_of_one f = all_equal f MOST_STATEMENTS

  module _ (around : Around) (turns : List ℕ) (given : ProgramRun) (run : IsRunOnThreads schema capacity programs around turns given) (no_last : around.last ≡ false) where
    abbrev history : List Entry
    history = given.run.history

    abbrev p : ℕ → Bool
    p = is_between around (length programs)

    abbrev pub first_unit : ℕ
    first_unit = others around (length programs) + 1

    turns_pass : list_all p turns ≡ true
    turns_pass = ap (list_all p) run.turns_are ∙ left_pass p (units_of history)

    all_turns : turns_of schema capacity programs around (Some turns) ≡ first_turns around (length programs) ++ turns
    all_turns =
        let before = turns_before around (length programs) (Some turns) in
        let led = after [] before in
        ap (λ b. before ++ (if b && have_ended schema programs led then to_the_end (length programs) else [])) no_last ∙ append-nil before
        ∙ ap (λ us. first_turns around (length programs) ++ us) (all_kept (is_heard around (length programs)) turns (all_heard around (length programs) turns turns_pass))

    -- IF NO PROGRAM GOES FIRST

    each_passes : around.first ≡ false → (u : ℕ) → p u ≡ true
    each_passes no_first u =
        ap (λ b. not (b && u == first_unit) && not (around.last && u == length programs)) no_first ∙ ap (λ b. not (b && u == length programs)) no_last

    pub all_in_turn : around.first ≡ false → units_of history ≡ turns
    all_in_turn no_first = sym (all_kept p (units_of history) (every p (units_of history) (each_passes no_first))) ∙ sym run.turns_are

    -- IF ONE GOES FIRST

    module _ (first : around.first ≡ true) where
      one : Grown (λ u. u == first_unit) [] (after [] (to_the_end first_unit))
      one = by_turns (λ u. u == first_unit) (to_the_end first_unit) [] (to_end_of_one first_unit)

      two : Grown p (after [] (to_the_end first_unit)) (after (after [] (to_the_end first_unit)) turns)
      two = by_turns p turns (after [] (to_the_end first_unit)) turns_pass

      history_is : history ≡ one.entries ++ two.entries
      history_is =
          run.is_run.run.history_is ∙ ap (after []) (all_turns ∙ ap (λ b. (if b then to_the_end first_unit else []) ++ turns) first)
          ∙ turns_behind schema capacity programs [] (to_the_end first_unit) turns ∙ two.new_is ∙ ap (λ es. es ++ two.entries) one.new_is

      units_are : units_of history ≡ replicate (length (units_of one.entries)) first_unit ++ units_of two.entries
      units_are =
          ap units_of history_is ∙ map-append (λ (e : Entry). e.unit) one.entries two.entries ∙ ap (λ us. us ++ units_of two.entries) (all_of_one first_unit (units_of one.entries) one.pass)

      turns_made : turns ≡ units_of two.entries
      turns_made =
          let fronts = replicate (length (units_of one.entries)) first_unit in
          run.turns_are ∙ ap (filter p) units_are ∙ filter-append p fronts (units_of two.entries)
          ∙ ap (λ us. us ++ filter p (units_of two.entries)) (none_kept p first_unit (length (units_of one.entries)) (first_is_not around (length programs) first))
          ∙ all_kept p (units_of two.entries) two.pass

      own : entries_of first_unit history ≡ one.entries
      own =
          ap (entries_of first_unit) history_is ∙ filter-append (λ (e : Entry). e.unit == first_unit) one.entries two.entries
          ∙ (λ i. mine first_unit one.entries one.pass i ++ not_mine first_unit p two.entries (first_is_not around (length programs) first) two.pass i) ∙ append-nil one.entries

      -- its unit made the first entries, and the others made the rest
      pub first_in_turn : units_of history ≡ replicate (length (units_of (entries_of first_unit history))) first_unit ++ turns
      first_in_turn = units_are ∙ (λ i. replicate (length (units_of (sym own i))) first_unit ++ sym turns_made i)
