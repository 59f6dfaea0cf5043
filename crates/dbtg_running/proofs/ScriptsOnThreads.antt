-- What scripts make on threads, where they go as programs do.
-- es are entries of one script.
use Rattle.std.proofs.Common.{◌≡◌, ℕ, zero, suc, ◌+◌, ◌-◌, ◌<◌, ◌≤◌, Bool, true, false, List, [], ◌∷◌, ◌++◌, length, map, Option, Some, None, slice_get, refl, sym, ap, ◌∙◌, subst, inl, inr, arith, append-nil}
use Rattle.std.specs.Prelude.{if◌then◌else◌, nat_lt, option_and_then, option_map, replicate, unwrap_or}
use Rattle.std.specs.List.{list_all}
use Rattle.std.proofs.lemmas.Bool.Decides.{nat_tests}
use Rattle.std.proofs.lemmas.List.{drop_all, length-map}
use Rattle.std.proofs.lemmas.Option.{slice_get-map, slice_get_cases}
use Rattle.dbtg_schema.specs.Lists.{Lists}
use Rattle.dbtg_unit.specs.declared.limits.TheConstants.{MOST_STATEMENTS}
use Rattle.dbtg_unit.specs.declared.statement.Statement.{Statement}
use Rattle.dbtg_unit.specs.declared.unit.Entry.{Entry}
use Rattle.dbtg_unit.specs.Database.Statements.Fits.{fits}
use Rattle.dbtg_unit.specs.Database.Laws.Replay.{entries_of}
use Rattle.dbtg_program.specs.declared.program.Program.{Program}
use Rattle.dbtg_program.specs.Going.{AreOf, Due, due, ended, next, state_after}
use Rattle.dbtg_program.specs.Laws.{IsDueOrStop}
use Rattle.dbtg_program.specs.Scripts.{of_script}
use Rattle.dbtg_program.specs.States.{beginning}
use Rattle.dbtg_program.proofs.Scripted.{in_order, made_from}
use Rattle.dbtg_script.specs.Statements.{script}
use Rattle.dbtg_step.specs.Core.Audit.{LeadsTo}
use Rattle.dbtg_step.specs.Laws.{scripts_fit}
use Rattle.dbtg_step.specs.Machine.SequentialDatabase.{unit_at}
use Rattle.dbtg_going.specs.declared.around.Around.{Around}
use Rattle.dbtg_going.specs.declared.going.ProgramRun.{ProgramRun}
use Rattle.dbtg_going.specs.Turns.{comes, due_after, making_by, statement_due, turns_of}
use Rattle.dbtg_threading.specs.Threading.{IsRunOnThreads}
use Rattle.dbtg_threading.proofs.InTurn.{all_in_turn, first_in_turn}
use Rattle.dbtg_command.specs.Refusals.{AllAccepted}
use Rattle.dbtg_replay.specs.Ordering.{first_turns, last_of}
use Rattle.dbtg_replay.proofs.Public.{at_place, few_statements}
use Rattle.dbtg_running.specs.ScriptsOnThreads.{IsHistoryOfAll}

-- each script has at most as many statements as a journal has room for
abbrev pub AreShort : List (List Statement) → Type 0
AreShort scripts = (k : ℕ) (s : List Statement) → slice_get scripts k ≡ Some s → length s ≤ MOST_STATEMENTS

-- those that are read do
pub short_scripts : (lists : Lists) (texts : List (List ℕ)) → AllAccepted lists texts → AreShort (map (script lists) texts)
short_scripts lists [] accepted k s at = absurd (cc (at))
short_scripts lists (text ∷ texts) accepted zero s at =
    let e : script lists text ≡ s = cc (at) in
    subst (λ (xs : List Statement). length xs ≤ MOST_STATEMENTS) e (few_statements lists text accepted.0)
short_scripts lists (text ∷ texts) accepted (suc k) s at = short_scripts lists texts accepted.1 k s at

-- A SCRIPT TO ITS END

-- a statement that fits and is due can be made
nothing_left : (schema : Lists) (o : Option Statement) (d : Due) → IsDueOrStop o d → statement_due schema d ≡ None → ((s : Statement) → o ≡ Some s → fits schema s ≡ true) → o ≡ None
nothing_left schema None d comes none fit = refl
nothing_left schema (Some s) (ended state how) comes none fit = absurd comes
nothing_left schema (Some s) (due state t) comes none fit =
    let fits_too : fits schema t ≡ true = ap (fits schema) comes ∙ fit s refl in
    let made : (if fits schema t then Some t else None) ≡ Some t = ap (λ b. if b then Some t else None) fits_too in
    absurd (cc (made, none))

module _ (schema : Lists) (script : List Statement) (fit : list_all (fits schema) script ≡ true) (short : length script ≤ MOST_STATEMENTS) (es : List Entry) where
  abbrev now : Due
  now = next schema (of_script script) (state_after schema (of_script script) (beginning (of_script script)) es)

  all_there : (b : Bool) → nat_lt (length es) MOST_STATEMENTS ≡ b → due_after schema (length es) now ≡ None → length script ≤ length es
  all_there false is none = let full : MOST_STATEMENTS ≤ length es = grind (arith, nat_tests, is) in omega (arith, full, short)
  all_there true is none =
      let stops : statement_due schema now ≡ None = ap (λ b. if b then statement_due schema now else None) (sym is) ∙ none in
      let past = nothing_left schema (slice_get script (length es)) now (in_order schema script es) stops (λ s at. at_place (fits schema) script (length es) s fit at) in
      elim (slice_get_cases script (length es)).1 [
        | inl p ↦ absurd (cc (p.2, past))
        | inr p ↦ p.0
      ]

  -- entries of it behind which nothing is due have all its statements
  all_made : AreOf schema (of_script script) es → due_after schema (length es) now ≡ None → map (λ (e : Entry). e.statement) es ≡ script
  all_made are none =
      let made = map (λ (e : Entry). e.statement) es in
      let all = all_there (nat_lt (length es) MOST_STATEMENTS) refl none in
      sym (made_from schema script es (beginning (of_script script)) are ∙ ap (λ xs. made ++ xs) (drop_all (0 + length es) script (omega (arith, all))) ∙ append-nil made)

-- ALL SCRIPTS

abbrev pub around_of : Bool → Around
around_of first = record { first = first; last = false }

module _ (schema : Lists) (capacity : ℕ) (scripts : List (List Statement)) (first : Bool) (turns : List ℕ) (given : ProgramRun) (fit : scripts_fit schema scripts ≡ true) (short : AreShort scripts)
    (run : IsRunOnThreads schema capacity (map of_script scripts) (around_of first) turns given) where
  abbrev programs : List Program
  programs = map of_script scripts

  abbrev history : List Entry
  history = given.run.history

  leads : LeadsTo schema capacity (length scripts) history given.run.image given.run.units
  leads =
      let made = run.is_run.run in
      let by = making_by schema capacity programs (turns_of schema capacity programs (around_of first) (Some turns)) in
      let as_programs : LeadsTo schema capacity (length programs) by.history given.run.image given.run.units = record { history_of = made.history_of; image_is = made.image_is; units_are = made.units_are } in
      subst (λ es. LeadsTo schema capacity (length scripts) es given.run.image given.run.units) (sym made.history_is)
      (subst (λ n. LeadsTo schema capacity n by.history given.run.image given.run.units) (length-map scripts of_script) as_programs)

  own : (k : ℕ) (s : List Statement) → slice_get scripts k ≡ Some s → map (λ (e : Entry). e.statement) (entries_of (k + 1) history) ≡ s
  unfolding unit_at
  own k s at =
      let there : unit_at programs (suc k) ≡ Some (of_script s) = slice_get-map of_script scripts k ∙ ap (option_map of_script) at in
      let number : k + 1 ≡ suc k = omega arith in
      let es = entries_of (suc k) history in
      let none = sym (ap (option_and_then (λ (p : Program). due_after schema (length es) (comes schema p (suc k) history))) there) ∙ run.at_end (suc k) in
      ap (λ n. map (λ (e : Entry). e.statement) (entries_of n history)) number
      ∙ all_made schema s (at_place (list_all (fits schema)) scripts k s fit at) (short k s at) es (run.is_run.of_programs (suc k) (of_script s) there) none

  pub history_of_all : IsHistoryOfAll schema capacity scripts history given.run.image given.run.units
  history_of_all = record { leads = leads; own = own }

-- the units in the order of their tickets
pub in_turn : (schema : Lists) (capacity : ℕ) (scripts : List (List Statement)) (first : Bool) (turns : List ℕ) (given : ProgramRun) → scripts_fit schema scripts ≡ true → AreShort scripts → 0 < length scripts
    → IsRunOnThreads schema capacity (map of_script scripts) (around_of first) turns given → map (λ (e : Entry). e.unit) given.run.history ≡ first_turns first scripts ++ turns
in_turn schema capacity scripts false turns given fit short some run = all_in_turn schema capacity (map of_script scripts) (around_of false) turns given run refl refl
in_turn schema capacity scripts true turns given fit short some run =
    let k = length scripts - 1 in
    let n = length (map of_script scripts) in
    let many : n ≡ length scripts = length-map scripts of_script in
    let of_last : n - 1 + 1 ≡ k + 1 = ap (λ m. m - 1 + 1) many in
    let number : n - 1 + 1 ≡ length scripts = omega (arith, many, some) in
    let es = entries_of (n - 1 + 1) given.run.history in
    elim (slice_get_cases scripts k).1 [
      | inl p ↦
          let made : map (λ (e : Entry). e.statement) es ≡ last_of scripts
          = ap (λ m. map (λ (e : Entry). e.statement) (entries_of m given.run.history)) of_last ∙ own schema capacity scripts true turns given fit short run k p.0 p.2 ∙ sym (ap (λ o. unwrap_or o []) p.2) in
          let count : length (map (λ (e : Entry). e.unit) es) ≡ length (last_of scripts) = length-map es (λ (e : Entry). e.unit) ∙ sym (length-map es (λ (e : Entry). e.statement)) ∙ ap length made in
          first_in_turn schema capacity (map of_script scripts) (around_of true) turns given run refl refl ∙ (λ i. replicate (count i) (number i) ++ turns)
      | inr p ↦ absurd (omega (arith, p.0, some))
    ]
