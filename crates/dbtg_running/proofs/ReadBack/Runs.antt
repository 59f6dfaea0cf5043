-- The trace of a run of programs is read back.
use Rattle.std.proofs.Common.{◌≡◌, ℕ, zero, suc, ◌+◌, ◌≤◌, Bool, true, false, List, [], ◌∷◌, length, map, Some, None, slice_get, refl, sym, ap, subst, ◌∙◌, arith, append-nil}
use Rattle.std.specs.Prelude.{◌==◌, if◌then◌else◌, option_map}
use Rattle.std.specs.List.{AllByRecursion}
use Rattle.std.proofs.lemmas.List.{length-map}
use Rattle.std.proofs.lemmas.Option.{slice_get-map}
use Rattle.dbtg_schema.specs.Lists.{Lists}
use Rattle.dbtg_schema.specs.Named.{IsNamed}
use Rattle.dbtg_schema.specs.Sound.{IsSound}
use Rattle.dbtg_unit.specs.Database.Laws.Replay.{AnswersHold, IsHistoryOf, entries_of, opening_state}
use Rattle.dbtg_unit.specs.declared.unit.Entry.{Entry}
use Rattle.dbtg_script.specs.Laws.{BeginScripts}
use Rattle.dbtg_script.specs.Lines.{lines, statement_lines}
use Rattle.dbtg_step.specs.Machine.SequentialDatabase.{unit_at}
use Rattle.dbtg_program.specs.Faults.{refusal as program_refusal}
use Rattle.dbtg_program.specs.Reading.{program}
use Rattle.dbtg_program.specs.States.{beginning}
use Rattle.dbtg_going.specs.declared.going.ProgramRun.{ProgramRun}
use Rattle.dbtg_going.specs.Turns.{IsRunOf}
use Rattle.dbtg_trace.specs.Laws.{IsSayable}
use Rattle.dbtg_trace.proofs.Public.{Clean, lines_read_back, sayable}
use Rattle.dbtg_running.specs.Echoing.{lines_made, scripts_made}
use Rattle.dbtg_running.specs.Laws.{AreShort, PrintedRunIsReadBack}
use Rattle.dbtg_running.specs.Reading.{AllAccepted}
use Rattle.dbtg_running.proofs.ReadBack.Made.{IsScriptOf, script_said}

-- LISTS

all_from : {X : Type 0} (P : X → Type 0) (xs : List X) → ((k : ℕ) (x : X) → slice_get xs k ≡ Some x → P x) → AllByRecursion P xs
all_from P [] each = tt
all_from P (x ∷ xs) each = (each 0 x refl, all_from P xs (λ k y at. each (suc k) y at))

all_at : {X : Type 0} (P : X → Type 0) (xs : List X) (k : ℕ) (x : X) → AllByRecursion P xs → slice_get xs k ≡ Some x → P x
all_at P [] k x all at = absurd cc
all_at P (y ∷ ys) zero x all at = let e : y ≡ x = cc in subst P e all.0
all_at P (y ∷ ys) (suc k) x all at = all_at P ys k x all.1 at

all_mapped : {X Y : Type 0} (P : Y → Type 0) (f : X → Y) (xs : List X) → AllByRecursion (λ x. P (f x)) xs → AllByRecursion P (map f xs)
all_mapped P f [] all = tt
all_mapped P f (x ∷ xs) all = (all.0, all_mapped P f xs all.1)

all_both : {X : Type 0} (P Q : X → Type 0) (xs : List X) → AllByRecursion (λ x. P x → Q x) xs → AllByRecursion P xs → AllByRecursion Q xs
all_both P Q [] all each = tt
all_both P Q (x ∷ xs) all each = (all.0 each.0, all_both P Q xs all.1 each.1)

of_unit : (P : Entry → Type 0) (u : ℕ) (es : List Entry) → AllByRecursion P es → AllByRecursion P (entries_of u es)
of_unit P u [] all = tt
of_unit P u (e ∷ es) all = by (of_unit P u es all.1) (e.unit == u)
  where
    by : AllByRecursion P (entries_of u es) → (k : Bool) → AllByRecursion P (if k then e ∷ entries_of u es else entries_of u es)
    by rest true = (all.0, rest)
    by rest false = rest

-- THE SCRIPTS THAT WERE MADE

module _ (schema : Lists) (history : List Entry) where
  abbrev made_of : ℕ → List ℕ → List ℕ
  made_of u text = lines_made schema (program schema text) (lines text) (beginning (program schema text)) (entries_of u history)

  many : (u : ℕ) (texts : List (List ℕ)) → length (scripts_made schema u texts history) ≡ length texts
  many u [] = refl
  many u (text ∷ texts) = ap suc (many (u + 1) texts)

  script_at : (u : ℕ) (texts : List (List ℕ)) (k : ℕ) (t : List ℕ) → slice_get (scripts_made schema u texts history) k ≡ Some t → (text : List ℕ) × (slice_get texts k ≡ Some text) × (t ≡ made_of (u + k) text)
  script_at u [] k t at = absurd cc
  script_at u (text ∷ texts) zero t at =
      let same : made_of u text ≡ t = cc in
      let e : u ≡ u + 0 = omega arith in
      (text, refl, sym same ∙ ap (λ (n : ℕ). made_of n text) e)
  script_at u (text ∷ texts) (suc k) t at =
      let r = script_at (u + 1) texts k t at in
      let e : (u + 1) + k ≡ u + suc k = omega arith in
      (r.0, r.1, r.2 ∙ ap (λ (n : ℕ). made_of n r.0) e)

accepted_at : (schema : Lists) (texts : List (List ℕ)) (k : ℕ) (text : List ℕ) → AllAccepted schema texts → slice_get texts k ≡ Some text → program_refusal schema text ≡ None
accepted_at schema [] k text all at = absurd cc
accepted_at schema (t ∷ texts) zero text all at = let e : t ≡ text = cc in subst (λ (x : List ℕ). program_refusal schema x ≡ None) e all.0
accepted_at schema (t ∷ texts) (suc k) text all at = accepted_at schema texts k text all.1 at

-- the program of unit k + 1
program_at : (schema : Lists) (texts : List (List ℕ)) (k : ℕ) (text : List ℕ) → slice_get texts k ≡ Some text → unit_at (map (program schema) texts) (k + 1) ≡ Some (program schema text)
unfolding unit_at
program_at schema texts k text at =
    let e : k + 1 ≡ suc k = omega arith in
    ap (λ (n : ℕ). unit_at (map (program schema) texts) n) e ∙ slice_get-map (program schema) texts k ∙ ap (option_map (program schema)) at

module _ (schema : Lists) (sound : IsSound schema) (named : IsNamed schema) (capacity : ℕ) (small : capacity ≤ 999999) (texts : List (List ℕ)) (accepted : AllAccepted schema texts) (turns : List ℕ) (given : ProgramRun) (is : IsRunOf schema capacity (map (program schema) texts) turns given) where
  abbrev history : List Entry
  history = given.run.history

  abbrev made : List (List ℕ)
  made = scripts_made schema 1 texts given.run.history

  -- as many units as scripts
  count : length (map (program schema) texts) ≡ length (scripts_made schema 1 texts given.run.history)
  count = length-map texts (program schema) ∙ sym (many schema history 1 texts)

  history_of : IsHistoryOf schema capacity (length (map (program schema) texts)) given.run.history
  history_of = subst (λ (es : List Entry). IsHistoryOf schema capacity (length (map (program schema) texts)) es) (sym is.run.history_is) is.run.history_of

  answers : AllByRecursion (λ e. IsSayable schema e.answer.key e.answer.items) given.run.history
  answers = sayable schema sound named capacity small (length (map (program schema) texts)) history history_of.fitting history_of.answers_hold

  each : (k : ℕ) (t : List ℕ) → slice_get (scripts_made schema 1 texts given.run.history) k ≡ Some t → IsScriptOf schema (entries_of (k + 1) given.run.history) t
  each k t at =
      let r = script_at schema history 1 texts k t at in
      let e : 1 + k ≡ k + 1 = omega arith in
      let says = script_said schema sound named r.0 (accepted_at schema texts k r.0 accepted r.1) (entries_of (k + 1) history) (is.of_programs (k + 1) (program schema r.0) (program_at schema texts k r.0 r.1))
      (of_unit (λ x. IsSayable schema x.answer.key x.answer.items) (k + 1) history answers) in
      subst (IsScriptOf schema (entries_of (k + 1) history)) (sym (r.2 ∙ ap (λ (n : ℕ). made_of schema history n r.0) e)) says

  begin : BeginScripts schema (scripts_made schema 1 texts given.run.history) given.run.history
  begin k t at = ([], append-nil (map (λ (x : Entry). x.statement) (entries_of (k + 1) history)) ∙ sym (each k t at).says)

  clean : AreShort (scripts_made schema 1 texts given.run.history) → AllByRecursion (AllByRecursion (Clean schema)) (map statement_lines (scripts_made schema 1 texts given.run.history))
  clean short =
      all_mapped (AllByRecursion (Clean schema)) statement_lines made
      (all_from (λ t. AllByRecursion (Clean schema) (statement_lines t)) made
      (λ k t at. all_both (λ l. length l ≤ 1000) (Clean schema) (statement_lines t) (each k t at).clean (all_at (λ x. AllByRecursion (λ l. length l ≤ 1000) (statement_lines x)) made k t short at)))

pub run_read_back : PrintedRunIsReadBack
run_read_back schema sound named capacity small texts few accepted turns given is short room most =
    let history = given.run.history in
    let made = scripts_made schema 1 texts history in
    let low : length made ≤ 255 = subst (λ (n : ℕ). n ≤ 255) (sym (many schema history 1 texts)) few in
    let hold : AnswersHold schema capacity (opening_state schema (length made)) history =
    subst (λ (n : ℕ). AnswersHold schema capacity (opening_state schema n) history) (count schema sound named capacity small texts accepted turns given is) (history_of schema sound named capacity small texts accepted turns given is).answers_hold in
    lines_read_back schema sound capacity made history (clean schema sound named capacity small texts accepted turns given is short) (begin schema sound named capacity small texts accepted turns given is) hold named small low room most
