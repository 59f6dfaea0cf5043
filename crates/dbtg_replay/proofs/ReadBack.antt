-- The trace that is printed of a replay is read back.
use Rattle.std.proofs.Common.{◌≡◌, ℕ, suc, ◌+◌, Bool, true, false, List, [], ◌∷◌, ◌++◌, length, map, Option, Some, None, slice_get, sym, ap, subst, ◌∙◌, arith}
use Rattle.std.specs.Prelude.{option_map}
use Rattle.std.specs.List.{AllByRecursion}
use Rattle.std.proofs.lemmas.List.{length-map}
use Rattle.std.proofs.lemmas.Option.{slice_get-map}
use Rattle.dbtg_schema.specs.Lists.{Lists}
use Rattle.dbtg_unit.specs.declared.statement.Statement.{Statement}
use Rattle.dbtg_unit.specs.declared.unit.Entry.{Entry}
use Rattle.dbtg_unit.specs.Database.Laws.Replay.{AnswersHold, opening_state}
use Rattle.dbtg_step.specs.declared.results.Run.{Run}
use Rattle.dbtg_step.specs.Machine.Headline.{IsSequential}
use Rattle.dbtg_step.specs.Machine.SequentialDatabase.{unit_at}
use Rattle.dbtg_script.specs.Laws.{BeginScripts}
use Rattle.dbtg_script.specs.StatementFaults.{refusal as script_refusal}
use Rattle.dbtg_script.specs.Statements.{script}
use Rattle.dbtg_trace.proofs.Public.{clean_scripts, lines_read_back, statements_fit}
use Rattle.dbtg_command.specs.declared.order.Order.{Order}
use Rattle.dbtg_command.specs.declared.order.Order.TheVariants.{Moves, Serial, Turns}
use Rattle.dbtg_command.specs.Refusals.{AllAccepted, schema_in}
use Rattle.dbtg_replay.specs.Laws.{PrintedReplayIsTraced}
use Rattle.dbtg_replay.specs.Replaying.{Gives}

-- each run is a run of the sequential database, in whatever order the scripts are run
sequential : (first : Bool) (lists : Lists) (capacity : ℕ) (scripts : List (List Statement)) (order : Order (List ℕ)) (given : Run) → Gives first lists capacity scripts order given
    → IsSequential lists capacity scripts given.history given.image given.units
sequential false lists capacity scripts Serial given is = is.1.sequential
sequential true lists capacity scripts Serial given is = is.1.sequential
sequential first lists capacity scripts (Moves text) given is = subst (λ (r : Run). IsSequential lists capacity scripts r.history r.image r.units) (sym is.given_is) is.is_run.sequential
sequential first lists capacity scripts (Turns text) given is = is.1.sequential

all_accepted : (lists : Lists) (texts : List (List ℕ)) → AllAccepted lists texts → AllByRecursion (λ text. script_refusal lists text ≡ None) texts
all_accepted lists [] all = tt
all_accepted lists (text ∷ texts) all = (all.0, all_accepted lists texts all.1)

script_at : (lists : Lists) (texts : List (List ℕ)) (k : ℕ) (text : List ℕ) → slice_get texts k ≡ Some text → unit_at (map (script lists) texts) (k + 1) ≡ Some (script lists text)
unfolding unit_at
script_at lists texts k text at =
    let e : k + 1 ≡ suc k = omega arith in
    ap (λ (n : ℕ). unit_at (map (script lists) texts) n) e ∙ slice_get-map (script lists) texts k ∙ ap (option_map (script lists)) at

pub replay_is_traced : PrintedReplayIsTraced
replay_is_traced first text scripts order capacity out sound named few small shown =
    let lists = schema_in text in
    let history = shown.run.given.history in
    let law = sequential first lists capacity (map (script lists) scripts) order shown.run.given shown.run.is_run in
    let answers : AnswersHold lists capacity (opening_state lists (length scripts)) history =
    subst (λ (n : ℕ). AnswersHold lists capacity (opening_state lists n) history) (length-map scripts (script lists)) law.answers in
    let begin : BeginScripts lists scripts history = λ k t at. law.scripts_begin (k + 1) (script lists t) (script_at lists scripts k t at) in
    let clean = clean_scripts lists scripts (all_accepted lists scripts shown.texts.1) in
    record {
      history_of = record { tickets = law.tickets; fitting = statements_fit lists sound capacity scripts history clean begin answers; answers_hold = answers };
      back = λ room short. lines_read_back lists sound capacity scripts history clean begin answers named small few room short;
    }
