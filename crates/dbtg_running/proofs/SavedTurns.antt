-- The turns that are saved after a run on threads: `replay` by them prints the same.
use Rattle.std.proofs.Common.{◌≡◌, ℕ, zero, suc, ◌+◌, Bool, true, List, [], ◌++◌, length, map, None, Some, sym, ap, ◌∙◌, subst, append-nil, arith}
use Rattle.dbtg_schema.specs.Lists.{Lists}
use Rattle.dbtg_unit.specs.declared.statement.Statement.{Statement}
use Rattle.dbtg_unit.specs.declared.unit.Entry.{Entry}
use Rattle.dbtg_unit.specs.declared.unit.Unit.{Unit}
use Rattle.dbtg_unit.specs.Database.State.Image.{Image}
use Rattle.dbtg_unit.specs.Database.Laws.Replay.{entries_of}
use Rattle.dbtg_step.specs.Machine.SequentialDatabase.{unit_at}
use Rattle.dbtg_step.specs.Machine.Headline.{IsSequential}
use Rattle.dbtg_script.specs.Statements.{script}
use Rattle.dbtg_script.specs.Turns.{turns_refusal}
use Rattle.dbtg_command.specs.declared.order.Order.TheVariants.{Serial, Turns}
use Rattle.dbtg_command.specs.declared.place.TextPlace.{TextPlace}
use Rattle.dbtg_command.specs.Refusals.{AcceptsTexts, is_count, schema_in}
use Rattle.dbtg_command.specs.Sources.{ReadSchema, ReadScripts}
use Rattle.dbtg_command.proofs.Public.{all_accepted, read_texts}
use Rattle.dbtg_replay.specs.declared.replay.AnswerForm.{AnswerForm}
use Rattle.dbtg_replay.specs.Replaying.{IsShownReplay}
use Rattle.dbtg_replay.proofs.Public.{made_again_behind}
use Rattle.dbtg_running.specs.ScriptsOnThreads.{IsHistoryOfAll, IsPrintedOnThreads, ThreadsHeld}
use Rattle.dbtg_running.specs.Threading.{audit_line}

history_begins : (lists : Lists) (capacity : ℕ) (scripts : List (List Statement)) (history : List Entry) (image : Image) (units : List Unit) → IsHistoryOfAll lists capacity scripts history image units
    → (u : ℕ) (script : List Statement) → unit_at scripts u ≡ Some script → (left : List Statement) × (map (λ (e : Entry). e.statement) (entries_of u history) ++ left ≡ script)
unfolding unit_at
history_begins lists capacity scripts history image units all zero script at = absurd (cc (at))
history_begins lists capacity scripts history image units all (suc k) script at =
    let number : suc k ≡ k + 1 = omega arith in
    let made = map (λ (e : Entry). e.statement) (entries_of (suc k) history) in
    ([], append-nil made ∙ ap (λ n. map (λ (e : Entry). e.statement) (entries_of n history)) number ∙ all.own k script at)

pub sequential : (lists : Lists) (capacity : ℕ) (scripts : List (List Statement)) (history : List Entry) (image : Image) (units : List Unit) → IsHistoryOfAll lists capacity scripts history image units → IsSequential lists capacity scripts history image units
sequential lists capacity scripts history image units all = record {
  tickets = all.leads.history_of.tickets;
  answers = all.leads.history_of.answers_hold;
  image_is = all.leads.image_is;
  units_are = all.leads.units_are;
  scripts_begin = history_begins lists capacity scripts history image units all;
}

saved_again : (first : Bool) (form : AnswerForm) (text : List ℕ) (scripts : List (List ℕ)) (capacity : ℕ) (out turns : List ℕ) → is_count (length scripts) ≡ true → AcceptsTexts text scripts
    → IsPrintedOnThreads first form (schema_in text) capacity (map (script (schema_in text)) scripts) scripts out turns
    → (turns_refusal turns ≡ None) × ((printed : List ℕ) → IsShownReplay first form text scripts (Turns turns) capacity printed → out ≡ printed ++ audit_line)
saved_again first form text scripts capacity out turns right accepted printed_is =
    let lists = schema_in text in
    let law = sequential lists capacity (map (script lists) scripts) printed_is.given.history printed_is.given.image printed_is.given.units printed_is.is_history in
    let again = made_again_behind first form text scripts capacity printed_is.given printed_is.behind turns right accepted law printed_is.in_turn printed_is.are_turns in
    (again.0, λ printed r. printed_is.is_text ∙ ap (λ xs. xs ++ audit_line) (sym (again.1 printed r)))

-- what the statements that were read lead to on threads is what the texts do
pub runs_on_threads : (holds : TextPlace → List ℕ → Type 0) (lists : Lists) (count : ℕ) (first : Bool) (form : AnswerForm) (capacity : ℕ) (out turns : List ℕ)
    → is_count count ≡ true → ReadSchema holds lists → (scripts : ReadScripts holds lists count)
    → IsPrintedOnThreads first form lists capacity (map (script lists) scripts.texts) scripts.texts out turns → ThreadsHeld holds count first form capacity out turns
runs_on_threads holds lists count first form capacity out turns right read scripts run =
    let counted = ap is_count scripts.many ∙ right in
    let accepted = all_accepted holds lists count read scripts in
    let of_texts = subst (λ (s : Lists). IsPrintedOnThreads first form s capacity (map (script s) scripts.texts) scripts.texts out turns) read.says run in
    let saved = saved_again first form read.text scripts.texts capacity out turns counted accepted of_texts in (
      read_texts holds lists count read scripts Serial tt,
      record {
        count = counted;
        texts = accepted;
        run = of_texts;
        turns_too = saved.0;
        again = saved.1;
      },
    )
