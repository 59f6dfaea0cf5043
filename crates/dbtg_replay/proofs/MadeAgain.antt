-- A history in which each unit makes its script: its turns are read back, and `replay` by them prints what the history leads to.
use Rattle.std.proofs.Common.{◌≡◌, ℕ, zero, suc, ◌+◌, ◌<◌, ◌≤◌, Bool, true, false, List, ◌∷◌, [], ◌++◌, length, map, Option, Some, None, slice_get, refl, sym, ap, ◌∙◌, subst, arith, nat_le}
use Rattle.std.specs.Prelude.{option_map}
use Rattle.std.specs.List.{list_all}
use Rattle.std.proofs.lemmas.Bool.{and_from, and_parts, le-leb, leb-true}
use Rattle.std.proofs.lemmas.List.{length-append, length-map}
use Rattle.std.proofs.lemmas.List.Folds.{list_all-append}
use Rattle.dbtg_schema.specs.Lists.{Lists}
use Rattle.dbtg_unit.specs.declared.limits.TheConstants.{MOST_STATEMENTS}
use Rattle.dbtg_unit.specs.declared.statement.Statement.{Statement}
use Rattle.dbtg_unit.specs.declared.unit.Entry.{Entry}
use Rattle.dbtg_unit.specs.declared.unit.Unit.{Unit}
use Rattle.dbtg_unit.specs.Database.State.Image.{Image}
use Rattle.dbtg_unit.specs.Database.Laws.Replay.{entries_of, opening_state}
use Rattle.dbtg_unit.proofs.Public.{opening_length}
use Rattle.dbtg_step.specs.declared.results.Run.{Run}
use Rattle.dbtg_step.specs.Machine.SequentialDatabase.{unit_at}
use Rattle.dbtg_step.specs.Machine.Headline.{IsSequential}
use Rattle.dbtg_step.specs.Core.Turns.{made_turns}
use Rattle.dbtg_step.proofs.Public.{map_at}
use Rattle.dbtg_script.specs.declared.limits.TheConstants.{MOST_MOVES}
use Rattle.dbtg_script.specs.Laws.{is_unit_number}
use Rattle.dbtg_script.specs.Statements.{script}
use Rattle.dbtg_script.specs.Turns.{turns_refusal}
use Rattle.dbtg_script.specs.Printing.Texts.{run_text}
use Rattle.dbtg_script.specs.Printing.WordTexts.{turns_text}
use Rattle.dbtg_script.proofs.Public.{turns_read_back}
use Rattle.dbtg_command.specs.declared.order.Order.TheVariants.{Turns}
use Rattle.dbtg_command.specs.Refusals.{AcceptsTexts, AllAccepted, is_count, schema_in, turns_in}
use Rattle.dbtg_replay.specs.Ordering.{first_turns}
use Rattle.dbtg_replay.specs.declared.replay.AnswerForm.{AnswerForm}
use Rattle.dbtg_replay.specs.declared.replay.AnswerForm.TheVariants.{Plain}
use Rattle.dbtg_replay.specs.Replaying.{IsReplay, IsShownReplay, shown_text}
use Rattle.dbtg_replay.proofs.SameRun.{same_text}
use Rattle.dbtg_replay.proofs.ScriptLength.{few_statements}
use Rattle.dbtg_replay.proofs.UnitEntries.{AllWithin, Begins, Few, all_made, all_within, total, total_few}

-- no unit has more entries than its script has statements
few_of : (scripts : List (List Statement)) (history : List Entry) → Begins scripts history → (u k : ℕ) (o : Option (List Statement)) → unit_at scripts u ≡ o → option_map length o ≡ Some k → length (entries_of u history) ≤ k
few_of scripts history begin u k None at e = absurd (cc (e))
few_of scripts history begin u k (Some script) at e =
    let here = begin u script at in
    let many = ap length here.1 in
    let both = length-append (map (λ (e : Entry). e.statement) (entries_of u history)) here.0 in
    let made = length-map (entries_of u history) (λ (e : Entry). e.statement) in
    let long : length script ≡ k = cc (e) in
    omega (arith, many, both, made, long)

few : (scripts : List (List Statement)) (history : List Entry) → Begins scripts history → Few (map length scripts) history
few scripts history begin u k at = few_of scripts history begin u k (unit_at scripts u) refl (sym (map_at length scripts u) ∙ at)

-- an accepted script has at most 65,535
few_each : (lists : Lists) (texts : List (List ℕ)) → AllAccepted lists texts → (k : ℕ) → k < length (map length (map (script lists) texts)) → (j : ℕ) → slice_get (map length (map (script lists) texts)) k ≡ Some j → j ≤ MOST_STATEMENTS
few_each lists [] accepted k below j at = absurd (cc (at))
few_each lists (text ∷ texts) accepted zero below j at =
    let e : length (script lists text) ≡ j = cc (at) in
    subst (λ n. n ≤ MOST_STATEMENTS) e (few_statements lists text accepted.0)
few_each lists (text ∷ texts) accepted (suc k) below j at = few_each lists texts accepted.1 k (omega (arith, below)) j at

pub numbers : (n : ℕ) (es : List Entry) → n ≤ 99 → AllWithin n es → list_all is_unit_number (map (λ (e : Entry). e.unit) es) ≡ true
numbers n [] most within = refl
numbers n (e ∷ es) most within =
    let low : 1 ≤ e.unit = omega (arith, within.0) in
    let high : e.unit ≤ 99 = omega (arith, within.1, most) in
    and_from (is_unit_number e.unit) (list_all is_unit_number (map (λ (f : Entry). f.unit) es)) (and_from (nat_le 1 e.unit) (nat_le e.unit 99) (le-leb 1 e.unit low) (le-leb e.unit 99 high)) (numbers n es most within.2)

-- the turns after those of a script that is made first are accepted, and what is printed of the run by them is what is shown of a run
-- with this history, and with the image and the units to which it leads
pub made_again_behind : (first : Bool) (form : AnswerForm) (text : List ℕ) (scripts : List (List ℕ)) (capacity : ℕ) (made : Run) (behind turns : List ℕ) → is_count (length scripts) ≡ true
    → AcceptsTexts text scripts → IsSequential (schema_in text) capacity (map (script (schema_in text)) scripts) made.history made.image made.units
    → map (λ (e : Entry). e.unit) made.history ≡ first_turns first (map (script (schema_in text)) scripts) ++ behind → turns ≡ turns_text behind
    → (turns_refusal turns ≡ None) × ((printed : List ℕ) → IsShownReplay first form text scripts (Turns turns) capacity printed → printed ≡ shown_text (schema_in text) form scripts made)
made_again_behind first form text scripts capacity run behind turns right accepted law split are = (ap turns_refusal are ∙ back.0, again)
  where
    history : List Entry
    history = run.history

    lists : Lists
    lists = schema_in text

    all : List (List Statement)
    all = map (script lists) scripts

    units : List ℕ
    units = map (λ (e : Entry). e.unit) history

    front : List ℕ
    front = first_turns first all

    many : length all ≡ length scripts
    many = length-map scripts (script lists)

    lefts : length (map length all) ≡ length all
    lefts = length-map all length

    most : length scripts ≤ 8
    most = leb-true (length scripts) 8 (and_parts (nat_le 1 (length scripts)) (nat_le (length scripts) 8) right).1

    within : AllWithin (length all) history
    within = all_within lists capacity (length all) (opening_state lists (length all)) history (opening_length lists (length all)) law.answers

    made : (made_turns (map length all) units ≡ units) × (length history ≤ total (map length all))
    made = all_made (map length all) history (subst (λ n. AllWithin n history) (sym lefts) within) (few all history law.scripts_begin)

    short : length behind ≤ MOST_MOVES
    short =
        let t = total_few (map length all) MOST_STATEMENTS (few_each lists scripts accepted.1) in
        let h = made.1 in
        let u = length-map history (λ (e : Entry). e.unit) in
        let b = ap length split ∙ length-append front behind in
        omega (arith, t, h, u, b, lefts, many, most)

    numbered : list_all is_unit_number behind ≡ true
    numbered =
        let every = numbers (length all) history (omega (arith, many, most)) within in
        (and_parts (list_all is_unit_number front) (list_all is_unit_number behind) (sym (list_all-append is_unit_number front behind) ∙ sym (ap (list_all is_unit_number) split) ∙ every)).1

    back : (turns_refusal (turns_text behind) ≡ None) × (turns_in (turns_text behind) ≡ behind)
    back = turns_read_back behind numbered short

    says : front ++ turns_in turns ≡ units
    says = ap (λ us. front ++ us) (ap turns_in are ∙ back.1) ∙ sym split

    again : (printed : List ℕ) → IsShownReplay first form text scripts (Turns turns) capacity printed → printed ≡ shown_text lists form scripts run
    again printed r =
        let given = r.run.given in
        let same : units ≡ map (λ (e : Entry). e.unit) given.history = sym (r.run.is_run.1.in_turn ∙ ap (made_turns (map length all)) says ∙ made.0) in
        r.run.is_text ∙ sym (same_text lists capacity all form scripts run given law r.run.is_run.1.sequential same)

-- the same if no script is made first
pub made_again : (text : List ℕ) (scripts : List (List ℕ)) (capacity : ℕ) (history : List Entry) (image : Image) (units : List Unit) (turns : List ℕ) → is_count (length scripts) ≡ true → AcceptsTexts text scripts
    → IsSequential (schema_in text) capacity (map (script (schema_in text)) scripts) history image units → turns ≡ turns_text (map (λ (e : Entry). e.unit) history)
    → (turns_refusal turns ≡ None) × ((printed : List ℕ) → IsReplay text scripts (Turns turns) capacity printed → printed ≡ run_text (schema_in text) history image.records image.lists image.next image.usage units)
made_again text scripts capacity history image units turns right accepted law are =
    let made : Run = record { results = []; image = image; history = history; units = units } in
    made_again_behind false Plain text scripts capacity made (map (λ (e : Entry). e.unit) history) turns right accepted law refl are
