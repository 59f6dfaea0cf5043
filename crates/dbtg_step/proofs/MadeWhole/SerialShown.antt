-- Scripts that are made whole, one after another, are a serial run.
use Rattle.std.proofs.Common.{ℕ, zero, suc, ◌+◌, ◌<◌, ◌≡◌, Bool, true, false, cond, eqb, eq-eqb, ne_eqb, List, [], ◌∷◌, ◌++◌, length, map, Some, slice_get, refl, sym, ap, ◌∙◌, subst, arith, append_assoc, append-nil}
use Rattle.std.specs.Prelude.{filter}
use Rattle.std.proofs.lemmas.List.{map-append}
use Rattle.std.proofs.lemmas.Option.{same_Some}
use Rattle.std.proofs.lemmas.List.Elements.{filter-append}
use Rattle.dbtg_schema.specs.Lists.{Lists}
use Rattle.dbtg_unit.specs.declared.statement.Statement.{Statement}
use Rattle.dbtg_unit.specs.declared.unit.Entry.{Entry}
use Rattle.dbtg_unit.specs.declared.unit.Unit.{Unit}
use Rattle.dbtg_unit.specs.Database.State.Image.{Image, image_of}
use Rattle.dbtg_unit.specs.Database.Laws.Replay.{AnswersHold, TicketsInOrder, entries_of, opening_state, replay}
use Rattle.dbtg_unit.specs.Database.Laws.Replaying.{statements_of}
use Rattle.dbtg_step.specs.declared.results.Run.{Run}
use Rattle.dbtg_step.specs.Machine.SequentialDatabase.{unit_at}
use Rattle.dbtg_step.specs.Core.Audit.{LeadsTo}
use Rattle.dbtg_step.specs.Core.Serial.{SerialRunIs, in_turn_from}
use Rattle.dbtg_step.specs.Core.Whole.{HasMade, IsMadeRun, Making}
use Rattle.dbtg_step.specs.Inside.Whole.{HasMadeAll}
use Rattle.dbtg_step.proofs.MadeWhole.Wholes.{making}

-- ONE STATEMENT MORE, ONE SCRIPT MORE

pub made_more : (mid new : Making) (u : ℕ) (x : Statement) (left : List Statement) (all : List (ℕ × Statement)) → HasMade mid u x new → statements_of mid.history ++ map (λ y. (u, y)) (x ∷ left) ≡ all
    → statements_of new.history ++ map (λ y. (u, y)) left ≡ all
made_more mid new u x left all m h =
    ap (λ (k : Making). statements_of k.history ++ map (λ y. (u, y)) left) m.new_is
    ∙ ap (λ ys. ys ++ map (λ y. (u, y)) left) (map-append (λ (e : Entry). (e.unit, e.statement)) mid.history _)
    ∙ append_assoc (statements_of mid.history) ((u, x) ∷ []) (map (λ y. (u, y)) left) ∙ h

-- THE BEGINNING OF EACH SCRIPT

abbrev of_unit : ℕ → List (ℕ × Statement) → List Statement
of_unit u ps = map (λ (p : ℕ × Statement). p.1) (filter (λ (p : ℕ × Statement). eqb p.0 u) ps)

entries_made : (u : ℕ) (es : List Entry) → map (λ (e : Entry). e.statement) (entries_of u es) ≡ of_unit u (statements_of es)
entries_made u [] = refl
entries_made u (e ∷ es) = by (eqb e.unit u) (entries_made u es)
  where
    by : (b : Bool) → map (λ (e : Entry). e.statement) (entries_of u es) ≡ of_unit u (statements_of es) →
        map (λ (e : Entry). e.statement) (cond b (e ∷ entries_of u es) (entries_of u es)) ≡ map (λ (p : ℕ × Statement). p.1) (cond b ((e.unit, e.statement) ∷ filter (λ (p : ℕ × Statement). eqb p.0 u) (statements_of es)) (filter (λ (p : ℕ × Statement). eqb p.0 u) (statements_of es)))
    by true h = ap (λ xs. e.statement ∷ xs) h
    by false h = h

both : (u : ℕ) (ps qs : List (ℕ × Statement)) → of_unit u (ps ++ qs) ≡ of_unit u ps ++ of_unit u qs
both u ps qs = ap (map (λ (p : ℕ × Statement). p.1)) (filter-append (λ (p : ℕ × Statement). eqb p.0 u) ps qs) ∙ map-append (λ (p : ℕ × Statement). p.1) _ _

own : (u : ℕ) (xs : List Statement) → of_unit u (map (λ x. (u, x)) xs) ≡ xs
own u [] = refl
own u (x ∷ xs) = ap (λ b. map (λ (p : ℕ × Statement). p.1) (cond b ((u, x) ∷ filter (λ (p : ℕ × Statement). eqb p.0 u) (map (λ x. (u, x)) xs)) (filter (λ (p : ℕ × Statement). eqb p.0 u) (map (λ x. (u, x)) xs)))) (eq-eqb u u refl) ∙ ap (λ ys. x ∷ ys) (own u xs)

other : (u w : ℕ) → (w ≡ u → ⊥) → (xs : List Statement) → of_unit u (map (λ x. (w, x)) xs) ≡ []
other u w n [] = refl
other u w n (x ∷ xs) = ap (λ b. map (λ (p : ℕ × Statement). p.1) (cond b ((w, x) ∷ filter (λ (p : ℕ × Statement). eqb p.0 u) (map (λ x. (w, x)) xs)) (filter (λ (p : ℕ × Statement). eqb p.0 u) (map (λ x. (w, x)) xs)))) (ne_eqb w u n) ∙ other u w n xs

later : (u w : ℕ) (scripts : List (List Statement)) → u < w → of_unit u (in_turn_from w scripts) ≡ []
later u w [] l = refl
later u w (script ∷ scripts) l =
    both u (map (λ x. (w, x)) script) (in_turn_from (suc w) scripts)
    ∙ (λ i. other u w (λ e. absurd (omega (arith, l, e))) script i ++ later u (suc w) scripts (omega (arith, l)) i)

pub script_of : (w k : ℕ) (scripts : List (List Statement)) (script : List Statement) → slice_get scripts k ≡ Some script → of_unit (w + k) (in_turn_from w scripts) ≡ script
script_of w k [] script e = absurd (cc (e))
script_of w zero (s ∷ scripts) script e =
    let same : s ≡ script = same_Some s script e in
    let here : w + 0 ≡ w = omega arith in
    ap (λ u. of_unit u (in_turn_from w (s ∷ scripts))) here
    ∙ both w (map (λ x. (w, x)) s) (in_turn_from (suc w) scripts)
    ∙ (λ i. own w s i ++ later w (suc w) scripts (omega arith) i) ∙ append-nil s ∙ same
script_of w (suc k) (s ∷ scripts) script e =
    let next : w + suc k ≡ suc w + k = omega arith in
    both (w + suc k) (map (λ x. (w, x)) s) (in_turn_from (suc w) scripts)
    ∙ ap (λ ys. ys ++ of_unit (w + suc k) (in_turn_from (suc w) scripts)) (other (w + suc k) w (λ q. absurd (omega (arith, q))) s)
    ∙ ap (λ u. of_unit u (in_turn_from (suc w) scripts)) next ∙ script_of (suc w) k scripts script e

-- in a history of these statements each unit makes its whole script
pub makes_script : (scripts : List (List Statement)) (history : List Entry) → statements_of history ≡ in_turn_from 1 scripts → (u : ℕ) (script : List Statement) → unit_at scripts u ≡ Some script
    → map (λ (e : Entry). e.statement) (entries_of u history) ≡ script
unfolding unit_at
makes_script scripts history made zero script e = absurd (cc (e))
makes_script scripts history made (suc k) script e =
    let number : suc k ≡ 1 + k = omega arith in
    entries_made (suc k) history ∙ ap (of_unit (suc k)) made ∙ ap (λ u. of_unit u (in_turn_from 1 scripts)) number ∙ script_of 1 k scripts script e

-- THE RUN

pub serial_made : (schema : Lists) (capacity : ℕ) (scripts : List (List Statement)) (m : Making) (given : Run) → HasMadeAll (making schema capacity (length scripts) []) (in_turn_from 1 scripts) m → IsMadeRun m given → SerialRunIs schema capacity scripts given
serial_made schema capacity scripts m given all run =
    let handed = subst (λ (k : Making). IsMadeRun k given) all.new_is run in
    let made : statements_of given.history ≡ in_turn_from 1 scripts = ap statements_of handed.history_is ∙ all.statements_are in (
      handed.results_are,
      record {
        in_turn = made;
        sequential = record {
          tickets = subst TicketsInOrder (sym handed.history_is) handed.history_of.tickets;
          answers = subst (AnswersHold schema capacity (opening_state schema (length scripts))) (sym handed.history_is) handed.history_of.answers_hold;
          image_is = handed.image_is ∙ ap (λ (es : List Entry). image_of schema capacity (replay schema capacity (opening_state schema (length scripts)) es).database) (sym handed.history_is);
          units_are = handed.units_are ∙ ap (λ (es : List Entry). (replay schema capacity (opening_state schema (length scripts)) es).units) (sym handed.history_is);
          scripts_begin = λ u script at. ([], append-nil _ ∙ makes_script scripts given.history made u script at);
        };
      },
    )

-- so are statements of which no history was kept, with what they lead to
pub serial_led : (schema : Lists) (capacity : ℕ) (scripts : List (List Statement)) (entries : List Entry) (image : Image) (units : List Unit) → statements_of entries ≡ in_turn_from 1 scripts → LeadsTo schema capacity (length scripts) entries image units
    → SerialRunIs schema capacity scripts (record { results = []; image = image; history = entries; units = units })
serial_led schema capacity scripts entries image units made led =
    serial_made schema capacity scripts (making schema capacity (length scripts) entries) (record { results = []; image = image; history = entries; units = units }) (record { new_is = refl; statements_are = made })
    (record { results_are = refl; history_is = refl; history_of = led.history_of; image_is = led.image_is; units_are = led.units_are })
