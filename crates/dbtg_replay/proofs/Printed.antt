-- Statements that are made and whose answers are printed at once.
use Rattle.std.proofs.Common.{◌≡◌, ℕ, suc, ◌+◌, List, [], ◌∷◌, ◌++◌, length, map, refl, sym, ap, ◌∙◌, subst, arith, append_assoc, append-nil}
use Rattle.std.specs.Prelude.{OnOk, Result, Ok, Err}
use Rattle.std.proofs.lemmas.List.{map-append}
use Rattle.dbtg_schema.specs.Lists.{Lists}
use Rattle.dbtg_unit.specs.declared.statement.Statement.{Statement}
use Rattle.dbtg_unit.specs.declared.unit.Entry.{Entry}
use Rattle.dbtg_step.specs.Core.Serial.{in_turn_from}
use Rattle.dbtg_step.specs.Core.Audit.{LeadsTo}
use Rattle.dbtg_step.specs.Core.Bare.{Bare, Continues, IsMadeBy, StandsAfter}
use Rattle.dbtg_step.proofs.Public.{continues_nothing, continues_on}
use Rattle.dbtg_script.specs.Printing.Texts.{answer_text, answers_text, text_behind}
use Rattle.dbtg_unit.specs.declared.unit.Unit.{Unit}
use Rattle.dbtg_unit.specs.Database.State.Image.{Image}
use Rattle.dbtg_replay.specs.Replaying.{given_text}
use Rattle.dbtg_replay.specs.Inside.Serial.{HasPrinted}

-- what follows where something is done
pub on_ok : {A E : Type 0} (r : Result A E) {P Q : Type 0} → (P → Q) → OnOk r P → OnOk r Q
on_ok (Ok a) f p = f p
on_ok (Err e) f p = tt

answers_append : (lists : Lists) (xs ys : List Entry) → answers_text lists (xs ++ ys) ≡ answers_text lists xs ++ answers_text lists ys
answers_append lists [] ys = refl
answers_append lists (x ∷ xs) ys = ap (λ text. answer_text lists x ++ text) (answers_append lists xs ys) ∙ sym (append_assoc (answer_text lists x) (answers_text lists xs) (answers_text lists ys))

pub printed_nothing : (lists : Lists) (m : Bare) (text : List ℕ) → HasPrinted lists m text [] m text
printed_nothing lists m text = record { entries = []; continues = continues_nothing m; statements_are = refl; text_is = sym (append-nil text) }

-- one statement
pub made_printed : (lists : Lists) (old new : Bare) (unit : ℕ) (statement : Statement) (entry : Entry) (text longer : List ℕ) → IsMadeBy unit statement entry → Continues old (entry ∷ []) new → longer ≡ text ++ answer_text lists entry
    → HasPrinted lists old text ((unit, statement) ∷ []) new longer
made_printed lists old new unit statement entry text longer made continues is = record {
  entries = entry ∷ [];
  continues = continues;
  statements_are = λ i. (made.unit_is i, made.statement_is i) ∷ [];
  text_is = is ∙ ap (λ line. text ++ line) (sym (append-nil (answer_text lists entry)));
}

-- and those after it
pub printed_on : (lists : Lists) (a b c : Bare) (t u v : List ℕ) (xs ys : List (ℕ × Statement)) → HasPrinted lists a t xs b u → HasPrinted lists b u ys c v → HasPrinted lists a t (xs ++ ys) c v
printed_on lists a b c t u v xs ys p q = record {
  entries = p.entries ++ q.entries;
  continues = continues_on a b c p.entries q.entries p.continues q.continues;
  statements_are = map-append (λ (e : Entry). (e.unit, e.statement)) p.entries q.entries ∙ (λ i. p.statements_are i ++ q.statements_are i);
  text_is = q.text_is ∙ ap (λ text. text ++ answers_text lists q.entries) p.text_is ∙ append_assoc t (answers_text lists p.entries) (answers_text lists q.entries)
      ∙ ap (λ text. t ++ text) (sym (answers_append lists p.entries q.entries));
}

-- LOOPS OVER SCRIPTS

-- one more is taken of those that are left
pub taken_on : {X : Type 0} (made left rest all : List X) (x : X) → left ≡ x ∷ rest → made ++ left ≡ all → (made ++ x ∷ []) ++ rest ≡ all
taken_on made left rest all x is split = append_assoc made (x ∷ []) rest ∙ ap (λ xs. made ++ xs) (sym is) ∙ split

-- none is left
pub all_taken : {X : Type 0} (made left all : List X) → length left ≡ 0 → made ++ left ≡ all → made ≡ all
all_taken made [] all e split = sym (append-nil made) ∙ split
all_taken made (x ∷ xs) all e split = absurd (cc (e))

abbrev by_unit : ℕ → List Statement → List (ℕ × Statement)
by_unit u = map (λ x. (u, x))

-- one statement more of a script
pub printed_more : (lists : Lists) (a b c : Bare) (t u v : List ℕ) (unit : ℕ) (made : List Statement) (x : Statement) → HasPrinted lists a t (by_unit unit made) b u → HasPrinted lists b u ((unit, x) ∷ []) c v → HasPrinted lists a t (by_unit unit (made ++ x ∷ [])) c v
printed_more lists a b c t u v unit made x p q =
    subst (λ xs. HasPrinted lists a t xs c v) (sym (map-append (λ (y : Statement). (unit, y)) made (x ∷ []))) (printed_on lists a b c t u v (by_unit unit made) ((unit, x) ∷ []) p q)

in_turn_more : (u : ℕ) (scripts : List (List Statement)) (script : List Statement) → in_turn_from u (scripts ++ script ∷ []) ≡ in_turn_from u scripts ++ by_unit (u + length scripts) script
in_turn_more u [] script = let none : u ≡ u + 0 = omega arith in append-nil (by_unit u script) ∙ ap (λ n. by_unit n script) none
in_turn_more u (s ∷ scripts) script =
    let next : suc u + length scripts ≡ u + suc (length scripts) = omega arith in
    ap (λ xs. by_unit u s ++ xs) (in_turn_more (suc u) scripts script ∙ ap (λ n. in_turn_from (suc u) scripts ++ by_unit n script) next)
    ∙ sym (append_assoc (by_unit u s) (in_turn_from (suc u) scripts) (by_unit (u + suc (length scripts)) script))

-- one script more
pub scripts_more : (lists : Lists) (a b c : Bare) (t u v : List ℕ) (before : ℕ) (made : List (List Statement)) (script : List Statement) → before ≡ length made → HasPrinted lists a t (in_turn_from 1 made) b u → HasPrinted lists b u (by_unit (before + 1) script) c v
    → HasPrinted lists a t (in_turn_from 1 (made ++ script ∷ [])) c v
scripts_more lists a b c t u v before made script count p q =
    let number : before + 1 ≡ 1 + length made = omega (arith, count) in
    subst (λ xs. HasPrinted lists a t xs c v) (ap (λ n. in_turn_from 1 made ++ by_unit n script) number ∙ sym (in_turn_more 1 made script)) (printed_on lists a b c t u v (in_turn_from 1 made) (by_unit (before + 1) script) p q)

-- THE WHOLE

-- where statements that continue the opening lead
pub leads_so : (opened m : Bare) (lists : Lists) (count : ℕ) (entries : List Entry) (image : Image) (units : List Unit) → Continues opened entries m → opened.schema ≡ lists → count ≡ length opened.units → StandsAfter opened []
    → ((history : List Entry) → StandsAfter m history → LeadsTo m.schema m.capacity (length m.units) history image units) → LeadsTo lists opened.capacity count entries image units
leads_so opened m lists count entries image units after schema_is count_is opens leads =
    subst (λ s. LeadsTo s opened.capacity count entries image units) (after.schema_is ∙ schema_is)
    (subst (λ n. LeadsTo m.schema n count entries image units) after.capacity_is
    (subst (λ n. LeadsTo m.schema m.capacity n entries image units) (after.units_are ∙ sym count_is) (leads entries (after.stands [] opens))))

behind : (text : List ℕ) (lists : Lists) (image : Image) (units : List Unit) → text_behind text lists image.records image.lists image.next image.usage units ≡ text ++ text_behind [] lists image.records image.lists image.next image.usage units
behind [] lists image units = refl
behind (x ∷ xs) lists image units = ap (λ text. x ∷ text) (behind xs lists image units)

-- what is printed of a run whose answers stand already
pub text_printed : (lists : Lists) (entries : List Entry) (image : Image) (units shown : List Unit) (first out : List ℕ) → first ≡ answers_text lists entries → shown ≡ units
    → out ≡ first ++ text_behind [] lists image.records image.lists image.next image.usage shown → out ≡ given_text lists (record { results = []; image = image; history = entries; units = units })
text_printed lists entries image units shown first out first_is shown_is is =
    is ∙ (λ i. first_is i ++ text_behind [] lists image.records image.lists image.next image.usage (shown_is i)) ∙ sym (behind (answers_text lists entries) lists image units)
