-- The steps of an audit: one more statement is made, and all that is said holds, or this does not; and the result at the end.
use Rattle.std.proofs.Common.{ℕ, zero, suc, ◌+◌, ◌-◌, ◌≡◌, Bool, true, false, List, [], ◌∷◌, ◌++◌, length, drop, Option, Some, None, slice_get, refl, sym, ap, ◌∙◌, subst, arith, length-append, append_assoc, append-nil, ◌&&◌}
use Rattle.std.specs.Prelude.{option_map}
use Rattle.std.specs.List.{list_all}
use Rattle.std.proofs.lemmas.Bool.{and_parts, and_from, false≢true}
use Rattle.std.proofs.lemmas.List.{map-append}
use Rattle.std.proofs.lemmas.Option.{same_Some}
use Rattle.dbtg_schema.specs.Lists.{Lists}
use Rattle.dbtg_cells.proofs.Public.{get_behind}
use Rattle.dbtg_unit.specs.declared.statement.Statement.{Statement}
use Rattle.dbtg_unit.specs.declared.unit.Entry.{Entry}
use Rattle.dbtg_unit.specs.Database.State.Image.{image_of}
use Rattle.dbtg_unit.specs.Database.Statements.Effect.{StatementEffect}
use Rattle.dbtg_unit.specs.Database.Laws.Replay.{State, AnswersHold, IsHistoryOf, after_entry, after_effect, answer_to, opening_state, effect_of_unit, replay}
use Rattle.dbtg_unit.specs.Database.Laws.Replaying.{statements_of}
use Rattle.dbtg_unit.specs.Database.Statements.Fits.{fits}
use Rattle.std.proofs.lemmas.Bool.Decides.{nat_tests}
use Rattle.dbtg_step.specs.Core.Audit.{LeadsTo}
use Rattle.dbtg_step.specs.Core.Whole.{HasMade, IsMadeRun, Making}
use Rattle.dbtg_step.specs.declared.results.Run.{Run}
use Rattle.dbtg_trace.specs.Parts.{is_unit}
use Rattle.dbtg_trace.specs.declared.traced.Said.{Said}
use Rattle.dbtg_trace.specs.declared.traced.Traced.{Traced}
use Rattle.dbtg_audit.specs.Auditing.{Answers, AreDifferences, IsEqual, IsFirstDifference, IsUnequal, all_so, all_units, asked, behind_load, differences_text, is_so, loads, told_text, units_with}
use Rattle.dbtg_audit.specs.declared.auditing.Recorded.{Recorded}
use Rattle.dbtg_audit.specs.Inside.Audits.{HasMadeOther, HasMadeSo, HasMadeThese, HasToldAll, IsLoaded}

-- ONE MORE STATEMENT

-- the newest element of a list
newest : {X : Type 0} (xs all : List X) (x : X) → all ≡ xs ++ x ∷ [] → slice_get all (length all - 1) ≡ Some x
newest xs all x e =
    let l = length-append xs (x ∷ []) in
    let back : length (xs ++ x ∷ []) - 1 ≡ length xs = omega (arith, l) in
    subst (λ ys. slice_get ys (length ys - 1) ≡ Some x) (sym e) (ap (slice_get (xs ++ x ∷ [])) back ∙ get_behind xs x [])

-- what is said of one more statement holds, or does not
and_assoc : (a b c : Bool) → (a && (b && c)) ≡ ((a && b) && c)
and_assoc true b c = refl
and_assoc false b c = refl

and_true : (a : Bool) → (a && true) ≡ a
and_true true = refl
and_true false = refl

so_behind : (statuses : Bool) (before : List Traced) (made : List Entry) (here : Traced) (e : Entry) → statements_of made ≡ asked before
    → all_so statuses (before ++ here ∷ []) (made ++ e ∷ []) ≡ (all_so statuses before made && is_so statuses here.said e)
so_behind statuses [] [] here e h = and_true (is_so statuses here.said e)
so_behind statuses [] (p ∷ made) here e h = absurd (cc (h))
so_behind statuses (b ∷ before) [] here e h = absurd (cc (h))
so_behind statuses (b ∷ before) (p ∷ made) here e h =
    let below : statements_of made ≡ asked before = cc (h) in
    ap (λ (so : Bool). is_so statuses b.said p && so) (so_behind statuses before made here e below) ∙ and_assoc (is_so statuses b.said p) (all_so statuses before made) (is_so statuses here.said e)

-- one more line is reported, after what is reported of the others
told_behind : (statuses : Bool) (schema : Lists) (before : List Traced) (made : List Entry) (here : Traced) (e : Entry) → statements_of made ≡ asked before
    → differences_text statuses schema (before ++ here ∷ []) (made ++ e ∷ []) ≡ differences_text statuses schema before made ++ told_text statuses schema here.line here.said e
told_behind statuses schema [] [] here e h = append-nil (told_text statuses schema here.line here.said e)
told_behind statuses schema [] (p ∷ made) here e h = absurd (cc (h))
told_behind statuses schema (b ∷ before) [] here e h = absurd (cc (h))
told_behind statuses schema (b ∷ before) (p ∷ made) here e h =
    let below : statements_of made ≡ asked before = cc (h) in
    let first = told_text statuses schema b.line b.said p in
    ap (λ (text : List ℕ). first ++ text) (told_behind statuses schema before made here e below) ∙ sym (append_assoc first (differences_text statuses schema before made) (told_text statuses schema here.line here.said e))

module _ (old mid new : Making) (before : List Traced) (here : Traced) (so_far : HasMadeThese old before mid) (has : HasMade mid here.unit here.statement new) where
  abbrev newer : Entry
  newer = record { ticket = length mid.history; unit = here.unit; statement = here.statement; answer = has.outcome.answer }

  abbrev one_more : HasMadeThese old (before ++ here ∷ []) new
  one_more = record {
    made = so_far.made ++ newer ∷ [];
    same =
        has.new_is
        ∙ (λ i. record { schema = (so_far.same i).schema; capacity = (so_far.same i).capacity; units = (so_far.same i).units; history = (so_far.same i).history ++ newer ∷ [] })
        ∙ ap (λ (es : List Entry). record old { history = es }) (append_assoc old.history so_far.made (newer ∷ []));
    statements =
        map-append (λ (e : Entry). (e.unit, e.statement)) so_far.made (newer ∷ [])
        ∙ ap (λ (xs : List (ℕ × Statement)). xs ++ (here.unit, here.statement) ∷ []) so_far.statements
        ∙ sym (map-append (λ (t : Traced). (t.unit, t.statement)) before (here ∷ []));
  }

  newest_is : slice_get new.history (length new.history - 1) ≡ Some newer
  newest_is = newest mid.history new.history newer (ap (λ (m : Making). m.history) has.new_is)

-- before the first statement
abbrev pub nothing_made : (m : Making) → HasMadeThese m [] m
nothing_made m = record { made = []; same = ap (λ (es : List Entry). record m { history = es }) (sym (append-nil m.history)); statements = refl }

pub nothing_told : (statuses : Bool) (schema : Lists) (m : Making) (told : List ℕ) → HasToldAll statuses schema m [] m told told true
nothing_told statuses schema m told = record { these = nothing_made m; told_is = sym (append-nil told); so_is = refl }

-- how many statements are left
pub nothing_left : {X : Type 0} (xs : List X) → length xs ≡ 0 → xs ≡ []
nothing_left [] h = refl
nothing_left (x ∷ xs) h = absurd (omega arith)

pub one_fewer : {X : Type 0} (n : ℕ) (xs ys : List X) (x : X) (m : ℕ) → xs ≡ x ∷ ys → m + 1 ≡ n → n ≡ length xs → m ≡ length ys
one_fewer n xs ys x m e gone many = let shorter = ap length e in omega (arith, gone, many, shorter)

-- if nothing is left, everything is made
all_of : (before left traced : List Traced) → left ≡ [] → before ++ left ≡ traced → before ≡ traced
all_of before left traced e split = sym (append-nil before) ∙ ap (λ (ts : List Traced). before ++ ts) (sym e) ∙ split

pub all_made_so : (statuses : Bool) (old new : Making) (before left traced : List Traced) → left ≡ [] → before ++ left ≡ traced → HasMadeSo statuses old before new → HasMadeSo statuses old traced new
all_made_so statuses old new before left traced e split h = subst (λ (ts : List Traced). HasMadeSo statuses old ts new) (all_of before left traced e split) h

pub all_told : (statuses : Bool) (schema : Lists) (old new : Making) (first told : List ℕ) (so : Bool) (before left traced : List Traced) → left ≡ [] → before ++ left ≡ traced → HasToldAll statuses schema old before new first told so
    → HasToldAll statuses schema old traced new first told so
all_told statuses schema old new first told so before left traced e split h = subst (λ (ts : List Traced). HasToldAll statuses schema old ts new first told so) (all_of before left traced e split) h

-- what is left after the first of those that were left
pub all_left : (p : Traced → Bool) (left behind : List Traced) (here : Traced) → left ≡ here ∷ behind → list_all p left ≡ true → list_all p behind ≡ true
all_left p left behind here e h = (and_parts _ _ (sym (ap (list_all p) e) ∙ h)).1

pub split_left : (before left behind traced : List Traced) (here : Traced) → left ≡ here ∷ behind → before ++ left ≡ traced → (before ++ here ∷ []) ++ behind ≡ traced
split_left before left behind traced here e split = append_assoc before (here ∷ []) behind ∙ ap (λ (ts : List Traced). before ++ ts) (sym e) ∙ split

module _ (statuses : Bool) (old mid new : Making) (before : List Traced) (here : Traced) (so_far : HasMadeSo statuses old before mid) (has : HasMade mid here.unit here.statement new) (test : Bool) (tested : (e : Entry) → slice_get new.history (length new.history - 1) ≡ Some e → test ≡ is_so statuses here.said e) where
  test_is : test ≡ is_so statuses here.said (newer old mid new before here so_far.these has)
  test_is = tested _ (newest_is old mid new before here so_far.these has)

  -- the first statement that is left is made, and what is said of it does not hold
  pub one_other : test ≡ false → (traced left behind : List Traced) → left ≡ here ∷ behind → before ++ left ≡ traced → HasMadeOther statuses old traced here.line here.said new
  one_other fails traced left behind e split =
      let more = one_more old mid new before here so_far.these has in
      record {
        before = before;
        here = here;
        behind = behind;
        traced_is = sym (ap (λ (ts : List Traced). before ++ ts) (sym e) ∙ split);
        line_is = refl;
        said_is = refl;
        past = so_far.these.made;
        entry = newer old mid new before here so_far.these has;
        same = more.same;
        statements = more.statements;
        so_before = so_far.so;
        differs = sym test_is ∙ fails;
      }

  -- or it holds
  pub one_less : test ≡ true → (traced left behind : List Traced) → left ≡ here ∷ behind → before ++ left ≡ traced
      → list_all (λ (t : Traced). fits old.schema t.statement) left ≡ true → list_all (λ (t : Traced). is_unit old.units t.unit) left ≡ true
      → (n m : ℕ) → n ≡ length left → m + 1 ≡ n
      → (more : List Traced) × (more ++ behind ≡ traced) × HasMadeSo statuses old more new × (list_all (λ (t : Traced). fits old.schema t.statement) behind ≡ true) × (list_all (λ (t : Traced). is_unit old.units t.unit) behind ≡ true) × (m ≡ length behind)
  one_less passes traced left behind e split fit units n m many gone = (
    before ++ here ∷ [],
    split_left before left behind traced here e split,
    record {
      these = one_more old mid new before here so_far.these has;
      so = so_behind statuses before so_far.these.made here _ so_far.these.statements ∙ and_from _ _ so_far.so (sym test_is ∙ passes);
    },
    all_left _ left behind here e fit,
    all_left _ left behind here e units,
    one_fewer n left behind here m e gone many,
  )

module _ (statuses : Bool) (schema : Lists) (old mid new : Making) (before : List Traced) (here : Traced) (first told more : List ℕ) (so test : Bool) (so_far : HasToldAll statuses schema old before mid first told so) (has : HasMade mid here.unit here.statement new) (tested : (e : Entry) → slice_get new.history (length new.history - 1) ≡ Some e → test ≡ is_so statuses here.said e) (tells : (e : Entry) → slice_get new.history (length new.history - 1) ≡ Some e → more ≡ told ++ told_text statuses schema here.line here.said e) where
  -- one more line is reported, or there is nothing to report of it
  pub one_told : HasToldAll statuses schema old (before ++ here ∷ []) new first more (so && test)
  one_told =
      let e = newer old mid new before here so_far.these has in
      let is = newest_is old mid new before here so_far.these has in
      record {
        these = one_more old mid new before here so_far.these has;
        told_is =
            tells e is ∙ ap (λ (text : List ℕ). text ++ told_text statuses schema here.line here.said e) so_far.told_is
            ∙ append_assoc first (differences_text statuses schema before so_far.these.made) (told_text statuses schema here.line here.said e)
            ∙ ap (λ (text : List ℕ). first ++ text) (sym (told_behind statuses schema before so_far.these.made here e so_far.these.statements));
        so_is = ap (λ (b : Bool). b && test) so_far.so_is ∙ ap (λ (b : Bool). all_so statuses before so_far.these.made && b) (tested e is) ∙ sym (so_behind statuses before so_far.these.made here e so_far.these.statements);
      }

-- WHAT DOES NOT HOLD OF ONE HISTORY HOLDS OF NONE

module _ (statuses : Bool) (schema : Lists) (capacity : ℕ) (here : Traced) (behind : List Traced) (entry : Entry) (differs : is_so statuses here.said entry ≡ false) where
  -- the same statement gets the same answer
  same_answer : (state : State) (e : Entry) → ◌≡◌ {A = ℕ × Statement} (entry.unit, entry.statement) (e.unit, e.statement) → answer_to schema capacity state entry ≡ Some entry.answer → answer_to schema capacity state e ≡ Some e.answer → entry.answer ≡ e.answer
  same_answer state e p h g = same_Some entry.answer e.answer (sym h ∙ ap (λ (q : ℕ × Statement). option_map (λ (o : StatementEffect). o.answer) (effect_of_unit schema capacity state q.0 q.1)) p ∙ g)

  same_so : (e : Entry) → ◌≡◌ {A = ℕ × Statement} (entry.unit, entry.statement) (e.unit, e.statement) → entry.answer ≡ e.answer → is_so statuses here.said e ≡ true → ⊥
  same_so e p a so =
      let alike : is_so statuses here.said entry ≡ is_so statuses here.said e = λ i. is_so statuses here.said (record { ticket = 0; unit = 0; statement = (p i).1; answer = a i }) in
      false≢true (sym differs ∙ alike ∙ so)

  not_so : (state : State) (before : List Traced) (past history : List Entry) → AnswersHold schema capacity state (past ++ entry ∷ []) → AnswersHold schema capacity state history
      → statements_of (past ++ entry ∷ []) ≡ asked (before ++ here ∷ []) → statements_of history ≡ asked (before ++ here ∷ behind) → all_so statuses (before ++ here ∷ behind) history ≡ true → ⊥
  unfolding AnswersHold
  not_so state [] past [] h g s t so = false≢true so
  not_so state (b ∷ before) past [] h g s t so = false≢true so
  not_so state [] [] (e ∷ history) h g s t so =
      let p : ◌≡◌ {A = ℕ × Statement} (entry.unit, entry.statement) (e.unit, e.statement) = cc (s, t) in
      same_so e p (same_answer state e p h.0 g.0) (and_parts _ _ so).0
  not_so state [] (p ∷ []) (e ∷ history) h g s t so = absurd (cc (s))
  not_so state [] (p ∷ (q ∷ past)) (e ∷ history) h g s t so = absurd (cc (s))
  not_so state (b ∷ []) [] (e ∷ history) h g s t so = absurd (cc (s))
  not_so state (b ∷ (c ∷ before)) [] (e ∷ history) h g s t so = absurd (cc (s))
  not_so state (b ∷ before) (p ∷ past) (e ∷ history) h g s t so =
      let q : ◌≡◌ {A = ℕ × Statement} (p.unit, p.statement) (e.unit, e.statement) = cc (s, t) in
      let next : after_entry schema capacity state p ≡ after_entry schema capacity state e = ap (λ (r : ℕ × Statement). after_effect state r.0 (effect_of_unit schema capacity state r.0 r.1)) q in
      let s_behind : statements_of (past ++ entry ∷ []) ≡ asked (before ++ here ∷ []) = cc (s) in
      let t_behind : statements_of history ≡ asked (before ++ here ∷ behind) = cc (t) in
      not_so (after_entry schema capacity state e) before past history (subst (λ (x : State). AnswersHold schema capacity x (past ++ entry ∷ [])) next h.1) g.1 s_behind t_behind (and_parts _ _ so).1

false_if : (b : Bool) → (b ≡ true → ⊥) → b ≡ false
false_if true n = absurd (n refl)
false_if false n = refl

-- AFTER THE SCRIPT THAT IS MADE FIRST

drop_all : {X : Type 0} (xs ys : List X) (n : ℕ) → length xs ≡ n → drop n (xs ++ ys) ≡ ys
drop_all [] ys zero h = refl
drop_all [] ys (suc n) h = absurd (cc (h))
drop_all (x ∷ xs) ys zero h = absurd (cc (h))
drop_all (x ∷ xs) ys (suc n) h = drop_all xs ys n (cc (h))

many_statements : (es : List Entry) (load : List (ℕ × Statement)) → statements_of es ≡ load → length es ≡ length load
many_statements [] [] h = refl
many_statements [] (x ∷ load) h = absurd (cc (h))
many_statements (e ∷ es) [] h = absurd (cc (h))
many_statements (e ∷ es) (x ∷ load) h = ap suc (many_statements es load (cc (h)))

behind_loaded : (es made : List Entry) (load : List (ℕ × Statement)) → statements_of es ≡ load → drop (length load) (es ++ made) ≡ made
behind_loaded es made load h = drop_all es made (length load) (many_statements es load h)

statements_behind : (es made : List Entry) (load more : List (ℕ × Statement)) → statements_of es ≡ load → statements_of made ≡ more → statements_of (es ++ made) ≡ load ++ more
statements_behind es made load more h g = map-append (λ (e : Entry). (e.unit, e.statement)) es made ∙ (λ i. h i ++ g i)

-- a number of units that is no less includes all of them
pub units_of_trace : (units : ℕ) (load : Option (List Statement)) (traced : List Traced) → list_all (λ (t : Traced). is_unit units t.unit) traced ≡ true → list_all (λ (t : Traced). is_unit (units_with units load) t.unit) traced ≡ true
units_of_trace units None traced h = h
units_of_trace units (Some script) traced h = one_further traced h
  where
    still : (u : ℕ) → is_unit units u ≡ true → is_unit (units + 1) u ≡ true
    still u h = grind (arith, nat_tests)

    one_further : (ts : List Traced) → list_all (λ (t : Traced). is_unit units t.unit) ts ≡ true → list_all (λ (t : Traced). is_unit (units + 1) t.unit) ts ≡ true
    one_further [] h = refl
    one_further (t ∷ ts) h = let parts = and_parts (is_unit units t.unit) _ h in and_from (is_unit (units + 1) t.unit) _ (still t.unit parts.0) (one_further ts parts.1)

-- two histories that begin with the same statements lead to the same
module _ (schema : Lists) (capacity : ℕ) where
  record Together (xs ys : List (ℕ × Statement)) (made history : List Entry) : Type 0 where
    state : State
    made_hold : AnswersHold schema capacity state made
    history_hold : AnswersHold schema capacity state history
    made_are : statements_of made ≡ xs
    history_are : statements_of history ≡ ys

  together : (state : State) (load xs ys : List (ℕ × Statement)) (made history : List Entry) → AnswersHold schema capacity state made → AnswersHold schema capacity state history
      → statements_of made ≡ load ++ xs → statements_of history ≡ load ++ ys → Together xs ys (drop (length load) made) (drop (length load) history)
  unfolding AnswersHold
  together state [] xs ys made history h g s t = record { state = state; made_hold = h; history_hold = g; made_are = s; history_are = t }
  together state (x ∷ load) xs ys [] history h g s t = absurd (cc (s))
  together state (x ∷ load) xs ys (p ∷ made) [] h g s t = absurd (cc (t))
  together state (x ∷ load) xs ys (p ∷ made) (e ∷ history) h g s t =
      let q : ◌≡◌ {A = ℕ × Statement} (p.unit, p.statement) (e.unit, e.statement) = cc (s, t) in
      let next : after_entry schema capacity state p ≡ after_entry schema capacity state e = ap (λ (r : ℕ × Statement). after_effect state r.0 (effect_of_unit schema capacity state r.0 r.1)) q in
      let s_behind : statements_of made ≡ load ++ xs = cc (s) in
      let t_behind : statements_of history ≡ load ++ ys = cc (t) in
      together (after_entry schema capacity state e) load xs ys made history (subst (λ (x : State). AnswersHold schema capacity x made) next h.1) g.1 s_behind t_behind

-- THE RESULT AT THE END

module _ (statuses : Bool) (old new : Making) (recorded : Recorded) (loaded : IsLoaded old.schema old.capacity recorded.units recorded.load old) where
  abbrev load : List (ℕ × Statement)
  load = loads recorded.units recorded.load

  -- what is made after the first script, within the whole history
  behind_is : (made : List Entry) → behind_load recorded (old.history ++ made) ≡ made
  behind_is made = behind_loaded old.history made load loaded.statements

  units_are : old.units ≡ all_units recorded
  units_are = ap (λ (m : Making). m.units) loaded.same

  whole : (made : List Entry) (more : List (ℕ × Statement)) → statements_of made ≡ more → statements_of (old.history ++ made) ≡ load ++ more
  whole made more h = statements_behind old.history made load more loaded.statements h

  answers_of : (traced : List Traced) (history made : List Entry) → history ≡ old.history ++ made → statements_of made ≡ asked traced → IsHistoryOf old.schema old.capacity old.units history → Answers old.schema old.capacity recorded traced history
  answers_of traced history made is h of_units = record {
    statements_are = ap statements_of is ∙ whole made (asked traced) h;
    history_of = subst (λ (units : ℕ). IsHistoryOf old.schema old.capacity units history) units_are of_units;
  }

  so_of : (traced : List Traced) (history made : List Entry) → history ≡ old.history ++ made → all_so statuses traced (behind_load recorded history) ≡ all_so statuses traced made
  so_of traced history made is = ap (λ (es : List Entry). all_so statuses traced (behind_load recorded es)) is ∙ ap (all_so statuses traced) (behind_is made)

  -- if something else is said of the last of these entries, what is said holds of no history
  module _ (traced before behind : List Traced) (here : Traced) (past : List Entry) (entry : Entry) (split : traced ≡ before ++ here ∷ behind) (statements : statements_of (past ++ entry ∷ []) ≡ asked (before ++ here ∷ [])) (differs : is_so statuses here.said entry ≡ false) (made_of : IsHistoryOf old.schema old.capacity old.units (old.history ++ (past ++ entry ∷ []))) where
    unequal_of : (history : List Entry) → Answers old.schema old.capacity recorded traced history → all_so statuses traced (behind_load recorded history) ≡ false
    unequal_of history a =
        let made = subst (λ (units : ℕ). IsHistoryOf old.schema old.capacity units (old.history ++ (past ++ entry ∷ []))) units_are made_of in
        let both =
        together old.schema old.capacity (opening_state old.schema (all_units recorded)) load (asked (before ++ here ∷ [])) (asked (before ++ here ∷ behind)) (old.history ++ (past ++ entry ∷ [])) history made.answers_hold a.history_of.answers_hold
        (whole (past ++ entry ∷ []) (asked (before ++ here ∷ [])) statements) (a.statements_are ∙ ap (λ (ts : List Traced). load ++ asked ts) split) in
        false_if _ (λ so. not_so statuses old.schema old.capacity here behind entry differs both.state before past (behind_load recorded history)
        (subst (AnswersHold old.schema old.capacity both.state) (behind_is (past ++ entry ∷ [])) both.made_hold) both.history_hold statements both.history_are (subst (λ (ts : List Traced). all_so statuses ts (behind_load recorded history) ≡ true) split so))

  module _ (given : Run) (run : IsMadeRun new given) where
    -- the run of the first script, followed by these entries
    run_of : (made : List Entry) → new ≡ record old { history = old.history ++ made } → IsMadeRun (record old { history = old.history ++ made }) given
    run_of made same = subst (λ (m : Making). IsMadeRun m given) same run

    history_of : (made : List Entry) → new ≡ record old { history = old.history ++ made } → IsHistoryOf old.schema old.capacity old.units given.history
    history_of made same = let r = run_of made same in subst (IsHistoryOf old.schema old.capacity old.units) (sym r.history_is) r.history_of

    equal_these : (these : HasMadeThese old recorded.traced new) → all_so statuses recorded.traced these.made ≡ true → IsEqual statuses old.schema old.capacity recorded given
    equal_these these so =
        let made = these.made in
        let r = run_of made these.same in
        let back = sym r.history_is in
        record {
          statements_are = ap statements_of r.history_is ∙ whole made (asked recorded.traced) these.statements;
          leads = subst (λ (units : ℕ). LeadsTo old.schema old.capacity units given.history given.image given.units) units_are (record {
            history_of = history_of made these.same;
            image_is = r.image_is ∙ ap (λ (es : List Entry). image_of old.schema old.capacity (replay old.schema old.capacity (opening_state old.schema old.units) es).database) back;
            units_are = r.units_are ∙ ap (λ (es : List Entry). (replay old.schema old.capacity (opening_state old.schema old.units) es).units) back;
          });
          so = so_of recorded.traced given.history made r.history_is ∙ so;
        }

    pub equal : HasMadeSo statuses old recorded.traced new → IsEqual statuses old.schema old.capacity recorded given
    equal h = equal_these h.these h.so

    pub all_equal : (told : List ℕ) (so : Bool) → so ≡ true → HasToldAll statuses old.schema old recorded.traced new [] told so → IsEqual statuses old.schema old.capacity recorded given
    all_equal told so holds h = equal_these h.these (sym h.so_is ∙ holds)

    pub differs_first : (line : ℕ) (said : Said) → HasMadeOther statuses old recorded.traced line said new → IsFirstDifference statuses old.schema old.capacity recorded (record { line = line; said = said; history = given.history })
    differs_first line said h =
        let made = h.past ++ h.entry ∷ [] in
        let r = run_of made h.same in
        record {
          before = h.before;
          here = h.here;
          behind = h.behind;
          traced_is = h.traced_is;
          line_is = h.line_is;
          said_is = h.said_is;
          past = old.history ++ h.past;
          entry = h.entry;
          history_is = r.history_is ∙ sym (append_assoc old.history h.past (h.entry ∷ []));
          answers = answers_of (h.before ++ h.here ∷ []) given.history made r.history_is h.statements (history_of made h.same);
          so_before = so_of h.before (old.history ++ h.past) h.past refl ∙ h.so_before;
          differs = h.differs;
        }

    pub unequal : (line : ℕ) (said : Said) → HasMadeOther statuses old recorded.traced line said new → IsUnequal statuses old.schema old.capacity recorded
    unequal line said h =
        let made = h.past ++ h.entry ∷ [] in
        unequal_of recorded.traced h.before h.behind h.here h.past h.entry h.traced_is h.statements h.differs (run_of made h.same).history_of

  -- every line that differs is reported
  pub all_differ : (told : List ℕ) (so : Bool) → so ≡ false → IsHistoryOf new.schema new.capacity new.units new.history → HasToldAll statuses old.schema old recorded.traced new [] told so → AreDifferences statuses old.schema old.capacity recorded told
  all_differ told so fails of_new h =
      let made = h.these.made in
      let of_units = subst (λ (m : Making). IsHistoryOf m.schema m.capacity m.units m.history) h.these.same of_new in
      record {
        history = old.history ++ made;
        answers = answers_of recorded.traced (old.history ++ made) made refl h.these.statements of_units;
        told_is = h.told_is ∙ ap (differences_text statuses old.schema recorded.traced) (sym (behind_is made));
        unequal = so_of recorded.traced (old.history ++ made) made refl ∙ sym h.so_is ∙ fails;
      }
