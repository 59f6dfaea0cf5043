-- Each answer of a history of the sequential database can be said, and its units are there.
use Rattle.std.proofs.Common.{◌≡◌, ℕ, zero, suc, ◌+◌, ◌-◌, ◌<◌, ◌≤◌, Bool, true, false, cond, not, ◌&&◌, List, [], ◌∷◌, ◌++◌, length, map, Option, Some, None, slice_get, refl, sym, ap, subst, ◌∙◌, arith}
use Rattle.std.specs.Prelude.{◌==◌, ◌||◌, Ok, Err, Result, is_some, nat_le, option_map, unwrap_or}
use Rattle.std.specs.List.{AllByRecursion, list_all, position_from}
use Rattle.std.specs.Str.{bytes_eq}
use Rattle.std.proofs.lemmas.Bool.{and_from, and_parts, le-leb, not-false}
use Rattle.std.proofs.lemmas.Bool.Decides.{nat_tests}
use Rattle.std.proofs.lemmas.Option.{same_Some}
use Rattle.std.proofs.lemmas.Slice.Eq.{bytes_eq-Decides}
use Rattle.dbtg_schema.specs.Lists.{Lists}
use Rattle.dbtg_schema.specs.Lookups.{first_cause}
use Rattle.dbtg_schema.specs.Named.{IsNamed}
use Rattle.dbtg_schema.specs.Sound.{IsSound}
use Rattle.dbtg_schema.specs.Texts.Spelling.{among, is_name_byte}
use Rattle.dbtg_schema.specs.WellFormed.{distinct}
use Rattle.dbtg_schema.specs.declared.shape.RecordType.{RecordType}
use Rattle.dbtg_schema.proofs.Public.{bytes_same, name_among_append, not_true}
use Rattle.dbtg_cells.specs.declared.key.DbKey.{DbKey}
use Rattle.dbtg_cells.proofs.Public.{key_eq_refl}
use Rattle.dbtg_unit.specs.declared.statement.Statement.{Statement}
use Rattle.dbtg_unit.specs.declared.statement.Statement.TheVariants.{OpenArea, CloseArea, Find, Get, Store, Insert, Remove, Modify, Delete, Keep, Free}
use Rattle.dbtg_unit.specs.declared.unit.Answer.{Answer}
use Rattle.dbtg_unit.specs.declared.unit.Cause.{Cause}
use Rattle.dbtg_unit.specs.declared.unit.Cause.TheVariants.{Deleted}
use Rattle.dbtg_unit.specs.declared.unit.Entry.{Entry}
use Rattle.dbtg_unit.specs.declared.unit.Unit.{Unit as RunUnit}
use Rattle.dbtg_unit.specs.Database.State.Base.{Database, Record, free_number, is_live, items_of, new_key}
use Rattle.dbtg_unit.specs.Database.State.Legal.{Legal}
use Rattle.dbtg_unit.specs.Database.State.LegalWith.{IsUnitIn}
use Rattle.dbtg_unit.specs.Database.State.Units.{forgotten, noted, seen}
use Rattle.dbtg_unit.specs.Database.Statements.Checks.{about, checks_on_cells, live_checks, refused_at_once}
use Rattle.dbtg_unit.specs.Database.Statements.Effect.{StatementEffect, deleted, done, done_on_cells, done_on_current, effect, effect_on_cells, finding, inserted, modified, removed, stored, unless_refused, version_of}
use Rattle.dbtg_unit.specs.Database.Statements.Fits.{fits}
use Rattle.dbtg_unit.specs.Database.Statements.Found.{found}
use Rattle.dbtg_unit.specs.Database.Statements.StoredFacts.{whole}
use Rattle.dbtg_unit.specs.Database.Laws.Replay.{AnswersHold, State, after_entry, answer_to, opening_state, effect_of_unit, replay}
use Rattle.dbtg_unit.specs.Database.Laws.StaysLegal.{IsLegalState}
use Rattle.dbtg_unit.proofs.Public.{effect_keeps_count, effect_step, first_check_passes, found_live, opening_is_legal, opening_length, replay_keeps_legal, unit_is_there}
use Rattle.dbtg_script.specs.Lookups.{type_named}
use Rattle.dbtg_script.specs.Printing.Spelling.{has_byte}
use Rattle.dbtg_script.specs.Printing.Texts.{type_name}
use Rattle.dbtg_trace.specs.Laws.{AnswersCanBeSaid, IsSayable, IsWithin}
use Rattle.dbtg_trace.proofs.ReadBack.Grammar.{second_or}
use Rattle.dbtg_trace.proofs.ReadBack.Spelled.{name_bytes, type_is_named}

-- THE NAME OF A RECORD TYPE

abbrev names : List RecordType → List (List ℕ)
names ts = map (λ t. t.name) ts

abbrev name_at : List RecordType → ℕ → List ℕ
name_at ts r = unwrap_or (option_map (λ (t : RecordType). t.name) (slice_get ts r)) []

stands : (ts : List RecordType) (r : ℕ) → r < length ts → among (name_at ts r) (names ts) ≡ true
stands [] r h = absurd (omega (arith, h))
stands (t ∷ ts) zero h = ap (λ b. b || among t.name (names ts)) (bytes_same t.name)
stands (t ∷ ts) (suc r) h = second_or (bytes_eq (name_at ts r) t.name) (among (name_at ts r) (names ts)) (stands ts r (omega (arith, h)))

-- if the names differ, each is found at its place
found_at : (ts : List RecordType) (r i : ℕ) → r < length ts → distinct bytes_eq (names ts) ≡ true → position_from (bytes_eq (name_at ts r)) i (names ts) ≡ Some (i + r)
found_at [] r i h d = absurd (omega (arith, h))
found_at (t ∷ ts) zero i h d =
    let e : i ≡ i + 0 = omega arith in
    ap (λ b. cond b (Some i) (position_from (bytes_eq t.name) (i + 1) (names ts))) (bytes_same t.name) ∙ ap (λ n. Some n) e
found_at (t ∷ ts) (suc r) i h d = by (found_at ts r (i + 1) low p.1) (bytes_eq (name_at ts r) t.name) refl
  where
    low : r < length ts
    low = omega (arith, h)

    p : (not (among t.name (names ts)) ≡ true) × (distinct bytes_eq (names ts) ≡ true)
    p = and_parts (not (among t.name (names ts))) (distinct bytes_eq (names ts)) d

    by : position_from (bytes_eq (name_at ts r)) (i + 1) (names ts) ≡ Some (i + 1 + r) → (b : Bool) → bytes_eq (name_at ts r) t.name ≡ b → cond (bytes_eq (name_at ts r) t.name) (Some i) (position_from (bytes_eq (name_at ts r)) (i + 1) (names ts)) ≡ Some (i + suc r)
    by rest true e = absurd (not_true (among t.name (names ts)) p.0 (ap (λ n. among n (names ts)) (sym ((bytes_eq-Decides (name_at ts r) t.name).0 e)) ∙ stands ts r low))
    by rest false e =
        let next : (i + 1) + r ≡ i + suc r = omega arith in
        ap (λ b. cond b (Some i) (position_from (bytes_eq (name_at ts r)) (i + 1) (names ts))) e ∙ rest ∙ ap (λ n. Some n) next

front_differs : (xs ys : List (List ℕ)) → distinct bytes_eq (xs ++ ys) ≡ true → distinct bytes_eq xs ≡ true
front_differs [] ys d = refl
front_differs (x ∷ xs) ys d =
    let p = and_parts (not (among x (xs ++ ys))) (distinct bytes_eq (xs ++ ys)) d in
    and_from _ _ (fewer (among x xs) (among x ys) (ap not (sym (name_among_append x xs ys)) ∙ p.0)) (front_differs xs ys p.1)
  where
    fewer : (a b : Bool) → not (a || b) ≡ true → not a ≡ true
    fewer true b h = absurd cc
    fewer false b h = refl

back_differs : (xs ys : List (List ℕ)) → distinct bytes_eq (xs ++ ys) ≡ true → distinct bytes_eq ys ≡ true
back_differs [] ys d = d
back_differs (x ∷ xs) ys d = back_differs xs ys (and_parts (not (among x (xs ++ ys))) (distinct bytes_eq (xs ++ ys)) d).1

no_colon : (xs : List ℕ) → list_all is_name_byte xs ≡ true → has_byte 58 xs ≡ false
no_colon [] h = refl
no_colon (x ∷ xs) h =
    let p = and_parts (is_name_byte x) (list_all is_name_byte xs) h in
    let other : (x == 58) ≡ false = grind (arith, nat_tests, p) in
    rw other (no_colon xs p.1)

-- AN ANSWER

module _ (schema : Lists) (sound : IsSound schema) (named : IsNamed schema) (capacity : ℕ) (small : capacity ≤ 999999) where
  cache : (r : ℕ) → r < length schema.types → type_named schema (type_name schema r) ≡ Some r
  cache r h =
      let areas = map (λ a. a.name) schema.areas in
      let sets = map (λ s. s.name) schema.sets in
      let same : 0 + r ≡ r = omega arith in
      found_at schema.types r 0 h (back_differs areas (names schema.types) (front_differs (areas ++ names schema.types) sets sound.names)) ∙ ap (λ n. Some n) same

  -- the key of a record can be said
  within : (db : Database) → Legal schema capacity db → (k : DbKey) → is_live db k ≡ true → IsWithin schema k
  within db legal k live =
      let key = legal.keys k live in
      let low = key.1 in
      let high = key.2 in
      let one = key.3 in
      let last = key.4 in
      let most = legal.generations k.rtype k.number in (
        record {
          cache = cache k.rtype key.0;
          no_colon = no_colon (type_name schema k.rtype) (name_bytes (type_name schema k.rtype) (type_is_named schema.types k.rtype key.0 named.types));
          number_from = omega (arith, low);
          number_to = omega (arith, high, small);
          generation_from = omega (arith, one);
          generation_to = omega (arith, last, most);
        },
        key.0,
      )

  module _ (db : Database) (unit : RunUnit) (legal : Legal schema capacity db) where
    -- in a legal database the answer can be said
    abbrev Told : StatementEffect → Type 0
    Told outcome = Legal schema capacity outcome.database → IsSayable schema outcome.answer.key outcome.answer.items

    unless : (check : Option Cause) (outcome : StatementEffect) → (check ≡ None → Told outcome) → Told (unless_refused db unit check outcome)
    unless (Some cause) outcome h = λ after. refl
    unless None outcome h = h refl

    of_current : (current : Option DbKey) (checks : DbKey → List (Bool × Cause)) (outcome : DbKey → StatementEffect) → ((k : DbKey) → first_cause (checks k) ≡ None → Told (outcome k))
        → Told (unless_refused db unit (first_cause (about current checks)) (done_on_current db unit current outcome))
    of_current None checks outcome h = λ after. refl
    of_current (Some k) checks outcome h = unless (first_cause (checks k)) (outcome k) (h k)

    of_finding : (result : Result DbKey Cause) (after : DbKey → RunUnit) → ((k : DbKey) → result ≡ Ok k → is_live db k ≡ true) → Told (finding db unit result after)
    of_finding (Ok k) after h = λ lawful. within db legal k (h k refl)
    of_finding (Err cause) after h = λ lawful. refl

    quiet : (current : Option DbKey) (outcome : DbKey → StatementEffect) → ((k : DbKey) → Told (outcome k)) → Told (done_on_current db unit current outcome)
    quiet None outcome h = λ after. refl
    quiet (Some k) outcome h = h k

    abbrev check : Statement → Option Cause
    check s = first_cause (checks_on_cells schema (whole schema capacity db) unit s)

    on_cells : (s : Statement) → Told (effect_on_cells schema capacity db unit s)
    on_cells (OpenArea a mode) = unless (check (OpenArea a mode)) (done_on_cells schema capacity db unit (OpenArea a mode)) (λ free after. refl)
    on_cells (CloseArea a) = unless (check (CloseArea a)) (done_on_cells schema capacity db unit (CloseArea a)) (λ free after. refl)
    on_cells (Find suppress form) =
        unless (check (Find suppress form)) (done_on_cells schema capacity db unit (Find suppress form))
        (λ free. of_finding (found schema capacity db unit form) (λ k. seen schema capacity db unit k suppress) (λ k e. found_live schema capacity db unit legal form k e))
    on_cells (Get r) = of_current unit.currency.run_unit (live_checks (whole schema capacity db)) (λ k. done db unit (Some k) (Some (items_of db k))) (λ k free after.
        let live = not-false _ (first_check_passes (not (is_live db k), Deleted) [] free).0 in
        (within db legal k live, legal.items k live))
    on_cells (Store t items suppress) =
        unless (check (Store t items suppress)) (done_on_cells schema capacity db unit (Store t items suppress)) (λ free after.
        let k = new_key db t (unwrap_or (free_number capacity db t) 0) in
        within (stored schema capacity db unit k items suppress).database after k
        (ap (λ b. is_some {T = Record} (cond b (Some (record { items = items; version = 1 })) (db.records k))) (key_eq_refl k)))
    on_cells (Insert s) =
        unless (check (Insert s)) (done_on_cells schema capacity db unit (Insert s)) (λ free. quiet unit.currency.run_unit (inserted schema db unit s) (λ k after. refl))
    on_cells (Remove s) =
        unless (check (Remove s)) (done_on_cells schema capacity db unit (Remove s)) (λ free. quiet unit.currency.run_unit (removed db unit s) (λ k after. refl))
    on_cells (Modify t changes) =
        unless (check (Modify t changes)) (done_on_cells schema capacity db unit (Modify t changes))
        (λ free. quiet unit.currency.run_unit (modified schema capacity db unit changes) (λ k after. refl))
    on_cells (Delete option) =
        unless (check (Delete option)) (done_on_cells schema capacity db unit (Delete option))
        (λ free. quiet unit.currency.run_unit (deleted schema capacity db unit option) (λ k after. refl))
    on_cells Keep =
        unless (check Keep) (done_on_cells schema capacity db unit Keep)
        (λ free. quiet unit.currency.run_unit (λ k. done db (record unit { kept = noted k (version_of db k) unit.kept }) None None) (λ k after. refl))
    on_cells (Free true) = unless (check (Free true)) (done_on_cells schema capacity db unit (Free true)) (λ free after. refl)
    on_cells (Free false) =
        unless (check (Free false)) (done_on_cells schema capacity db unit (Free false))
        (λ free. quiet unit.currency.run_unit (λ k. done db (record unit { kept = forgotten k unit.kept }) None None) (λ k after. refl))

    told : (number : ℕ) → IsUnitIn schema capacity db number unit → (s : Statement) → fits schema s ≡ true → IsSayable schema (effect schema capacity db unit s).answer.key (effect schema capacity db unit s).answer.items
    unfolding effect
    told number unit_in s fit =
        unless (refused_at_once schema capacity unit s) (effect_on_cells schema capacity db unit s) (λ free. on_cells s) (effect_step schema capacity db unit number sound legal unit_in s fit).legal

  -- A HISTORY

  one_told : (state : State) (e : Entry) → IsLegalState schema capacity state → fits schema e.statement ≡ true → answer_to schema capacity state e ≡ Some e.answer → IsSayable schema e.answer.key e.answer.items
  one_told state e legal fit answered = by e.unit answered
    where
      of_unit : (i : ℕ) (found : Option RunUnit) → slice_get state.units i ≡ found → option_map (λ (o : StatementEffect). o.answer) (option_map (λ unit. effect schema capacity state.database unit e.statement) found) ≡ Some e.answer
          → IsSayable schema e.answer.key e.answer.items
      of_unit i None is h = absurd cc
      of_unit i (Some unit) is h = subst (λ (a : Answer). IsSayable schema a.key a.items) (same_Some _ _ h) (told state.database unit legal.legal (suc i) (legal.each i unit is) e.statement fit)

      by : (u : ℕ) → option_map (λ (o : StatementEffect). o.answer) (effect_of_unit schema capacity state u e.statement) ≡ Some e.answer → IsSayable schema e.answer.key e.answer.items
      by zero h = absurd cc
      by (suc i) h = of_unit i (slice_get state.units i) refl h

  along : (state : State) (es : List Entry) → IsLegalState schema capacity state → list_all (λ e. fits schema e.statement) es ≡ true → AnswersHold schema capacity state es → AllByRecursion (λ e. IsSayable schema e.answer.key e.answer.items) es
  unfolding replay AnswersHold
  along state [] legal fit hold = tt
  along state (e ∷ es) legal fit hold =
      let f = and_parts (fits schema e.statement) (list_all (λ d. fits schema d.statement) es) fit in
      let next : IsLegalState schema capacity (after_entry schema capacity state e) = replay_keeps_legal schema capacity state (e ∷ []) sound legal (and_from _ _ f.0 refl) in
      (one_told state e legal f.0 hold.0, along (after_entry schema capacity state e) es next f.1 hold.1)

  pub sayable : (units : ℕ) (history : List Entry) → list_all (λ e. fits schema e.statement) history ≡ true → AnswersHold schema capacity (opening_state schema units) history
      → AllByRecursion (λ e. IsSayable schema e.answer.key e.answer.items) history
  sayable units history fit hold = along (opening_state schema units) history (opening_is_legal schema capacity units) fit hold

pub answers_can_be_said : AnswersCanBeSaid
answers_can_be_said schema sound named capacity small units history is = sayable schema sound named capacity small units history is.fitting is.answers_hold

-- ITS UNITS

there : (schema : Lists) (capacity : ℕ) (state : State) (e : Entry) → answer_to schema capacity state e ≡ Some e.answer → (nat_le 1 e.unit && nat_le e.unit (length state.units)) ≡ true
there schema capacity state e answered =
    let is = unit_is_there schema capacity state e answered in
    let low = is.0 in and_from _ _ (le-leb 1 e.unit (omega (arith, low))) (le-leb e.unit (length state.units) is.1)

all_there : (schema : Lists) (capacity units : ℕ) (state : State) (es : List Entry) → length state.units ≡ units → AnswersHold schema capacity state es → list_all (λ e. nat_le 1 e.unit && nat_le e.unit units) es ≡ true
unfolding AnswersHold
all_there schema capacity units state [] many hold = refl
all_there schema capacity units state (e ∷ es) many hold =
    and_from _ _ (ap (λ n. nat_le 1 e.unit && nat_le e.unit n) (sym many) ∙ there schema capacity state e hold.0)
    (all_there schema capacity units (after_entry schema capacity state e) es (effect_keeps_count state e.unit (effect_of_unit schema capacity state e.unit e.statement) ∙ many) hold.1)

-- each entry is of one of the units
pub units_there : (schema : Lists) (capacity units : ℕ) (history : List Entry) → AnswersHold schema capacity (opening_state schema units) history → list_all (λ e. nat_le 1 e.unit && nat_le e.unit units) history ≡ true
units_there schema capacity units history hold = all_there schema capacity units (opening_state schema units) history (opening_length schema units) hold
