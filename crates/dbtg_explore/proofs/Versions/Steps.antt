-- One statement gets the same answer from a database and from the same one without versions, and leaves databases that are alike.
-- k is the current of run-unit, e is a record that the unit keeps, with the version that is kept of it.
use Rattle.std.proofs.Common.{◌≡◌, refl, ◌∙◌, ap, subst, ℕ, ◌+◌, Bool, true, false, not, ◌&&◌, List, [], ◌∷◌, ◌++◌, Option, Some, None, arith, ⊎_elim, map}
use Rattle.std.specs.Prelude.{◌==◌, Result, Ok, Err, filter, if◌then◌else◌, is_none, is_some, option_and_then, option_map, slice_set, unwrap_or}
use Rattle.std.specs.List.{find, list_any}
use Rattle.dbtg_schema.specs.Lists.{Lists}
use Rattle.dbtg_schema.specs.Lookups.{first_cause, some_and}
use Rattle.dbtg_schema.specs.Structure.{automatic_sets, order_of, rekeyed_sets, set_numbers}
use Rattle.dbtg_cells.specs.declared.key.DbKey.{DbKey}
use Rattle.dbtg_cells.specs.declared.key.Owner.TheVariants.{System, Rec}
use Rattle.dbtg_cells.specs.declared.key.Value.{Value}
use Rattle.dbtg_cells.specs.declared.usage.Mode.{Mode}
use Rattle.dbtg_cells.specs.Keys.{key_below, key_eq}
use Rattle.dbtg_cells.specs.Placed.{placed}
use Rattle.dbtg_cells.proofs.Public.{same_key}
use Rattle.dbtg_unit.specs.declared.statement.Change.{Change}
use Rattle.dbtg_unit.specs.declared.statement.Erase.{Erase}
use Rattle.dbtg_unit.specs.declared.statement.Form.{Form}
use Rattle.dbtg_unit.specs.declared.statement.Form.TheVariants.{Key, CurrentOfUnit, CurrentOfType, CurrentOfSet, CurrentOfArea, InSet, InArea, OwnerOf, Calc, NextDuplicate, Sorted}
use Rattle.dbtg_unit.specs.declared.statement.Statement.{Statement}
use Rattle.dbtg_unit.specs.declared.statement.Statement.TheVariants.{OpenArea, CloseArea, Find, Get, Store, Insert, Remove, Modify, Delete, Keep, Free}
use Rattle.dbtg_unit.specs.declared.statement.Suppress.{Suppress}
use Rattle.dbtg_unit.specs.declared.unit.Answer.{Answer}
use Rattle.dbtg_unit.specs.declared.unit.Cause.{Cause}
use Rattle.dbtg_unit.specs.declared.unit.Cause.TheVariants.{AlreadyMember, AreaAlreadyOpen, AreaNotOpen, ChangedByAnother, Deleted, DuplicatesNotAllowed, Mandatory, MandatoryAutomatic, NoCurrentOfRunUnit, NoneSatisfies, NoSuchCurrent, NotKept, NotMember, OtherRecordType, OwnerHasMembers, UpdateModeNeeded}
use Rattle.dbtg_unit.specs.declared.unit.Status.TheVariants.{Done}
use Rattle.dbtg_unit.specs.declared.unit.Currency.{Currency}
use Rattle.dbtg_unit.specs.declared.unit.Unit.{Unit}
use Rattle.dbtg_unit.specs.Database.State.Base.{Database, free_number, is_live, is_member, items_of, key_item, members_of, new_key, version_of}
use Rattle.dbtg_unit.specs.Database.State.Units.{forgotten, kept_version, noted, place_in, seen}
use Rattle.dbtg_unit.specs.Database.Statements.Checks.{about, accepts_type, checks_on_cells, current_type, live_checks, own_checks, place_checks, refused_at_once}
use Rattle.dbtg_unit.specs.Database.Statements.Conditions.{calc_taken, changed_items, has_members, is_plain, names_calc, refuses_equal, sort_key_taken}
use Rattle.dbtg_unit.specs.Database.Statements.Doomed.{doomed}
use Rattle.dbtg_unit.specs.Database.Statements.Effect.{StatementEffect, connected_in, deleted, done, done_on_cells, done_on_current, effect, effect_on_cells, finding, inserted, is_current_owner, is_gone, joined, modified, moved, raised, refused, removed, renoted, spot, stored, unless_refused, with_items, with_new, without}
use Rattle.dbtg_unit.specs.Database.Statements.Found.{found}
use Rattle.dbtg_unit.specs.Database.Statements.StoredFacts.{StoredFacts, whole}
use Rattle.dbtg_unit.proofs.Public.{In, of_append, of_filter}
use Rattle.dbtg_explore.specs.Versions.{unversioned_database, unversioned_entry, unversioned_unit}
use Rattle.dbtg_explore.proofs.Versions.Facts.{doomed_is, found_is, free_is, seen_is, sort_key_is, whole_is}
use Rattle.dbtg_explore.proofs.Versions.Stored.{first_changed, first_items, first_lives, Stays, stays_items, stays_or_goes, stays_same, stays_with_items}
use Rattle.dbtg_explore.proofs.Versions.Twins.{AreKnown, IsWithin, Twins, kept_alike, noted_alike, renoted_alike, renoted_within, twins_added, twins_items, twins_live, twins_raised, without_alike}

module _ (db : Database) (known : AreKnown db) (unit : Unit) (kept_within : (e : DbKey × ℕ) → In e unit.kept → IsWithin db e) where
  -- the database and the unit without versions
  abbrev eb : Database
  eb = unversioned_database db

  abbrev other : Unit
  other = unversioned_unit db unit

  -- what a statement leaves of both
  pub record Alike (o p : StatementEffect) : Type 0 where
    pub answer : o.answer ≡ p.answer
    pub twins : Twins db known o.database p.database
    pub number : o.unit.number ≡ p.unit.number
    pub currency : o.unit.currency ≡ p.unit.currency
    pub modes : o.unit.modes ≡ p.unit.modes
    pub kept : map (unversioned_entry o.database) o.unit.kept ≡ map (unversioned_entry p.database) p.unit.kept
    pub within : (e : DbKey × ℕ) → In e o.unit.kept → IsWithin o.database e

  -- UNCHANGED RECORDS

  unchanged : (usage : ℕ → List (ℕ × Mode)) → Twins db known (record db { usage = usage }) (record eb { usage = usage })
  unchanged usage = twins_raised db known (λ k. false) (λ k. false) (record db { usage = usage }) (record eb { usage = usage }) (λ k. refl) (λ k. stays_same (db.records k)) refl refl refl refl

  -- the unit keeps what it kept
  plain : (usage : ℕ → List (ℕ × Mode)) (currency currency' : Currency) (modes : List (Option Mode)) (answer answer' : Answer) → currency ≡ currency' → answer ≡ answer'
      → Alike (record { database = record db { usage = usage }; unit = record unit { currency = currency; modes = modes }; answer = answer }) (record { database = record eb { usage = usage }; unit = record other { currency = currency'; modes = modes }; answer = answer' })
  plain usage currency currency' modes answer answer' same answers =
      let t = unchanged usage in
      record {
        answer = answers;
        twins = t;
        number = refl;
        currency = same;
        modes = refl;
        kept = kept_alike db known _ _ t unit.kept kept_within;
        within = λ e i. t.within e (kept_within e i);
      }

  refused_alike : (cause : Cause) → Alike (refused db unit cause) (refused eb other cause)
  refused_alike cause = plain db.usage unit.currency unit.currency unit.modes (refused db unit cause).answer (refused db unit cause).answer refl refl

  unless : (check check' : Option Cause) (o p : StatementEffect) → check ≡ check' → (check ≡ None → Alike o p) → Alike (unless_refused db unit check o) (unless_refused eb other check' p)
  unless check check' o p same h = subst (λ (c : Option Cause). Alike (unless_refused db unit check o) (unless_refused eb other c p)) same (by check refl) where
    by : (c : Option Cause) → check ≡ c → Alike (unless_refused db unit c o) (unless_refused eb other c p)
    by None e = h e
    by (Some cause) e = refused_alike cause

  on_current : (current : Option DbKey) (o p : DbKey → StatementEffect) → ((k : DbKey) → current ≡ Some k → Alike (o k) (p k)) → Alike (done_on_current db unit current o) (done_on_current eb other current p)
  on_current None o p h = refused_alike _
  on_current (Some k) o p h = h k refl

  -- the unit keeps other entries, and the database is as it was
  keeping : (es fs : List (DbKey × ℕ)) (answer : Answer) → map (unversioned_entry db) es ≡ map (unversioned_entry eb) fs → ((e : DbKey × ℕ) → In e es → IsWithin db e)
      → Alike (record { database = db; unit = record unit { kept = es }; answer = answer }) (record { database = eb; unit = record other { kept = fs }; answer = answer })
  keeping es fs answer same all = record { answer = refl; twins = unchanged db.usage; number = refl; currency = refl; modes = refl; kept = same; within = all }

  as_kept : map (unversioned_entry db) unit.kept ≡ map (unversioned_entry eb) other.kept
  as_kept = kept_alike db known _ _ (unchanged db.usage) unit.kept kept_within

  -- CHECKS

  -- the version that the unit keeps of a live record is not the record's
  changed_by : (k : DbKey) (es : List (DbKey × ℕ)) → is_live db k ≡ true
      → some_and (λ n. not (n == version_of db k)) (option_map (λ e. e.1) (find (λ e. key_eq k e.0) es)) ≡ some_and (λ n. not (n == version_of eb k)) (option_map (λ e. e.1) (find (λ e. key_eq k e.0) (map (unversioned_entry db) es)))
  changed_by k [] live = refl
  changed_by k (e ∷ es) live = by (changed_by k es live) (key_eq k e.0) refl where
    by : some_and (λ n. not (n == version_of db k)) (option_map (λ e. e.1) (find (λ e. key_eq k e.0) es)) ≡ some_and (λ n. not (n == version_of eb k)) (option_map (λ e. e.1) (find (λ e. key_eq k e.0) (map (unversioned_entry db) es)))
        → (b : Bool) → key_eq k e.0 ≡ b
        → some_and (λ n. not (n == version_of db k)) (option_map (λ e. e.1) (find (λ e. key_eq k e.0) (e ∷ es))) ≡ some_and (λ n. not (n == version_of eb k)) (option_map (λ e. e.1) (find (λ e. key_eq k e.0) (map (unversioned_entry db) (e ∷ es))))
    by rest true is =
        rw is (ap not (first_changed (db.records k) e.1 live ∙ ap (λ (x : DbKey). (if some_and (λ r. e.1 == r.version) (db.records x) then 1 else 0) == version_of eb k) (same_key k e.0 is)))
    by rest false is = rw is rest

  own_by : (b c d : Bool) (rest : List (Bool × Cause)) → (b ≡ true → c ≡ d) → first_cause ((not b, Deleted) ∷ (c, ChangedByAnother) ∷ rest) ≡ first_cause ((not b, Deleted) ∷ (d, ChangedByAnother) ∷ rest)
  own_by true c d rest h = ap (λ x. first_cause ((false, Deleted) ∷ (x, ChangedByAnother) ∷ rest)) (h refl)
  own_by false c d rest h = refl

  kept_none : (k : DbKey) (es : List (DbKey × ℕ)) → is_none (option_map (λ e. e.1) (find (λ e. key_eq k e.0) es)) ≡ is_none (option_map (λ e. e.1) (find (λ e. key_eq k e.0) (map (unversioned_entry db) es)))
  kept_none k [] = refl
  kept_none k (e ∷ es) = by (kept_none k es) (key_eq k e.0) refl where
    by : is_none (option_map (λ e. e.1) (find (λ e. key_eq k e.0) es)) ≡ is_none (option_map (λ e. e.1) (find (λ e. key_eq k e.0) (map (unversioned_entry db) es))) → (b : Bool) → key_eq k e.0 ≡ b → is_none (option_map (λ e. e.1) (find (λ e. key_eq k e.0) (e ∷ es))) ≡ is_none (option_map (λ e. e.1) (find (λ e. key_eq k e.0) (map (unversioned_entry db) (e ∷ es))))
    by rest true is = rw is refl
    by rest false is = rw is rest

  not_kept : (current : Option DbKey) → is_none (option_and_then (kept_version unit) current) ≡ is_none (option_and_then (kept_version other) current)
  not_kept None = refl
  not_kept (Some k) = kept_none k unit.kept

  -- RAISED VERSIONS

  raising : (test test' : DbKey → Bool) (d d' : Database) (currency : Currency) → ((k : DbKey) → test k ≡ test' k) → Twins db known (raised test d) (raised test' d')
      → Alike (done (raised test d) (renoted test (raised test d) (record unit { currency = currency })) None None) (done (raised test' d') (renoted test' (raised test' d') (record other { currency = currency })) None None)
  raising test test' d d' currency tests t = record {
    answer = refl;
    twins = t;
    number = refl;
    currency = refl;
    modes = refl;
    kept = renoted_alike db known (raised test d) (raised test' d') t test test' tests unit.kept kept_within;
    within = λ e i. renoted_within db known (raised test d) (raised test' d') t test test' tests unit.kept kept_within e i;
  }

  module _ (schema : Lists) (capacity : ℕ) where
    -- the database without versions, but with the answers of the other view
    abbrev view : StoredFacts
    view = record (whole schema capacity db) { version = version_of eb }

    view_is : view ≡ whole schema capacity eb
    view_is = whole_is schema capacity db eb.records (λ k. first_lives (db.records k)) (λ k. first_items (db.records k))

    -- the checks of the record's own, and others that are the same in both
    own_rest : (current : Option DbKey) (rest : DbKey → List (Bool × Cause))
        → first_cause (about current (λ k. own_checks (whole schema capacity db) unit k ++ rest k)) ≡ first_cause (about current (λ k. own_checks view other k ++ rest k))
    own_rest None rest = refl
    own_rest (Some k) rest = own_by (is_live db k) _ _ (rest k) (λ live. changed_by k unit.kept live)

    in_view : (statement : Statement) → first_cause (checks_on_cells schema (whole schema capacity db) unit statement) ≡ first_cause (checks_on_cells schema view other statement)
    in_view (OpenArea a mode) = refl
    in_view (CloseArea a) = refl
    in_view (Find suppress form) = refl
    in_view (Get r) = refl
    in_view (Store t items suppress) = refl
    in_view (Insert s) = own_rest unit.currency.run_unit (λ k. (is_some (view.owner s k), AlreadyMember) ∷ place_checks schema view unit s (key_item schema s k.rtype (view.items k)))
    in_view (Remove s) = own_rest unit.currency.run_unit (λ k. (is_none (view.owner s k), NotMember) ∷ [])
    in_view (Modify t changes) =
        own_rest unit.currency.run_unit
        (λ k. (names_calc schema k.rtype changes && calc_taken schema view k.rtype (changed_items changes (view.items k)) (Some k), DuplicatesNotAllowed)
        ∷ map (λ s. (refuses_equal (order_of schema s) && sort_key_taken schema view k (changed_items changes (view.items k)) s, DuplicatesNotAllowed)) (rekeyed_sets schema k.rtype (map (λ c. c.item) changes)))
    in_view (Delete option) = own_rest unit.currency.run_unit (λ k. (is_plain option && has_members schema view k, OwnerHasMembers) ∷ [])
    in_view Keep = refl
    in_view (Free all) = refl

    checks_alike : (statement : Statement) → first_cause (checks_on_cells schema (whole schema capacity db) unit statement) ≡ first_cause (checks_on_cells schema (whole schema capacity eb) other statement)
    checks_alike statement = in_view statement ∙ ap (λ (v : StoredFacts). first_cause (checks_on_cells schema v other statement)) view_is

    at_once_alike : (statement : Statement) → refused_at_once schema capacity unit statement ≡ refused_at_once schema capacity other statement
    at_once_alike (OpenArea a mode) = refl
    at_once_alike (CloseArea a) = refl
    at_once_alike (Find suppress form) = by form where
      by : (f : Form) → refused_at_once schema capacity unit (Find suppress f) ≡ refused_at_once schema capacity other (Find suppress f)
      by (Key k) = refl
      by CurrentOfUnit = refl
      by (CurrentOfType r) = refl
      by (CurrentOfSet s) = refl
      by (CurrentOfArea a) = refl
      by (InSet which r s) = refl
      by (InArea which r a) = refl
      by (OwnerOf s) = refl
      by (Calc r values) = refl
      by (NextDuplicate r) = refl
      by (Sorted s value) = refl
    at_once_alike (Get r) = refl
    at_once_alike (Store t items suppress) = refl
    at_once_alike (Insert s) = refl
    at_once_alike (Remove s) = refl
    at_once_alike (Modify t changes) = refl
    at_once_alike (Delete option) = refl
    at_once_alike Keep = refl
    at_once_alike (Free true) = refl
    at_once_alike (Free false) =
        ap (λ b. first_cause (
        (is_none unit.currency.run_unit, NoCurrentOfRunUnit)
        ∷ (some_and (λ t. not (accepts_type schema (Free false) t)) (current_type unit), OtherRecordType)
        ∷ (false, MandatoryAutomatic)
        ∷ (false, Mandatory)
        ∷ (false, AreaAlreadyOpen)
        ∷ (false, NoSuchCurrent)
        ∷ (false, AreaNotOpen)
        ∷ (false, UpdateModeNeeded)
        ∷ (false, NoneSatisfies)
        ∷ (b, NotKept)
        ∷ []))
        (not_kept unit.currency.run_unit)

    -- a record in its place, and the lists into which it is put
    join : (s : ℕ) (k : DbKey) (list : List DbKey) → joined schema db unit s k list ≡ joined schema eb other s k list
    join s k list = λ i. placed (spot (order_of schema s) (option_and_then (λ place. place.at) (place_in schema unit s)) (λ x. sort_key_is schema capacity db eb.records (λ y. first_lives (db.records y)) (λ y. first_items (db.records y)) s x i) k) k list

    connected_is : (sets : List ℕ) (k : DbKey) → (connected_in schema db unit sets k).lists ≡ (connected_in schema eb other sets k).lists
    connected_is sets k = λ i s o. if list_any (λ s'. s' == s) sets && is_current_owner schema unit s o then option_map (λ list. join s k list i) (db.lists s o) else db.lists s o

    inserted_alike : (s : ℕ) (k : DbKey) → Alike (inserted schema db unit s k) (inserted schema eb other s k)
    inserted_alike s k =
        raising (key_eq k) (key_eq k) (connected_in schema db unit (s ∷ []) k) (connected_in schema eb other (s ∷ []) k)
        (moved unit s (record { owner = unwrap_or (option_map (λ place. place.owner) (place_in schema unit s)) System; at = Some k })).currency (λ x. refl)
        (twins_raised db known (key_eq k) (key_eq k) (connected_in schema db unit (s ∷ []) k) (connected_in schema eb other (s ∷ []) k) (λ x. refl) (λ x. stays_same (db.records x)) (connected_is (s ∷ []) k) refl refl refl)

    removed_alike : (s : ℕ) (k : DbKey) → Alike (removed db unit s k) (removed eb other s k)
    removed_alike s k =
        let d : Database = record db { lists = λ s' o. if s' == s then option_map (without k) (db.lists s' o) else db.lists s' o } in
        let d' : Database = record eb { lists = λ s' o. if s' == s then option_map (without k) (db.lists s' o) else db.lists s' o } in
        raising (key_eq k) (key_eq k) d d' unit.currency (λ x. refl)
        (twins_raised db known (key_eq k) (key_eq k) d d' (λ x. refl) (λ x. stays_same (db.records x)) refl refl refl refl)

    module _ (changes : List Change) (k : DbKey) where
      -- its new items, as each database has them
      abbrev its : Database → List Value
      its d = changed_items changes (items_of d k)

      changed_alike : (x : DbKey) → Stays (db.records x) ((with_items db k (its db)).records x) ((with_items eb k (its eb)).records x)
      changed_alike x = stays_with_items (db.records x) (key_eq k x) (its db) (its eb) (ap (changed_items changes) (first_items (db.records k)))

      changed_items_are : (x : DbKey) → items_of (with_items db k (its db)) x ≡ items_of (with_items eb k (its eb)) x
      changed_items_are x = stays_items (db.records x) ((with_items db k (its db)).records x) ((with_items eb k (its eb)).records x) (changed_alike x)

      rejoin : (s : ℕ) (list : List DbKey) → joined schema (with_items db k (its db)) unit s k list ≡ joined schema (with_items eb k (its eb)) other s k list
      rejoin s list = λ i. placed (spot (order_of schema s) (option_and_then (λ place. place.at) (place_in schema unit s)) (λ x. key_item schema s x.rtype (changed_items_are x i)) k) k list

      abbrev sets : List ℕ
      sets = rekeyed_sets schema k.rtype (map (λ c. c.item) changes)

      modified_alike : Alike (modified schema capacity db unit changes k) (modified schema capacity eb other changes k)
      modified_alike =
          let d : Database = record (with_items db k (its db)) {
            lists = λ s o. if list_any (λ s'. s' == s) sets && is_member k (members_of db s o) then option_map (λ list. joined schema (with_items db k (its db)) unit s k (without k list)) (db.lists s o) else db.lists s o;
          } in
          let d' : Database = record (with_items eb k (its eb)) {
            lists = λ s o. if list_any (λ s'. s' == s) sets && is_member k (members_of db s o) then option_map (λ list. joined schema (with_items eb k (its eb)) other s k (without k list)) (db.lists s o) else db.lists s o;
          } in
          raising (key_eq k) (key_eq k) d d' unit.currency (λ x. refl)
          (twins_raised db known (key_eq k) (key_eq k) d d' (λ x. refl) changed_alike
          (λ i s o. if list_any (λ s'. s' == s) sets && is_member k (members_of db s o) then option_map (λ list. rejoin s (without k list) i) (db.lists s o) else db.lists s o)
          refl refl refl)

    -- DELETE

    module _ (option : Erase) (k : DbKey) where
      gone_is : doomed schema capacity db option k ≡ doomed schema capacity eb option k
      gone_is = doomed_is schema capacity db eb.records (λ x. first_lives (db.records x)) (λ x. first_items (db.records x)) option k

      -- a member that is taken out of a list and stays
      abbrev is_out : List DbKey → DbKey → Bool
      is_out gone x = not (is_member x gone) && list_any (λ s. list_any (λ o. is_member x (members_of db s (Rec o))) gone) (set_numbers schema)

      abbrev without_gone : Database → List DbKey → Database
      without_gone d gone = record d {
        records = λ x. if is_member x gone then None else d.records x;
        lists = λ s o. if is_gone gone o then None else option_map (filter (λ x. not (is_member x gone))) (db.lists s o);
      }

      deleted_alike : Alike (deleted schema capacity db unit option k) (deleted schema capacity eb other option k)
      deleted_alike =
          let gone = doomed schema capacity db option k in
          let gone' = doomed schema capacity eb option k in
          let d = without_gone db gone in
          let d' = without_gone eb gone' in
          let tests : (x : DbKey) → is_out gone x ≡ is_out gone' x = λ x i. is_out (gone_is i) x in
          let t : Twins db known (raised (is_out gone) d) (raised (is_out gone') d') = twins_raised db known (is_out gone) (is_out gone') d d' tests (λ x. stays_or_goes (db.records x) (is_member x gone) (is_member x gone') (λ i. is_member x (gone_is i)))
          (λ i s o. if is_gone (gone_is i) o then None else option_map (filter (λ x. not (is_member x (gone_is i)))) (db.lists s o)) refl refl refl in
          let h = raising (is_out gone) (is_out gone') d d' unit.currency tests t in
          record {
            answer = refl;
            twins = t;
            number = refl;
            currency = refl;
            modes = refl;
            kept = without_alike db known (raised (is_out gone) d) (raised (is_out gone') d') t (λ x. not (key_eq k x)) (renoted (is_out gone) (raised (is_out gone) d) unit).kept (renoted (is_out gone') (raised (is_out gone') d') other).kept h.kept;
            within = λ e i. h.within e (of_filter (λ (x : DbKey × ℕ). not (key_eq k x.0)) e (renoted (is_out gone) (raised (is_out gone) d) unit).kept i).0;
          }

    -- STORE

    module _ (k : DbKey) (items : List Value) (suppress : Suppress) (fresh : k.generation ≡ db.last k.rtype k.number + 1) where
      -- with the record, not yet in any list
      alone : Twins db known (with_new schema db k items) (with_new schema eb k items)
      alone = twins_added db known k items (with_new schema db k items) (with_new schema eb k items) fresh refl

      new_items : (x : DbKey) → items_of (with_new schema db k items) x ≡ items_of (with_new schema eb k items) x
      new_items x = twins_items db known _ _ alone x

      new_join : (s : ℕ) (list : List DbKey) → joined schema (with_new schema db k items) unit s k list ≡ joined schema (with_new schema eb k items) other s k list
      new_join s list = λ i. placed (spot (order_of schema s) (option_and_then (λ place. place.at) (place_in schema unit s)) (λ x. key_item schema s x.rtype (new_items x i)) k) k list

      abbrev new : Database
      new = connected_in schema (with_new schema db k items) unit (automatic_sets schema k.rtype) k

      abbrev new' : Database
      new' = connected_in schema (with_new schema eb k items) other (automatic_sets schema k.rtype) k

      new_lists : new.lists ≡ new'.lists
      new_lists = λ i s o.
          if list_any (λ s'. s' == s) (automatic_sets schema k.rtype) && is_current_owner schema unit s o
          then option_map (λ list. new_join s list i) ((with_new schema db k items).lists s o)
          else (with_new schema db k items).lists s o

      twins_new : Twins db known new new'
      twins_new = twins_added db known k items new new' fresh new_lists

      new_currency : (seen schema capacity new unit k suppress).currency ≡ (seen schema capacity new' other k suppress).currency
      new_currency =
          let whole : record new { records = new'.records } ≡ new' = λ i. record { records = new'.records; lists = new_lists i; last = new'.last; usage = db.usage } in
          seen_is schema capacity new new'.records (λ x. twins_live db known new new' twins_new x) (λ x. twins_items db known new new' twins_new x) unit other.kept k suppress
          ∙ ap (λ (d : Database). (seen schema capacity d other k suppress).currency) whole

      stored_alike : Alike (stored schema capacity db unit k items suppress) (stored schema capacity eb other k items suppress)
      stored_alike = record {
        answer = refl;
        twins = twins_new;
        number = refl;
        currency = new_currency;
        modes = refl;
        kept = kept_alike db known new new' twins_new unit.kept kept_within;
        within = λ e i. twins_new.within e (kept_within e i);
      }

    -- ALL STATEMENTS

    on_found : (r r' : Result DbKey Cause) (suppress : Suppress) → r ≡ r'
        → Alike (finding db unit r (λ k. seen schema capacity db unit k suppress)) (finding eb other r' (λ k. seen schema capacity eb other k suppress))
    on_found r r' suppress same = subst (λ (q : Result DbKey Cause). Alike (finding db unit r (λ k. seen schema capacity db unit k suppress)) (finding eb other q (λ k. seen schema capacity eb other k suppress))) same (by r) where
      by : (q : Result DbKey Cause) → Alike (finding db unit q (λ k. seen schema capacity db unit k suppress)) (finding eb other q (λ k. seen schema capacity eb other k suppress))
      by (Ok k) = plain db.usage _ _ unit.modes _ _ (seen_is schema capacity db eb.records (λ x. first_lives (db.records x)) (λ x. first_items (db.records x)) unit other.kept k suppress) refl
      by (Err cause) = refused_alike cause

    passes : (b : Bool) → first_cause ((not b, Deleted) ∷ []) ≡ None → b ≡ true
    passes true h = refl
    passes false h = absurd cc

    kept_now : (k : DbKey) → is_live db k ≡ true → Alike (done db (record unit { kept = noted k (version_of db k) unit.kept }) None None) (done eb (record other { kept = noted k (version_of eb k) other.kept }) None None)
    kept_now k live = keeping (noted k (version_of db k) unit.kept) (noted k (version_of eb k) other.kept) _ (noted_alike db known db eb (unchanged db.usage) k unit.kept other.kept as_kept)
        (λ e i. ⊎_elim
        (λ low. kept_within e (of_filter (λ (x : DbKey × ℕ). key_below x.0 k) e unit.kept low).0)
        (λ j. ⊎_elim
        (λ here. subst (IsWithin db) here (record { generation = known k live; version = λ h. omega arith }))
        (λ high. kept_within e (of_filter (λ (x : DbKey × ℕ). key_below k x.0) e unit.kept high).0) j)
        (of_append e (filter (λ (x : DbKey × ℕ). key_below x.0 k) unit.kept) ((k, version_of db k) ∷ filter (λ (x : DbKey × ℕ). key_below k x.0) unit.kept) i))

    done_alike : (statement : Statement) → first_cause (checks_on_cells schema (whole schema capacity db) unit statement) ≡ None
        → Alike (done_on_cells schema capacity db unit statement) (done_on_cells schema capacity eb other statement)
    done_alike (OpenArea a mode) h = plain (λ b. if b == a then db.usage b ++ (unit.number, mode) ∷ [] else db.usage b) unit.currency unit.currency (slice_set unit.modes a (Some mode)) _ _ refl refl
    done_alike (CloseArea a) h = plain (λ b. if b == a then filter (λ e. not (e.0 == unit.number)) (db.usage b) else db.usage b) unit.currency unit.currency (slice_set unit.modes a None) _ _ refl refl
    done_alike (Find suppress form) h = on_found (found schema capacity db unit form) (found schema capacity eb other form) suppress (found_is schema capacity db eb.records (λ x. first_lives (db.records x)) (λ x. first_items (db.records x)) unit other.kept form)
    done_alike (Get r) h = on_current unit.currency.run_unit _ _ (λ k e. plain db.usage unit.currency unit.currency unit.modes _ _ refl (λ i. record { status = Done; key = Some k; items = Some (first_items (db.records k) i) }))
    done_alike (Store t items suppress) h =
        let same : new_key db t (unwrap_or (free_number capacity db t) 0) ≡ new_key eb t (unwrap_or (free_number capacity eb t) 0) = λ i. new_key db t (unwrap_or (free_is schema capacity db eb.records (λ x. first_lives (db.records x)) (λ x. first_items (db.records x)) t i) 0) in
        subst (λ (k : DbKey). Alike (stored schema capacity db unit (new_key db t (unwrap_or (free_number capacity db t) 0)) items suppress) (stored schema capacity eb other k items suppress)) same
        (stored_alike (new_key db t (unwrap_or (free_number capacity db t) 0)) items suppress refl)
    done_alike (Insert s) h = on_current unit.currency.run_unit (inserted schema db unit s) (inserted schema eb other s) (λ k e. inserted_alike s k)
    done_alike (Remove s) h = on_current unit.currency.run_unit (removed db unit s) (removed eb other s) (λ k e. removed_alike s k)
    done_alike (Modify t changes) h = on_current unit.currency.run_unit (modified schema capacity db unit changes) (modified schema capacity eb other changes) (λ k e. modified_alike changes k)
    done_alike (Delete option) h = on_current unit.currency.run_unit (deleted schema capacity db unit option) (deleted schema capacity eb other option) (λ k e. deleted_alike option k)
    done_alike Keep h = on_current unit.currency.run_unit _ _ (λ k e. kept_now k (passes (is_live db k) (subst (λ (current : Option DbKey). first_cause (about current (live_checks (whole schema capacity db))) ≡ None) e h)))
    done_alike (Free true) h = keeping [] [] _ refl (λ e i. absurd i)
    done_alike (Free false) h =
        on_current unit.currency.run_unit _ _ (λ k e. keeping (forgotten k unit.kept) (forgotten k other.kept) _ (without_alike db known db eb (unchanged db.usage) (λ x. not (key_eq k x)) unit.kept other.kept as_kept)
        (λ x i. kept_within x (of_filter (λ (y : DbKey × ℕ). not (key_eq k y.0)) x unit.kept i).0))

    pub effect_alike : (statement : Statement) → Alike (effect schema capacity db unit statement) (effect schema capacity eb other statement)
    unfolding effect
    effect_alike statement =
        unless (refused_at_once schema capacity unit statement) (refused_at_once schema capacity other statement) (effect_on_cells schema capacity db unit statement) (effect_on_cells schema capacity eb other statement) (at_once_alike statement)
        (λ at_once. unless (first_cause (checks_on_cells schema (whole schema capacity db) unit statement)) (first_cause (checks_on_cells schema (whole schema capacity eb) other statement)) (done_on_cells schema capacity db unit statement) (done_on_cells schema capacity eb other statement) (checks_alike statement) (done_alike statement))
