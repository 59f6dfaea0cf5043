-- Each statement keeps a database legal, and its unit a unit of it.
use Rattle.dbtg_unit.specs.Database.Statements.Effect.{StatementEffect}
use Rattle.dbtg_unit.specs.Database.Statements.Conditions.{refuses_equal, sort_key_taken}
use Rattle.dbtg_unit.specs.Database.Statements.Checks.{live_checks, open_checks}
use Rattle.std.proofs.Common.{◌≡◌, refl, sym, ◌∙◌, ap, subst, ℕ, ◌<◌, Bool, true, false, cond, not, ◌&&◌, List, [], ◌∷◌, ◌++◌, length, Option, Some, None, eqb, ltb, arith, map, length-set}
use Rattle.std.specs.Prelude.{is_some, is_none, unwrap_or, option_map, option_and_then, filter, slice_set}
use Rattle.std.specs.List.{list_any, list_all, range_with_len}
use Rattle.std.proofs.lemmas.Bool.{and_parts, and_left, or_left, false≢true, true≢false, not-false, not-true, ltb-true, eqb-true, eq-eqb, false_from_ne_true}
use Rattle.dbtg_schema.specs.Lists.{Lists}
use Rattle.dbtg_schema.specs.Sound.{IsSound}
use Rattle.dbtg_schema.specs.Lookups.{at, first, first_cause, some_and}
use Rattle.dbtg_schema.specs.Structure.{automatic_sets, set_numbers, is_automatic, is_mandatory, member_clause, order_of, pictures, picture_of, rekeyed_sets}
use Rattle.dbtg_schema.specs.declared.shape.Member.{Member}
use Rattle.dbtg_schema.proofs.Public.{none_is}
use Rattle.dbtg_cells.specs.declared.key.DbKey.{DbKey}
use Rattle.dbtg_cells.specs.declared.key.Owner.{Owner}
use Rattle.dbtg_cells.specs.declared.key.Owner.TheVariants.{System, Rec}
use Rattle.dbtg_cells.specs.declared.key.Value.{Value}
use Rattle.dbtg_cells.specs.declared.usage.Mode.{Mode}
use Rattle.dbtg_cells.specs.Keys.{key_eq}
use Rattle.dbtg_cells.proofs.Public.{key_eq_refl}
use Rattle.dbtg_unit.specs.declared.statement.Change.{Change}
use Rattle.dbtg_unit.specs.declared.statement.Erase.{Erase}
use Rattle.dbtg_unit.specs.declared.statement.Statement.{Statement}
use Rattle.dbtg_unit.specs.declared.statement.Statement.TheVariants.{OpenArea, CloseArea, Find, Get, Store, Insert, Remove, Modify, Delete, Keep, Free}
use Rattle.dbtg_unit.specs.declared.statement.Suppress.{Suppress}
use Rattle.dbtg_unit.specs.declared.unit.Place.{Place}
use Rattle.dbtg_unit.specs.declared.unit.Unit.{Unit}
use Rattle.dbtg_unit.specs.declared.unit.Cause.{Cause}
use Rattle.dbtg_unit.specs.declared.unit.Cause.TheVariants.{AlreadyMember, AreaAlreadyOpen, Deleted, DuplicatesNotAllowed, Mandatory, MandatoryAutomatic as MandatoryAutomaticSet, NoCurrentOfRunUnit, NoRoom, NoSuchCurrent, OtherRecordType, OwnerHasMembers, UsageConflict}
use Rattle.dbtg_unit.specs.Database.State.Base.{Database, is_live, is_member, members_of, items_of, key_at, key_item, owner_of, sort_key}
use Rattle.dbtg_unit.specs.Database.State.Units.{forgotten, noted, place_in, seen}
use Rattle.dbtg_unit.specs.Database.Statements.Found.{found}
use Rattle.dbtg_unit.specs.Database.Statements.Doomed.{doomed}
use Rattle.dbtg_unit.specs.Database.Statements.Fits.{fits, is_type, values_fit, value_fits, suppress_fits, distinct_items}
use Rattle.dbtg_unit.specs.Database.Statements.Checks.{accepts_type, current_type, is_inserting_mandatory_automatic, is_opening_again, is_removing_mandatory, lacks_current, needs_current, refused_at_once}
use Rattle.dbtg_unit.specs.Database.Statements.StoredFacts.{whole}
use Rattle.dbtg_unit.specs.Database.Statements.Effect.{calc_taken, changed_items, conflict, connected_in, delete_checks, deleted, done, effect, effect_on_cells, free_number, insert_checks, inserted, modified, modify_checks, moved, new_key, own_checks, place_checks, remove_checks, removed, renoted, store_checks, stored, version_of, with_new, has_members, is_plain, names_calc}
use Rattle.dbtg_unit.specs.Database.State.Legal.{Legal, mode_in}
use Rattle.dbtg_unit.specs.Database.State.LegalWith.{IsUnitIn}
use Rattle.dbtg_unit.proofs.Database.Legal.PassedChecks.{any_number, has_number, number_passes, number_within, first_check_passes, passes_check, passes_append, passes_each, passes_map}
use Rattle.dbtg_unit.proofs.Database.Legal.Outcomes.{of_current, of_done, of_finding, of_unless}
use Rattle.dbtg_unit.proofs.Database.Legal.LegalConnect.{can_join}
use Rattle.dbtg_unit.proofs.Database.Legal.LegalParts.{is_fixed}
use Rattle.dbtg_unit.proofs.Database.Legal.LegalMoves.{insert_legal, remove_legal}
use Rattle.dbtg_unit.proofs.Database.Legal.LegalStore.{IsFresh, live_new, store_legal}
use Rattle.dbtg_unit.proofs.Database.Legal.LegalModify.{CanChange, modify_legal}
use Rattle.dbtg_unit.proofs.Database.Legal.LegalDelete.{delete_legal}
use Rattle.dbtg_unit.proofs.Database.Legal.LegalOpen.{open_legal, open_agrees, open_others, open_users, close_legal, close_agrees, close_others, close_users}
use Rattle.dbtg_unit.proofs.Database.Records.FoundIsLive.{found_live}
use Rattle.dbtg_unit.proofs.Database.Records.UnitsOfSchema.{IsGood, good_moved, good_seen, kept_filtered, kept_noted, kept_renoted, kept_of, list_owner_is_good, live_key_is_good, with_kept, with_modes, with_no_run_unit}

-- what a step of a unit leaves: a legal database, the unit a unit of it, the entries of the others as they were
pub record IsStep (schema : Lists) (capacity : ℕ) (before : Database) (number : ℕ) (db : Database) (unit : Unit) : Type 0 where
  pub legal : Legal schema capacity db
  pub unit_in : IsUnitIn schema capacity db number unit
  pub others : (m : ℕ) → (m ≡ number → ⊥) → (a : ℕ) → mode_in (db.usage a) m ≡ mode_in (before.usage a) m
  pub users : (test : ℕ → Bool) → test number ≡ true → (a : ℕ) → list_all (λ e. test e.0) (before.usage a) ≡ true → list_all (λ e. test e.0) (db.usage a) ≡ true

-- CHECKS PASSED

-- the checks without cells that the laws need
pub record Passed (schema : Lists) (unit : Unit) (statement : Statement) : Type 0 where
  pub type_is : some_and (λ t. not (accepts_type schema statement t)) (current_type unit) ≡ false
  pub leaves : is_removing_mandatory schema unit statement ≡ false
  pub opens : is_opening_again unit statement ≡ false
  pub placed : lacks_current schema unit statement ≡ false

pub passes_without_cells : (schema : Lists) (capacity : ℕ) (unit : Unit) (statement : Statement) → refused_at_once schema capacity unit statement ≡ None → Passed schema unit statement
passes_without_cells schema capacity unit statement h =
    let current = passes_check (needs_current statement && is_none unit.currency.run_unit) NoCurrentOfRunUnit _ h in
    let type_is = passes_check (some_and (λ t. not (accepts_type schema statement t)) (current_type unit)) OtherRecordType _ current.1 in
    let automatic = passes_check (is_inserting_mandatory_automatic schema unit statement) MandatoryAutomaticSet _ type_is.1 in
    let leaves = passes_check (is_removing_mandatory schema unit statement) Mandatory _ automatic.1 in
    let opens = passes_check (is_opening_again unit statement) AreaAlreadyOpen _ leaves.1 in
    let placed = passes_check (lacks_current schema unit statement) NoSuchCurrent _ opens.1 in
    record { type_is = type_is.0; leaves = leaves.0; opens = opens.0; placed = placed.0 }

pub some_from_not_none : {X : Type 0} (o : Option X) → is_none o ≡ false → (x : X) × (o ≡ Some x)
some_from_not_none None h = absurd (true≢false h)
some_from_not_none (Some x) h = (x, refl)

-- if no number of a list passes, one in it does not
pub no_number_passes : (p : ℕ → Bool) (s : ℕ) (xs : List ℕ) → has_number s xs ≡ true → list_any p xs ≡ false → p s ≡ false
no_number_passes p s xs h none = false_from_ne_true _ (λ e. false≢true (sym none ∙ any_number p s xs h e))

pub first_has : (xs : List ℕ) (n : ℕ) → first xs ≡ Some n → has_number n xs ≡ true
first_has [] n h = absurd (none_some h) where
  none_some : None ≡ Some n → ⊥
  none_some h = cc
first_has (x ∷ xs) n h = let same : x ≡ n = cc in or_left _ _ (eq-eqb x n same)

-- the current owner of a set, as INSERT names it
owner_is : (place : Option Place) → unwrap_or (option_map (λ place. place.owner) place) System ≡ (unwrap_or place (record { owner = System; at = None })).owner
owner_is None = refl
owner_is (Some place) = refl

module _ (schema : Lists) (capacity : ℕ) (db : Database) (unit : Unit) (number : ℕ) (schema_is : IsSound schema) (legal : Legal schema capacity db) (unit_in : IsUnitIn schema capacity db number unit) where
  good : IsGood schema capacity unit
  good = record { of_schema = unit_in.of_schema; within = unit_in.within }

  abbrev Step : Database → Unit → Type 0
  Step new after = IsStep schema capacity db number new after

  abbrev Left : StatementEffect → Type 0
  Left outcome = Step outcome.database outcome.unit

  -- a step that leaves usage lists and modes
  quiet : (new : Database) (after : Unit) → Legal schema capacity new → new.usage ≡ db.usage → after.number ≡ unit.number → after.modes ≡ unit.modes → IsGood schema capacity after → Step new after
  quiet new after lawful usage_is number_is modes_are fine =
      record {
        legal = lawful;
        unit_in = record {
          number_is = number_is ∙ unit_in.number_is;
          of_schema = fine.of_schema;
          within = fine.within;
          usage = λ a. (λ i. mode_in (usage_is i a) (number_is i)) ∙ unit_in.usage a ∙ ap (λ modes. at modes a) (sym modes_are);
        };
        others = λ m other a. λ i. mode_in (usage_is i a) m;
        users = λ test own a h. (λ i. list_all (λ e. test e.0) (usage_is i a)) ∙ h;
      }

  now : Step db unit
  now = quiet db unit legal refl refl refl good

  -- OPEN and CLOSE

  no_mode : (a : ℕ) → is_some (at unit.modes a) ≡ false → mode_in (db.usage a) unit.number ≡ None
  no_mode a h = unit_in.usage a ∙ none_is (at unit.modes a) h

  has_area : (a : ℕ) → a < length schema.areas → a < length unit.modes
  has_area a low = let every = unit_in.of_schema.every_mode in omega arith

  open_step : (a : ℕ) (mode : Mode) → a < length schema.areas → is_some (at unit.modes a) ≡ false → list_any (λ e. conflict e.1 mode) (db.usage a) ≡ false
      → Step (record db { usage = λ b. cond (eqb b a) (db.usage b ++ (unit.number, mode) ∷ []) (db.usage b) }) (record unit { modes = slice_set unit.modes a (Some mode) })
  open_step a mode low closed free =
      let fine = with_modes schema capacity unit good (slice_set unit.modes a (Some mode)) (length-set unit.modes a (Some mode) ∙ unit_in.of_schema.every_mode) in
      record {
        legal = open_legal schema capacity db unit a legal mode low (no_mode a closed) free;
        unit_in = record { number_is = unit_in.number_is; of_schema = fine.of_schema; within = fine.within; usage = open_agrees schema capacity db unit a legal mode (has_area a low) (no_mode a closed) unit_in.usage };
        others = λ m other. open_others schema capacity db unit a legal mode m (λ e. other (e ∙ unit_in.number_is));
        users = λ test own. open_users schema capacity db unit a legal mode test (ap test unit_in.number_is ∙ own);
      }

  close_step : (a : ℕ) → a < length schema.areas → Step (record db { usage = λ b. cond (eqb b a) (filter (λ e. not (eqb e.0 unit.number)) (db.usage b)) (db.usage b) }) (record unit { modes = slice_set unit.modes a None })
  close_step a low =
      let fine = with_modes schema capacity unit good (slice_set unit.modes a None) (length-set unit.modes a None ∙ unit_in.of_schema.every_mode) in
      record {
        legal = close_legal schema capacity db unit a legal;
        unit_in = record { number_is = unit_in.number_is; of_schema = fine.of_schema; within = fine.within; usage = close_agrees schema capacity db unit a legal (has_area a low) unit_in.usage };
        others = λ m other. close_others schema capacity db unit a legal m (λ e. other (e ∙ unit_in.number_is));
        users = λ test own. close_users schema capacity db unit a legal test;
      }

  -- STORE

  fresh : (t : ℕ) (its : List Value) → is_type schema t ≡ true → values_fit (pictures schema t) its ≡ true → is_none (free_number capacity db t) ≡ false → IsFresh schema capacity db t (unwrap_or (free_number capacity db t) 0) its
  fresh t its there fit room =
      let n = some_from_not_none (free_number capacity db t) room in
      subst (λ (o : Option ℕ). IsFresh schema capacity db t (unwrap_or o 0) its) (sym n.1) (at_number n.0 n.1) where
        free : ℕ → Bool
        free n = not (is_live db (key_at db t n)) && ltb (db.last t n) 255

        at_number : (n : ℕ) → free_number capacity db t ≡ Some n → IsFresh schema capacity db t n its
        at_number n is =
            let p = number_passes free n (range_with_len 1 capacity) (first_has (filter free (range_with_len 1 capacity)) n is) in
            let w = number_within n 1 capacity p.0 in
            let low = w.0 in
            let high = w.1 in
            let q = and_parts (not (is_live db (key_at db t n))) (ltb (db.last t n) 255) p.1 in
            record { in_schema = ltb-true t (length schema.types) there; low = omega arith; high = omega arith; unused = not-true _ q.0; unspent = ltb-true (db.last t n) 255 q.1; fit = fit }

  store_step : (t : ℕ) (its : List Value) (suppress : Suppress) → is_type schema t ≡ true → values_fit (pictures schema t) its ≡ true → lacks_current schema unit (Store t its suppress) ≡ false
      → first_cause (store_checks schema (whole schema capacity db) unit t its) ≡ None
      → Step (stored schema capacity db unit (new_key db t (unwrap_or (free_number capacity db t) 0)) its suppress).database (stored schema capacity db unit (new_key db t (unwrap_or (free_number capacity db t) 0)) its suppress).unit
  store_step t its suppress there fit placed checks =
      let room = passes_check (is_none (free_number capacity db t)) NoRoom _ checks in
      let unique = passes_check (calc_taken schema (whole schema capacity db) t its None) DuplicatesNotAllowed _ room.1 in
      let n = unwrap_or (free_number capacity db t) 0 in
      let k = new_key db t n in
      let is_fresh = fresh t its there fit room.0 in
      let lawful = store_legal schema capacity db t n its legal is_fresh unit schema_is unique.0
      (λ s h. no_number_passes (λ s. is_none (place_in schema unit s)) s (automatic_sets schema t) h placed)
      (λ s h. can_join schema db unit s (key_item schema s t its) capacity (passes_each (λ s. place_checks schema (whole schema capacity db) unit s (key_item schema s t its)) (automatic_sets schema t) s h unique.1)) in
      let new = connected_in schema (with_new schema db k its) unit (automatic_sets schema t) k in
      quiet new (seen schema capacity new unit k suppress) lawful refl refl refl (good_seen schema capacity unit good new k suppress lawful (live_new schema capacity db t n its legal is_fresh k (key_eq_refl k)))

  -- STATEMENTS ABOUT THE CURRENT OF RUN-UNIT

  -- the unit after versions were raised
  good_renoted : (test : DbKey → Bool) (new : Database) (after : Unit) → IsGood schema capacity after → IsGood schema capacity (renoted test new after)
  good_renoted test new after fine =
      with_kept schema capacity after fine (map (λ e. cond (test e.0) (e.0, version_of new e.0) e) after.kept) (kept_renoted schema capacity after.kept (kept_of schema capacity after fine) test (version_of new))

  live_of : (k : DbKey) (checks : List (Bool × Cause)) → first_cause (own_checks (whole schema capacity db) unit k ++ checks) ≡ None → (is_live db k ≡ true) × (first_cause checks ≡ None)
  live_of k checks h =
      let parts = passes_append (own_checks (whole schema capacity db) unit k) checks h in
      (not-false _ (passes_check (not (is_live db k)) Deleted _ parts.0).0, parts.1)

  -- the current is of a type that the statement takes
  accepted : (statement : Statement) (k : DbKey) → unit.currency.run_unit ≡ Some k → some_and (λ t. not (accepts_type schema statement t)) (current_type unit) ≡ false → accepts_type schema statement k.rtype ≡ true
  accepted statement k is h = not-false _ (ap (λ (o : Option DbKey). some_and (λ t. not (accepts_type schema statement t)) (option_map (λ (j : DbKey). j.rtype) o)) (sym is) ∙ h)

  insert_step : (s : ℕ) (k : DbKey) → is_some (member_clause schema s k.rtype) ≡ true → first_cause (insert_checks schema (whole schema capacity db) unit s k) ≡ None → Step (inserted schema db unit s k).database (inserted schema db unit s k).unit
  insert_step s k clause checks =
      let own = live_of k ((is_some (owner_of schema capacity db s k), AlreadyMember) ∷ place_checks schema (whole schema capacity db) unit s (sort_key schema db s k)) checks in
      let free = first_check_passes (is_some (owner_of schema capacity db s k), AlreadyMember) (place_checks schema (whole schema capacity db) unit s (sort_key schema db s k)) own.1 in
      let present = passes_check (is_none (db.lists s (unwrap_or (place_in schema unit s) (record { owner = System; at = None })).owner)) Deleted _ free.1 in
      let there = some_from_not_none (db.lists s (unwrap_or (place_in schema unit s) (record { owner = System; at = None })).owner) present.0 in
      let owner = unwrap_or (option_map (λ place. place.owner) (place_in schema unit s)) System in
      let owner_fits = list_owner_is_good schema capacity db legal s owner (subst (λ (o : Owner). is_some (db.lists s o) ≡ true) (sym (owner_is (place_in schema unit s))) (ap is_some there.1)) in
      let lawful = insert_legal schema capacity db unit s k legal schema_is own.0 clause free.0 (can_join schema db unit s (sort_key schema db s k) capacity free.1) in
      quiet (inserted schema db unit s k).database (inserted schema db unit s k).unit lawful refl refl refl
      (good_renoted (key_eq k) (inserted schema db unit s k).database (moved unit s (record { owner = owner; at = Some k })) (good_moved schema capacity unit good s owner k owner_fits (live_key_is_good schema capacity db legal k own.0)))

  remove_step : (s : ℕ) (k : DbKey) → is_fixed schema s k.rtype ≡ false → Step (removed db unit s k).database (removed db unit s k).unit
  remove_step s k free = quiet (removed db unit s k).database (removed db unit s k).unit (remove_legal schema capacity db unit s k legal free) refl refl refl (good_renoted (key_eq k) (removed db unit s k).database unit good)

  modify_step : (changes : List Change) (k : DbKey) → list_all (λ c. some_and (λ p. value_fits p c.value) (picture_of schema k.rtype c.item)) changes ≡ true → first_cause (modify_checks schema (whole schema capacity db) unit changes k) ≡ None
      → Step (modified schema capacity db unit changes k).database (modified schema capacity db unit changes k).unit
  modify_step changes k fit checks =
      let items = changed_items changes (items_of db k) in
      let named = rekeyed_sets schema k.rtype (map (λ c. c.item) changes) in
      let refusing : ℕ → Bool × Cause = λ s. (refuses_equal (order_of schema s) && sort_key_taken schema (whole schema capacity db) k items s, DuplicatesNotAllowed) in
      let calc : Bool × Cause = (names_calc schema k.rtype changes && calc_taken schema (whole schema capacity db) k.rtype items (Some k), DuplicatesNotAllowed) in
      let own = live_of k (calc ∷ map refusing named) checks in
      let unique = first_check_passes calc (map refusing named) own.1 in
      let can : CanChange schema capacity db changes k = record { fit = fit; calc_free = unique.0; key_free = λ s h. passes_map refusing named s h unique.1 } in
      quiet (modified schema capacity db unit changes k).database (modified schema capacity db unit changes k).unit (modify_legal schema capacity db unit changes k legal own.0 schema_is can) refl refl refl
      (good_renoted (key_eq k) (modified schema capacity db unit changes k).database unit good)

  delete_step : (option : Erase) (k : DbKey) → first_cause (delete_checks schema (whole schema capacity db) unit option k) ≡ None → Step (deleted schema capacity db unit option k).database (deleted schema capacity db unit option k).unit
  delete_step option k checks =
      let empty = first_check_passes (is_plain option && has_members schema (whole schema capacity db) k, OwnerHasMembers) [] (live_of k ((is_plain option && has_members schema (whole schema capacity db) k, OwnerHasMembers) ∷ []) checks).1 in
      let new = (deleted schema capacity db unit option k).database in
      let taken_out : DbKey → Bool = λ x. not (is_member x (doomed schema capacity db option k)) && list_any (λ s. list_any (λ o. is_member x (members_of db s (Rec o))) (doomed schema capacity db option k)) (set_numbers schema) in
      let after = good_renoted taken_out new unit good in
      let nobody = with_no_run_unit schema capacity (renoted taken_out new unit) after in
      quiet new (deleted schema capacity db unit option k).unit (delete_legal schema capacity db option k legal unit empty.0) refl refl refl
      (with_kept schema capacity (record (renoted taken_out new unit) { currency = record unit.currency { run_unit = None } }) nobody (forgotten k (renoted taken_out new unit).kept)
      (kept_filtered schema capacity (renoted taken_out new unit).kept (kept_of schema capacity (renoted taken_out new unit) after) (λ e. not (key_eq k e.0))))

  -- THE WHOLE

  on_cells : (statement : Statement) → fits schema statement ≡ true → Passed schema unit statement → Step (effect_on_cells schema capacity db unit statement).database (effect_on_cells schema capacity db unit statement).unit
  on_cells (OpenArea a mode) fit p =
      of_unless db unit Left (λ cause. now) (first_cause (open_checks (whole schema capacity db) a mode))
      (done (record db { usage = λ b. cond (eqb b a) (db.usage b ++ (unit.number, mode) ∷ []) (db.usage b) }) (record unit { modes = slice_set unit.modes a (Some mode) }) None None)
      (λ h. open_step a mode (ltb-true a (length schema.areas) fit) p.opens (first_check_passes (list_any (λ e. conflict e.1 mode) (db.usage a), UsageConflict) [] h).0)
  on_cells (CloseArea a) fit p = close_step a (ltb-true a (length schema.areas) fit)
  on_cells (Find suppress form) fit p =
      of_finding db unit Left (λ cause. now) (found schema capacity db unit form) (λ k. seen schema capacity db unit k suppress)
      (λ k e. quiet db (seen schema capacity db unit k suppress) legal refl refl refl (good_seen schema capacity unit good db k suppress legal (found_live schema capacity db unit legal form k e)))
  on_cells (Get r) fit p = of_current db unit Left (λ cause. now) unit.currency.run_unit (live_checks (whole schema capacity db)) (λ k. done db unit (Some k) (Some (items_of db k))) (λ k e h. now)
  on_cells (Store t its suppress) fit p =
      let f = and_parts (is_type schema t && values_fit (pictures schema t) its) (suppress_fits schema suppress) fit in
      let g = and_parts (is_type schema t) (values_fit (pictures schema t) its) f.0 in
      of_unless db unit Left (λ cause. now) (first_cause (store_checks schema (whole schema capacity db) unit t its)) (stored schema capacity db unit (new_key db t (unwrap_or (free_number capacity db t) 0)) its suppress) (store_step t its suppress g.0 g.1 p.placed)
  on_cells (Insert s) fit p = of_current db unit Left (λ cause. now) unit.currency.run_unit (insert_checks schema (whole schema capacity db) unit s) (inserted schema db unit s) (λ k e h. insert_step s k (accepted (Insert s) k e p.type_is) h)
  on_cells (Remove s) fit p = of_current db unit Left (λ cause. now) unit.currency.run_unit (remove_checks (whole schema capacity db) unit s) (removed db unit s) (λ k e h. remove_step s k (free s k e p.leaves)) where
    by_clause : (m : Option Member) → some_and is_mandatory (option_map (λ m. m.class) m) ≡ false → some_and (λ c. is_mandatory c.class && is_automatic c.class) m ≡ false
    by_clause None h = refl
    by_clause (Some m) h = and_left _ _ h

    free : (s : ℕ) (k : DbKey) → unit.currency.run_unit ≡ Some k → is_removing_mandatory schema unit (Remove s) ≡ false → is_fixed schema s k.rtype ≡ false
    free s k e h = by_clause (member_clause schema s k.rtype) (ap (λ (o : Option DbKey). some_and is_mandatory (option_and_then (λ t. option_map (λ m. m.class) (member_clause schema s t)) (option_map (λ (j : DbKey). j.rtype) o))) (sym e) ∙ h)
  on_cells (Modify t changes) fit p = of_current db unit Left (λ cause. now) unit.currency.run_unit (modify_checks schema (whole schema capacity db) unit changes) (modified schema capacity db unit changes) (λ k e h.
      let of_type = eqb-true k.rtype t (accepted (Modify t changes) k e p.type_is) in
      let f = and_parts (is_type schema t && distinct_items changes) (list_all (λ c. some_and (λ p. value_fits p c.value) (picture_of schema t c.item)) changes) fit in
      modify_step changes k (subst (λ u. list_all (λ c. some_and (λ p. value_fits p c.value) (picture_of schema u c.item)) changes ≡ true) (sym of_type) f.1) h)
  on_cells (Delete option) fit p = of_current db unit Left (λ cause. now) unit.currency.run_unit (delete_checks schema (whole schema capacity db) unit option) (deleted schema capacity db unit option) (λ k e h. delete_step option k h)
  on_cells Keep fit p = of_current db unit Left (λ cause. now) unit.currency.run_unit (live_checks (whole schema capacity db)) (λ k. done db (record unit { kept = noted k (version_of db k) unit.kept }) None None) (λ k e h.
      let key = live_key_is_good schema capacity db legal k (not-false _ (first_check_passes (not (is_live db k), Deleted) [] h).0) in
      quiet db (record unit { kept = noted k (version_of db k) unit.kept }) legal refl refl refl
      (with_kept schema capacity unit good (noted k (version_of db k) unit.kept) (kept_noted schema capacity unit.kept (kept_of schema capacity unit good) k (version_of db k) key.key key.number)))
  on_cells (Free true) fit p = quiet db (record unit { kept = [] }) legal refl refl refl (with_kept schema capacity unit good [] (record { keys = refl; order = refl; numbers = refl }))
  on_cells (Free false) fit p = of_done db unit Left (λ cause. now) unit.currency.run_unit (λ k. done db (record unit { kept = forgotten k unit.kept }) None None) (λ k e.
      quiet db (record unit { kept = forgotten k unit.kept }) legal refl refl refl
      (with_kept schema capacity unit good (forgotten k unit.kept) (kept_filtered schema capacity unit.kept (kept_of schema capacity unit good) (λ e. not (key_eq k e.0)))))

  pub effect_step : (statement : Statement) → fits schema statement ≡ true → Step (effect schema capacity db unit statement).database (effect schema capacity db unit statement).unit
  unfolding effect
  effect_step statement fit = of_unless db unit Left (λ cause. now) (refused_at_once schema capacity unit statement) (effect_on_cells schema capacity db unit statement) (λ h. on_cells statement fit (passes_without_cells schema capacity unit statement h))
