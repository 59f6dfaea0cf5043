-- What a unit keeps after a statement it kept before, or it is of a live record, at the version that the record has then.
-- k is the current of run-unit, e is a record that the unit keeps, with the version that is kept of it.
use Rattle.std.proofs.Common.{◌≡◌, refl, sym, ◌∙◌, ap, subst, ℕ, Bool, true, false, not, ◌&&◌, List, [], ◌∷◌, Option, Some, None, inl, inr, ◌⊎◌, ⊎_elim, map}
use Rattle.std.specs.Prelude.{Result, Ok, Err, filter, if◌then◌else◌, is_some, option_map}
use Rattle.std.specs.List.{list_any}
use Rattle.std.proofs.lemmas.Bool.{and_parts, true≢false}
use Rattle.dbtg_schema.specs.Lists.{Lists}
use Rattle.dbtg_schema.specs.Lookups.{first_cause}
use Rattle.dbtg_schema.specs.Structure.{set_numbers}
use Rattle.dbtg_cells.specs.declared.key.DbKey.{DbKey}
use Rattle.dbtg_cells.specs.declared.key.Owner.TheVariants.{Rec}
use Rattle.dbtg_cells.specs.Keys.{key_below, key_eq}
use Rattle.dbtg_cells.proofs.Public.{same_key}
use Rattle.dbtg_unit.specs.declared.statement.Statement.{Statement}
use Rattle.dbtg_unit.specs.declared.statement.Statement.TheVariants.{OpenArea, CloseArea, Find, Get, Store, Insert, Remove, Modify, Delete, Keep, Free}
use Rattle.dbtg_unit.specs.declared.statement.Suppress.{Suppress}
use Rattle.dbtg_unit.specs.declared.unit.Cause.{Cause}
use Rattle.dbtg_unit.specs.declared.unit.Cause.TheVariants.{Deleted}
use Rattle.dbtg_unit.specs.declared.unit.Unit.{Unit}
use Rattle.dbtg_unit.specs.Database.State.Base.{Database, Record, is_live, is_member, items_of, members_of, version_of}
use Rattle.dbtg_unit.specs.Database.State.Legal.{Legal}
use Rattle.dbtg_unit.specs.Database.State.Units.{forgotten, noted, seen}
use Rattle.dbtg_unit.specs.Database.Statements.Checks.{about, checks_on_cells, insert_checks, live_checks, modify_checks, refused_at_once, remove_checks}
use Rattle.dbtg_unit.specs.Database.Statements.Doomed.{doomed}
use Rattle.dbtg_unit.specs.Database.Statements.Conditions.{changed_items}
use Rattle.dbtg_unit.specs.Database.Statements.Effect.{StatementEffect, deleted, done, done_on_cells, done_on_current, effect, effect_on_cells, finding, inserted, modified, removed, unless_refused, with_items, with_its_items}
use Rattle.dbtg_unit.specs.Database.Statements.Found.{found}
use Rattle.dbtg_unit.specs.Database.Statements.StoredFacts.{whole}
use Rattle.dbtg_unit.proofs.Public.{In, any_element, of_append, of_filter, of_map}
use Rattle.dbtg_explore.specs.Versions.{is_own}
use Rattle.dbtg_explore.proofs.Versions.Stored.{has_version, own_version, raised_if, version_in}

module _ (schema : Lists) (capacity : ℕ) (db : Database) (unit : Unit) where
  -- kept before, or its record's own now
  abbrev pub OldOrOwn : StatementEffect → DbKey × ℕ → Type 0
  OldOrOwn o e = In e unit.kept ⊎ (is_own o.database e ≡ true)

  abbrev Each : StatementEffect → Type 0
  Each o = (e : DbKey × ℕ) → In e o.unit.kept → OldOrOwn o e

  unless : (check : Option Cause) (o : StatementEffect) → (check ≡ None → Each o) → Each (unless_refused db unit check o)
  unless None o h = h refl
  unless (Some cause) o h = λ e i. inl i

  on_current : (current : Option DbKey) (o : DbKey → StatementEffect) → ((k : DbKey) → current ≡ Some k → Each (o k)) → Each (done_on_current db unit current o)
  on_current None o h = λ e i. inl i
  on_current (Some k) o h = h k refl

  on_found : (r : Result DbKey Cause) (suppress : Suppress) → Each (finding db unit r (λ k. seen schema capacity db unit k suppress))
  on_found (Ok k) suppress = λ e i. inl i
  on_found (Err cause) suppress = λ e i. inl i

  -- RAISED VERSIONS

  -- what is stored, at the next version for the keys that pass the test
  abbrev bumped : (DbKey → Bool) → (DbKey → Option Record) → DbKey → Option Record
  bumped test records x = raised_if (test x) (records x)

  renoted_entry : (records : DbKey → Option Record) (test : DbKey → Bool) → ((k : DbKey) → test k ≡ true → is_some (records k) ≡ true) → (kept : List (DbKey × ℕ)) (e : DbKey × ℕ) → In e (map (λ x. if test x.0 then (x.0, version_in (records x.0)) else x) kept)
      → In e kept ⊎ (has_version e.1 (records e.0) ≡ true)
  renoted_entry records test live kept e i =
      let from = of_map (λ (x : DbKey × ℕ). if test x.0 then (x.0, version_in (records x.0)) else x) e kept i in
      subst (λ (x : DbKey × ℕ). In x kept ⊎ (has_version x.1 (records x.0) ≡ true)) from.2 (by from.0 from.1 (test from.0.0) refl) where
        by : (x : DbKey × ℕ) → In x kept → (b : Bool) → test x.0 ≡ b → In (if b then (x.0, version_in (records x.0)) else x) kept ⊎ (has_version (if b then (x.0, version_in (records x.0)) else x).1 (records (if b then (x.0, version_in (records x.0)) else x).0) ≡ true)
        by x j true is = inr (own_version (records x.0) ∙ live x.0 is)
        by x j false is = inl j

  raised_live : (o : Option Record) (b : Bool) → is_some o ≡ true → is_some (raised_if b o) ≡ true
  raised_live (Some r) true h = refl
  raised_live (Some r) false h = refl
  raised_live None b h = absurd (true≢false (sym h))

  items_live : (o : Option Record) (b : Bool) (change : Record → Record) → is_some o ≡ true → is_some (if b then option_map change o else o) ≡ true
  items_live (Some r) true change h = refl
  items_live (Some r) false change h = refl
  items_live None b change h = absurd (true≢false (sym h))

  -- a record that lives still does at its next version
  stays_live : (records : DbKey → Option Record) (k x : DbKey) → is_some (records k) ≡ true → key_eq k x ≡ true → is_some (bumped (key_eq k) records x) ≡ true
  stays_live records k x live is = raised_live (records x) (key_eq k x) (ap (λ y. is_some (records y)) (sym (same_key k x is)) ∙ live)

  -- CHECKS

  abbrev rest_of : List (Bool × Cause) → List (Bool × Cause)
  rest_of [] = []
  rest_of (c ∷ cs) = cs

  passes : (b : Bool) (rest : List (Bool × Cause)) → first_cause ((not b, Deleted) ∷ rest) ≡ None → b ≡ true
  passes true rest h = refl
  passes false rest h = absurd cc

  -- DELETE

  module _ (legal : Legal schema capacity db) (gone : List DbKey) where
    abbrev is_out : DbKey → Bool
    is_out x = not (is_member x gone) && list_any (λ s. list_any (λ o. is_member x (members_of db s (Rec o))) gone) (set_numbers schema)

    stays : (b : Bool) (o : Option Record) → not b ≡ true → is_some o ≡ true → is_some (if b then None else o) ≡ true
    stays true o h live = absurd (true≢false (sym h))
    stays false o h live = live

    abbrev left : DbKey → Option Record
    left x = if is_member x gone then None else db.records x

    out_lives : (k : DbKey) → is_out k ≡ true → is_some (bumped is_out left k) ≡ true
    out_lives k out =
        let both = and_parts (not (is_member k gone)) (list_any (λ s. list_any (λ o. is_member k (members_of db s (Rec o))) gone) (set_numbers schema)) out in
        let at = any_element (λ s. list_any (λ o. is_member k (members_of db s (Rec o))) gone) (set_numbers schema) both.1 in
        let of = any_element (λ (o : DbKey). is_member k (members_of db at.0 (Rec o))) gone at.2 in
        let lives = (legal.members at.0 (Rec of.0) k of.2).0 in
        raised_live (left k) (is_out k) (stays (is_member k gone) (db.records k) both.0 lives)

  -- ALL STATEMENTS

  module _ (legal : Legal schema capacity db) where
    done_keeps : (statement : Statement) → first_cause (checks_on_cells schema (whole schema capacity db) unit statement) ≡ None → Each (done_on_cells schema capacity db unit statement)
    done_keeps (OpenArea a mode) h = λ e i. inl i
    done_keeps (CloseArea a) h = λ e i. inl i
    done_keeps (Find suppress form) h = on_found (found schema capacity db unit form) suppress
    done_keeps (Get r) h = on_current unit.currency.run_unit (λ k. done db unit (Some k) (Some (items_of db k))) (λ k is e i. inl i)
    done_keeps (Store t items suppress) h = λ e i. inl i
    done_keeps (Insert s) h =
        on_current unit.currency.run_unit (inserted schema db unit s) (λ k is.
        let live = passes (is_live db k) (rest_of (insert_checks schema (whole schema capacity db) unit s k)) (subst (λ (c : Option DbKey). first_cause (about c (insert_checks schema (whole schema capacity db) unit s)) ≡ None) is h) in
        renoted_entry (bumped (key_eq k) db.records) (key_eq k) (λ x same. stays_live db.records k x live same) unit.kept)
    done_keeps (Remove s) h =
        on_current unit.currency.run_unit (removed db unit s) (λ k is.
        let live = passes (is_live db k) (rest_of (remove_checks (whole schema capacity db) unit s k)) (subst (λ (c : Option DbKey). first_cause (about c (remove_checks (whole schema capacity db) unit s)) ≡ None) is h) in
        renoted_entry (bumped (key_eq k) db.records) (key_eq k) (λ x same. stays_live db.records k x live same) unit.kept)
    done_keeps (Modify t changes) h =
        on_current unit.currency.run_unit (modified schema capacity db unit changes) (λ k is.
        let live = passes (is_live db k) (rest_of (modify_checks schema (whole schema capacity db) unit changes k)) (subst (λ (c : Option DbKey). first_cause (about c (modify_checks schema (whole schema capacity db) unit changes)) ≡ None) is h) in
        let changed = (with_items db k (changed_items changes (items_of db k))).records in
        renoted_entry (bumped (key_eq k) changed) (key_eq k) (λ x same. stays_live changed k x (items_live (db.records k) (key_eq k k) (with_its_items (changed_items changes (items_of db k))) live) same) unit.kept)
    done_keeps (Delete option) h =
        on_current unit.currency.run_unit (deleted schema capacity db unit option) (λ k is e i.
        let gone = doomed schema capacity db option k in
        let records = bumped (is_out legal gone) (left legal gone) in
        renoted_entry records (is_out legal gone) (out_lives legal gone) unit.kept e
        (of_filter (λ (x : DbKey × ℕ). not (key_eq k x.0)) e (map {B = DbKey × ℕ} (λ x. if is_out legal gone x.0 then (x.0, version_in (records x.0)) else x) unit.kept) i).0)
    done_keeps Keep h =
        on_current unit.currency.run_unit (λ k. done db (record unit { kept = noted k (version_of db k) unit.kept }) None None) (λ k is e i.
        let live = passes (is_live db k) [] (subst (λ (c : Option DbKey). first_cause (about c (live_checks (whole schema capacity db))) ≡ None) is h) in
        ⊎_elim
        (λ low. inl (of_filter (λ (x : DbKey × ℕ). key_below x.0 k) e unit.kept low).0)
        (λ j. ⊎_elim
        (λ here. inr (subst (λ (x : DbKey × ℕ). is_own db x ≡ true) here (own_version (db.records k) ∙ live)))
        (λ high. inl (of_filter (λ (x : DbKey × ℕ). key_below k x.0) e unit.kept high).0) j)
        (of_append e (filter (λ (x : DbKey × ℕ). key_below x.0 k) unit.kept) ((k, version_of db k) ∷ filter (λ (x : DbKey × ℕ). key_below k x.0) unit.kept) i))
    done_keeps (Free true) h = λ e i. absurd i
    done_keeps (Free false) h = on_current unit.currency.run_unit (λ k. done db (record unit { kept = forgotten k unit.kept }) None None) (λ k is e i. inl (of_filter (λ (y : DbKey × ℕ). not (key_eq k y.0)) e unit.kept i).0)

    pub old_or_own : (statement : Statement) (e : DbKey × ℕ) → In e (effect schema capacity db unit statement).unit.kept → OldOrOwn (effect schema capacity db unit statement) e
    unfolding effect
    old_or_own statement =
        unless (refused_at_once schema capacity unit statement) (effect_on_cells schema capacity db unit statement)
        (λ at_once. unless (first_cause (checks_on_cells schema (whole schema capacity db) unit statement)) (done_on_cells schema capacity db unit statement) (done_keeps statement))
