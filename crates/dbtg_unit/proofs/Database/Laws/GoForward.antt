-- Versions, generations and deleted keys only go forward.
use Rattle.dbtg_unit.specs.Database.Statements.StoredFacts.{whole}
use Rattle.dbtg_unit.specs.Database.Statements.Checks.{open_checks}
use Rattle.std.proofs.Common.{◌≡◌, refl, ◌∙◌, ap, ℕ, ◌+◌, ◌≤◌, Bool, true, false, cond, not, ◌&&◌, List, [], ◌∷◌, ◌++◌, Option, Some, None, arith, eqb}
use Rattle.std.specs.Prelude.{◌==◌, is_some, option_map, unwrap_or, slice_set, if◌then◌else◌}
use Rattle.std.proofs.lemmas.Bool.{and_parts, and_from, not-true, not_from_false, leb-true, le-leb, eqb-true, cond_both}
use Rattle.dbtg_schema.specs.Lists.{Lists}
use Rattle.dbtg_schema.specs.Lookups.{first_cause}
use Rattle.dbtg_cells.specs.declared.key.DbKey.{DbKey}
use Rattle.dbtg_cells.specs.declared.key.Value.{Value}
use Rattle.dbtg_cells.specs.Keys.{key_eq}
use Rattle.dbtg_cells.proofs.Public.{same_key}
use Rattle.dbtg_unit.specs.declared.statement.Statement.{Statement}
use Rattle.dbtg_unit.specs.declared.statement.Statement.TheVariants.{OpenArea, CloseArea, Find, Get, Store, Insert, Remove, Modify, Delete, Keep, Free}
use Rattle.dbtg_unit.specs.declared.unit.Unit.{Unit}
use Rattle.dbtg_unit.specs.Database.State.Base.{Database, Record, is_live, items_of, is_member}
use Rattle.dbtg_unit.specs.Database.Statements.Doomed.{doomed}
use Rattle.dbtg_unit.specs.Database.Statements.Found.{found}
use Rattle.dbtg_unit.specs.Database.Statements.Effect.{StatementEffect, effect, effect_on_cells, done, raised, next_version, version_of, with_new, with_items, with_its_items, connected_in, stored, store_checks, new_key, free_number, changed_items}
use Rattle.dbtg_unit.specs.Database.Laws.Forward.{is_deleted, GoesForward}
use Rattle.dbtg_unit.proofs.Database.Legal.Outcomes.{of_unless, of_current, of_done, of_finding, of_effect}

-- the version in what is stored under a key
abbrev version_in : Option Record → ℕ
version_in o = unwrap_or (option_map (λ (r : Record). r.version) o) 0

next_version_in : (o : Option Record) → version_in (option_map next_version o) ≤ version_in o + 1
next_version_in None = omega arith
next_version_in (Some r) = omega arith

next_is_some : (o : Option Record) → is_some (option_map next_version o) ≡ is_some o
next_is_some None = refl
next_is_some (Some r) = refl

-- no new key is live, and no version is higher
record NoneIsNew (db d : Database) : Type 0 where
  versions : (k : DbKey) → version_of d k ≤ version_of db k
  live : (k : DbKey) → is_live db k ≡ false → is_live d k ≡ false
  last : (t n : ℕ) → d.last t n ≡ db.last t n

deleted_stays : (db new : Database) → ((k : DbKey) → is_live db k ≡ false → is_live new k ≡ false) → ((t n : ℕ) → db.last t n ≤ new.last t n) → (k : DbKey) → is_deleted db k ≡ true → is_deleted new k ≡ true
deleted_stays db new live last k h =
    let hs = and_parts _ _ h in
    let below = leb-true k.generation (db.last k.rtype k.number) hs.1 in
    let rises = last k.rtype k.number in
    and_from _ _ (not_from_false _ (live k (not-true _ hs.0))) (le-leb k.generation (new.last k.rtype k.number) (omega arith))

forward_from : (db d : Database) → NoneIsNew db d → GoesForward db d
forward_from db d h =
    let below : (t n : ℕ) → db.last t n ≤ d.last t n = λ t n. let e = h.last t n in omega arith in
    record { versions = λ k. let v = h.versions k in omega arith; generations = below; deleted = deleted_stays db d h.live below }

pub same_forward : (db : Database) → GoesForward db db
same_forward db = forward_from db db (record { versions = λ k. omega arith; live = λ k h. h; last = λ t n. refl })

-- with the next version for some
raised_forward : (db d : Database) (test : DbKey → Bool) → NoneIsNew db d → GoesForward db (raised test d)
raised_forward db d test h =
    let below : (t n : ℕ) → db.last t n ≤ d.last t n = λ t n. let e = h.last t n in omega arith in
    record {
      versions = λ k. let v = h.versions k in
          cond_both (test k) (option_map next_version (d.records k)) (d.records k) (λ o. version_in o ≤ version_in (db.records k) + 1)
          (λ e. let w = next_version_in (d.records k) in omega arith) (λ e. omega arith);
      generations = below;
      deleted = deleted_stays db (raised test d) (λ k e. cond_both (test k) (option_map next_version (d.records k)) (d.records k) (λ o. is_some o ≡ false) (λ t. next_is_some (d.records k) ∙ h.live k e) (λ t. h.live k e)) below;
    }

stored_forward : (schema : Lists) (db : Database) (t n : ℕ) (items : List Value) → GoesForward db (with_new schema db (new_key db t n) items)
stored_forward schema db t n items =
    let k = new_key db t n in
    let rises : (u m : ℕ) → db.last u m ≤ cond (eqb u t && eqb m n) (db.last t n + 1) (db.last u m)
    = λ u m. cond_both (eqb u t && eqb m n) (db.last t n + 1) (db.last u m) (λ g. db.last u m ≤ g) (λ e. let es = and_parts _ _ e in risen u m (eqb-true u t es.0) (eqb-true m n es.1)) (λ e. omega arith) in
    record {
      versions = λ x. cond_both (key_eq k x) (Some (record { items = items; version = 1 })) (db.records x) (λ o. version_in o ≤ version_of db x + 1) (λ e. omega arith) (λ e. omega arith);
      generations = rises;
      deleted = λ x h.
          let hs = and_parts _ _ h in
          let below = leb-true x.generation (db.last x.rtype x.number) hs.1 in
          let rise = rises x.rtype x.number in
          and_from _ _
          (cond_both (key_eq k x) (Some (record { items = items; version = 1 })) (db.records x) (λ o. not (is_some o) ≡ true)
          (λ e. absurd (not_new x (same_key k x e) below)) (λ e. hs.0))
          (le-leb x.generation (cond (eqb x.rtype t && eqb x.number n) (db.last t n + 1) (db.last x.rtype x.number)) (omega arith));
    } where
      risen : (u m : ℕ) → u ≡ t → m ≡ n → db.last u m ≤ db.last t n + 1
      risen u m e f = let same : db.last u m ≡ db.last t n = λ i. db.last (e i) (f i) in omega arith

      not_new : (x : DbKey) → new_key db t n ≡ x → x.generation ≤ db.last x.rtype x.number → ⊥
      not_new x e below =
          let generation : db.last t n + 1 ≡ x.generation = ap (λ (y : DbKey). y.generation) e in
          let last : db.last t n ≡ db.last x.rtype x.number = λ i. db.last ((e i).rtype) ((e i).number) in
          absurd (omega arith)

module _ (schema : Lists) (capacity : ℕ) (db : Database) (unit : Unit) where
  abbrev Forward : StatementEffect → Type 0
  Forward o = GoesForward db o.database

  on_cells : (statement : Statement) → Forward (effect_on_cells schema capacity db unit statement)
  on_cells (OpenArea a mode) =
      of_unless db unit Forward (λ cause. same_forward db) (first_cause (open_checks (whole schema capacity db) a mode))
      (done (record db { usage = λ b. if b == a then db.usage b ++ (unit.number, mode) ∷ [] else db.usage b }) (record unit { modes = slice_set unit.modes a (Some mode) }) None None)
      (λ h. forward_from db _ (record { versions = λ k. omega arith; live = λ k h. h; last = λ t n. refl }))
  on_cells (CloseArea a) = forward_from db _ (record { versions = λ k. omega arith; live = λ k h. h; last = λ t n. refl })
  on_cells (Find suppress form) = of_finding db unit Forward (λ cause. same_forward db) (found schema capacity db unit form) _ (λ k h. same_forward db)
  on_cells (Get r) = of_current db unit Forward (λ cause. same_forward db) unit.currency.run_unit _ _ (λ k e h. same_forward db)
  on_cells (Store t items suppress) =
      of_unless db unit Forward (λ cause. same_forward db) (first_cause (store_checks schema (whole schema capacity db) unit t items))
      (stored schema capacity db unit (new_key db t (unwrap_or (free_number capacity db t) 0)) items suppress)
      (λ h. let new = stored_forward schema db t (unwrap_or (free_number capacity db t) 0) items in record { versions = new.versions; generations = new.generations; deleted = new.deleted })
  on_cells (Insert s) =
      of_current db unit Forward (λ cause. same_forward db) unit.currency.run_unit _ _
      (λ k e h. raised_forward db (connected_in schema db unit (s ∷ []) k) (key_eq k) (record { versions = λ x. omega arith; live = λ x h. h; last = λ t n. refl }))
  on_cells (Remove s) =
      of_current db unit Forward (λ cause. same_forward db) unit.currency.run_unit _ _
      (λ k e h. raised_forward db _ (key_eq k) (record { versions = λ x. omega arith; live = λ x h. h; last = λ t n. refl }))
  on_cells (Modify t changes) =
      of_current db unit Forward (λ cause. same_forward db) unit.currency.run_unit _ _
      (λ k e h. raised_forward db _ (key_eq k) (record { versions = λ x. items_version k x (changed_items changes (items_of db k)); live = λ x l. items_live k x (changed_items changes (items_of db k)) ∙ l; last = λ t n. refl })) where
        items_version : (k x : DbKey) (items : List Value) → version_of (with_items db k items) x ≤ version_of db x
        items_version k x items = cond_both (key_eq k x) (option_map (with_its_items items) (db.records x)) (db.records x) (λ o. version_in o ≤ version_of db x) (λ e. kept (db.records x)) (λ e. omega arith) where
          kept : (o : Option Record) → version_in (option_map (with_its_items items) o) ≤ version_in o
          kept None = omega arith
          kept (Some r) = omega arith

        items_live : (k x : DbKey) (items : List Value) → is_live (with_items db k items) x ≡ is_live db x
        items_live k x items = cond_both (key_eq k x) (option_map (with_its_items items) (db.records x)) (db.records x) (λ o. is_some o ≡ is_live db x) (λ e. kept (db.records x)) (λ e. refl) where
          kept : (o : Option Record) → is_some (option_map (with_its_items items) o) ≡ is_some o
          kept None = refl
          kept (Some r) = refl
  on_cells (Delete option) =
      of_current db unit Forward (λ cause. same_forward db) unit.currency.run_unit _ _
      (λ k e h. let gone = doomed schema capacity db option k in raised_forward db _ _ (record {
        versions = λ x. cond_both (is_member x gone) None (db.records x) (λ o. version_in o ≤ version_of db x) (λ e. omega arith) (λ e. omega arith);
        live = λ x l. cond_both (is_member x gone) None (db.records x) (λ o. is_some o ≡ false) (λ e. refl) (λ e. l);
        last = λ t n. refl;
      }))
  on_cells Keep = of_current db unit Forward (λ cause. same_forward db) unit.currency.run_unit _ _ (λ k e h. same_forward db)
  on_cells (Free true) = same_forward db
  on_cells (Free false) = of_done db unit Forward (λ cause. same_forward db) unit.currency.run_unit _ (λ k e. same_forward db)

  pub each_goes_forward : (statement : Statement) → GoesForward db (effect schema capacity db unit statement).database
  each_goes_forward statement = of_effect db unit Forward (λ cause. same_forward db) schema capacity statement (λ h. on_cells statement)
