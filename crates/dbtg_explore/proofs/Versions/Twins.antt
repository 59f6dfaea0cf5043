-- What a statement makes of a database, and of the same one without versions: whether each kept version is its record's own is the same
-- in both, so is all else but versions.
-- k and x are keys, e is a record that a unit keeps, with the version that is kept of it.
use Rattle.std.proofs.Common.{◌≡◌, refl, sym, ◌∙◌, ap, subst, ℕ, ◌+◌, ◌≤◌, Bool, true, false, List, [], ◌∷◌, ◌++◌, Option, Some, arith, inl, inr, map, ◌&&◌}
use Rattle.std.proofs.lemmas.Bool.{and_parts, eq-eqb, eqb-true}
use Rattle.std.proofs.lemmas.List.{map-append}
use Rattle.std.specs.Prelude.{◌==◌, filter, if◌then◌else◌, is_some, option_map}
use Rattle.dbtg_cells.specs.declared.key.DbKey.{DbKey}
use Rattle.dbtg_cells.specs.declared.key.Value.{Value}
use Rattle.dbtg_cells.specs.Keys.{key_below, key_eq}
use Rattle.dbtg_cells.proofs.Public.{same_key}
use Rattle.dbtg_unit.specs.Database.State.Base.{Database, Record, is_live, items_of, version_of}
use Rattle.dbtg_unit.specs.Database.State.Units.{noted}
use Rattle.dbtg_unit.specs.Database.Statements.Effect.{raised}
use Rattle.dbtg_unit.proofs.Public.{In, of_map}
use Rattle.dbtg_explore.specs.Versions.{at_first, unversioned_database, unversioned_entry}
use Rattle.dbtg_explore.proofs.Versions.Stored.{Stays, first_flag, first_items, first_lives, first_twice, flag, has_version, items_in, own_version, raised_first, raised_flag, raised_if, raised_lived, raised_rises}

-- WHAT IS KEPT WITHIN

-- the key's number has had its generation, and the version of the record, while that lives, is no lower than the kept one
pub record IsWithin (db : Database) (e : DbKey × ℕ) : Type 0 where
  pub generation : e.0.generation ≤ db.last e.0.rtype e.0.number
  pub version : is_live db e.0 ≡ true → e.1 ≤ version_of db e.0

-- the number of each live key has had its generation
abbrev pub AreKnown : Database → Type 0
AreKnown db = (k : DbKey) → is_live db k ≡ true → k.generation ≤ db.last k.rtype k.number

-- LISTS

pub mapped_alike : {X Y Z : Type 0} (f : X → Z) (g : Y → Z) (h : X → Y) (xs : List X) → ((x : X) → In x xs → f x ≡ g (h x)) → map f xs ≡ map g (map h xs)
mapped_alike f g h [] same = refl
mapped_alike f g h (x ∷ xs) same = λ i. same x (inl refl) i ∷ mapped_alike f g h xs (λ y j. same y (inr j)) i

-- entries that are left out for their keys can be left out after a change of versions
pub filtered_by_key : (q : DbKey → Bool) (f : DbKey × ℕ → ℕ) (es : List (DbKey × ℕ)) → map {B = DbKey × ℕ} (λ e. (e.0, f e)) (filter (λ e. q e.0) es) ≡ filter (λ e. q e.0) (map {B = DbKey × ℕ} (λ e. (e.0, f e)) es)
filtered_by_key q f [] = refl
filtered_by_key q f (e ∷ es) = by (filtered_by_key q f es) (q e.0) refl where
  by : map {B = DbKey × ℕ} (λ x. (x.0, f x)) (filter (λ x. q x.0) es) ≡ filter (λ x. q x.0) (map {B = DbKey × ℕ} (λ x. (x.0, f x)) es) → (b : Bool) → q e.0 ≡ b → map {B = DbKey × ℕ} (λ x. (x.0, f x)) (filter (λ x. q x.0) (e ∷ es)) ≡ filter (λ x. q x.0) (map {B = DbKey × ℕ} (λ x. (x.0, f x)) (e ∷ es))
  by rest true is = rw is (ap (λ (l : List (DbKey × ℕ)). (e.0, f e) ∷ l) rest)
  by rest false is = rw is rest

module _ (db : Database) (known : AreKnown db) where
  -- the database without versions
  abbrev eb : Database
  eb = unversioned_database db

  -- what is made of both
  pub record Twins (new other : Database) : Type 0 where
    pub first : (k : DbKey) → option_map at_first (new.records k) ≡ option_map at_first (other.records k)
    pub lists : new.lists ≡ other.lists
    pub last : new.last ≡ other.last
    pub usage : new.usage ≡ other.usage
    pub entries : (e : DbKey × ℕ) → IsWithin db e → unversioned_entry new e ≡ unversioned_entry other (unversioned_entry db e)
    pub within : (e : DbKey × ℕ) → IsWithin db e → IsWithin new e
    pub are_known : AreKnown new

  pub twins_live : (new other : Database) → Twins new other → (k : DbKey) → is_live new k ≡ is_live other k
  twins_live new other t k = first_lives (new.records k) ∙ ap is_some (t.first k) ∙ sym (first_lives (other.records k))

  pub twins_items : (new other : Database) → Twins new other → (k : DbKey) → items_of new k ≡ items_in (other.records k)
  twins_items new other t k = first_items (new.records k) ∙ ap items_in (t.first k) ∙ sym (first_items (other.records k))

  -- records that stay or go, some with their next version
  module _ (test test' : DbKey → Bool) (d d' : Database) (tests : (k : DbKey) → test k ≡ test' k)
      (stays : (k : DbKey) → Stays (db.records k) (d.records k) (d'.records k)) where
    other_flag : (k : DbKey) (n : ℕ) → (is_live db k ≡ true → n ≤ version_of db k) → has_version n (raised_if (test k) (d.records k)) ≡ has_version (flag n (db.records k)) (raised_if (test' k) (d'.records k))
    other_flag k n low = raised_flag (db.records k) (d.records k) (d'.records k) (test k) n (stays k) low ∙ ap (λ b. has_version (flag n (db.records k)) (raised_if b (d'.records k))) (tests k)

    pub twins_raised : d.lists ≡ d'.lists → d.last ≡ db.last → d'.last ≡ db.last → d.usage ≡ d'.usage → Twins (raised test d) (raised test' d')
    twins_raised lists last last' usage = record {
      first = λ k. raised_first (db.records k) (d.records k) (d'.records k) (test k) (stays k) ∙ ap (λ b. option_map at_first (raised_if b (d'.records k))) (tests k);
      lists = lists;
      last = last ∙ sym last';
      usage = usage;
      entries = λ e w. ap (λ b. (e.0, if b then 1 else 0)) (other_flag e.0 e.1 w.version);
      within = λ e w. record {
        generation = subst (λ (l : ℕ → ℕ → ℕ). e.0.generation ≤ l e.0.rtype e.0.number) (sym last) w.generation;
        version = λ h.
            let low = w.version (raised_lived (db.records e.0) (d.records e.0) (d'.records e.0) (test e.0) (stays e.0) h) in
            let rises = raised_rises (db.records e.0) (d.records e.0) (d'.records e.0) (test e.0) (stays e.0) h in
            omega (arith, low, rises);
      };
      are_known = λ k h.
          subst (λ (l : ℕ → ℕ → ℕ). k.generation ≤ l k.rtype k.number) (sym last)
          (known k (raised_lived (db.records k) (d.records k) (d'.records k) (test k) (stays k) h));
    }

  -- a new record
  module _ (k : DbKey) (items : List Value) (d d' : Database) (fresh : k.generation ≡ db.last k.rtype k.number + 1) where
    -- what is stored then
    abbrev added : Database → DbKey → Option Record
    added b x = if key_eq k x then Some (record { items = items; version = 1 }) else b.records x

    abbrev had : ℕ → ℕ → ℕ
    had t n = if t == k.rtype && n == k.number then k.generation else db.last t n

    rises : (t n : ℕ) → db.last t n ≤ had t n
    rises t n = by (t == k.rtype && n == k.number) refl where
      by : (b : Bool) → (t == k.rtype && n == k.number) ≡ b → db.last t n ≤ (if b then k.generation else db.last t n)
      by true e =
          let es = and_parts _ _ e in
          let same : db.last t n ≡ db.last k.rtype k.number = λ i. db.last (eqb-true t k.rtype es.0 i) (eqb-true n k.number es.1 i) in
          omega (arith, same, fresh)
      by false e = omega arith

    is_other : (e : DbKey × ℕ) → IsWithin db e → key_eq k e.0 ≡ false
    is_other e w = by (key_eq k e.0) refl where
      by : (b : Bool) → key_eq k e.0 ≡ b → b ≡ false
      by true is =
          let same : k ≡ e.0 = same_key k e.0 is in
          let low : k.generation ≤ db.last k.rtype k.number = subst (λ (x : DbKey). x.generation ≤ db.last x.rtype x.number) (sym same) w.generation in
          absurd (omega (arith, low, fresh))
      by false is = refl

    own_last : k.generation ≤ had k.rtype k.number
    own_last = rw (eq-eqb k.rtype k.rtype refl) (rw (eq-eqb k.number k.number refl) (omega arith))

    added_first : (x : DbKey) (b : Bool) → option_map at_first (if b then Some (record { items = items; version = 1 }) else db.records x) ≡ option_map at_first (if b then Some (record { items = items; version = 1 }) else option_map at_first (db.records x))
    added_first x true = refl
    added_first x false = first_twice (db.records x)

    added_known : (x : DbKey) (b : Bool) → key_eq k x ≡ b → is_some (if b then Some (record { items = items; version = 1 }) else db.records x) ≡ true → x.generation ≤ had x.rtype x.number
    added_known x true is h = subst (λ (y : DbKey). y.generation ≤ had y.rtype y.number) (same_key k x is) own_last
    added_known x false is h = let old = known x h in let rise = rises x.rtype x.number in omega (arith, old, rise)

    pub twins_added : d.lists ≡ d'.lists → Twins (record d { records = added db; last = had; usage = db.usage }) (record d' { records = added eb; last = had; usage = db.usage })
    twins_added lists = record {
      first = λ x. added_first x (key_eq k x);
      lists = lists;
      last = refl;
      usage = refl;
      entries = λ e w. rw (is_other e w) (ap (λ b. (e.0, if b then 1 else 0)) (first_flag (db.records e.0) e.1));
      within = λ e w. record {
        generation = let old = w.generation in let rise = rises e.0.rtype e.0.number in omega (arith, old, rise);
        version = rw (is_other e w) w.version;
      };
      are_known = λ x h. added_known x (key_eq k x) refl h;
    }

  -- WHAT A UNIT KEEPS

  module _ (new other : Database) (twins : Twins new other) where
    -- kept as before
    pub kept_alike : (kept : List (DbKey × ℕ)) → ((e : DbKey × ℕ) → In e kept → IsWithin db e) → map (unversioned_entry new) kept ≡ map (unversioned_entry other) (map (unversioned_entry db) kept)
    kept_alike kept all = mapped_alike (unversioned_entry new) (unversioned_entry other) (unversioned_entry db) kept (λ e i. twins.entries e (all e i))

    -- kept at the version that the record has now
    pub now_alike : (k : DbKey) → unversioned_entry new (k, version_of new k) ≡ unversioned_entry other (k, version_of other k)
    now_alike k = ap (λ b. (k, if b then 1 else 0)) (own_version (new.records k) ∙ twins_live new other twins k ∙ sym (own_version (other.records k)))

    -- an entry, at the version that its record has now if it passes the test
    abbrev pub renoted_entry : Database → (DbKey → Bool) → DbKey × ℕ → DbKey × ℕ
    renoted_entry b test e = if test e.0 then (e.0, version_of b e.0) else e

    module _ (test test' : DbKey → Bool) (tests : (k : DbKey) → test k ≡ test' k) where
      one_renoted : (e : DbKey × ℕ) → IsWithin db e → (b : Bool) → unversioned_entry new (if b then (e.0, version_of new e.0) else e) ≡ unversioned_entry other (if b then (e.0, version_of other e.0) else unversioned_entry db e)
      one_renoted e w true = now_alike e.0
      one_renoted e w false = twins.entries e w

      one : (e : DbKey × ℕ) → IsWithin db e → unversioned_entry new (renoted_entry new test e) ≡ unversioned_entry other (renoted_entry other test' (unversioned_entry db e))
      one e w = one_renoted e w (test e.0) ∙ ap (λ b. unversioned_entry other (if b then (e.0, version_of other e.0) else unversioned_entry db e)) (tests e.0)

      twice_mapped : {W X Y Z : Type 0} (f : X → Z) (r : W → X) (g : Y → Z) (q : W → Y) (ws : List W) → ((w : W) → In w ws → f (r w) ≡ g (q w)) → map f (map r ws) ≡ map g (map q ws)
      twice_mapped f r g q [] same = refl
      twice_mapped f r g q (w ∷ ws) same = λ i. same w (inl refl) i ∷ twice_mapped f r g q ws (λ v j. same v (inr j)) i

      map_map : {X Y Z : Type 0} (g : Y → Z) (f : X → Y) (xs : List X) → map (λ x. g (f x)) xs ≡ map g (map f xs)
      map_map g f [] = refl
      map_map g f (x ∷ xs) = ap (λ zs. g (f x) ∷ zs) (map_map g f xs)

      pub renoted_alike : (kept : List (DbKey × ℕ)) → ((e : DbKey × ℕ) → In e kept → IsWithin db e)
          → map (unversioned_entry new) (map (renoted_entry new test) kept) ≡ map (unversioned_entry other) (map (renoted_entry other test') (map (unversioned_entry db) kept))
      renoted_alike kept all =
          twice_mapped (unversioned_entry new) (renoted_entry new test) (unversioned_entry other) (λ e. renoted_entry other test' (unversioned_entry db e)) kept (λ e i. one e (all e i))
          ∙ ap (map (unversioned_entry other)) (map_map (renoted_entry other test') (unversioned_entry db) kept)

      pub renoted_within : (kept : List (DbKey × ℕ)) → ((e : DbKey × ℕ) → In e kept → IsWithin db e) → (e : DbKey × ℕ) → In e (map (renoted_entry new test) kept) → IsWithin new e
      renoted_within kept all e i =
          let from = of_map (renoted_entry new test) e kept i in
          subst (IsWithin new) from.2 (by from.0 (all from.0 from.1) (test from.0.0)) where
            by : (x : DbKey × ℕ) → IsWithin db x → (b : Bool) → IsWithin new (if b then (x.0, version_of new x.0) else x)
            by x w true = record { generation = (twins.within x w).generation; version = λ h. omega arith }
            by x w false = twins.within x w

    -- kept without some, for their keys
    pub without_alike : (q : DbKey → Bool) (es fs : List (DbKey × ℕ)) → map (unversioned_entry new) es ≡ map (unversioned_entry other) fs
        → map (unversioned_entry new) (filter (λ e. q e.0) es) ≡ map (unversioned_entry other) (filter (λ e. q e.0) fs)
    without_alike q es fs same =
        filtered_by_key q (λ e. flag e.1 (new.records e.0)) es ∙ ap (filter (λ (e : DbKey × ℕ). q e.0)) same ∙ sym (filtered_by_key q (λ e. flag e.1 (other.records e.0)) fs)

    -- kept with one more, at the version that its record has now
    pub noted_alike : (k : DbKey) (es fs : List (DbKey × ℕ)) → map (unversioned_entry new) es ≡ map (unversioned_entry other) fs
        → map (unversioned_entry new) (noted k (version_of new k) es) ≡ map (unversioned_entry other) (noted k (version_of other k) fs)
    noted_alike k es fs same =
        map-append (unversioned_entry new) (filter (λ (e : DbKey × ℕ). key_below e.0 k) es) ((k, version_of new k) ∷ filter (λ (e : DbKey × ℕ). key_below k e.0) es)
        ∙ (λ i. without_alike (λ x. key_below x k) es fs same i ++ now_alike k i ∷ without_alike (λ x. key_below k x) es fs same i)
        ∙ sym (map-append (unversioned_entry other) (filter (λ (e : DbKey × ℕ). key_below e.0 k) fs) ((k, version_of other k) ∷ filter (λ (e : DbKey × ℕ). key_below k e.0) fs))
