-- Two databases that are alike without versions, as a unit and some cells show it: the second one can be given the versions of the first.
-- k is a key, e is a record that the unit keeps, with the version that is kept of it, c the name of a cell.
use Rattle.std.proofs.Common.{◌≡◌, refl, sym, ◌∙◌, ap, subst, ℕ, ◌+◌, ◌≤◌, ◌<◌, true, false, List, [], ◌∷◌, Option, Some, None, inl, inr, ⊎_elim, arith, map}
use Rattle.std.specs.Prelude.{◌==◌, ◌&&◌, flat_map, if◌then◌else◌, is_some, option_map, option_to_list, unwrap_or}
use Rattle.std.proofs.lemmas.Bool.{ne_eqb, true≢false}
use Rattle.dbtg_schema.specs.Lists.{Lists}
use Rattle.dbtg_schema.specs.Lookups.{some_and}
use Rattle.dbtg_cells.specs.Shown.{SlotValue}
use Rattle.dbtg_cells.specs.declared.key.DbKey.{DbKey}
use Rattle.dbtg_cells.specs.declared.name.CellName.{CellName}
use Rattle.dbtg_cells.specs.declared.name.CellName.TheVariants.{Usage, Extent, Ring, Slot}
use Rattle.dbtg_cells.specs.declared.slot.Stored.{Stored}
use Rattle.dbtg_unit.specs.declared.unit.Unit.{Unit}
use Rattle.dbtg_unit.specs.Database.State.Base.{Database, Record, is_live, key_at, version_of}
use Rattle.dbtg_unit.specs.Database.State.Cells.{cell, slot_of}
use Rattle.dbtg_unit.specs.Database.State.Legal.{Legal}
use Rattle.dbtg_unit.proofs.Public.{In, in_map, of_map}
use Rattle.dbtg_states.specs.Parts.{record_numbers, shown_numbers}
use Rattle.dbtg_explore.specs.Inside.Versions.{shows_version}
use Rattle.dbtg_explore.specs.Versions.{at_first, is_own, unversioned_database, unversioned_entry, unversioned_unit}
use Rattle.dbtg_explore.proofs.Parts.{shown_first}
use Rattle.dbtg_explore.proofs.Versions.Images.{legal_with}
use Rattle.dbtg_explore.proofs.Versions.Stored.{same_flag}
use Rattle.dbtg_explore.proofs.Versions.Twins.{AreKnown, IsWithin}

-- WHAT CELLS SHOW WITH VERSIONS AND WITHOUT

-- what a slot says without versions, by what it says with them
abbrev first_of : List ℕ → List ℕ
first_of [] = []
first_of (g ∷ []) = g ∷ []
first_of (g ∷ v ∷ rest) = g ∷ 1 ∷ rest

-- and with another version
abbrev with_version : ℕ → List ℕ → List ℕ
with_version v [] = []
with_version v (g ∷ []) = g ∷ []
with_version v (g ∷ w ∷ rest) = g ∷ v ∷ rest

slot_first : (n : ℕ) (o : Option Stored) → shown_numbers false n (SlotValue o) ≡ first_of (shown_numbers true n (SlotValue o))
slot_first n None = refl
slot_first n (Some r) = refl

-- what cells say with versions determines what they say without
pub says_less : (schema : Lists) (capacity n : ℕ) (db eb : Database) (c : CellName) → shown_numbers true n (cell schema capacity db c) ≡ shown_numbers true n (cell schema capacity eb c) → shown_numbers false n (cell schema capacity db c) ≡ shown_numbers false n (cell schema capacity eb c)
unfolding cell
says_less schema capacity n db eb (Usage a) e = e
says_less schema capacity n db eb (Extent t) e = e
says_less schema capacity n db eb (Ring s o) e = e
says_less schema capacity n db eb (Slot t k) e = slot_first n _ ∙ ap first_of e ∙ sym (slot_first n _)

version_same : (n : ℕ) (a b : Option Stored) (e : DbKey × ℕ) → shown_numbers true n (SlotValue a) ≡ shown_numbers true n (SlotValue b) → shows_version (SlotValue a) e ≡ shows_version (SlotValue b) e
version_same n None None e h = refl
version_same n None (Some r) e h = absurd cc
version_same n (Some r) None e h = absurd cc
version_same n (Some r) (Some s) e h =
    let generation : r.generation ≡ s.generation = cc in
    let version : r.version ≡ s.version = cc in
    (λ i. (generation i == e.0.generation) && (version i == e.1))

-- and whether a slot has a record's version
pub shows_the_same : (schema : Lists) (capacity n : ℕ) (db eb : Database) (t k : ℕ) (e : DbKey × ℕ) → shown_numbers true n (cell schema capacity db (Slot t k)) ≡ shown_numbers true n (cell schema capacity eb (Slot t k))
    → shows_version (cell schema capacity db (Slot t k)) e ≡ shows_version (cell schema capacity eb (Slot t k)) e
unfolding cell
shows_the_same schema capacity n db eb t k e h = version_same n _ _ e h

-- VERSIONS

-- more than each of these versions
abbrev above : List (DbKey × ℕ) → ℕ
above [] = 1
above (e ∷ es) = e.1 + above es

is_below : (es : List (DbKey × ℕ)) (e : DbKey × ℕ) → In e es → e.1 < above es
is_below [] e i = absurd i
is_below (x ∷ xs) e i =
    ⊎_elim
    (λ here. let same : x.1 ≡ e.1 = ap (λ (y : DbKey × ℕ). y.1) here in let more = some_above xs in omega (arith, same, more))
    (λ j. let more = is_below xs e j in omega (arith, more))
    i where
      some_above : (es : List (DbKey × ℕ)) → 0 < above es
      some_above [] = omega arith
      some_above (y ∷ ys) = let more = some_above ys in omega (arith, more)

module _ (db eb : Database) (unit own : Unit) (units : unversioned_unit db unit ≡ unversioned_unit eb own)
    (within : (e : DbKey × ℕ) → In e unit.kept → IsWithin db e) (within' : (e : DbKey × ℕ) → In e own.kept → IsWithin eb e) (known' : AreKnown eb) where
  -- the version of a record of the second database: that of the first, if it is there, and otherwise one that the unit does not keep
  abbrev version_by : Option Record → ℕ
  version_by (Some r) = r.version
  version_by None = above unit.kept

  abbrev record_by : Option Record → Option Record → Option Record
  record_by o p = option_map (λ r. record { items = r.items; version = version_by o }) p

  -- the second database with these versions
  abbrev pub matched : Database
  matched = record eb { records = λ k. record_by (db.records k) (eb.records k) }

  first_by : (o p : Option Record) → option_map at_first (record_by o p) ≡ option_map at_first p
  first_by o None = refl
  first_by o (Some r) = refl

  pub matched_first : unversioned_database matched ≡ unversioned_database eb
  matched_first = λ i. record eb { records = λ k. first_by (db.records k) (eb.records k) i }

  live_by : (o p : Option Record) → is_some p ≡ is_some (record_by o p)
  live_by o None = refl
  live_by o (Some r) = refl

  pub matched_live : (k : DbKey) → is_live eb k ≡ is_live matched k
  matched_live k = live_by (db.records k) (eb.records k)

  items_by : (o p : Option Record) → unwrap_or (option_map (λ (r : Record). r.items) p) [] ≡ unwrap_or (option_map (λ (r : Record). r.items) (record_by o p)) []
  items_by o None = refl
  items_by o (Some r) = refl

  pub matched_legal : (schema : Lists) (capacity : ℕ) → Legal schema capacity eb → Legal schema capacity matched
  matched_legal schema capacity legal = legal_with schema capacity eb matched.records (λ k. live_by (db.records k) (eb.records k)) (λ k. items_by (db.records k) (eb.records k)) legal

  pub matched_known : AreKnown matched
  matched_known k h = known' k (live_by (db.records k) (eb.records k) ∙ h)

  -- the entry of the second unit that is told like one of the first
  its_twin : (e : DbKey × ℕ) → In e unit.kept → (x : DbKey × ℕ) × In x own.kept × (unversioned_entry eb x ≡ unversioned_entry db e)
  its_twin e i =
      of_map (unversioned_entry eb) (unversioned_entry db e) own.kept
      (subst (λ (es : List (DbKey × ℕ)). In (unversioned_entry db e) es) (ap (λ (u : Unit). u.kept) units) (in_map (unversioned_entry db) e unit.kept i))

  gone_there : (e : DbKey × ℕ) → In e unit.kept → eb.records e.0 ≡ None → is_own db e ≡ false
  gone_there e i none =
      let twin = its_twin e i in
      let key : twin.0.0 ≡ e.0 = ap (λ (x : DbKey × ℕ). x.0) twin.2 in
      let flag = same_flag (is_own eb twin.0) (is_own db e) (ap (λ (x : DbKey × ℕ). x.1) twin.2) in
      sym flag ∙ ap (some_and (λ r. twin.0.1 == r.version)) (ap eb.records key ∙ none)

  -- of the unit's records the same have their own versions
  pub own_matched : (e : DbKey × ℕ) → In e unit.kept → is_own matched e ≡ is_own db e
  own_matched e i = by (db.records e.0) (eb.records e.0) refl refl where
    by : (o p : Option Record) → db.records e.0 ≡ o → eb.records e.0 ≡ p → some_and (λ r. e.1 == r.version) (record_by o p) ≡ some_and (λ r. e.1 == r.version) o
    by None None h g = refl
    by (Some r) (Some s) h g = refl
    by (Some r) None h g = sym (sym (ap (some_and (λ r. e.1 == r.version)) h) ∙ gone_there e i g)
    by None (Some s) h g = ne_eqb e.1 (above unit.kept) (λ same. let low = is_below unit.kept e i in omega (arith, same, low))

  pub matched_unit : unversioned_unit matched unit ≡ unversioned_unit eb own
  matched_unit = ap (λ (es : List (DbKey × ℕ)). record unit { kept = es }) (each unit.kept (λ e i. ap (λ b. (e.0, if b then 1 else 0)) (own_matched e i))) ∙ units where
    each : (es : List (DbKey × ℕ)) → ((e : DbKey × ℕ) → In e es → unversioned_entry matched e ≡ unversioned_entry db e) → map (unversioned_entry matched) es ≡ map (unversioned_entry db) es
    each [] h = refl
    each (e ∷ es) h = λ i. h e (inl refl) i ∷ each es (λ x j. h x (inr j)) i

  pub matched_within : (e : DbKey × ℕ) → In e unit.kept → IsWithin matched e
  matched_within e i =
      let twin = its_twin e i in
      let key : twin.0.0 ≡ e.0 = ap (λ (x : DbKey × ℕ). x.0) twin.2 in
      record {
        generation = subst (λ (k : DbKey). k.generation ≤ eb.last k.rtype k.number) key (within' twin.0 twin.1).generation;
        version = λ h. by (db.records e.0) (eb.records e.0) refl h;
      } where
        by : (o p : Option Record) → db.records e.0 ≡ o → is_some (record_by o p) ≡ true → e.1 ≤ unwrap_or (option_map (λ (r : Record). r.version) (record_by o p)) 0
        by o None h live = absurd (true≢false (sym live))
        by (Some r) (Some s) h live = ap_version r h ((within e i).version (ap is_some h)) where
          ap_version : (r : Record) → db.records e.0 ≡ Some r → e.1 ≤ version_of db e.0 → e.1 ≤ r.version
          ap_version r h low = subst (λ (o : Option Record). e.1 ≤ unwrap_or (option_map (λ (r : Record). r.version) o) 0) h low
        by None (Some s) h live = let low = is_below unit.kept e i in omega (arith, low)

  -- what cells say that say the same without versions, they say the same with these
  module _ (schema : Lists) (capacity n : ℕ) where
    slots_match : (k x : DbKey) → k.rtype ≡ x.rtype → k.number ≡ x.number → (o p : Option Record) → db.records k ≡ o → eb.records x ≡ p
        → flat_map (record_numbers false) (option_to_list (option_map (slot_of schema capacity db k) o)) ≡ flat_map (record_numbers false) (option_to_list (option_map (slot_of schema capacity matched x) (record_by (db.records x) p)))
        → flat_map (record_numbers true) (option_to_list (option_map (slot_of schema capacity db k) o)) ≡ flat_map (record_numbers true) (option_to_list (option_map (slot_of schema capacity matched x) (record_by (db.records x) p)))
    slots_match k x type number None None h g e = refl
    slots_match k x type number None (Some s) h g e = absurd cc
    slots_match k x type number (Some r) None h g e = absurd cc
    slots_match k x type number (Some r) (Some s) h g e =
        let generation : k.generation ≡ x.generation = cc in
        let same : k ≡ x = λ i. record { rtype = type i; number = number i; generation = generation i } in
        let version : r.version ≡ version_by (db.records x) = sym (ap version_by (ap db.records (sym same) ∙ h)) in
        again (flat_map (record_numbers false) (option_to_list (option_map (slot_of schema capacity db k) (Some r)))) (flat_map (record_numbers false) (option_to_list (option_map (slot_of schema capacity matched x) (record_by (db.records x) (Some s))))) e version where
          again : (xs ys : List ℕ) → xs ≡ ys → r.version ≡ version_by (db.records x) → with_version r.version xs ≡ with_version (version_by (db.records x)) ys
          again xs ys e v = λ i. with_version (v i) (e i)

    pub matched_says : (c : CellName) → shown_numbers false n (cell schema capacity db c) ≡ shown_numbers false n (cell schema capacity eb c) → shown_numbers true n (cell schema capacity db c) ≡ shown_numbers true n (cell schema capacity matched c)
    unfolding cell
    matched_says c e = to_match c (e ∙ shown_first schema capacity eb n c ∙ sym (ap (λ (d : Database). shown_numbers true n (cell schema capacity d c)) matched_first) ∙ sym (shown_first schema capacity matched n c)) where
      to_match : (c : CellName) → shown_numbers false n (cell schema capacity db c) ≡ shown_numbers false n (cell schema capacity matched c) → shown_numbers true n (cell schema capacity db c) ≡ shown_numbers true n (cell schema capacity matched c)
      to_match (Usage a) e = e
      to_match (Extent t) e = e
      to_match (Ring s o) e = e
      to_match (Slot t k) e = slots_match (key_at db t k) (key_at matched t k) refl refl (db.records (key_at db t k)) (eb.records (key_at matched t k)) refl refl e
