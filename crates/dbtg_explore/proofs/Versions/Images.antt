-- What images and units show without versions, and that a database without versions stays legal.
-- k is a key, e is a record that a unit keeps, with the version that is kept of it.
use Rattle.std.proofs.Common.{◌≡◌, refl, sym, ◌∙◌, ap, subst, ℕ, zero, suc, Bool, true, false, ◌&&◌, List, [], ◌∷◌, length, Option, Some, None, ⊎_elim, map, slice_get}
use Rattle.std.proofs.lemmas.Bool.{and_from, eq-eqb, eqb-true, le-leb, lt-ltb, true≢false}
use Rattle.std.specs.Prelude.{◌==◌, is_some, option_map, unwrap_or}
use Rattle.std.specs.List.{list_all, range_with_len}
use Rattle.dbtg_schema.specs.Lists.{Lists}
use Rattle.dbtg_schema.specs.Lookups.{some_and}
use Rattle.dbtg_schema.specs.Structure.{order_of, owns, pictures, set_numbers}
use Rattle.dbtg_cells.specs.CellNumbers.{is_cell}
use Rattle.dbtg_cells.specs.Keys.{key_below, values_eq}
use Rattle.dbtg_cells.specs.Shown.{SlotValue}
use Rattle.dbtg_cells.specs.declared.key.DbKey.{DbKey}
use Rattle.dbtg_cells.specs.declared.key.Owner.{Owner}
use Rattle.dbtg_cells.specs.declared.key.Owner.TheVariants.{System, Rec}
use Rattle.dbtg_cells.specs.declared.key.Value.{Value}
use Rattle.dbtg_cells.specs.declared.name.CellName.TheVariants.{Slot}
use Rattle.dbtg_cells.proofs.Public.{same_truth}
use Rattle.dbtg_unit.specs.declared.unit.Unit.{Unit}
use Rattle.dbtg_unit.specs.Database.State.Base.{Database, Record, calc_items, is_live, items_of, key_at, key_item, members_of}
use Rattle.dbtg_unit.specs.Database.State.Cells.{cell, slot_of}
use Rattle.dbtg_unit.specs.Database.State.Image.{image_of}
use Rattle.dbtg_unit.specs.Database.State.Legal.{Legal, has_occurrence, keys_in_order, pairwise}
use Rattle.dbtg_unit.specs.Database.Statements.Fits.{values_fit}
use Rattle.dbtg_unit.specs.Database.Laws.Replay.{State}
use Rattle.dbtg_unit.specs.Database.Laws.StaysLegal.{IsLegalState}
use Rattle.dbtg_unit.proofs.Public.{In, all_in}
use Rattle.dbtg_step.specs.Machine.SequentialDatabase.{unit_at}
use Rattle.dbtg_explore.specs.Inside.Versions.{is_in_order, shows_version}
use Rattle.dbtg_explore.specs.Versions.{is_own, unversioned_database, unversioned_entry}
use Rattle.dbtg_explore.proofs.Versions.Facts.{all_are, free_is, owners_are}
use Rattle.dbtg_explore.proofs.Versions.Stored.{first_items, first_lives}

-- IMAGES

-- the image without versions is that of the database without versions
pub image_first : (schema : Lists) (capacity : ℕ) (db : Database) → record (image_of schema capacity db) { versions = [] } ≡ record (image_of schema capacity (unversioned_database db)) { versions = [] }
unfolding image_of
image_first schema capacity db =
    let eb = unversioned_database db in
    let live : (k : DbKey) → is_live db k ≡ is_some (eb.records k) = λ k. first_lives (db.records k) in
    let items : (k : DbKey) → unwrap_or (option_map (λ (r : Record). r.items) (db.records k)) [] ≡ unwrap_or (option_map (λ (r : Record). r.items) (eb.records k)) [] = λ k. first_items (db.records k) in
    λ i. record {
      records = map {B = DbKey × List Value} (λ k. (k, items k i)) (all_are schema capacity db eb.records live items i);
      versions = [];
      lists = map (λ s. map (λ o. (o, members_of db s o)) (owners_are schema capacity db eb.records live items s i)) (set_numbers schema);
      next = map (λ t. unwrap_or (free_is schema capacity db eb.records live items t i) 0) (range_with_len 0 (length schema.types));
      last = map (λ t. map (db.last t) (range_with_len 1 capacity)) (range_with_len 0 (length schema.types));
      usage = map db.usage (range_with_len 0 (length schema.areas));
    }

-- WHAT UNITS KEEP

same_version : (o : Option Record) (n : ℕ) → some_and (λ r. r.version == n) o ≡ some_and (λ r. n == r.version) o
same_version None n = refl
same_version (Some r) n = same_truth _ _ (λ h. eq-eqb n r.version (sym (eqb-true r.version n h))) (λ h. eq-eqb r.version n (sym (eqb-true n r.version h)))

no_version : (o : Option Record) (test : Record → Bool) → some_and (λ r. false && test r) o ≡ false
no_version None test = refl
no_version (Some r) test = refl

module _ (schema : Lists) (capacity : ℕ) (db : Database) (legal : Legal schema capacity db) where
  in_slot : (k : DbKey) (e : DbKey × ℕ) (o : Option Record) → shows_version (SlotValue (option_map (slot_of schema capacity db k) o)) e ≡ some_and (λ r. k.generation == e.0.generation && r.version == e.1) o
  in_slot k e None = refl
  in_slot k e (Some r) = refl

  module _ (e : DbKey × ℕ) where
    abbrev latest : DbKey
    latest = key_at db e.0.rtype e.0.number

    -- a record that lives has its number's last generation
    old_is_gone : (o : Option Record) → db.records e.0 ≡ o → (latest.generation == e.0.generation) ≡ false → some_and (λ r. e.1 == r.version) o ≡ false
    old_is_gone None is other = refl
    old_is_gone (Some r) is other = let facts = legal.keys e.0 (ap is_some is) in absurd (true≢false (sym (eq-eqb latest.generation e.0.generation (sym facts.4)) ∙ other))

    by_generation : (b : Bool) → (latest.generation == e.0.generation) ≡ b → some_and (λ r. latest.generation == e.0.generation && r.version == e.1) (db.records latest) ≡ is_own db e
    by_generation true is =
        let generation = eqb-true latest.generation e.0.generation is in
        let same : latest ≡ e.0 = λ i. record { rtype = e.0.rtype; number = e.0.number; generation = generation i } in
        (λ i. some_and (λ r. is i && r.version == e.1) (db.records (same i))) ∙ same_version (db.records e.0) e.1
    by_generation false is =
        (λ i. some_and (λ r. is i && r.version == e.1) (db.records latest)) ∙ no_version (db.records latest) (λ r. r.version == e.1) ∙ sym (old_is_gone (db.records e.0) refl is)

    -- whether a record has the version that is kept of it, by the slot of its number
    pub own_shown : shows_version (cell schema capacity db (Slot e.0.rtype e.0.number)) e ≡ is_own db e
    unfolding cell
    own_shown = in_slot latest e (db.records latest) ∙ by_generation (latest.generation == e.0.generation) refl

    -- there is none where the schema has no such slot
    pub none_own : is_cell schema capacity (Slot e.0.rtype e.0.number) ≡ false → is_own db e ≡ false
    none_own out = by (db.records e.0) refl where
      by : (o : Option Record) → db.records e.0 ≡ o → some_and (λ r. e.1 == r.version) o ≡ false
      by None is = refl
      by (Some r) is =
          let facts = legal.keys e.0 (ap is_some is) in
          absurd (true≢false (sym (and_from _ _ (lt-ltb e.0.rtype (length schema.types) facts.0) (and_from _ _ (lt-ltb 0 e.0.number facts.1) (le-leb e.0.number capacity facts.2))) ∙ out))

all_below : (db : Database) (k : DbKey) (es : List (DbKey × ℕ)) → list_all (λ f. key_below k f.0) (map (unversioned_entry db) es) ≡ list_all (λ f. key_below k f.0) es
all_below db k [] = refl
all_below db k (e ∷ es) = ap (λ b. key_below k e.0 && b) (all_below db k es)

-- entries keep their order without versions
pub in_order_same : (db : Database) (kept : List (DbKey × ℕ)) → is_in_order (map (unversioned_entry db) kept) ≡ is_in_order kept
in_order_same db [] = refl
in_order_same db (e ∷ es) = λ i. all_below db e.0 es i && in_order_same db es i

place_of : {X : Type 0} (xs : List X) (x : X) → In x xs → (n : ℕ) × (slice_get xs n ≡ Some x)
place_of [] x i = absurd i
place_of (y ∷ xs) x i = ⊎_elim (λ e. (zero, ap Some e)) (λ j. let there = place_of xs x j in (suc there.0, there.1)) i

-- what its units keep is in key order
pub kept_in_order : (schema : Lists) (capacity : ℕ) (s : State) → IsLegalState schema capacity s → list_all (λ u. is_in_order u.kept) s.units ≡ true
kept_in_order schema capacity s legal =
    all_in (λ (u : Unit). is_in_order u.kept) s.units (λ u i. let at = place_of s.units u i in (legal.each at.0 u at.1).of_schema.kept_order)

pub order_at : (schema : Lists) (capacity : ℕ) (s : State) → IsLegalState schema capacity s → (u : ℕ) (unit : Unit) → unit_at s.units u ≡ Some unit → is_in_order unit.kept ≡ true
unfolding unit_at
order_at schema capacity s legal zero unit at = absurd (cc (at))
order_at schema capacity s legal (suc n) unit at = (legal.each n unit at).of_schema.kept_order

-- LEGAL WITH OTHER VERSIONS

-- no clause speaks of versions
module _ (schema : Lists) (capacity : ℕ) (db : Database) (records : DbKey → Option Record)
    (live : (k : DbKey) → is_live db k ≡ is_some (records k))
    (items : (k : DbKey) → items_of db k ≡ unwrap_or (option_map (λ (r : Record). r.items) (records k)) []) where
  -- the database with these records
  abbrev with_records : Database
  with_records = record db { records = records }

  occurrence : (s : ℕ) (o : Owner) → has_occurrence schema db s o ≡ has_occurrence schema with_records s o
  occurrence s System = refl
  occurrence s (Rec k) = ap (λ b. owns schema s k.rtype && b) (live k)

  pub legal_with : Legal schema capacity db → Legal schema capacity with_records
  legal_with legal =
      record {
        keys = λ k h. legal.keys k (live k ∙ h);
        items = λ k h. subst (λ (values : List Value). values_fit (pictures schema k.rtype) values ≡ true) (items k) (legal.items k (live k ∙ h));
        generations = legal.generations;
        no_number = legal.no_number;
        no_area = legal.no_area;
        pairs = λ s o. legal.pairs s o ∙ occurrence s o;
        members = λ s o m h. let r = legal.members s o m h in (sym (live m) ∙ r.0, r.1);
        in_one = legal.in_one;
        once = legal.once;
        sorted = λ s o. sym (λ i. pairwise (λ x y. keys_in_order (order_of schema s) (key_item schema s x.rtype (items x i)) (key_item schema s y.rtype (items y i))) (members_of db s o)) ∙ legal.sorted s o;
        calc = λ j k h g t none same. legal.calc j k (live j ∙ h) (live k ∙ g) t none ((λ i. values_eq (calc_items schema j.rtype (items j i)) (calc_items schema k.rtype (items k i))) ∙ same);
        mandatory_automatic = λ s m h mandatory. legal.mandatory_automatic s m (live m ∙ h) mandatory;
        usage = legal.usage;
      }

pub legal_first : (schema : Lists) (capacity : ℕ) (db : Database) → Legal schema capacity db → Legal schema capacity (unversioned_database db)
legal_first schema capacity db legal = legal_with schema capacity db (unversioned_database db).records (λ k. first_lives (db.records k)) (λ k. first_items (db.records k)) legal
