-- Two states of one schema are the same, but for the order in which units opened an area, just where each part of them is the same.
-- u is a unit, c the name of a cell, k a key, s a set, t a record type, n a number; db and eb are databases.
use Rattle.std.proofs.Common.{◌≡◌, refl, sym, ◌∙◌, ap, ◌&&◌, ℕ, zero, suc, ◌+◌, ◌<◌, ◌≤◌, true, List, [], ◌∷◌, ◌++◌, length, Option, Some, None, inl, inr, ⊎_elim, ◌⊎◌, arith, slice_get}
use Rattle.std.specs.Prelude.{flat_map, is_some, option_map, option_to_list, unwrap_or}
use Rattle.std.specs.List.{range_with_len}
use Rattle.std.proofs.lemmas.Bool.{and_from, and_parts, cases_Bool, cases_lt, le-leb, lt-ltb}
use Rattle.dbtg_schema.specs.Lists.{Lists}
use Rattle.dbtg_schema.specs.Structure.{owns}
use Rattle.dbtg_schema.proofs.Public.{none_is}
use Rattle.dbtg_cells.specs.CellNumbers.{is_cell}
use Rattle.dbtg_cells.specs.Members.{keys_in}
use Rattle.dbtg_cells.specs.Numbers.{last_of}
use Rattle.dbtg_cells.specs.declared.key.DbKey.{DbKey}
use Rattle.dbtg_cells.specs.declared.key.Owner.{Owner}
use Rattle.dbtg_cells.specs.declared.key.Owner.TheVariants.{System, Rec}
use Rattle.dbtg_cells.specs.declared.name.CellName.{CellName}
use Rattle.dbtg_cells.specs.declared.name.CellName.TheVariants.{Usage, Extent, Ring, Slot}
use Rattle.dbtg_cells.specs.declared.slot.Stored.{Stored}
use Rattle.dbtg_unit.specs.declared.unit.Unit.{Unit}
use Rattle.dbtg_unit.specs.Database.State.Base.{Database, Record, is_live, key_at, members_of, sort_key}
use Rattle.dbtg_unit.specs.Database.State.Cells.{cell, owner_at, ring_of, slot_of}
use Rattle.dbtg_unit.specs.Database.State.Legal.{Legal, has_occurrence}
use Rattle.dbtg_unit.specs.Database.Laws.Replay.{State}
use Rattle.dbtg_unit.proofs.Public.{extent_in, firsts_pairs, ring_in, slot_in}
use Rattle.dbtg_states.specs.Alike.{unordered}
use Rattle.dbtg_states.specs.Users.{by_unit}
use Rattle.dbtg_states.specs.Inside.SpelledUnits.{unit_numbers}
use Rattle.dbtg_states.specs.Parts.{shown_numbers}
use Rattle.dbtg_states.specs.Inside.Spelling.{behind, unit_apart}
use Rattle.dbtg_states.proofs.States.SameImages.{list_same}
use Rattle.dbtg_states.proofs.States.ShownParts.{last_shown, same_by_unit, same_shown, user_numbers}

-- UNITS

pub unit_spelled : (x y : Option Unit) (a b : List ℕ) → is_some x ≡ true → is_some y ≡ true → flat_map unit_numbers (option_to_list x) ++ a ≡ flat_map unit_numbers (option_to_list y) ++ b → (x ≡ y) × (a ≡ b)
unit_spelled None y a b h g e = absurd (cc)
unit_spelled (Some x) None a b h g e = absurd (cc)
unit_spelled (Some x) (Some y) a b h g e =
    let both = behind unit_numbers unit_apart x y [] [] a b e in
    (ap Some both.0, both.1)

pub same_at_each : {X : Type 0} (xs ys : List X) → length xs ≡ length ys → ((i : ℕ) → i < length xs → slice_get xs i ≡ slice_get ys i) → xs ≡ ys
same_at_each [] [] l h = refl
same_at_each [] (y ∷ ys) l h = absurd (omega (arith, l))
same_at_each (x ∷ xs) [] l h = absurd (omega (arith, l))
same_at_each (x ∷ xs) (y ∷ ys) l h =
    let first : Some x ≡ Some y = h 0 (omega arith) in
    let head : x ≡ y = cc in
    let rest = same_at_each xs ys (omega (arith, l)) (λ i low. h (suc i) (omega (arith, low))) in
    λ i. head i ∷ rest i

pub there : {X : Type 0} (xs : List X) (i : ℕ) → i < length xs → is_some (slice_get xs i) ≡ true
there [] i low = absurd (omega (arith, low))
there (x ∷ xs) zero low = refl
there (x ∷ xs) (suc i) low = there xs i (omega (arith, low))

-- THE DATABASES

-- what a slot shows tells the record
record_back : (schema : Lists) (capacity : ℕ) (db : Database) (k : DbKey) (r : Option Record) → option_map (λ (x : Stored). record { items = x.items; version = x.version }) (option_map (slot_of schema capacity db k) r) ≡ r
record_back schema capacity db k None = refl
record_back schema capacity db k (Some r) = refl

-- what a ring shows tells the list
keys_back : (schema : Lists) (db : Database) (s : ℕ) (o : Owner) (list : Option (List DbKey)) → keys_in (option_map (ring_of schema db s o) list) ≡ unwrap_or list []
keys_back schema db s o None = refl
keys_back schema db s o (Some ks) = firsts_pairs (sort_key schema db s) ks

module _ (schema : Lists) (capacity n : ℕ) (db eb : Database) (ldb : Legal schema capacity db) (leb : Legal schema capacity eb)
    (same : (c : CellName) → is_cell schema capacity c ≡ true → shown_numbers true n (cell schema capacity db c) ≡ shown_numbers true n (cell schema capacity eb c)) where
  there_is_slot : (t k : ℕ) → t < length schema.types → 0 < k → k ≤ capacity → is_cell schema capacity (Slot t k) ≡ true
  there_is_slot t k low some high = and_from _ _ (lt-ltb t (length schema.types) low) (and_from _ _ (lt-ltb 0 k some) (le-leb k capacity high))

  last_in : (t k : ℕ) → t < length schema.types → 0 < k → k ≤ capacity → db.last t k ≡ eb.last t k
  last_in t k low some high =
      sym (last_shown schema capacity db t k some high)
      ∙ ap (λ v. last_of k (extent_in v)) (same_shown schema capacity n db eb (Extent t) refl (same (Extent t) (lt-ltb t (length schema.types) low)))
      ∙ last_shown schema capacity eb t k some high

  record_in : (t k : ℕ) → t < length schema.types → 0 < k → k ≤ capacity → db.records (key_at db t k) ≡ eb.records (key_at eb t k)
  unfolding cell
  record_in t k low some high =
      sym (record_back schema capacity db (key_at db t k) (db.records (key_at db t k)))
      ∙ ap (λ v. option_map (λ (x : Stored). record { items = x.items; version = x.version }) (slot_in v)) (same_shown schema capacity n db eb (Slot t k) refl (same (Slot t k) (there_is_slot t k low some high)))
      ∙ record_back schema capacity eb (key_at eb t k) (eb.records (key_at eb t k))

  list_in : (s : ℕ) (o : Option (ℕ × ℕ)) → is_cell schema capacity (Ring s o) ≡ true → members_of db s (owner_at db o) ≡ members_of eb s (owner_at eb o)
  unfolding cell
  list_in s o there =
      sym (keys_back schema db s (owner_at db o) (db.lists s (owner_at db o)))
      ∙ ap (λ v. keys_in (ring_in v)) (same_shown schema capacity n db eb (Ring s o) refl (same (Ring s o) there))
      ∙ keys_back schema eb s (owner_at eb o) (eb.lists s (owner_at eb o))

  pub same_last : (t k : ℕ) → db.last t k ≡ eb.last t k
  same_last t k =
      ⊎_elim
      (λ ht. ⊎_elim
      (λ hn. ⊎_elim
      (λ hc. last_in t k ht hn (omega (arith, hc)))
      (λ hc. out (inr (inr (omega (arith, hc)))))
      (cases_lt k (capacity + 1)))
      (λ hn. out (inr (inl (omega (arith, hn)))))
      (cases_lt 0 k))
      (λ ht. out (inl ht))
      (cases_lt t (length schema.types)) where
        out : (length schema.types ≤ t) ⊎ (k ≡ 0) ⊎ (capacity < k) → db.last t k ≡ eb.last t k
        out h = ldb.no_number t k h ∙ sym (leb.no_number t k h)

  key_is : (k : DbKey) → is_live db k ≡ true → key_at db k.rtype k.number ≡ k
  key_is k h = let facts = ldb.keys k h in λ i. record { rtype = k.rtype; number = k.number; generation = sym facts.4 i }

  same_owner : (k : DbKey) → is_live db k ≡ true → key_at eb k.rtype k.number ≡ k
  same_owner k h = (λ i. record { rtype = k.rtype; number = k.number; generation = sym (same_last k.rtype k.number) i }) ∙ key_is k h

  live_same : (k : DbKey) → is_live db k ≡ true → db.records k ≡ eb.records k
  live_same k h =
      let facts = ldb.keys k h in
      ap db.records (sym (key_is k h)) ∙ record_in k.rtype k.number facts.0 facts.1 facts.2 ∙ ap eb.records (same_owner k h)

  same_members : (s : ℕ) (o : Owner) → has_occurrence schema db s o ≡ true → members_of db s o ≡ members_of eb s o
  same_members s System h = list_in s None h
  same_members s (Rec k) h =
      let parts = and_parts (owns schema s k.rtype) (is_live db k) h in
      let facts = ldb.keys k parts.1 in
      let ring = list_in s (Some (k.rtype, k.number)) (and_from _ _ parts.0 (and_from _ _ (lt-ltb 0 k.number facts.1) (le-leb k.number capacity facts.2))) in
      ap (λ (j : DbKey). members_of db s (Rec j)) (sym (key_is k parts.1)) ∙ ring ∙ ap (λ (j : DbKey). members_of eb s (Rec j)) (same_owner k parts.1)

  pub same_users : (a : ℕ) → by_unit (range_with_len 1 n) (db.usage a) ≡ by_unit (range_with_len 1 n) (eb.usage a)
  same_users a =
      ⊎_elim
      (λ low. same_by_unit schema capacity n db eb a (same (Usage a) (lt-ltb a (length schema.areas) low)))
      (λ high. ap (by_unit (range_with_len 1 n)) (ldb.no_area a high ∙ sym (leb.no_area a high)))
      (cases_lt a (length schema.areas))

module _ (schema : Lists) (capacity n : ℕ) (db eb : Database) (ldb : Legal schema capacity db) (leb : Legal schema capacity eb)
    (same : (c : CellName) → is_cell schema capacity c ≡ true → shown_numbers true n (cell schema capacity db c) ≡ shown_numbers true n (cell schema capacity eb c)) where
  pub same_records : (k : DbKey) → db.records k ≡ eb.records k
  same_records k =
      elim (cases_Bool (is_live db k)) [
        | inl h ↦ live_same schema capacity n db eb ldb leb same k h
        | inr h ↦ elim (cases_Bool (is_live eb k)) [
          | inl g ↦ sym (live_same schema capacity n eb db leb ldb (λ c there. sym (same c there)) k g)
          | inr g ↦ none_is (db.records k) h ∙ sym (none_is (eb.records k) g)
        ]
      ]

  same_occurrence : (s : ℕ) (o : Owner) → has_occurrence schema db s o ≡ has_occurrence schema eb s o
  same_occurrence s System = refl
  same_occurrence s (Rec k) = ap (λ (r : Option Record). owns schema s k.rtype && is_some r) (same_records k)

  pub same_lists : (s : ℕ) (o : Owner) → db.lists s o ≡ eb.lists s o
  same_lists s o =
      elim (cases_Bool (has_occurrence schema db s o)) [
        | inl h ↦ list_same (db.lists s o) (eb.lists s o) (ldb.pairs s o ∙ h) (leb.pairs s o ∙ sym (same_occurrence s o) ∙ h) (same_members schema capacity n db eb ldb leb same s o h)
        | inr h ↦ none_is (db.lists s o) (ldb.pairs s o ∙ h) ∙ sym (none_is (eb.lists s o) (leb.pairs s o ∙ sym (same_occurrence s o) ∙ h))
      ]

-- the cells say the same if the states are the same but for the order of opening
pub cells_same : (schema : Lists) (capacity n : ℕ) (one other : State) → unordered one ≡ unordered other → (c : CellName) → shown_numbers true n (cell schema capacity one.database c) ≡ shown_numbers true n (cell schema capacity other.database c)
unfolding cell
cells_same schema capacity n one other e (Usage a) = λ i. flat_map user_numbers (flat_map (λ u. (e i).uses a u) (range_with_len 1 n))
cells_same schema capacity n one other e (Extent t) = λ i. shown_numbers true n (cell schema capacity (record { records = (e i).records; lists = (e i).lists; last = (e i).last; usage = one.database.usage }) (Extent t))
cells_same schema capacity n one other e (Ring s w) = λ i. shown_numbers true n (cell schema capacity (record { records = (e i).records; lists = (e i).lists; last = (e i).last; usage = one.database.usage }) (Ring s w))
cells_same schema capacity n one other e (Slot t k) = λ i. shown_numbers true n (cell schema capacity (record { records = (e i).records; lists = (e i).lists; last = (e i).last; usage = one.database.usage }) (Slot t k))
