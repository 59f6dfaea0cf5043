-- The cells of a legal database determine it.
use Rattle.std.proofs.Common.{◌≡◌, refl, sym, ◌∙◌, ap, ℕ, ◌+◌, ◌-◌, ◌<◌, ◌≤◌, true, ◌&&◌, List, [], ◌∷◌, length, Option, Some, None, inl, inr, ⊎_elim, ◌⊎◌, arith, map, get_or}
use Rattle.std.specs.Prelude.{is_some, option_map}
use Rattle.std.proofs.lemmas.Bool.{and_parts, and_from, lt-ltb, le-leb, cases_Bool, cases_lt}
use Rattle.std.proofs.lemmas.List.FromFn.{get_or-map-range_with_len}
use Rattle.dbtg_schema.specs.Lists.{Lists}
use Rattle.dbtg_cells.specs.declared.key.DbKey.{DbKey}
use Rattle.dbtg_cells.specs.declared.key.Owner.{Owner}
use Rattle.dbtg_cells.specs.declared.key.Owner.TheVariants.{System, Rec}
use Rattle.dbtg_cells.specs.declared.name.CellName.{CellName}
use Rattle.dbtg_cells.specs.declared.name.CellName.TheVariants.{Usage, Extent, Ring, Slot}
use Rattle.dbtg_cells.specs.Shown.{CellValue}
use Rattle.dbtg_cells.specs.Shown.{UsageValue, ExtentValue, RingValue, SlotValue}
use Rattle.dbtg_cells.specs.declared.extent.Number.{Number}
use Rattle.dbtg_cells.specs.declared.ring.Occurrence.{Occurrence}
use Rattle.dbtg_cells.specs.declared.slot.Stored.{Stored}
use Rattle.dbtg_cells.specs.declared.usage.Mode.{Mode}
use Rattle.dbtg_unit.specs.Database.State.Base.{Database, Record, is_live, key_at}
use Rattle.dbtg_unit.specs.Database.State.Cells.{cell, number_of, ring_of, slot_of, owner_at}
use Rattle.dbtg_unit.specs.Database.State.Legal.{Legal, has_occurrence}
use Rattle.dbtg_unit.specs.Database.State.CellNames.{place_of}
use Rattle.dbtg_cells.specs.CellNumbers.{is_cell}
use Rattle.dbtg_schema.specs.Structure.{owns}
use Rattle.dbtg_schema.proofs.Public.{none_is}

abbrev pub usage_in : CellValue → List (ℕ × Mode)
usage_in (UsageValue l) = l
usage_in _ = []

abbrev pub extent_in : CellValue → List Number
extent_in (ExtentValue l) = l
extent_in _ = []

abbrev pub ring_in : CellValue → Option Occurrence
ring_in (RingValue r) = r
ring_in _ = None

abbrev pub slot_in : CellValue → Option Stored
slot_in (SlotValue r) = r
slot_in _ = None

abbrev pub record_in : Stored → Record
record_in r = record { items = r.items; version = r.version }

firsts : {A B : Type 0} → List (A × B) → List A
firsts [] = []
firsts (e ∷ es) = e.0 ∷ firsts es

firsts_map : {A B : Type 0} (f : A → B) (xs : List A) → firsts (map (λ x. (x, f x)) xs) ≡ xs
unfolding firsts
firsts_map f [] = refl
firsts_map f (x ∷ xs) = ap (λ ys. x ∷ ys) (firsts_map f xs)

back : {X Y : Type 0} (f : X → Y) (g : Y → X) → ((x : X) → g (f x) ≡ x) → (o : Option X) → option_map g (option_map f o) ≡ o
back f g h None = refl
back f g h (Some x) = ap Some (h x)

module _ (schema : Lists) (capacity : ℕ) (db eb : Database) (ldb : Legal schema capacity db) (leb : Legal schema capacity eb)
    (same : (c : CellName) → is_cell schema capacity c ≡ true → cell schema capacity db c ≡ cell schema capacity eb c) where
  same_usage : (a : ℕ) → db.usage a ≡ eb.usage a
  unfolding cell
  same_usage a =
      ⊎_elim (λ h. ap usage_in (same (Usage a) (lt-ltb _ _ h))) (λ h. ldb.no_area a h ∙ sym (leb.no_area a h)) (cases_lt a (length schema.areas))

  same_last : (t n : ℕ) → db.last t n ≡ eb.last t n
  unfolding cell
  same_last t n =
      ⊎_elim
      (λ ht. ⊎_elim
      (λ hn. ⊎_elim
      (λ hc. ap (λ (m : Number). m.last)
      (sym (get_or-map-range_with_len (number_of schema db t) 1 capacity (n - 1) n (number_of schema db t n) (omega arith) (omega arith))
      ∙ ap (λ l. get_or l (n - 1) (number_of schema db t n)) (ap extent_in (same (Extent t) (lt-ltb _ _ ht)))
      ∙ get_or-map-range_with_len (number_of schema eb t) 1 capacity (n - 1) n (number_of schema db t n) (omega arith) (omega arith)))
      (λ hc. out (inr (inr (omega arith))))
      (cases_lt n (capacity + 1)))
      (λ hn. out (inr (inl (omega arith))))
      (cases_lt 0 n))
      (λ ht. out (inl ht))
      (cases_lt t (length schema.types)) where
        out : (length schema.types ≤ t) ⊎ (n ≡ 0) ⊎ (capacity < n) → db.last t n ≡ eb.last t n
        out h = ldb.no_number t n h ∙ sym (leb.no_number t n h)

  same_key_at : (t n : ℕ) → key_at db t n ≡ key_at eb t n
  same_key_at t n = λ i. record { rtype = t; number = n; generation = same_last t n i }

  same_at : (t n : ℕ) → t < length schema.types → 0 < n → n ≤ capacity → db.records (key_at db t n) ≡ eb.records (key_at eb t n)
  unfolding cell
  same_at t n ht hn hc =
      sym (back (slot_of schema capacity db (key_at db t n)) record_in (λ r. refl) (db.records (key_at db t n)))
      ∙ ap (option_map record_in) (ap slot_in (same (Slot t n) (and_from _ _ (lt-ltb _ _ ht) (and_from _ _ (lt-ltb _ _ hn) (le-leb _ _ hc)))))
      ∙ back (slot_of schema capacity eb (key_at eb t n)) record_in (λ r. refl) (eb.records (key_at eb t n))

  -- a live key is its number's latest
  latest : (d : Database) → Legal schema capacity d → (k : DbKey) → is_live d k ≡ true → k ≡ key_at d k.rtype k.number
  latest d ld k h = λ i. record { rtype = k.rtype; number = k.number; generation = (ld.keys k h).4 i }

  same_records : (k : DbKey) → db.records k ≡ eb.records k
  same_records k =
      elim (cases_Bool (is_live db k)) [
        | inl h ↦
            let at : k ≡ key_at db k.rtype k.number = latest db ldb k h in
            let r = ldb.keys k h in
            ap db.records at ∙ same_at k.rtype k.number r.0 r.1 r.2 ∙ ap eb.records (sym (at ∙ same_key_at k.rtype k.number))
        | inr h ↦ elim (cases_Bool (is_live eb k)) [
          | inl g ↦
              let at : k ≡ key_at eb k.rtype k.number = latest eb leb k g in
              let r = leb.keys k g in
              ap db.records (at ∙ sym (same_key_at k.rtype k.number)) ∙ same_at k.rtype k.number r.0 r.1 r.2 ∙ ap eb.records (sym at)
          | inr g ↦ none_is (db.records k) h ∙ sym (none_is (eb.records k) g)
        ]
      ]

  same_live : (k : DbKey) → is_live db k ≡ is_live eb k
  same_live k = ap is_some (same_records k)

  same_occurrence : (s : ℕ) (o : Owner) → has_occurrence schema db s o ≡ has_occurrence schema eb s o
  same_occurrence s System = refl
  same_occurrence s (Rec k) = ap (λ b. owns schema s k.rtype && b) (same_live k)

  -- an owner with an occurrence stands at a place
  standing : (s : ℕ) (o : Owner) → has_occurrence schema db s o ≡ true → owner_at db (place_of o) ≡ o
  standing s System h = refl
  standing s (Rec k) h = ap Rec (sym (latest db ldb k (and_parts _ _ h).1))

  same_owner_at : (q : Option (ℕ × ℕ)) → owner_at db q ≡ owner_at eb q
  same_owner_at None = refl
  same_owner_at (Some p) = ap Rec (same_key_at p.0 p.1)

  members_in : Occurrence → List DbKey
  members_in r = firsts r.members

  same_lists : (s : ℕ) (o : Owner) → db.lists s o ≡ eb.lists s o
  unfolding members_in cell
  same_lists s o =
      elim (cases_Bool (has_occurrence schema db s o)) [
        | inl h ↦
            let at = standing s o h in
            ap (db.lists s) (sym at)
            ∙ sym (back (ring_of schema db s (owner_at db (place_of o))) members_in (λ list. firsts_map _ list) (db.lists s (owner_at db (place_of o))))
            ∙ ap (option_map members_in) (ap ring_in (same (Ring s (place_of o)) (is_ring s o h)))
            ∙ back (ring_of schema eb s (owner_at eb (place_of o))) members_in (λ list. firsts_map _ list) (eb.lists s (owner_at eb (place_of o)))
            ∙ ap (eb.lists s) (sym (same_owner_at (place_of o)) ∙ at)
        | inr h ↦ none_is (db.lists s o) (ldb.pairs s o ∙ h) ∙ sym (none_is (eb.lists s o) (leb.pairs s o ∙ sym (same_occurrence s o) ∙ h))
      ] where
        is_ring : (s : ℕ) (o : Owner) → has_occurrence schema db s o ≡ true → is_cell schema capacity (Ring s (place_of o)) ≡ true
        is_ring s System h = h
        is_ring s (Rec k) h =
            let parts = and_parts _ _ h in
            let facts = ldb.keys k parts.1 in
            and_from _ _ parts.0 (and_from _ _ (lt-ltb _ _ facts.1) (le-leb _ _ facts.2))

  pub cells_determine : db ≡ eb
  cells_determine = λ i. record { records = λ k. same_records k i; lists = λ s o. same_lists s o i; last = λ t n. same_last t n i; usage = λ a. same_usage a i }
