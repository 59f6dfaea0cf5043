-- What a held cell says of every legal database that has it so.
use Rattle.std.proofs.Common.{◌≡◌, refl, sym, ◌∙◌, ap, subst, ℕ, zero, suc, ◌+◌, ◌<◌, ◌≤◌, true, false, cond, List, [], ◌∷◌, length, Option, Some, None, arith, eqb, inl, inr, ⊎_elim, map}
use Rattle.std.specs.Prelude.{◌==◌, is_some, option_map, option_and_then, unwrap_or, slice_get, if◌then◌else◌}
use Rattle.std.specs.List.{range_with_len}
use Rattle.std.proofs.lemmas.Bool.{and_parts, cases_Bool, false≢true, eqb-true, eq-eqb, cases_lt, false_from_ne_true, cond-true, cond-false}
use Rattle.std.proofs.lemmas.Option.{none-some, same_Some, slice_get-map, slice_get_past}
use Rattle.std.proofs.lemmas.List.FromFn.{length-map-range_with_len}
use Rattle.dbtg_schema.specs.Lists.{Lists}
use Rattle.dbtg_schema.proofs.Public.{none_is}
use Rattle.dbtg_cells.specs.declared.key.DbKey.{DbKey}
use Rattle.dbtg_cells.specs.declared.key.Owner.{Owner}
use Rattle.dbtg_cells.specs.declared.key.Owner.TheVariants.{System, Rec}
use Rattle.dbtg_cells.specs.declared.key.Value.{Value}
use Rattle.dbtg_cells.specs.declared.name.CellName.{CellName}
use Rattle.dbtg_cells.specs.declared.name.CellName.TheVariants.{Extent, Ring, Slot}
use Rattle.dbtg_cells.specs.declared.cell.Cell.{Cell}
use Rattle.dbtg_cells.specs.declared.extent.Number.{Number}
use Rattle.dbtg_cells.specs.declared.ring.Occurrence.{Occurrence}
use Rattle.dbtg_cells.specs.declared.slot.Stored.{Stored}
use Rattle.dbtg_cells.specs.Cells.{shown}
use Rattle.dbtg_cells.specs.Keys.{owner_eq}
use Rattle.dbtg_cells.specs.Names.{name_eq}
use Rattle.dbtg_cells.specs.Shown.{ExtentValue, RingValue, SlotValue}
use Rattle.dbtg_cells.proofs.Public.{owner_eq_refl, same_name, same_owner}
use Rattle.dbtg_unit.specs.Database.State.Base.{Database, Record, is_live, key_at, members_of, calc_items, sort_key}
use Rattle.dbtg_unit.specs.Database.State.Units.{owners_of}
use Rattle.dbtg_unit.specs.Database.State.CellNames.{place_of}
use Rattle.dbtg_unit.specs.Database.State.Cells.{cell, number_of, ring_of, slot_of, owner_at}
use Rattle.dbtg_unit.specs.Hands.Hands.{cell_of}
use Rattle.dbtg_unit.specs.Database.State.Legal.{Legal, has_occurrence}
use Rattle.dbtg_unit.specs.Hands.Local.{AllAgree, holds}
use Rattle.dbtg_unit.proofs.Database.Records.Determined.{extent_in, ring_in, slot_in, record_in}
use Rattle.dbtg_unit.proofs.Database.Records.LiveKeys.{live_is_latest}

-- NAMES

-- a held cell is the database's
pub held_cell_agrees : (schema : Lists) (capacity : ℕ) (db : Database) (cells : List (CellName × Cell)) (c : CellName) (x : Cell) → AllAgree schema capacity db cells → cell_of c cells ≡ Some x → shown x ≡ cell schema capacity db c
held_cell_agrees schema capacity db [] c x agree h = absurd (none-some x h)
held_cell_agrees schema capacity db (e ∷ es) c x agree h =
    elim (cases_Bool (name_eq c e.0)) [
      | inl same ↦
          let is : e.1 ≡ x = same_Some e.1 x (subst (λ b. cond b (Some e.1) (cell_of c es) ≡ Some x) same h) in
          ap shown (sym is) ∙ agree.0 ∙ ap (cell schema capacity db) (sym (same_name c e.0 same))
      | inr other ↦ held_cell_agrees schema capacity db es c x agree.1 (subst (λ b. cond b (Some e.1) (cell_of c es) ≡ Some x) other h)
    ]

-- and is there
pub held_is_there : (cells : List (CellName × Cell)) (c : CellName) → holds cells c ≡ true → (x : Cell) × (cell_of c cells ≡ Some x)
held_is_there [] c h = absurd (false≢true h)
held_is_there (e ∷ es) c h =
    elim (cases_Bool (name_eq c e.0)) [
      | inl same ↦ (e.1, ap (λ b. cond b (Some e.1) (cell_of c es)) same)
      | inr other ↦ let r = held_is_there es c (subst (λ b. cond b true (holds es c) ≡ true) other h) in (r.0, ap (λ b. cond b (Some e.1) (cell_of c es)) other ∙ r.1)
    ]

-- WHAT THE VALUE OF A CELL SAYS

-- the list of an owner in the occurrence of a ring
abbrev pub list_in : Option Occurrence → Owner → Option (List DbKey)
list_in None o = None
list_in (Some occurrence) o = if owner_eq occurrence.owner o then Some (map (λ (m : DbKey × Option Value). m.0) occurrence.members) else None

-- the record with a key in a slot
abbrev pub record_at : Option Stored → DbKey → Option Record
record_at None k = None
record_at (Some stored) k = if stored.generation == k.generation then Some (record_in stored) else None

-- the last generation of a number in an extent
abbrev pub last_in : List Number → ℕ → ℕ
last_in numbers zero = 0
last_in numbers (suc n) = unwrap_or (option_map (λ (m : Number). m.last) (slice_get numbers n)) 0

-- the CALC values of a live key in an extent
abbrev pub calc_at : Number → DbKey → Option (List Value)
calc_at m k = if m.last == k.generation then m.calc else None

abbrev pub calc_in : List Number → ℕ → DbKey → Option (List Value)
calc_in numbers zero k = None
calc_in numbers (suc n) k = option_and_then (λ (m : Number). calc_at m k) (slice_get numbers n)

-- keys set beside their sort keys, and taken again
pub firsts_pairs : (f : DbKey → Option Value) (xs : List DbKey) → map (λ (m : DbKey × Option Value). m.0) (map (λ x. (x, f x)) xs) ≡ xs
firsts_pairs f [] = refl
firsts_pairs f (x ∷ xs) = ap (λ ys. x ∷ ys) (firsts_pairs f xs)

-- the number at an index of the numbers from a on
pub slice_get_range : (n a i : ℕ) → i < n → slice_get (range_with_len a n) i ≡ Some (a + i)
slice_get_range zero a i h = absurd (omega arith)
slice_get_range (suc n) a zero h = ap Some (omega arith)
slice_get_range (suc n) a (suc i) h = slice_get_range n (a + 1) i (omega arith) ∙ ap Some (omega arith)

no_calc : (m : Number) (g : ℕ) → eqb m.last g ≡ false → cond (eqb m.last g) m.calc None ≡ None
no_calc m g h = ap (λ b. cond b m.calc None) h

module _ (schema : Lists) (capacity : ℕ) (db : Database) (legal : Legal schema capacity db) where
  -- an owner who has an occurrence stands at its place
  standing : (s : ℕ) (o : Owner) → has_occurrence schema db s o ≡ true → owner_at db (place_of o) ≡ o
  standing s System h = refl
  standing s (Rec k) h = ap Rec (live_is_latest schema capacity db legal k (and_parts _ _ h).1)

  pub ring_reads : (s : ℕ) (o : Owner) (occurrence : Option Occurrence) → RingValue occurrence ≡ cell schema capacity db (Ring s (place_of o)) → db.lists s o ≡ list_in occurrence o
  unfolding cell
  ring_reads s o occurrence h =
      let p = owner_at db (place_of o) in
      let is : occurrence ≡ option_map (ring_of schema db s p) (db.lists s p) = ap ring_in h in
      elim (cases_Bool (owner_eq p o)) [
        | inl same ↦
            let e : p ≡ o = same_owner p o same in
            ap (db.lists s) (sym e) ∙ here p same (db.lists s p) ∙ ap (λ (r : Option Occurrence). list_in r o) (sym is)
        | inr other ↦
            none_is (db.lists s o) (legal.pairs s o ∙ false_from_ne_true _ (λ has. absurd (false≢true (sym other ∙ ap (λ (q : Owner). owner_eq q o) (standing s o has) ∙ owner_eq_refl o))))
            ∙ there p other (db.lists s p) ∙ ap (λ (r : Option Occurrence). list_in r o) (sym is)
      ] where
        here : (p : Owner) → owner_eq p o ≡ true → (l : Option (List DbKey)) → l ≡ list_in (option_map (ring_of schema db s p) l) o
        here p same None = refl
        here p same (Some list) = sym (cond-true _ _ _ same ∙ ap Some (firsts_pairs (sort_key schema db s) list))

        there : (p : Owner) → owner_eq p o ≡ false → (l : Option (List DbKey)) → None ≡ list_in (option_map (ring_of schema db s p) l) o
        there p other None = refl
        there p other (Some list) = sym (cond-false _ _ _ other)

  -- the sort keys in a ring
  pub ring_keys_read : (s : ℕ) (o : Owner) (occurrence : Occurrence) → RingValue (Some occurrence) ≡ cell schema capacity db (Ring s (place_of o)) → owner_eq occurrence.owner o ≡ true
      → occurrence.members ≡ map (λ k. (k, sort_key schema db s k)) (members_of db s o)
  unfolding cell
  ring_keys_read s o occurrence h same =
      let p = owner_at db (place_of o) in
      found_in p (db.lists s p) (ap ring_in h) refl where
        found_in : (p : Owner) (l : Option (List DbKey)) → Some occurrence ≡ option_map (ring_of schema db s p) l → db.lists s p ≡ l → occurrence.members ≡ map (λ k. (k, sort_key schema db s k)) (members_of db s o)
        found_in p None h e = absurd (none-some occurrence (sym h))
        found_in p (Some list) h e =
            let is : occurrence ≡ ring_of schema db s p list = same_Some occurrence _ h in
            let owner : p ≡ o = sym (ap (λ (r : Occurrence). r.owner) is) ∙ same_owner occurrence.owner o same in
            ap (λ (r : Occurrence). r.members) is ∙ ap (λ (l : Option (List DbKey)). map (λ k. (k, sort_key schema db s k)) (unwrap_or l [])) (sym e ∙ ap (db.lists s) owner)

  pub slot_reads : (k : DbKey) (slot : Option Stored) → SlotValue slot ≡ cell schema capacity db (Slot k.rtype k.number) → db.records k ≡ record_at slot k
  unfolding cell
  slot_reads k slot h =
      let x = key_at db k.rtype k.number in
      let is : slot ≡ option_map (slot_of schema capacity db x) (db.records x) = ap slot_in h in
      elim (cases_Bool (eqb (db.last k.rtype k.number) k.generation)) [
        | inl same ↦
            let e : x ≡ k = λ i. record { rtype = k.rtype; number = k.number; generation = eqb-true _ _ same i } in
            ap db.records (sym e) ∙ here same (db.records x) ∙ ap (λ (r : Option Stored). record_at r k) (sym is)
        | inr other ↦
            none_is (db.records k) (false_from_ne_true _ (λ live. absurd (false≢true (sym other ∙ eq-eqb _ _ (sym (legal.keys k live).4)))))
            ∙ there other (db.records x) ∙ ap (λ (r : Option Stored). record_at r k) (sym is)
      ] where
        here : eqb (db.last k.rtype k.number) k.generation ≡ true → (r : Option Record) → r ≡ record_at (option_map (slot_of schema capacity db (key_at db k.rtype k.number)) r) k
        here same None = refl
        here same (Some r) = sym (cond-true _ _ _ same)

        there : eqb (db.last k.rtype k.number) k.generation ≡ false → (r : Option Record) → None ≡ record_at (option_map (slot_of schema capacity db (key_at db k.rtype k.number)) r) k
        there other None = refl
        there other (Some r) = sym (cond-false _ _ _ other)

  -- the owners of the record in a slot
  pub slot_owners_read : (k : DbKey) (stored : Stored) → SlotValue (Some stored) ≡ cell schema capacity db (Slot k.rtype k.number) → eqb stored.generation k.generation ≡ true → stored.owners ≡ owners_of schema capacity db k
  unfolding cell
  slot_owners_read k stored h same = found_in (db.records (key_at db k.rtype k.number)) (ap slot_in h) where
    found_in : (r : Option Record) → Some stored ≡ option_map (slot_of schema capacity db (key_at db k.rtype k.number)) r → stored.owners ≡ owners_of schema capacity db k
    found_in None h = absurd (none-some stored (sym h))
    found_in (Some r) h =
        let is : stored ≡ slot_of schema capacity db (key_at db k.rtype k.number) r = same_Some stored _ h in
        let e : key_at db k.rtype k.number ≡ k = λ i. record { rtype = k.rtype; number = k.number; generation = (sym (ap (λ (x : Stored). x.generation) is) ∙ eqb-true _ _ same) i } in
        ap (λ (x : Stored). x.owners) is ∙ ap (owners_of schema capacity db) e

  module _ (t : ℕ) (numbers : List Number) (h : ExtentValue numbers ≡ cell schema capacity db (Extent t)) where
    numbers_are : numbers ≡ map (number_of schema db t) (range_with_len 1 capacity)
    unfolding cell
    numbers_are = ap extent_in h

    pub extent_length : length numbers ≡ capacity
    extent_length = ap length numbers_are ∙ length-map-range_with_len (number_of schema db t) 1 capacity

    -- the number at a place
    pub number_reads : (n : ℕ) → n < capacity → slice_get numbers n ≡ Some (number_of schema db t (suc n))
    number_reads n below =
        ap (λ ns. slice_get ns n) numbers_are ∙ slice_get-map (number_of schema db t) (range_with_len 1 capacity) n
        ∙ ap (option_map (number_of schema db t)) (slice_get_range capacity 1 n below) ∙ ap (λ m. Some (number_of schema db t m)) (omega arith)

    number_past : (n : ℕ) → capacity ≤ n → slice_get numbers n ≡ None
    number_past n above = let long = extent_length in slice_get_past numbers n (omega arith)

    pub last_reads : (n : ℕ) → db.last t n ≡ last_in numbers n
    last_reads zero = legal.no_number t 0 (inr (inl refl))
    last_reads (suc n) =
        ⊎_elim
        (λ below. sym (ap (λ (m : Option Number). unwrap_or (option_map (λ (x : Number). x.last) m) 0) (number_reads n below)))
        (λ above. legal.no_number t (suc n) (inr (inr (omega arith))) ∙ sym (ap (λ (m : Option Number). unwrap_or (option_map (λ (x : Number). x.last) m) 0) (number_past n above)))
        (cases_lt n capacity)

    -- the CALC values of a key of the type, where it is live
    pub calc_reads : (k : DbKey) → k.rtype ≡ t → option_map (λ (r : Record). calc_items schema t r.items) (db.records k) ≡ calc_in numbers k.number k
    calc_reads k is_t = by_number k.number refl where
      dead : is_live db k ≡ false → option_map (λ (r : Record). calc_items schema t r.items) (db.records k) ≡ None
      dead not_live = ap (option_map (λ (r : Record). calc_items schema t r.items)) (none_is (db.records k) not_live)

      by_number : (n : ℕ) → k.number ≡ n → option_map (λ (r : Record). calc_items schema t r.items) (db.records k) ≡ calc_in numbers n k
      by_number zero e = dead (false_from_ne_true _ (λ live. let low = (legal.keys k live).1 in absurd (omega arith)))
      by_number (suc n) e =
          ⊎_elim
          (λ below. within n e below ∙ sym (ap (option_and_then (λ (m : Number). calc_at m k)) (number_reads n below)))
          (λ above. dead (false_from_ne_true _ (λ live. let high = (legal.keys k live).2 in absurd (omega arith))) ∙ sym (ap (option_and_then (λ (m : Number). calc_at m k)) (number_past n above)))
          (cases_lt n capacity) where
            within : (n : ℕ) → k.number ≡ suc n → n < capacity → option_map (λ (r : Record). calc_items schema t r.items) (db.records k) ≡ calc_at (number_of schema db t (suc n)) k
            within n e below =
                elim (cases_Bool (eqb (db.last t (suc n)) k.generation)) [
                  | inl same ↦
                      let x : key_at db t (suc n) ≡ k = λ i. record { rtype = sym is_t i; number = sym e i; generation = eqb-true _ _ same i } in
                      ap (λ (y : DbKey). option_map (λ (r : Record). calc_items schema t r.items) (db.records y)) (sym x) ∙ sym (cond-true _ _ _ same)
                  | inr other ↦
                      dead (false_from_ne_true _ (λ live. absurd (false≢true (sym other ∙ eq-eqb _ _ (sym ((legal.keys k live).4 ∙ (λ i. db.last (is_t i) (e i))))))))
                      ∙ sym (cond-false _ _ _ other)
                ]

    -- whether a key of the type is live
    pub live_reads : (k : DbKey) → k.rtype ≡ t → is_live db k ≡ is_some (calc_in numbers k.number k)
    live_reads k is_t = sym (is_some_map (db.records k)) ∙ ap is_some (calc_reads k is_t) where
      is_some_map : (o : Option Record) → is_some (option_map (λ (r : Record). calc_items schema t r.items) o) ≡ is_some o
      is_some_map None = refl
      is_some_map (Some r) = refl
