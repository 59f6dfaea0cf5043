-- MODIFY changes the cells by its edits, and no other cell.
use Rattle.std.proofs.Common.{◌⊎◌, ◌≡◌, refl, sym, ◌∙◌, ap, subst, ℕ, ◌+◌, ◌<◌, Bool, true, false, cond, not, ◌&&◌, ◌||◌, List, [], ◌∷◌, ◌++◌, Option, Some, None, map, length, arith, eqb, inl, inr, get_or-set_other}
use Rattle.std.specs.Prelude.{is_some, option_map, option_and_then, unwrap_or, slice_index_or, slice_set, slice_get}
use Rattle.std.specs.List.{find, list_any, range_with_len, flat_map}
use Rattle.std.proofs.lemmas.Bool.{and_parts, and_from, cases_Bool, eqb-true, eq-eqb, eqb-false, false≢true, false_from_ne_true, or_parts, ne_eqb}
use Rattle.dbtg_schema.specs.Lists.{Lists}
use Rattle.dbtg_schema.specs.Lookups.{some_and}
use Rattle.dbtg_schema.specs.Structure.{order_of, set_numbers, rekeyed_sets, member_clause}
use Rattle.dbtg_schema.specs.declared.shape.Member.{Member}
use Rattle.dbtg_schema.specs.declared.shape.SetType.{SetType}
use Rattle.dbtg_cells.specs.declared.key.DbKey.{DbKey}
use Rattle.dbtg_cells.specs.declared.key.Owner.{Owner}
use Rattle.dbtg_cells.specs.declared.key.Value.{Value}
use Rattle.dbtg_cells.specs.declared.key.Value.TheVariants.{Num}
use Rattle.dbtg_cells.specs.declared.name.CellName.{CellName}
use Rattle.dbtg_cells.specs.declared.name.CellName.TheVariants.{Usage, Extent, Ring, Slot}
use Rattle.dbtg_cells.specs.Shown.{CellValue, ExtentValue, RingValue, SlotValue}
use Rattle.dbtg_cells.specs.Keys.{key_eq}
use Rattle.dbtg_cells.specs.Names.{name_eq, place_eq}
use Rattle.dbtg_cells.specs.Placed.{placed}
use Rattle.dbtg_cells.proofs.Public.{any_map, index_within, key_eq_refl, place_eq_refl, same_key, same_place}
use Rattle.dbtg_unit.specs.declared.statement.Change.{Change}
use Rattle.dbtg_unit.specs.declared.edit.Edit.{Edit}
use Rattle.dbtg_unit.specs.declared.edit.Edit.TheVariants.{ChangeNumber, ReplaceMember, ChangeItems, RaiseVersion}
use Rattle.dbtg_unit.specs.declared.edit.CellEdit.{CellEdit}
use Rattle.dbtg_unit.specs.declared.unit.Unit.{Unit}
use Rattle.dbtg_unit.specs.Database.State.Base.{Database, Record, is_live, items_of, members_of, is_member, owner_of, sort_key, key_item, key_at, calc_items}
use Rattle.dbtg_unit.specs.Database.State.Units.{place_in, owners_of}
use Rattle.dbtg_unit.specs.Database.Statements.Effect.{modified, with_items, with_its_items, changed_items, names_calc, next_version, joined, without}
use Rattle.dbtg_unit.specs.Database.Statements.StoredFacts.{whole}
use Rattle.dbtg_unit.specs.Database.State.Legal.{Legal}
use Rattle.dbtg_unit.specs.Database.State.Cells.{cell, owner_at, slot_of, ring_of, number_of}
use Rattle.dbtg_unit.specs.Database.State.CellNames.{place_of}
use Rattle.dbtg_unit.specs.Hands.Edits.{edited_at, edited, revalued, with_number, with_members, members_without, member_spot, with_stored_items, with_next_version}
use Rattle.dbtg_unit.specs.Hands.EditsOf.{modify_edits, replacing_edits, slot_edit}
use Rattle.dbtg_unit.proofs.Lists.Listing.{any_placed}
use Rattle.dbtg_unit.proofs.Lists.PlacedMaps.{map_filter}
use Rattle.dbtg_unit.proofs.Hands.Changes.InsertCells.{ring_placed}
use Rattle.dbtg_unit.proofs.Hands.Changes.RemoveCells.{without_gone}
use Rattle.dbtg_unit.proofs.Hands.Untouched.LocalRemove.{owner_at_place, member_without}
use Rattle.dbtg_unit.proofs.Hands.Changes.RangeMaps.{map_range_changed}
use Rattle.dbtg_unit.proofs.Database.Records.OwnersFound.{latest, owner_stands_at_place, member_owner_found, owner_has_member, owner_of_by_members, member_has_list}
use Rattle.dbtg_unit.proofs.Lists.WithANewMember.{pairwise_filter}
use Rattle.dbtg_unit.proofs.Hands.Changes.EditsInTurn.{edited_at_append, edits_miss, edits_hit, has_number, range_distinct, has_number_filter, has_number_range}
use Rattle.dbtg_unit.proofs.Database.Records.ItemsAfterModify.{same_calc_items}

-- an item that is not named stays
pub changed_items_else : (changes : List Change) (items : List Value) (i : ℕ) (other : Value) → list_any (λ c. eqb c.item i) changes ≡ false → slice_index_or (changed_items changes items) i other ≡ slice_index_or items i other
changed_items_else [] items i other h = refl
changed_items_else (c ∷ changes) items i other h =
    let hs = or_parts (eqb c.item i) (list_any (λ c. eqb c.item i) changes) h in
    changed_items_else changes (slice_set items c.item c.value) i other hs.1
    ∙ get_or-set_other items c.item i c.value other (λ same. eqb-false c.item i hs.0 (sym same))

-- the key item of a set stays where it is not named
key_item_else : (schema : Lists) (s t : ℕ) (changes : List Change) (items : List Value)
    → some_and (λ (m : Member). some_and (λ i. list_any (λ j. eqb j i) (map (λ c. c.item) changes)) m.key) (member_clause schema s t) ≡ false
    → key_item schema s t (changed_items changes items) ≡ key_item schema s t items
key_item_else schema s t changes items h =
    elim (member_clause schema s t) as (λ o. some_and (λ (m : Member). some_and (λ i. list_any (λ j. eqb j i) (map (λ c. c.item) changes)) m.key) o ≡ false
    → option_and_then (λ (m : Member). option_map (λ i. slice_index_or (changed_items changes items) i (Num 0)) m.key) o ≡ option_and_then (λ (m : Member). option_map (λ i. slice_index_or items i (Num 0)) m.key) o) [
      | None ↦ λ h. refl
      | Some m ↦ elim m.key as (λ key. some_and (λ i. list_any (λ j. eqb j i) (map (λ c. c.item) changes)) key ≡ false
          → option_map (λ i. slice_index_or (changed_items changes items) i (Num 0)) key ≡ option_map (λ i. slice_index_or items i (Num 0)) key) [
            | None ↦ λ h. refl
            | Some i ↦ λ h. ap Some (changed_items_else changes items i (Num 0) (sym (any_map (λ (c : Change). c.item) (λ j. eqb j i) changes) ∙ h))
          ]
    ] h

module _ (schema : Lists) (capacity : ℕ) (db : Database) (unit : Unit) (changes : List Change) (k : DbKey) (legal : Legal schema capacity db) (live : is_live db k ≡ true) where
  abbrev pub new : Database
  new = (modified schema capacity db unit changes k).database

  abbrev pub new_items : List Value
  new_items = changed_items changes (items_of db k)

  abbrev pub changed_db : Database
  changed_db = with_items db k new_items

  abbrev pub rekeyed : List ℕ
  rekeyed = rekeyed_sets schema k.rtype (map (λ c. c.item) changes)

  -- RECORDS

  records_else : (x : DbKey) → key_eq k x ≡ false → new.records x ≡ db.records x
  records_else x e = rw e refl

  records_here : new.records k ≡ option_map next_version (option_map (with_its_items new_items) (db.records k))
  records_here = rw (key_eq_refl k) refl

  -- MEMBERS

  member_same : (x : DbKey) (s : ℕ) (o : Owner) → is_member x (members_of new s o) ≡ is_member x (members_of db s o)
  member_same x s o =
      elim (cases_Bool (has_number s rekeyed && is_member k (members_of db s o))) [
        | inl e ↦
            ap (λ b. is_member x (unwrap_or (cond b (option_map (λ list. joined schema changed_db unit s k (without k list)) (db.lists s o)) (db.lists s o)) [])) e
            ∙ elim (db.lists s o) as (λ l. is_member k (unwrap_or l []) ≡ true → is_member x (unwrap_or (option_map (λ list. joined schema changed_db unit s k (without k list)) l) []) ≡ is_member x (unwrap_or l [])) [
              | None ↦ λ h. refl
              | Some list ↦ λ h. any_placed (key_eq x) _ k (without k list) ∙ back x list h (cases_Bool (key_eq x k))
            ] (and_parts _ _ e).1
        | inr e ↦ ap (λ b. is_member x (unwrap_or (cond b (option_map (λ list. joined schema changed_db unit s k (without k list)) (db.lists s o)) (db.lists s o)) [])) e
      ] where
        back : (x : DbKey) (list : List DbKey) → is_member k list ≡ true → (key_eq x k ≡ true) ⊎ (key_eq x k ≡ false) → (key_eq x k || is_member x (without k list)) ≡ is_member x list
        back x list has (inl e) = ap (λ b. b || is_member x (without k list)) e ∙ sym (subst (λ y. is_member y list ≡ true) (sym (same_key x k e)) has)
        back x list has (inr e) = ap (λ b. b || is_member x (without k list)) e ∙ member_without k x list e

  owners_same : Legal schema capacity new → (x : DbKey) → owners_of schema capacity new x ≡ owners_of schema capacity db x
  owners_same legal_new x = λ i. map (λ s. owner_of_by_members schema capacity db new legal legal_new s x (member_same x s) i) (set_numbers schema)

  -- THE SLOT

  slot_here : Legal schema capacity new → (r : Option Record)
      → option_map (slot_of schema capacity new k) (option_map next_version (option_map (with_its_items new_items) r))
      ≡ option_map with_next_version (option_map (with_stored_items new_items) (option_map (slot_of schema capacity db k) r))
  slot_here legal_new None = refl
  slot_here legal_new (Some r) = λ i. Some (record { generation = k.generation; version = r.version + 1; items = new_items; owners = owners_same legal_new k i })

  is_its_number : ℕ → ℕ → Bool
  is_its_number t n = eqb t k.rtype && eqb n k.number

  key_else : (t n : ℕ) → (eqb t k.rtype && eqb n k.number) ≡ false → key_eq k (key_at db t n) ≡ false
  key_else t n e =
      false_from_ne_true _ (λ h. let same = same_key k (key_at db t n) h in
      false≢true (sym e ∙ and_from _ _ (eq-eqb t k.rtype (sym (ap (λ x. x.rtype) same))) (eq-eqb n k.number (sym (ap (λ x. x.number) same)))))

  slot_made : Legal schema capacity new → (t n : ℕ)
      → cell schema capacity new (Slot t n) ≡ edited_at (Slot t n) (slot_edit k (ChangeItems new_items) ∷ (slot_edit k RaiseVersion ∷ [])) (cell schema capacity db (Slot t n))
  unfolding cell
  slot_made legal_new t n =
      let value = cell schema capacity db (Slot t n) in
      let changed = edited (ChangeItems new_items) value in
      elim (cases_Bool (eqb t k.rtype && eqb n k.number)) [
        | inl e ↦
            let es = and_parts _ _ e in
            let at : key_at db t n ≡ k = (λ i. key_at db (eqb-true t k.rtype es.0 i) (eqb-true n k.number es.1 i)) ∙ latest schema capacity db legal k live in
            (λ i. SlotValue (option_map (slot_of schema capacity new (at i)) (new.records (at i))))
            ∙ ap (λ r. SlotValue (option_map (slot_of schema capacity new k) r)) records_here
            ∙ ap SlotValue (slot_here legal_new (db.records k))
            ∙ (λ i. edited RaiseVersion (edited (ChangeItems new_items) (SlotValue (option_map (slot_of schema capacity db (sym at i)) (db.records (sym at i))))))
            ∙ ap (λ b. cond b (edited RaiseVersion (cond b changed value)) (cond b changed value)) (sym e)
        | inr e ↦
            let x = key_at db t n in
            (λ i. SlotValue (option_map (λ r. record { generation = x.generation; version = r.version; items = r.items; owners = owners_same legal_new x i }) (records_else x (key_else t n e) i)))
            ∙ ap (λ b. cond b (edited RaiseVersion (cond b changed value)) (cond b changed value)) (sym e)
      ]

  -- THE EXTENT

  number_else : (t n : ℕ) → (eqb t k.rtype && eqb n k.number) ≡ false → number_of schema new t n ≡ number_of schema db t n
  number_else t n e = λ i. record { last = db.last t n; calc = option_map (λ (r : Record). calc_items schema t r.items) (records_else (key_at db t n) (key_else t n e) i) }

  calc_here : option_map (λ (r : Record). calc_items schema k.rtype r.items) (new.records (key_at db k.rtype k.number)) ≡ Some (calc_items schema k.rtype new_items)
  calc_here =
      ap (λ x. option_map (λ (r : Record). calc_items schema k.rtype r.items) (new.records x)) (latest schema capacity db legal k live)
      ∙ ap (option_map (λ (r : Record). calc_items schema k.rtype r.items)) records_here
      ∙ elim (db.records k) as (λ r. is_some r ≡ true → option_map (λ (r : Record). calc_items schema k.rtype r.items) (option_map next_version (option_map (with_its_items new_items) r)) ≡ Some (calc_items schema k.rtype new_items)) [
        | None ↦ λ h. absurd (false≢true h)
        | Some r ↦ λ h. refl
      ] live

  extent_here : map (number_of schema new k.rtype) (range_with_len 1 capacity) ≡ with_number k.number (revalued (calc_items schema k.rtype new_items)) (map (number_of schema db k.rtype) (range_with_len 1 capacity))
  extent_here =
      map_range_changed (number_of schema new k.rtype) (number_of schema db k.rtype) (revalued (calc_items schema k.rtype new_items)) 1 capacity k.number k.number (omega arith) (legal.keys k live).1
      (λ i. record { last = db.last k.rtype k.number; calc = calc_here i })
      (λ n other. number_else k.rtype n (and_second (eqb k.rtype k.rtype) (ne_eqb n k.number other))) where
        and_second : (a : Bool) {b : Bool} → b ≡ false → (a && b) ≡ false
        and_second true h = h
        and_second false h = refl

  -- where no CALC item is named the extent stays
  extent_unnamed : names_calc schema k.rtype changes ≡ false → (n : ℕ) → number_of schema new k.rtype n ≡ number_of schema db k.rtype n
  extent_unnamed unnamed n =
      elim (cases_Bool (eqb k.rtype k.rtype && eqb n k.number)) [
        | inl e ↦
            let here = eqb-true n k.number (and_parts _ _ e).1 in
            let before : option_map (λ (r : Record). calc_items schema k.rtype r.items) (db.records (key_at db k.rtype k.number)) ≡ Some (calc_items schema k.rtype (items_of db k)) =
            ap (λ x. option_map (λ (r : Record). calc_items schema k.rtype r.items) (db.records x)) (latest schema capacity db legal k live)
            ∙ elim (db.records k) as (λ r. is_some r ≡ true → option_map (λ (r : Record). calc_items schema k.rtype r.items) r ≡ Some (calc_items schema k.rtype (unwrap_or (option_map (λ (r : Record). r.items) r) []))) [
              | None ↦ λ h. absurd (false≢true h)
              | Some r ↦ λ h. refl
            ] live in
            (λ i. number_of schema new k.rtype (here i))
            ∙ (λ i. record { last = db.last k.rtype k.number; calc = (calc_here ∙ ap Some (same_calc_items schema k.rtype changes (items_of db k) unnamed) ∙ sym before) i })
            ∙ (λ i. number_of schema db k.rtype (sym here i))
        | inr e ↦ number_else k.rtype n e
      ]

  extent_edits : List CellEdit
  extent_edits = cond (names_calc schema k.rtype changes) (record { name = Extent k.rtype; edit = ChangeNumber k.number (calc_items schema k.rtype new_items) } ∷ []) []

  extent_made : (t : ℕ) → cell schema capacity new (Extent t) ≡ edited_at (Extent t) extent_edits (cell schema capacity db (Extent t))
  unfolding cell extent_edits
  extent_made t =
      let value = cell schema capacity db (Extent t) in
      let edit = ChangeNumber k.number (calc_items schema k.rtype new_items) in
      elim (cases_Bool (eqb t k.rtype)) [
        | inl e ↦
            let here = eqb-true t k.rtype e in
            elim (cases_Bool (names_calc schema k.rtype changes)) [
              | inl named ↦
                  (λ i. ExtentValue (map (number_of schema new (here i)) (range_with_len 1 capacity)))
                  ∙ ap ExtentValue extent_here
                  ∙ (λ i. edited edit (ExtentValue (map (number_of schema db (sym here i)) (range_with_len 1 capacity))))
                  ∙ ap (λ b. cond b (edited edit value) value) (sym e)
                  ∙ ap (λ b. edited_at (Extent t) (cond b (record { name = Extent k.rtype; edit = edit } ∷ []) []) value) (sym named)
              | inr unnamed ↦
                  (λ i. ExtentValue (map (number_of schema new (here i)) (range_with_len 1 capacity)))
                  ∙ (λ i. ExtentValue (map (λ n. extent_unnamed unnamed n i) (range_with_len 1 capacity)))
                  ∙ (λ i. ExtentValue (map (number_of schema db (sym here i)) (range_with_len 1 capacity)))
                  ∙ ap (λ b. edited_at (Extent t) (cond b (record { name = Extent k.rtype; edit = edit } ∷ []) []) value) (sym unnamed)
            ]
        | inr e ↦
            (λ i. ExtentValue (map (λ n. number_else t n (ap (λ b. b && eqb n k.number) e) i) (range_with_len 1 capacity)))
            ∙ elim (names_calc schema k.rtype changes) as (λ b. value ≡ edited_at (Extent t) (cond b (record { name = Extent k.rtype; edit = edit } ∷ []) []) value) [
              | true ↦ ap (λ b. cond b (edited edit value) value) (sym e)
              | false ↦ refl
            ]
      ]

  -- THE RINGS

  items_else : (x : DbKey) → key_eq k x ≡ false → items_of new x ≡ items_of db x
  items_else x e = ap (λ o. unwrap_or (option_map (λ (r : Record). r.items) o) []) (records_else x e)

  items_here : items_of new k ≡ new_items
  items_here =
      ap (λ o. unwrap_or (option_map (λ (r : Record). r.items) o) []) records_here
      ∙ elim (db.records k) as (λ r. is_some r ≡ true → unwrap_or (option_map (λ (r : Record). r.items) (option_map next_version (option_map (with_its_items new_items) r))) [] ≡ new_items) [
        | None ↦ λ h. absurd (false≢true h)
        | Some r ↦ λ h. refl
      ] live

  -- raising the version leaves the items
  items_raised : (x : DbKey) → items_of new x ≡ items_of changed_db x
  items_raised x =
      elim (key_eq k x) as (λ b. unwrap_or (option_map (λ (r : Record). r.items) (cond b (option_map next_version (changed_db.records x)) (changed_db.records x))) [] ≡ items_of changed_db x) [
        | true ↦ elim (changed_db.records x) as (λ r. unwrap_or (option_map (λ (q : Record). q.items) (option_map next_version r)) [] ≡ unwrap_or (option_map (λ (q : Record). q.items) r) []) [ None ↦ refl | Some r ↦ refl ]
        | false ↦ refl
      ]

  sort_key_raised : (s : ℕ) (x : DbKey) → sort_key schema new s x ≡ sort_key schema changed_db s x
  sort_key_raised s x = ap (key_item schema s x.rtype) (items_raised x)

  sort_key_here : (s : ℕ) → sort_key schema changed_db s k ≡ key_item schema s k.rtype new_items
  sort_key_here s = ap (key_item schema s k.rtype) (sym (items_raised k) ∙ items_here)

  keys_else : (s : ℕ) (list : List DbKey) → is_member k list ≡ false → map {B = DbKey × Option Value} (λ x. (x, sort_key schema new s x)) list ≡ map {B = DbKey × Option Value} (λ x. (x, sort_key schema db s x)) list
  keys_else s [] h = refl
  keys_else s (x ∷ xs) h =
      let hs = or_parts (key_eq k x) (is_member k xs) h in
      λ i. (x, key_item schema s x.rtype (items_else x hs.0 i)) ∷ keys_else s xs hs.1 i

  -- where k's own key stays, so do all
  keys_stay : (s : ℕ) → key_item schema s k.rtype new_items ≡ key_item schema s k.rtype (items_of db k) → (list : List DbKey)
      → map {B = DbKey × Option Value} (λ x. (x, sort_key schema new s x)) list ≡ map {B = DbKey × Option Value} (λ x. (x, sort_key schema db s x)) list
  keys_stay s stays [] = refl
  keys_stay s stays (x ∷ xs) = λ i. (x, key_stays x (cases_Bool (key_eq k x)) i) ∷ keys_stay s stays xs i where
    key_stays : (x : DbKey) → (key_eq k x ≡ true) ⊎ (key_eq k x ≡ false) → sort_key schema new s x ≡ sort_key schema db s x
    key_stays x (inr e) = ap (key_item schema s x.rtype) (items_else x e)
    key_stays x (inl e) = subst (λ y. sort_key schema new s y ≡ sort_key schema db s y) (same_key k x e) (ap (key_item schema s k.rtype) items_here ∙ stays)

  abbrev pub placing : ℕ → Edit
  placing s = ReplaceMember (order_of schema s) (option_and_then (λ place. place.at) (place_in schema unit s)) k (key_item schema s k.rtype new_items)

  -- the list that has k shows as the ring without k, and k placed anew
  ring_replaced : (s : ℕ) (o : Owner) (list : List DbKey)
      → ring_of schema new s o (joined schema changed_db unit s k (without k list))
      ≡ with_members (placed (member_spot (order_of schema s) (option_and_then (λ place. place.at) (place_in schema unit s)) (key_item schema s k.rtype new_items)) (k, key_item schema s k.rtype new_items)) (with_members (members_without k) (ring_of schema db s o list))
  ring_replaced s o list =
      let at = option_and_then (λ place. place.at) (place_in schema unit s) in
      let rest = without k list in
      let shown = ring_placed (order_of schema s) at (sort_key schema changed_db s) k rest in
      let rest_is : map {B = DbKey × Option Value} (λ x. (x, sort_key schema changed_db s x)) rest ≡ members_without k (map (λ x. (x, sort_key schema db s x)) list) =
      (λ i. map {B = DbKey × Option Value} (λ x. (x, sym (sort_key_raised s x) i)) rest)
      ∙ keys_else s rest (without_gone k list)
      ∙ map_filter {Y = DbKey × Option Value} (λ x. (x, sort_key schema db s x)) (λ m. not (key_eq k m.0)) list in
      (λ i. record { owner = o; members = map (λ x. (x, sort_key_raised s x i)) (joined schema changed_db unit s k rest) })
      ∙ (λ i. record { owner = o; members = shown i })
      ∙ (λ i. record { owner = o; members = placed (member_spot (order_of schema s) at (sort_key_here s i)) (k, sort_key_here s i) (rest_is i) })

  ring_edits : CellName → CellValue → CellValue
  ring_edits c value = edited_at c (flat_map (replacing_edits schema (whole schema capacity db) unit k new_items) rekeyed) value

  -- edits of rings miss other cells
  replacing_misses : (c : CellName) (s : ℕ) (value : CellValue) → ((o : Owner) → owner_of schema capacity db s k ≡ Some o → name_eq c (Ring s (place_of o)) ≡ false) → edited_at c (replacing_edits schema (whole schema capacity db) unit k new_items s) value ≡ value
  replacing_misses c s value miss = known (owner_of schema capacity db s k) refl where
    known : (found : Option Owner) → owner_of schema capacity db s k ≡ found → edited_at c (replacing_edits schema (whole schema capacity db) unit k new_items s) value ≡ value
    known None h = rw h refl
    known (Some o) h =
        rw h (ap (λ b. cond b (edited (placing s) value) value) (miss o h))

  rings_miss : (c : CellName) (value : CellValue) → ((s : ℕ) (p : Option (ℕ × ℕ)) → name_eq c (Ring s p) ≡ false) → ring_edits c value ≡ value
  unfolding ring_edits
  rings_miss c value miss = edits_miss c (replacing_edits schema (whole schema capacity db) unit k new_items) rekeyed value (λ s v h. replacing_misses c s v (λ o is. miss s (place_of o)))

  -- the sets whose key item is named
  rekeys : ℕ → Bool
  rekeys s = some_and (λ (m : Member). some_and (λ i. list_any (λ j. eqb j i) (map (λ c. c.item) changes)) m.key) (member_clause schema s k.rtype)

  rekeyed_else : (s : ℕ) → has_number s rekeyed ≡ false → rekeys s ≡ false
  unfolding rekeys
  rekeyed_else s h =
      false_from_ne_true _ (λ e. false≢true (sym h ∙ has_number_filter rekeys s (set_numbers schema) e (has_number_range s 0 (length schema.sets) (omega arith) (omega (arith, in_schema e))))) where
        in_schema : rekeys s ≡ true → s < length schema.sets
        in_schema e = index_within schema.sets s (elim (slice_get schema.sets s) as (λ o. some_and (λ (m : Member). some_and (λ i. list_any (λ j. eqb j i) (map (λ c. c.item) changes)) m.key) (option_and_then (λ (set : SetType). find (λ (m : Member). eqb m.rtype k.rtype) set.members) o) ≡ true → is_some o ≡ true) [
          | None ↦ λ h. absurd (false≢true h)
          | Some set ↦ λ h. refl
        ] e)

  ring_made : (s : ℕ) (q : Option (ℕ × ℕ)) → cell schema capacity new (Ring s q) ≡ ring_edits (Ring s q) (cell schema capacity db (Ring s q))
  unfolding cell ring_edits rekeys
  ring_made s q =
      let o = owner_at db q in
      let value = cell schema capacity db (Ring s q) in
      elim (cases_Bool (has_number s rekeyed && is_member k (members_of db s o))) [
        | inl e ↦
            let es = and_parts _ _ e in
            let stands : owner_of schema capacity db s k ≡ Some o = member_owner_found schema capacity db legal s o k es.1 in
            let there : has_number s rekeyed ≡ true = es.0 in
            let once = pairwise_filter _ _ (set_numbers schema) (range_distinct 0 (length schema.sets)) in
            let named : (eqb s s && place_eq q (place_of o)) ≡ true = and_from _ _ (eq-eqb s s refl) (ap (place_eq q) (owner_at_place db q) ∙ place_eq_refl q) in
            let hit : edited_at (Ring s q) (replacing_edits schema (whole schema capacity db) unit k new_items s) value ≡ edited (placing s) value =
            rw stands (ap (λ b. cond b (edited (placing s) value) value) named) in
            ap (λ b. RingValue (option_map (ring_of schema new s o) (cond b (option_map (λ list. joined schema changed_db unit s k (without k list)) (db.lists s o)) (db.lists s o)))) e
            ∙ shown s o (db.lists s o)
            ∙ sym hit
            ∙ sym (edits_hit (Ring s q) (replacing_edits schema (whole schema capacity db) unit k new_items) rekeyed s value once there
            (λ s' v other. replacing_misses (Ring s q) s' v (λ p is. ap (λ b. b && place_eq q (place_of p)) (ne_eqb s s' (λ same. other (sym same))))))
        | inr e ↦
            ap (λ b. RingValue (option_map (ring_of schema new s o) (cond b (option_map (λ list. joined schema changed_db unit s k (without k list)) (db.lists s o)) (db.lists s o)))) e
            ∙ ap RingValue (stays s o e)
            ∙ sym (edits_miss (Ring s q) (replacing_edits schema (whole schema capacity db) unit k new_items) rekeyed value
            (λ s' v h. replacing_misses (Ring s q) s' v (λ p is. false_from_ne_true _ (λ same.
            let sames = and_parts (eqb s s') (place_eq q (place_of p)) same in
            let set_is = eqb-true s s' sames.0 in
            let has : is_member k (members_of db s' p) ≡ true = owner_has_member schema capacity db s' p k is in
            let owner : o ≡ p = ap (owner_at db) (same_place q (place_of p) sames.1) ∙ owner_stands_at_place schema capacity db legal s' p (sym (legal.pairs s' p) ∙ member_has_list (db.lists s' p) k has) in
            let rekeyed_there : has_number s rekeyed ≡ true = subst (λ x. has_number x rekeyed ≡ true) (sym set_is) h in
            false≢true (sym e ∙ and_from _ _ rekeyed_there (λ i. (subst (λ x. is_member k (members_of db x o) ≡ true) (sym set_is) (subst (λ u. is_member k (members_of db s' u) ≡ true) (sym owner) has)) i))))))
      ] where
        shown : (s : ℕ) (o : Owner) (l : Option (List DbKey)) → RingValue (option_map (ring_of schema new s o) (option_map (λ list. joined schema changed_db unit s k (without k list)) l)) ≡ edited (placing s) (RingValue (option_map (ring_of schema db s o) l))
        shown s o None = refl
        shown s o (Some list) = λ i. RingValue (Some (ring_replaced s o list i))

        stays : (s : ℕ) (o : Owner) → (has_number s rekeyed && is_member k (members_of db s o)) ≡ false → option_map (ring_of schema new s o) (db.lists s o) ≡ option_map (ring_of schema db s o) (db.lists s o)
        stays s o e =
            elim (db.lists s o) as (λ l. (has_number s rekeyed && is_member k (unwrap_or l [])) ≡ false → option_map (ring_of schema new s o) l ≡ option_map (ring_of schema db s o) l) [
              | None ↦ λ h. refl
              | Some list ↦ λ h i. Some (record { owner = o; members = keys_are s list h i })
            ] e where
              keys_are : (s : ℕ) (list : List DbKey) → (has_number s rekeyed && is_member k list) ≡ false → map {B = DbKey × Option Value} (λ x. (x, sort_key schema new s x)) list ≡ map {B = DbKey × Option Value} (λ x. (x, sort_key schema db s x)) list
              keys_are s list h =
                  elim (cases_Bool (is_member k list)) [
                    | inl has ↦
                        let other : has_number s rekeyed ≡ false = false_from_ne_true _ (λ there. false≢true (sym h ∙ and_from _ _ there has)) in
                        keys_stay s (key_item_else schema s k.rtype changes (items_of db k) (rekeyed_else s other)) list
                    | inr absent ↦ keys_else s list absent
                  ]

  -- MODIFY changes the cells by its edits
  pub modify_makes : Legal schema capacity new → (c : CellName) → cell schema capacity new c ≡ edited_at c (modify_edits schema (whole schema capacity db) unit changes k new_items) (cell schema capacity db c)
  unfolding ring_edits extent_edits cell
  modify_makes legal_new c = made c ∙ sym (in_turn c (cell schema capacity db c)) where
    slots : List CellEdit
    slots = slot_edit k (ChangeItems new_items) ∷ (slot_edit k RaiseVersion ∷ [])

    in_turn : (c : CellName) (value : CellValue) → edited_at c (modify_edits schema (whole schema capacity db) unit changes k new_items) value ≡ edited_at c (slot_edit k (ChangeItems new_items) ∷ (slot_edit k RaiseVersion ∷ [])) (ring_edits c (edited_at c extent_edits value))
    in_turn c value =
        let rings = flat_map (replacing_edits schema (whole schema capacity db) unit k new_items) rekeyed in
        edited_at_append c extent_edits (rings ++ slot_edit k (ChangeItems new_items) ∷ (slot_edit k RaiseVersion ∷ [])) value
        ∙ edited_at_append c rings (slot_edit k (ChangeItems new_items) ∷ (slot_edit k RaiseVersion ∷ [])) (edited_at c extent_edits value)

    extent_misses : (c : CellName) (value : CellValue) → name_eq c (Extent k.rtype) ≡ false → edited_at c extent_edits value ≡ value
    extent_misses c value miss =
        let edit = ChangeNumber k.number (calc_items schema k.rtype new_items) in
        elim (names_calc schema k.rtype changes) as (λ b. edited_at c (cond b (record { name = Extent k.rtype; edit = edit } ∷ []) []) value ≡ value) [
          | true ↦ ap (λ b. cond b (edited edit value) value) miss
          | false ↦ refl
        ]

    made : (c : CellName) → cell schema capacity new c ≡ edited_at c (slot_edit k (ChangeItems new_items) ∷ (slot_edit k RaiseVersion ∷ [])) (ring_edits c (edited_at c extent_edits (cell schema capacity db c)))
    made (Usage a) =
        let value = cell schema capacity db (Usage a) in
        sym (rings_miss (Usage a) (edited_at (Usage a) extent_edits value) (λ s p. refl) ∙ extent_misses (Usage a) value refl)
    made (Extent t) = extent_made t ∙ sym (rings_miss (Extent t) (edited_at (Extent t) extent_edits (cell schema capacity db (Extent t))) (λ s p. refl))
    made (Ring s q) = ring_made s q ∙ ap (ring_edits (Ring s q)) (sym (extent_misses (Ring s q) (cell schema capacity db (Ring s q)) refl))
    made (Slot t n) =
        let value = cell schema capacity db (Slot t n) in
        slot_made legal_new t n
        ∙ ap (edited_at (Slot t n) (slot_edit k (ChangeItems new_items) ∷ (slot_edit k RaiseVersion ∷ []))) (sym (rings_miss (Slot t n) (edited_at (Slot t n) extent_edits value) (λ s p. refl) ∙ extent_misses (Slot t n) value refl))
