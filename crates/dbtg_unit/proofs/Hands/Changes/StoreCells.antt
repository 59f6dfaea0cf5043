-- STORE changes the cells by its edits, and no other cell.
use Rattle.std.proofs.Common.{◌⊎◌, ◌≡◌, ◌≢◌, refl, sym, ◌∙◌, ap, subst, ℕ, ◌+◌, ◌≤◌, Bool, true, false, cond, ◌&&◌, ◌||◌, List, [], ◌∷◌, ◌++◌, Option, Some, None, map, length, arith, eqb, inl, inr}
use Rattle.std.specs.Prelude.{is_some, option_map, unwrap_or, filter}
use Rattle.std.specs.List.{range_with_len, flat_map}
use Rattle.std.proofs.lemmas.Bool.{and_parts, and_from, cases_Bool, eqb-true, eq-eqb, false≢true, false_from_ne_true, or_parts, ne_eqb}
use Rattle.dbtg_schema.specs.Lists.{Lists}
use Rattle.dbtg_schema.specs.Structure.{automatic_sets, order_of, owns, set_numbers}
use Rattle.dbtg_cells.specs.declared.key.DbKey.{DbKey}
use Rattle.dbtg_cells.specs.declared.key.Owner.{Owner}
use Rattle.dbtg_cells.specs.declared.key.Owner.TheVariants.{Rec}
use Rattle.dbtg_cells.specs.declared.key.Value.{Value}
use Rattle.dbtg_cells.specs.declared.name.CellName.{CellName}
use Rattle.dbtg_cells.specs.declared.name.CellName.TheVariants.{Usage, Extent, Ring, Slot}
use Rattle.dbtg_cells.specs.Shown.{CellValue, ExtentValue, RingValue, SlotValue, first_version}
use Rattle.dbtg_cells.specs.Keys.{key_eq, owner_eq}
use Rattle.dbtg_cells.specs.Names.{name_eq, place_eq}
use Rattle.dbtg_cells.specs.Placed.{placed}
use Rattle.dbtg_cells.proofs.Public.{key_eq_refl, owner_eq_refl, place_eq_refl, same_key, same_owner, same_place}
use Rattle.dbtg_unit.specs.declared.edit.Edit.{Edit}
use Rattle.dbtg_unit.specs.declared.edit.Edit.TheVariants.{EnterNumber, OpenRing, PlaceMember, Fill}
use Rattle.dbtg_unit.specs.declared.edit.CellEdit.{CellEdit}
use Rattle.dbtg_unit.specs.declared.unit.Place.{Place}
use Rattle.dbtg_unit.specs.declared.unit.Unit.{Unit}
use Rattle.dbtg_unit.specs.Database.State.Base.{Database, Record, is_live, members_of, is_member, owner_of, sort_key, key_item, key_at, calc_items}
use Rattle.dbtg_unit.specs.Database.State.Units.{owners_of, place_in}
use Rattle.dbtg_unit.specs.Database.Statements.Effect.{connected_in, with_new, is_current_owner, joined}
use Rattle.dbtg_unit.specs.Database.State.Legal.{Legal, has_occurrence}
use Rattle.dbtg_unit.specs.Database.State.Cells.{cell, owner_at, slot_of, ring_of, number_of}
use Rattle.dbtg_unit.specs.Database.State.CellNames.{place_of}
use Rattle.dbtg_unit.specs.Hands.Edits.{with_number, edited_at, edited, entered, with_members, member_spot}
use Rattle.dbtg_unit.specs.Hands.EditsOf.{placed_at, ring_edits, store_edits, joining_edits, first_owners, slot_edit}
use Rattle.dbtg_unit.proofs.Lists.Listing.{any_placed}
use Rattle.dbtg_unit.proofs.Hands.Changes.InsertCells.{ring_placed}
use Rattle.dbtg_unit.proofs.Hands.Untouched.LocalRemove.{owner_at_place}
use Rattle.dbtg_unit.proofs.Hands.Changes.RangeMaps.{map_range_changed}
use Rattle.dbtg_unit.proofs.Database.Records.OwnersFound.{set_within, owner_stands_at_place, member_owner_found, find_none, owner_of_by_members}
use Rattle.dbtg_unit.proofs.Database.Legal.StoreLegal.{joins, member_connected, member_new, not_member}
use Rattle.dbtg_unit.proofs.Lists.WithANewMember.{pairwise_filter}
use Rattle.dbtg_unit.proofs.Hands.Changes.EditsInTurn.{edited_at_append, edits_miss, edits_hit, has_number, range_distinct, has_number_passes, has_number_filter, has_number_range}

module _ (schema : Lists) (capacity : ℕ) (db : Database) (unit : Unit) (k : DbKey) (items : List Value) (legal : Legal schema capacity db)
    (counted : 1 ≤ k.number) (next : k.generation ≡ db.last k.rtype k.number + 1) (vacant : is_live db (key_at db k.rtype k.number) ≡ false)
    (stands : (s : ℕ) → has_number s (automatic_sets schema k.rtype) ≡ true → (place : Place) × (place_in schema unit s ≡ Some place) × (is_some (db.lists s place.owner) ≡ true)) where
  abbrev pub entered_db : Database
  entered_db = with_new schema db k items

  abbrev pub new : Database
  new = connected_in schema entered_db unit (automatic_sets schema k.rtype) k

  abbrev pub is_its_number : ℕ → ℕ → Bool
  is_its_number t n = eqb t k.rtype && eqb n k.number

  fresh : is_live db k ≡ false
  fresh = false_from_ne_true _ (λ live. let last : k.generation ≡ db.last k.rtype k.number = (legal.keys k live).4 in absurd (omega (arith, next, last)))

  -- NUMBERS AND KEYS

  last_here : new.last k.rtype k.number ≡ k.generation
  last_here = ap (λ b. cond b k.generation (db.last k.rtype k.number)) (and_from _ _ (eq-eqb k.rtype k.rtype refl) (eq-eqb k.number k.number refl))

  last_else : (t n : ℕ) → is_its_number t n ≡ false → new.last t n ≡ db.last t n
  last_else t n e = ap (λ b. cond b k.generation (db.last t n)) e

  key_at_here : key_at new k.rtype k.number ≡ k
  key_at_here = λ i. record { rtype = k.rtype; number = k.number; generation = last_here i }

  key_at_else : (t n : ℕ) → is_its_number t n ≡ false → key_at new t n ≡ key_at db t n
  key_at_else t n e = λ i. record { rtype = t; number = n; generation = last_else t n e i }

  its_number : (t n : ℕ) → is_its_number t n ≡ true → (t ≡ k.rtype) × (n ≡ k.number)
  its_number t n e = let es = and_parts _ _ e in (eqb-true t k.rtype es.0, eqb-true n k.number es.1)

  key_else : (t n : ℕ) → is_its_number t n ≡ false → key_eq k (key_at db t n) ≡ false
  key_else t n e =
      false_from_ne_true _ (λ h. let same = same_key k (key_at db t n) h in
      false≢true (sym e ∙ and_from _ _ (eq-eqb t k.rtype (sym (ap (λ x. x.rtype) same))) (eq-eqb n k.number (sym (ap (λ x. x.number) same)))))

  records_here : new.records k ≡ Some (record { items = items; version = 1 })
  records_here = ap (λ b. cond b (Some (record { items = items; version = 1 })) (db.records k)) (key_eq_refl k)

  records_else : (x : DbKey) → key_eq k x ≡ false → new.records x ≡ db.records x
  records_else x e = ap (λ b. cond b (Some (record { items = items; version = 1 })) (db.records x)) e

  -- MEMBERS AND OWNERS

  not_k : (x : DbKey) → key_eq k x ≡ false → key_eq x k ≡ false
  not_k x e = false_from_ne_true _ (λ h. false≢true (sym e ∙ subst (λ y. key_eq k y ≡ true) (sym (same_key x k h)) (key_eq_refl k)))

  and_never : (a : Bool) → (a && false) ≡ false
  and_never true = refl
  and_never false = refl

  -- a list that was there is as it was before k joins
  present_else : (s : ℕ) (o : Owner) → is_some (db.lists s o) ≡ true → entered_db.lists s o ≡ db.lists s o
  present_else s o present =
      ap (λ b. cond b (Some []) (db.lists s o))
      (false_from_ne_true _ (λ h. let same = same_owner (Rec k) o (and_parts _ _ h).1 in
      false≢true (sym (legal.pairs s (Rec k) ∙ ap (λ b. owns schema s k.rtype && b) fresh ∙ and_never (owns schema s k.rtype)) ∙ subst (λ (p : Owner). is_some (db.lists s p) ≡ true) (sym same) present)))

  joined_at : ℕ → Owner → Bool
  joined_at s o = joins schema unit (automatic_sets schema k.rtype) s o && is_some (entered_db.lists s o)

  member_new_db : (x : DbKey) (s : ℕ) (o : Owner) → is_member x (members_of new s o) ≡ ((joined_at s o && key_eq x k) || is_member x (members_of entered_db s o))
  unfolding joined_at
  member_new_db x s o = member_connected schema entered_db unit (automatic_sets schema k.rtype) k s o x

  member_else : (x : DbKey) → key_eq k x ≡ false → (s : ℕ) (o : Owner) → is_member x (members_of new s o) ≡ is_member x (members_of db s o)
  member_else x e s o =
      member_new_db x s o
      ∙ ap (λ b. (joined_at s o && b) || is_member x (members_of entered_db s o)) (not_k x e)
      ∙ ap (λ b. b || is_member x (members_of entered_db s o)) (and_never (joined_at s o))
      ∙ member_new schema capacity db k items legal fresh s o x

  list_else : (s : ℕ) (o : Owner) → has_number s (automatic_sets schema k.rtype) ≡ false → new.lists s o ≡ entered_db.lists s o
  list_else s o e = ap (λ b. cond (b && is_current_owner schema unit s o) (option_map (joined schema entered_db unit s k) (entered_db.lists s o)) (entered_db.lists s o)) e

  list_here : (s : ℕ) (place : Place) → has_number s (automatic_sets schema k.rtype) ≡ true → place_in schema unit s ≡ Some place → is_some (db.lists s place.owner) ≡ true
      → new.lists s place.owner ≡ option_map (joined schema entered_db unit s k) (db.lists s place.owner)
  list_here s place e at present =
      let current : is_current_owner schema unit s place.owner ≡ true = rw at (owner_eq_refl place.owner) in
      ap (λ b. cond b (option_map (joined schema entered_db unit s k) (entered_db.lists s place.owner)) (entered_db.lists s place.owner)) (and_from _ _ e current)
      ∙ ap (option_map (joined schema entered_db unit s k)) (present_else s place.owner present)

  member_here : (s : ℕ) (place : Place) → has_number s (automatic_sets schema k.rtype) ≡ true → place_in schema unit s ≡ Some place → is_some (db.lists s place.owner) ≡ true
      → is_member k (members_of new s place.owner) ≡ true
  member_here s place e at present =
      ap (λ l. is_member k (unwrap_or l [])) (list_here s place e at present)
      ∙ elim (db.lists s place.owner) as (λ l. is_some l ≡ true → is_member k (unwrap_or (option_map (joined schema entered_db unit s k) l) []) ≡ true) [
        | None ↦ λ h. absurd (false≢true h)
        | Some list ↦ λ h. any_placed (key_eq k) _ k list ∙ ap (λ b. b || is_member k list) (key_eq_refl k)
      ] present

  owner_here : Legal schema capacity new → (s : ℕ) → owner_of schema capacity new s k ≡ cond (has_number s (automatic_sets schema k.rtype)) (option_map (λ place. place.owner) (place_in schema unit s)) None
  owner_here legal_new s =
      elim (cases_Bool (has_number s (automatic_sets schema k.rtype))) [
        | inl e ↦
            let at = stands s e in
            member_owner_found schema capacity new legal_new s at.0.owner k (member_here s at.0 e at.1 at.2)
            ∙ ap (option_map (λ place. place.owner)) (sym at.1)
            ∙ ap (λ b. cond b (option_map (λ place. place.owner) (place_in schema unit s)) None) (sym e)
        | inr e ↦
            find_none (λ o. is_member k (members_of new s o)) _
            (λ o. ap (λ l. is_member k (unwrap_or l [])) (list_else s o e) ∙ member_new schema capacity db k items legal fresh s o k ∙ false_from_ne_true _ (not_member schema capacity db k legal fresh s o))
            ∙ ap (λ b. cond b (option_map (λ place. place.owner) (place_in schema unit s)) None) (sym e)
      ]

  -- the owners of k are those that STORE gives it
  pub owners_first : Legal schema capacity new → owners_of schema capacity new k ≡ first_owners schema unit k.rtype
  owners_first legal_new = λ i. map (λ s. owner_here legal_new s i) (set_numbers schema)

  -- THE EXTENT

  number_else : (t n : ℕ) → is_its_number t n ≡ false → number_of schema new t n ≡ number_of schema db t n
  number_else t n e =
      λ i. record {
        last = last_else t n e i;
        calc = (ap (λ x. option_map (λ (r : Record). calc_items schema t r.items) (new.records x)) (key_at_else t n e)
            ∙ ap (option_map (λ (r : Record). calc_items schema t r.items)) (records_else (key_at db t n) (key_else t n e))) i;
      }

  extent_here : map (number_of schema new k.rtype) (range_with_len 1 capacity) ≡ with_number k.number (entered (calc_items schema k.rtype items)) (map (number_of schema db k.rtype) (range_with_len 1 capacity))
  extent_here =
      map_range_changed (number_of schema new k.rtype) (number_of schema db k.rtype) (entered (calc_items schema k.rtype items)) 1 capacity k.number k.number (omega arith) counted
      (λ i. record { last = (last_here ∙ next) i; calc = (ap (λ x. option_map (λ (r : Record). calc_items schema k.rtype r.items) (new.records x)) key_at_here ∙ ap (option_map (λ (r : Record). calc_items schema k.rtype r.items)) records_here) i })
      (λ n other. number_else k.rtype n (and_second (eqb k.rtype k.rtype) (ne_eqb n k.number other))) where
        and_second : (a : Bool) {b : Bool} → b ≡ false → (a && b) ≡ false
        and_second true h = h
        and_second false h = refl

  -- THE SLOTS

  slot_here : Legal schema capacity new → option_map (slot_of schema capacity new k) (new.records k) ≡ Some (record { generation = k.generation; version = 1; items = items; owners = first_owners schema unit k.rtype })
  slot_here legal_new =
      ap (option_map (slot_of schema capacity new k)) records_here
      ∙ (λ i. Some (record { generation = k.generation; version = 1; items = items; owners = map (λ s. owner_here legal_new s i) (set_numbers schema) }))

  slot_else : Legal schema capacity new → (t n : ℕ) → is_its_number t n ≡ false → option_map (slot_of schema capacity new (key_at new t n)) (new.records (key_at new t n)) ≡ option_map (slot_of schema capacity db (key_at db t n)) (db.records (key_at db t n))
  slot_else legal_new t n e =
      let x = key_at db t n in
      let other = key_else t n e in
      (λ i. option_map (slot_of schema capacity new (key_at_else t n e i)) (new.records (key_at_else t n e i)))
      ∙ (λ i. option_map (λ r. record { generation = x.generation; version = r.version; items = r.items; owners = map (λ s. owner_of_by_members schema capacity db new legal legal_new s x (member_else x other s) i) (set_numbers schema) }) (records_else x other i))

  -- THE RINGS

  sort_key_here : (s : ℕ) → sort_key schema new s k ≡ key_item schema s k.rtype items
  sort_key_here s = ap (λ o. key_item schema s k.rtype (unwrap_or (option_map (λ (r : Record). r.items) o) [])) records_here

  sort_key_else : (s : ℕ) (x : DbKey) → key_eq k x ≡ false → sort_key schema new s x ≡ sort_key schema db s x
  sort_key_else s x e = ap (λ o. key_item schema s x.rtype (unwrap_or (option_map (λ (r : Record). r.items) o) [])) (records_else x e)

  keys_else : (s : ℕ) (list : List DbKey) → is_member k list ≡ false → map {B = DbKey × Option Value} (λ x. (x, sort_key schema new s x)) list ≡ map {B = DbKey × Option Value} (λ x. (x, sort_key schema db s x)) list
  keys_else s [] h = refl
  keys_else s (x ∷ xs) h = let hs = or_parts (key_eq k x) (is_member k xs) h in λ i. (x, sort_key_else s x hs.0 i) ∷ keys_else s xs hs.1 i

  not_in : (s : ℕ) (o : Owner) → is_member k (members_of db s o) ≡ false
  not_in s o = false_from_ne_true _ (not_member schema capacity db k legal fresh s o)

  -- a ring that k does not join shows as before
  ring_else : (s : ℕ) (o : Owner) → option_map (ring_of schema new s o) (db.lists s o) ≡ option_map (ring_of schema db s o) (db.lists s o)
  ring_else s o =
      elim (db.lists s o) as (λ l. is_member k (unwrap_or l []) ≡ false → option_map (ring_of schema new s o) l ≡ option_map (ring_of schema db s o) l) [
        | None ↦ λ h. refl
        | Some list ↦ λ h i. Some (record { owner = o; members = keys_else s list h i })
      ] (not_in s o)

  ring_here : (s : ℕ) (place : Place) → place_in schema unit s ≡ Some place
      → option_map (ring_of schema new s place.owner) (option_map (joined schema entered_db unit s k) (db.lists s place.owner))
      ≡ option_map (with_members (placed (member_spot (order_of schema s) place.at (key_item schema s k.rtype items)) (k, key_item schema s k.rtype items))) (option_map (ring_of schema db s place.owner) (db.lists s place.owner))
  ring_here s place at =
      elim (db.lists s place.owner) as (λ l. is_member k (unwrap_or l []) ≡ false
      → option_map (ring_of schema new s place.owner) (option_map (joined schema entered_db unit s k) l)
      ≡ option_map (with_members (placed (member_spot (order_of schema s) place.at (key_item schema s k.rtype items)) (k, key_item schema s k.rtype items))) (option_map (ring_of schema db s place.owner) l)) [
        | None ↦ λ h. refl
        | Some list ↦ λ h.
            let placed_is : map {B = DbKey × Option Value} (λ x. (x, sort_key schema new s x)) (joined schema entered_db unit s k list)
            ≡ placed (member_spot (order_of schema s) place.at (sort_key schema new s k)) (k, sort_key schema new s k) (map {B = DbKey × Option Value} (λ x. (x, sort_key schema new s x)) list) =
            rw at (ring_placed (order_of schema s) place.at (sort_key schema new s) k list) in
            (λ i. Some (record { owner = place.owner; members = placed_is i }))
            ∙ (λ i. Some (record { owner = place.owner; members = placed (member_spot (order_of schema s) place.at (sort_key_here s i)) (k, sort_key_here s i) (keys_else s list h i) }))
      ] (not_in s place.owner)

  -- no owner of a list has k's number in the database before
  pub owner_not_k : (s : ℕ) (o : Owner) → is_some (db.lists s o) ≡ true → place_eq (Some (k.rtype, k.number)) (place_of o) ≡ false
  owner_not_k s o present =
      false_from_ne_true _ (λ h.
      let named : place_of o ≡ Some (k.rtype, k.number) = sym (same_place (Some (k.rtype, k.number)) (place_of o) h) in
      let stands_at : owner_at db (place_of o) ≡ o = owner_stands_at_place schema capacity db legal s o (sym (legal.pairs s o) ∙ present) in
      let is_key : Rec (key_at db k.rtype k.number) ≡ o = sym (ap (owner_at db) named) ∙ stands_at in
      let there : is_some (db.lists s (Rec (key_at db k.rtype k.number))) ≡ true = subst (λ p. is_some (db.lists s p) ≡ true) (sym is_key) present in
      false≢true (sym vacant ∙ (and_parts _ _ (sym (legal.pairs s (Rec (key_at db k.rtype k.number))) ∙ there)).1))

  -- THE EDITS

  joining : ℕ → List CellEdit
  joining s = joining_edits schema unit s k (key_item schema s k.rtype items)

  edits_of_opening : ℕ → List CellEdit
  edits_of_opening s = record { name = Ring s (Some (k.rtype, k.number)); edit = OpenRing (Rec k) } ∷ []

  joined_cells : CellName → CellValue → CellValue
  joined_cells c value = edited_at c (flat_map joining (automatic_sets schema k.rtype)) value

  opened_cells : CellName → CellValue → CellValue
  opened_cells c value = edited_at c (flat_map edits_of_opening (filter (λ s. owns schema s k.rtype) (set_numbers schema))) value

  -- edits that are of rings alone miss every other cell
  joining_misses : (c : CellName) (s : ℕ) (value : CellValue) → ((p : Option (ℕ × ℕ)) → name_eq c (Ring s p) ≡ false) → edited_at c (joining s) value ≡ value
  unfolding joining
  joining_misses c s value miss =
      elim (place_in schema unit s) as (λ p. edited_at c (ring_edits s (option_map (λ place. place.owner) p) (unwrap_or (option_map (λ place. placed_at schema s k (key_item schema s k.rtype items) place ∷ []) p) [])) value ≡ value) [
        | None ↦ refl
        | Some place ↦ ap (λ b. cond b (edited (placed_at schema s k (key_item schema s k.rtype items) place) value) value) (miss (place_of place.owner))
      ]

  edits_in_turn : (c : CellName) (value : CellValue)
      → edited_at c (store_edits schema unit k items) value
      ≡ edited_at c (slot_edit k (Fill (first_version k.generation items (first_owners schema unit k.rtype))) ∷ [])
      (opened_cells c (joined_cells c (cond (name_eq c (Extent k.rtype)) (edited (EnterNumber k.number (calc_items schema k.rtype items)) value) value)))
  unfolding joined_cells opened_cells joining edits_of_opening
  edits_in_turn c value =
      let filled = slot_edit k (Fill (first_version k.generation items (first_owners schema unit k.rtype))) ∷ [] in
      let own = flat_map edits_of_opening (filter (λ s. owns schema s k.rtype) (set_numbers schema)) in
      let first = cond (name_eq c (Extent k.rtype)) (edited (EnterNumber k.number (calc_items schema k.rtype items)) value) value in
      edited_at_append c (flat_map joining (automatic_sets schema k.rtype)) (own ++ filled) first
      ∙ edited_at_append c own filled (edited_at c (flat_map joining (automatic_sets schema k.rtype)) first)

  -- no edit of a ring is of a cell of another kind
  rings_miss : (c : CellName) (value : CellValue) → ((s : ℕ) (p : Option (ℕ × ℕ)) → name_eq c (Ring s p) ≡ false) → opened_cells c (joined_cells c value) ≡ value
  unfolding joined_cells opened_cells joining edits_of_opening
  rings_miss c value miss =
      edits_miss c edits_of_opening (filter (λ s. owns schema s k.rtype) (set_numbers schema)) (joined_cells c value) (λ s v h. ap (λ b. cond b (edited (OpenRing (Rec k)) v) v) (miss s (Some (k.rtype, k.number))))
      ∙ edits_miss c joining (automatic_sets schema k.rtype) value (λ s v h. joining_misses c s v (miss s))

  -- the rings of other sets
  joining_other : (s s' : ℕ) (q : Option (ℕ × ℕ)) (value : CellValue) → s ≢ s' → edited_at (Ring s' q) (joining s) value ≡ value
  joining_other s s' q value other = joining_misses (Ring s' q) s value (λ p. ap (λ b. b && place_eq q p) (ne_eqb s' s (λ h. other (sym h))))

  opened_elsewhere : (s : ℕ) (q : Option (ℕ × ℕ)) (value : CellValue) → place_eq q (Some (k.rtype, k.number)) ≡ false → opened_cells (Ring s q) value ≡ value
  unfolding opened_cells edits_of_opening
  opened_elsewhere s q value e =
      edits_miss (Ring s q) edits_of_opening (filter (λ s'. owns schema s' k.rtype) (set_numbers schema)) value
      (λ s' v h. ap (λ b. cond b (edited (OpenRing (Rec k)) v) v) (ap (λ b. eqb s s' && b) e ∙ and_never (eqb s s')))

  joined_elsewhere : (s : ℕ) (q : Option (ℕ × ℕ)) (value : CellValue) → ((place : Place) → place_in schema unit s ≡ Some place → has_number s (automatic_sets schema k.rtype) ≡ true → place_eq q (place_of place.owner) ≡ false)
      → joined_cells (Ring s q) value ≡ value
  unfolding joined_cells joining
  joined_elsewhere s q value other =
      edits_miss (Ring s q) joining (automatic_sets schema k.rtype) value (λ s' v h. of_set s' v h (cases_Bool (eqb s s'))) where
        of_set : (s' : ℕ) (v : CellValue) → has_number s' (automatic_sets schema k.rtype) ≡ true → (eqb s s' ≡ true) ⊎ (eqb s s' ≡ false) → edited_at (Ring s q) (joining s') v ≡ v
        of_set s' v h (inr e) = joining_misses (Ring s q) s' v (λ p. ap (λ b. b && place_eq q p) e)
        of_set s' v h (inl e) =
            let here = eqb-true s s' e in
            let automatic : has_number s (automatic_sets schema k.rtype) ≡ true = subst (λ x. has_number x (automatic_sets schema k.rtype) ≡ true) (sym here) h in
            let at = stands s automatic in
            let miss : edited_at (Ring s q) (joining s) v ≡ v = rw (at.1) (ap (λ b. cond b (edited (placed_at schema s k (key_item schema s k.rtype items) at.0) v) v) (ap (λ b. eqb s s && b) (other at.0 at.1 automatic) ∙ and_never (eqb s s))) in
            subst (λ x. edited_at (Ring s q) (joining x) v ≡ v) here miss

  joined_here : (s : ℕ) (place : Place) (value : CellValue) → has_number s (automatic_sets schema k.rtype) ≡ true → place_in schema unit s ≡ Some place
      → joined_cells (Ring s (place_of place.owner)) value ≡ edited (PlaceMember (order_of schema s) place.at k (key_item schema s k.rtype items)) value
  unfolding joined_cells joining
  joined_here s place value automatic at =
      edits_hit (Ring s (place_of place.owner)) joining (automatic_sets schema k.rtype) s value (pairwise_filter _ _ (set_numbers schema) (range_distinct 0 (length schema.sets))) automatic
      (λ s' v other. joining_other s' s (place_of place.owner) v other)
      ∙ rw at (ap (λ b. cond b (edited (PlaceMember (order_of schema s) place.at k (key_item schema s k.rtype items)) value) value) (and_from _ _ (eq-eqb s s refl) (place_eq_refl (place_of place.owner))))

  -- A RING OF K'S OWN NUMBER

  not_current : (s : ℕ) → has_number s (automatic_sets schema k.rtype) ≡ true → is_current_owner schema unit s (Rec k) ≡ false
  not_current s automatic =
      let at = stands s automatic in
      false_from_ne_true _ (λ h.
      let current : owner_eq at.0.owner (Rec k) ≡ true = rw at.1 at h in
      false≢true (sym fresh ∙ (and_parts _ _ (sym (legal.pairs s (Rec k)) ∙ subst (λ p. is_some (db.lists s p) ≡ true) (same_owner at.0.owner (Rec k) current) at.2)).1))

  own_list : (s : ℕ) → new.lists s (Rec k) ≡ entered_db.lists s (Rec k)
  own_list s =
      elim (cases_Bool (has_number s (automatic_sets schema k.rtype))) [
        | inl e ↦ ap (λ b. cond (has_number s (automatic_sets schema k.rtype) && b) (option_map (joined schema entered_db unit s k) (entered_db.lists s (Rec k))) (entered_db.lists s (Rec k))) (not_current s e)
            ∙ ap (λ b. cond b (option_map (joined schema entered_db unit s k) (entered_db.lists s (Rec k))) (entered_db.lists s (Rec k))) (and_never (has_number s (automatic_sets schema k.rtype)))
        | inr e ↦ list_else s (Rec k) e
      ]

  no_list : (s : ℕ) (o : Owner) → has_occurrence schema db s o ≡ false → db.lists s o ≡ None
  no_list s o h = nothing (db.lists s o) (legal.pairs s o ∙ h) where
    nothing : (l : Option (List DbKey)) → is_some l ≡ false → l ≡ None
    nothing None h = refl
    nothing (Some list) h = absurd (false≢true (sym h))

  own_ring : (s : ℕ) → option_map (ring_of schema new s (Rec k)) (new.lists s (Rec k)) ≡ cond (owns schema s k.rtype) (Some (record { owner = Rec k; members = [] })) None
  own_ring s =
      ap (option_map (ring_of schema new s (Rec k))) (own_list s)
      ∙ elim (cases_Bool (owns schema s k.rtype)) [
        | inl e ↦
            ap (λ b. option_map (ring_of schema new s (Rec k)) (cond b (Some []) (db.lists s (Rec k)))) (and_from _ _ e (key_eq_refl k))
            ∙ ap (λ b. cond b (Some (record { owner = Rec k; members = [] })) None) (sym e)
        | inr e ↦
            ap (λ b. option_map (ring_of schema new s (Rec k)) (cond (b && key_eq k k) (Some []) (db.lists s (Rec k)))) e
            ∙ ap (option_map (ring_of schema new s (Rec k))) (no_list s (Rec k) (ap (λ b. b && is_live db k) e))
            ∙ ap (λ b. cond b (Some (record { owner = Rec k; members = [] })) None) (sym e)
      ]

  pub own_ring_before : (s : ℕ) → cell schema capacity db (Ring s (Some (k.rtype, k.number))) ≡ RingValue None
  unfolding cell
  own_ring_before s =
      let o = Rec (key_at db k.rtype k.number) in
      ap (λ l. RingValue (option_map (ring_of schema db s o) l)) (no_list s o (ap (λ b. owns schema s k.rtype && b) vacant ∙ and_never (owns schema s k.rtype)))

  opened_own : (s : ℕ) → opened_cells (Ring s (Some (k.rtype, k.number))) (RingValue None) ≡ RingValue (cond (owns schema s k.rtype) (Some (record { owner = Rec k; members = [] })) None)
  unfolding opened_cells edits_of_opening
  opened_own s =
      let name = Ring s (Some (k.rtype, k.number)) in
      elim (cases_Bool (owns schema s k.rtype)) [
        | inl e ↦
            edits_hit name edits_of_opening (filter (λ s'. owns schema s' k.rtype) (set_numbers schema)) s (RingValue None) (pairwise_filter _ _ (set_numbers schema) (range_distinct 0 (length schema.sets))) (has_owned s e)
            (λ s' v other. ap (λ b. cond b (edited (OpenRing (Rec k)) v) v) (ap (λ b. b && place_eq (Some (k.rtype, k.number)) (Some (k.rtype, k.number))) (ne_eqb s s' (λ h. other (sym h)))))
            ∙ ap (λ b. cond b (edited (OpenRing (Rec k)) (RingValue None)) (RingValue None)) (and_from _ _ (eq-eqb s s refl) (place_eq_refl (Some (k.rtype, k.number))))
            ∙ ap (λ b. RingValue (cond b (Some (record { owner = Rec k; members = [] })) None)) (sym e)
        | inr e ↦
            edits_miss name edits_of_opening (filter (λ s'. owns schema s' k.rtype) (set_numbers schema)) (RingValue None)
            (λ s' v h. ap (λ b. cond b (edited (OpenRing (Rec k)) v) v) (ap (λ b. b && place_eq (Some (k.rtype, k.number)) (Some (k.rtype, k.number)))
            (ne_eqb s s' (λ same. false≢true (sym e ∙ ap (λ x. owns schema x k.rtype) same ∙ has_number_passes (λ x. owns schema x k.rtype) s' (set_numbers schema) h)))))
            ∙ ap (λ b. RingValue (cond b (Some (record { owner = Rec k; members = [] })) None)) (sym e)
      ] where
        has_owned : (s : ℕ) → owns schema s k.rtype ≡ true → has_number s (filter (λ s'. owns schema s' k.rtype) (set_numbers schema)) ≡ true
        has_owned s e = has_number_filter (λ s'. owns schema s' k.rtype) s (set_numbers schema) e (has_number_range s 0 (length schema.sets) (omega arith) (omega (arith, set_within schema s k.rtype e)))

  -- CELL BY CELL

  entry : Edit
  entry = EnterNumber k.number (calc_items schema k.rtype items)

  filled : Edit
  filled = Fill (first_version k.generation items (first_owners schema unit k.rtype))

  extent_made : (t : ℕ) → cell schema capacity new (Extent t) ≡ cond (eqb t k.rtype) (edited entry (cell schema capacity db (Extent t))) (cell schema capacity db (Extent t))
  unfolding cell entry
  extent_made t =
      let value = cell schema capacity db (Extent t) in
      elim (cases_Bool (eqb t k.rtype)) [
        | inl e ↦
            let here = eqb-true t k.rtype e in
            (λ i. ExtentValue (map (number_of schema new (here i)) (range_with_len 1 capacity)))
            ∙ ap ExtentValue extent_here
            ∙ (λ i. edited entry (ExtentValue (map (number_of schema db (sym here i)) (range_with_len 1 capacity))))
            ∙ ap (λ b. cond b (edited entry value) value) (sym e)
        | inr e ↦
            (λ i. ExtentValue (map (λ n. number_else t n (ap (λ b. b && eqb n k.number) e) i) (range_with_len 1 capacity)))
            ∙ ap (λ b. cond b (edited entry value) value) (sym e)
      ]

  slot_made : Legal schema capacity new → (t n : ℕ) → cell schema capacity new (Slot t n) ≡ cond (is_its_number t n) (edited filled (cell schema capacity db (Slot t n))) (cell schema capacity db (Slot t n))
  unfolding cell filled
  slot_made legal_new t n =
      let value = cell schema capacity db (Slot t n) in
      elim (cases_Bool (is_its_number t n)) [
        | inl e ↦
            let its = its_number t n e in
            (λ i. SlotValue (option_map (slot_of schema capacity new (key_at new (its.0 i) (its.1 i))) (new.records (key_at new (its.0 i) (its.1 i)))))
            ∙ (λ i. SlotValue (option_map (slot_of schema capacity new (key_at_here i)) (new.records (key_at_here i))))
            ∙ ap SlotValue (slot_here legal_new)
            ∙ ap (λ b. cond b (edited filled value) value) (sym e)
        | inr e ↦ ap SlotValue (slot_else legal_new t n e) ∙ ap (λ b. cond b (edited filled value) value) (sym e)
      ]

  owner_at_other : (q : Option (ℕ × ℕ)) → place_eq q (Some (k.rtype, k.number)) ≡ false → owner_at new q ≡ owner_at db q
  owner_at_other None e = refl
  owner_at_other (Some p) e = ap Rec (key_at_else p.0 p.1 e)

  not_k_at : (q : Option (ℕ × ℕ)) → place_eq q (Some (k.rtype, k.number)) ≡ false → owner_eq (Rec k) (owner_at db q) ≡ false
  not_k_at None e = refl
  not_k_at (Some p) e = key_else p.0 p.1 e

  -- the ring of k's own number
  own_made : (s : ℕ) → cell schema capacity new (Ring s (Some (k.rtype, k.number))) ≡ opened_cells (Ring s (Some (k.rtype, k.number))) (joined_cells (Ring s (Some (k.rtype, k.number))) (cell schema capacity db (Ring s (Some (k.rtype, k.number)))))
  unfolding cell
  own_made s =
      let name = Ring s (Some (k.rtype, k.number)) in
      (λ i. RingValue (option_map (ring_of schema new s (Rec (key_at_here i))) (new.lists s (Rec (key_at_here i)))))
      ∙ ap RingValue (own_ring s)
      ∙ sym (opened_own s)
      ∙ ap (opened_cells name) (sym (own_ring_before s) ∙ sym (joined_elsewhere s (Some (k.rtype, k.number)) (cell schema capacity db name)
      (λ place at automatic. let there = stands s automatic in
      let same : there.0 ≡ place = ap (λ p. unwrap_or p place) (sym there.1 ∙ at) in
      owner_not_k s place.owner (subst (λ (p : Place). is_some (db.lists s p.owner) ≡ true) same there.2))))

  -- the ring of another owner
  ring_made : (s : ℕ) (q : Option (ℕ × ℕ)) → place_eq q (Some (k.rtype, k.number)) ≡ false → RingValue (option_map (ring_of schema new s (owner_at db q)) (new.lists s (owner_at db q))) ≡ joined_cells (Ring s q) (cell schema capacity db (Ring s q))
  unfolding cell
  ring_made s q e =
      let o = owner_at db q in
      let entered_is : entered_db.lists s o ≡ db.lists s o = ap (λ b. cond b (Some []) (db.lists s o)) (ap (λ b. owns schema s k.rtype && b) (not_k_at q e) ∙ and_never (owns schema s k.rtype)) in
      elim (cases_Bool (has_number s (automatic_sets schema k.rtype) && is_current_owner schema unit s o)) [
        | inl h ↦
            let hs = and_parts _ _ h in
            let at = stands s hs.0 in
            let current : owner_eq at.0.owner o ≡ true = rw at.1 at hs.1 in
            let same : at.0.owner ≡ o = same_owner at.0.owner o current in
            let named : place_of at.0.owner ≡ q = ap place_of same ∙ owner_at_place db q in
            (λ i. RingValue (option_map (ring_of schema new s (sym same i)) (new.lists s (sym same i))))
            ∙ ap (λ l. RingValue (option_map (ring_of schema new s at.0.owner) l)) (list_here s at.0 hs.0 at.1 at.2)
            ∙ ap RingValue (ring_here s at.0 at.1)
            ∙ (λ i. edited (PlaceMember (order_of schema s) at.0.at k (key_item schema s k.rtype items)) (RingValue (option_map (ring_of schema db s (same i)) (db.lists s (same i)))))
            ∙ sym (joined_here s at.0 (cell schema capacity db (Ring s q)) hs.0 at.1)
            ∙ (λ i. joined_cells (Ring s (named i)) (cell schema capacity db (Ring s q)))
        | inr h ↦
            ap (λ b. RingValue (option_map (ring_of schema new s o) (cond b (option_map (joined schema entered_db unit s k) (entered_db.lists s o)) (entered_db.lists s o)))) h
            ∙ ap (λ l. RingValue (option_map (ring_of schema new s o) l)) entered_is
            ∙ ap RingValue (ring_else s o)
            ∙ sym (joined_elsewhere s q (cell schema capacity db (Ring s q))
            (λ place at automatic. false_from_ne_true _ (λ same.
            let named = same_place q (place_of place.owner) same in
            let there = stands s automatic in
            let present : is_some (db.lists s place.owner) ≡ true = subst (λ (p : Place). is_some (db.lists s p.owner) ≡ true) (ap (λ p. unwrap_or p place) (sym there.1 ∙ at)) there.2 in
            let is_owner : place.owner ≡ o = sym (owner_stands_at_place schema capacity db legal s place.owner (sym (legal.pairs s place.owner) ∙ present)) ∙ ap (owner_at db) (sym named) in
            let current : is_current_owner schema unit s o ≡ true = rw at (subst (λ p. owner_eq place.owner p ≡ true) is_owner (owner_eq_refl place.owner)) in
            false≢true (sym h ∙ and_from _ _ automatic current))))
      ]

  -- STORE changes the cells by its edits
  pub store_makes : Legal schema capacity new → (c : CellName) → cell schema capacity new c ≡ edited_at c (store_edits schema unit k items) (cell schema capacity db c)
  unfolding entry filled cell
  store_makes legal_new (Usage a) = sym (rings_miss (Usage a) (cell schema capacity db (Usage a)) (λ s p. refl)) ∙ sym (edits_in_turn (Usage a) (cell schema capacity db (Usage a)))
  store_makes legal_new (Extent t) =
      let value = cell schema capacity db (Extent t) in
      extent_made t ∙ sym (rings_miss (Extent t) (cond (eqb t k.rtype) (edited entry value) value) (λ s p. refl)) ∙ sym (edits_in_turn (Extent t) value)
  store_makes legal_new (Slot t n) =
      let value = cell schema capacity db (Slot t n) in
      slot_made legal_new t n
      ∙ ap (λ v. cond (is_its_number t n) (edited filled v) v) (sym (rings_miss (Slot t n) value (λ s p. refl)))
      ∙ sym (edits_in_turn (Slot t n) value)
  store_makes legal_new (Ring s q) =
      let value = cell schema capacity db (Ring s q) in
      elim (cases_Bool (place_eq q (Some (k.rtype, k.number)))) [
        | inl e ↦
            let own = same_place q (Some (k.rtype, k.number)) e in
            (λ i. cell schema capacity new (Ring s (own i)))
            ∙ own_made s
            ∙ (λ i. opened_cells (Ring s (sym own i)) (joined_cells (Ring s (sym own i)) (cell schema capacity db (Ring s (sym own i)))))
        | inr e ↦
            (λ i. RingValue (option_map (ring_of schema new s (owner_at_other q e i)) (new.lists s (owner_at_other q e i))))
            ∙ ring_made s q e
            ∙ sym (opened_elsewhere s q (joined_cells (Ring s q) value) e)
      ]
      ∙ sym (edits_in_turn (Ring s q) value)
