-- REMOVE changes the ring of the list and the slot of the record, and no other cell.
use Rattle.std.proofs.Common.{◌≡◌, refl, sym, ◌∙◌, ap, subst, ℕ, true, false, cond, not, ◌||◌, List, [], ◌∷◌, Option, Some, None, eqb, map}
use Rattle.std.specs.Prelude.{is_some, option_map, unwrap_or, filter}
use Rattle.std.specs.List.{find, range_with_len}
use Rattle.std.proofs.lemmas.Bool.{or_parts, false_from_ne_true, eqb-true}
use Rattle.dbtg_schema.specs.Lists.{Lists}
use Rattle.dbtg_cells.specs.declared.key.DbKey.{DbKey}
use Rattle.dbtg_cells.specs.declared.key.Owner.{Owner}
use Rattle.dbtg_cells.specs.declared.key.Owner.TheVariants.{System, Rec}
use Rattle.dbtg_cells.specs.declared.name.CellName.{CellName}
use Rattle.dbtg_cells.specs.declared.name.CellName.TheVariants.{Usage, Extent, Ring, Slot}
use Rattle.dbtg_cells.specs.Shown.{ExtentValue, RingValue, SlotValue}
use Rattle.dbtg_cells.specs.Keys.{key_eq}
use Rattle.dbtg_unit.specs.declared.unit.Unit.{Unit}
use Rattle.dbtg_unit.specs.Database.State.Base.{Database, Record, is_live, items_of, members_of, is_member, owners, owner_of, key_item, sort_key, key_at, calc_items, live_keys}
use Rattle.dbtg_unit.specs.Database.Statements.Effect.{removed, without, next_version}
use Rattle.dbtg_unit.specs.Database.State.CellNames.{place_of}
use Rattle.dbtg_unit.specs.Database.State.Cells.{cell, owner_at}
use Rattle.dbtg_unit.specs.Database.State.Legal.{Legal}
use Rattle.dbtg_schema.specs.Structure.{is_system, owner_type, set_numbers}
use Rattle.dbtg_cells.proofs.Public.{same_key}

-- who stands at a place is known by it
pub owner_at_place : (db : Database) (q : Option (ℕ × ℕ)) → place_of (owner_at db q) ≡ q
owner_at_place db None = refl
owner_at_place db (Some p) = refl

-- a list without a key that it doesn't have
pub without_absent : (k : DbKey) (xs : List DbKey) → is_member k xs ≡ false → without k xs ≡ xs
without_absent k [] h = refl
without_absent k (x ∷ xs) h =
    let hs = or_parts (key_eq k x) (is_member k xs) h in
    ap (λ b. cond (not b) (x ∷ without k xs) (without k xs)) hs.0 ∙ ap (λ (ys : List DbKey). x ∷ ys) (without_absent k xs hs.1)

-- another key is where it was
pub member_without : (k x : DbKey) (xs : List DbKey) → key_eq x k ≡ false → is_member x (without k xs) ≡ is_member x xs
member_without k x [] h = refl
member_without k x (y ∷ ys) h =
    elim (key_eq k y) as (λ b. (key_eq k y ≡ b) → is_member x (cond (not b) (y ∷ without k ys) (without k ys)) ≡ (key_eq x y || is_member x ys)) [
      | true ↦ λ e. member_without k x ys h ∙ ap (λ b. b || is_member x ys) (sym h ∙ ap (key_eq x) (same_key k y e))
      | false ↦ λ e. ap (λ b. key_eq x y || b) (member_without k x ys h)
    ] refl

module _ (schema : Lists) (capacity : ℕ) (db : Database) (unit : Unit) (s : ℕ) (k : DbKey) where
  abbrev pub new : Database
  new = (removed db unit s k).database

  same_live : (x : DbKey) → is_live new x ≡ is_live db x
  same_live x = elim (key_eq k x) as (λ b. is_some (cond b (option_map next_version (db.records x)) (db.records x)) ≡ is_some (db.records x)) [
    | true ↦ elim (db.records x) as (λ r. is_some (option_map next_version r) ≡ is_some r) [ None ↦ refl | Some r ↦ refl ]
    | false ↦ refl
  ]

  -- what is made of a record's items is as before
  same_of_items : {X : Type 0} (f : List _ → X) (x : DbKey) → option_map (λ (r : Record). f r.items) (new.records x) ≡ option_map (λ (r : Record). f r.items) (db.records x)
  same_of_items f x = elim (key_eq k x) as (λ b. option_map (λ (r : Record). f r.items) (cond b (option_map next_version (db.records x)) (db.records x)) ≡ option_map (λ (r : Record). f r.items) (db.records x)) [
    | true ↦ elim (db.records x) as (λ r. option_map (λ (q : Record). f q.items) (option_map next_version r) ≡ option_map (λ (q : Record). f q.items) r) [ None ↦ refl | Some r ↦ refl ]
    | false ↦ refl
  ]

  same_items : (x : DbKey) → items_of new x ≡ items_of db x
  same_items x = ap (λ o. unwrap_or o []) (same_of_items (λ items. items) x)

  same_sort_key : (s' : ℕ) (x : DbKey) → sort_key schema new s' x ≡ sort_key schema db s' x
  same_sort_key s' x = ap (key_item schema s' x.rtype) (same_items x)

  same_live_keys : (t : ℕ) → live_keys capacity new t ≡ live_keys capacity db t
  same_live_keys t = λ i. filter (λ x. same_live x i) (map (key_at db t) (range_with_len 1 capacity))

  same_owners : (s' : ℕ) → owners schema capacity new s' ≡ owners schema capacity db s'
  same_owners s' = λ i. cond (is_system schema s') (System ∷ []) (unwrap_or (option_map (λ t. map Rec (same_live_keys t i)) (owner_type schema s')) [])

  -- another record is in the lists where it was
  same_member : (s' : ℕ) (o : Owner) (x : DbKey) → key_eq x k ≡ false → is_member x (members_of new s' o) ≡ is_member x (members_of db s' o)
  same_member s' o x h =
      elim (eqb s' s) as (λ b. is_member x (unwrap_or (cond b (option_map (without k) (db.lists s' o)) (db.lists s' o)) []) ≡ is_member x (members_of db s' o)) [
        | true ↦ elim (db.lists s' o) as (λ l. is_member x (unwrap_or (option_map (without k) l) []) ≡ is_member x (unwrap_or l [])) [ None ↦ refl | Some list ↦ member_without k x list h ]
        | false ↦ refl
      ]

  same_owner_of : (s' : ℕ) (x : DbKey) → key_eq x k ≡ false → owner_of schema capacity new s' x ≡ owner_of schema capacity db s' x
  same_owner_of s' x h = λ i. find (λ o. same_member s' o x h i) (same_owners s' i)

  -- a list without k is as it was
  same_list : (s' : ℕ) (o : Owner) → (s' ≡ s → is_member k (members_of db s' o) ≡ false) → new.lists s' o ≡ db.lists s' o
  same_list s' o none =
      elim (eqb s' s) as (λ b. (eqb s' s ≡ b) → cond b (option_map (without k) (db.lists s' o)) (db.lists s' o) ≡ db.lists s' o) [
        | true ↦ λ e. elim (db.lists s' o) as (λ l. (is_member k (unwrap_or l []) ≡ false) → option_map (without k) l ≡ l) [
          | None ↦ λ h. refl
          | Some list ↦ λ h. ap Some (without_absent k list h)
        ] (none (eqb-true s' s e))
        | false ↦ λ e. refl
      ] refl

  -- every cell but the ring of the list that had k, and the slot of k
  pub removed_local : Legal schema capacity db → (o : Owner) → is_member k (members_of db s o) ≡ true
      → (c : CellName) → (c ≡ Ring s (place_of o) → ⊥) → (c ≡ Slot k.rtype k.number → ⊥) → cell schema capacity new c ≡ cell schema capacity db c
  unfolding cell
  removed_local legal o has (Usage a) not_ring not_slot = refl
  removed_local legal o has (Extent t) not_ring not_slot =
      λ i. ExtentValue (map (λ n. record { last = db.last t n; calc = same_of_items (calc_items schema t) (key_at db t n) i }) (range_with_len 1 capacity))
  removed_local legal o has (Ring s' q) not_ring not_slot =
      let p = owner_at db q in
      let list_is = same_list s' p (λ e. false_from_ne_true _ (λ h. not_ring (λ i. Ring (e i) ((sym (owner_at_place db q) ∙ ap place_of (legal.in_one s p o k (subst (λ u. is_member k (members_of db u p) ≡ true) e h) has)) i)))) in
      λ i. RingValue (option_map (λ list. record { owner = p; members = map (λ x. (x, same_sort_key s' x i)) list }) (list_is i))
  removed_local legal o has (Slot t n) not_ring not_slot =
      let x = key_at db t n in
      let other : key_eq k x ≡ false = false_from_ne_true _ (λ h. not_slot (λ i. Slot ((sym (same_key k x h) i).rtype) ((sym (same_key k x h) i).number))) in
      let other' : key_eq x k ≡ false = false_from_ne_true _ (λ h. not_slot (λ i. Slot ((same_key x k h i).rtype) ((same_key x k h i).number))) in
      λ i. SlotValue (option_map (λ r. record { generation = db.last t n; version = r.version; items = r.items; owners = map (λ s'. same_owner_of s' x other' i) (set_numbers schema) }) (ap (λ b. cond b (option_map next_version (db.records x)) (db.records x)) other i))
