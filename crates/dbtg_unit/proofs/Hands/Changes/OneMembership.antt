-- A statement that changes one list of one owner, at one record, and raises that record's version: the cells that it changes.
use Rattle.std.proofs.Common.{◌≡◌, refl, sym, ◌∙◌, ap, subst, ℕ, ◌+◌, Bool, true, false, cond, ◌&&◌, List, [], ◌∷◌, Option, Some, None, length, arith, eqb, inl, inr}
use Rattle.std.specs.Prelude.{is_some, option_map, unwrap_or, slice_set}
use Rattle.std.proofs.lemmas.Bool.{and_parts, and_from, cases_Bool, eqb-true, eq-eqb, false≢true, false_from_ne_true}
use Rattle.dbtg_schema.specs.Lists.{Lists}
use Rattle.dbtg_cells.specs.declared.key.DbKey.{DbKey}
use Rattle.dbtg_cells.specs.declared.key.Owner.{Owner}
use Rattle.dbtg_cells.specs.declared.name.CellName.{CellName}
use Rattle.dbtg_cells.specs.declared.name.CellName.TheVariants.{Usage, Extent, Ring, Slot}
use Rattle.dbtg_cells.specs.Shown.{UsageValue, RingValue, SlotValue}
use Rattle.dbtg_cells.specs.Keys.{key_eq}
use Rattle.dbtg_cells.specs.Names.{place_eq}
use Rattle.dbtg_cells.proofs.Public.{key_eq_refl, place_eq_refl, same_key, same_place}
use Rattle.dbtg_unit.specs.declared.edit.Edit.{Edit}
use Rattle.dbtg_unit.specs.declared.edit.Edit.TheVariants.{ChangeOwner, RaiseVersion}
use Rattle.dbtg_unit.specs.declared.edit.CellEdit.{CellEdit}
use Rattle.dbtg_unit.specs.Database.State.Base.{Database, Record, is_live, members_of, is_member, owner_of, key_at}
use Rattle.dbtg_unit.specs.Database.State.Units.{owners_of}
use Rattle.dbtg_unit.specs.Database.Statements.Effect.{next_version}
use Rattle.dbtg_unit.specs.Database.State.Legal.{Legal}
use Rattle.dbtg_unit.specs.Database.State.Cells.{cell, owner_at, slot_of, ring_of}
use Rattle.dbtg_unit.specs.Database.State.CellNames.{place_of, slot_name}
use Rattle.dbtg_unit.specs.Hands.Edits.{edited_at, edited, with_owner, with_next_version}
use Rattle.dbtg_unit.proofs.Hands.Untouched.LocalRemove.{owner_at_place}
use Rattle.dbtg_unit.proofs.Hands.Changes.RangeMaps.{map_range_set}
use Rattle.dbtg_unit.proofs.Database.Records.OwnersFound.{latest, owner_stands_at_place}
use Rattle.dbtg_unit.proofs.Database.Records.SameItems.{SameItems, extent_same, ring_same, slot_same, owner_of_same, owner_at_same, key_at_same}

-- from db to new, record k has its next version, and joins or leaves the list of an owner in set s
pub record ChangesMembership (schema : Lists) (capacity : ℕ) (db new : Database) (s : ℕ) (k : DbKey) (owner : Owner) : Type 0 where
  pub records : (x : DbKey) → new.records x ≡ cond (key_eq k x) (option_map next_version (db.records x)) (db.records x)
  pub last : (t n : ℕ) → new.last t n ≡ db.last t n
  pub usage : (a : ℕ) → new.usage a ≡ db.usage a
  pub list_else : (s' : ℕ) (o : Owner) → (s' ≡ s → o ≡ owner → ⊥) → new.lists s' o ≡ db.lists s' o
  pub member_else : (x : DbKey) → key_eq x k ≡ false → (s' : ℕ) (o : Owner) → is_member x (members_of new s' o) ≡ is_member x (members_of db s' o)

-- raised versions leave the items
pub items_raised : (db new : Database) (test : DbKey → Bool) → ((x : DbKey) → new.records x ≡ cond (test x) (option_map next_version (db.records x)) (db.records x))
    → (x : DbKey) → option_map (λ (r : Record). r.items) (new.records x) ≡ option_map (λ (r : Record). r.items) (db.records x)
items_raised db new test records x =
    ap (option_map (λ (r : Record). r.items)) (records x)
    ∙ elim (test x) as (λ b. option_map (λ (r : Record). r.items) (cond b (option_map next_version (db.records x)) (db.records x)) ≡ option_map (λ (r : Record). r.items) (db.records x)) [
      | true ↦ elim (db.records x) as (λ r. option_map (λ (q : Record). q.items) (option_map next_version r) ≡ option_map (λ (q : Record). q.items) r) [ None ↦ refl | Some r ↦ refl ]
      | false ↦ refl
    ]

pub changed_items_same : {schema : Lists} {capacity : ℕ} {db new : Database} {s : ℕ} {k : DbKey} {owner : Owner} → ChangesMembership schema capacity db new s k owner → SameItems db new
changed_items_same {db = db} {new = new} {k = k} changes = record { items = items_raised db new (key_eq k) changes.records; last = changes.last }

module _ {schema : Lists} {capacity : ℕ} {db new : Database} {s : ℕ} {k : DbKey} {owner : Owner} (changes : ChangesMembership schema capacity db new s k owner)
    (legal : Legal schema capacity db) (live : is_live db k ≡ true) where
  same : SameItems db new
  same = changed_items_same changes

  -- the owners of k, once the one in s is known
  pub owners_changed : (o : Option Owner) → owner_of schema capacity new s k ≡ o → owners_of schema capacity new k ≡ slice_set (owners_of schema capacity db k) s o
  owners_changed o here =
      map_range_set (λ s'. owner_of schema capacity new s' k) (λ s'. owner_of schema capacity db s' k) o 0 (length schema.sets) s s (omega arith) here
      (λ s' other. owner_of_same same schema capacity s' k (λ p. ap (λ l. is_member k (unwrap_or l [])) (changes.list_else s' p (λ a b. other a))))

  slot_changed : (o : Option Owner) → owner_of schema capacity new s k ≡ o → (r : Option Record)
      → option_map (slot_of schema capacity new k) (option_map next_version r) ≡ option_map with_next_version (option_map (with_owner s o) (option_map (slot_of schema capacity db k) r))
  slot_changed o here None = refl
  slot_changed o here (Some r) = λ i. Some (record { generation = k.generation; version = r.version + 1; items = r.items; owners = owners_changed o here i })

  -- the ring's edit, and the slot's new owner and next version
  abbrev pub membership_edits : Edit → Option Owner → List CellEdit
  membership_edits edit o =
      record { name = Ring s (place_of owner); edit = edit } ∷ record { name = slot_name k; edit = ChangeOwner s o } ∷ record { name = slot_name k; edit = RaiseVersion } ∷ []

  pub membership_cells : (edit : Edit) (o : Option Owner) → is_some (db.lists s owner) ≡ true → owner_of schema capacity new s k ≡ o
      → RingValue (option_map (ring_of schema new s owner) (new.lists s owner)) ≡ edited edit (RingValue (option_map (ring_of schema db s owner) (db.lists s owner)))
      → (c : CellName) → cell schema capacity new c ≡ edited_at c (membership_edits edit o) (cell schema capacity db c)
  unfolding cell
  membership_cells edit o present here ring (Usage a) = ap UsageValue (changes.usage a)
  membership_cells edit o present here ring (Extent t) = extent_same same schema capacity t
  membership_cells edit o present here ring (Ring s' q) =
      let value = cell schema capacity db (Ring s' q) in
      elim (cases_Bool (eqb s' s && place_eq q (place_of owner))) [
        | inl e ↦
            let es = and_parts _ _ e in
            let set_is = eqb-true s' s es.0 in
            let place_is = same_place q (place_of owner) es.1 in
            let stands = owner_stands_at_place schema capacity db legal s owner (sym (legal.pairs s owner) ∙ present) in
            (λ i. RingValue (option_map (ring_of schema new (set_is i) (owner_at new (place_is i))) (new.lists (set_is i) (owner_at new (place_is i)))))
            ∙ (λ i. RingValue (option_map (ring_of schema new s ((owner_at_same same (place_of owner) ∙ stands) i)) (new.lists s ((owner_at_same same (place_of owner) ∙ stands) i))))
            ∙ ring
            ∙ (λ i. edited edit (RingValue (option_map (ring_of schema db s (sym stands i)) (db.lists s (sym stands i)))))
            ∙ (λ i. edited edit (cell schema capacity db (Ring (sym set_is i) (sym place_is i))))
            ∙ ap (λ b. cond b (edited edit value) value) (sym e)
        | inr e ↦
            ring_same same schema capacity s' q (changes.list_else s' (owner_at db q) (λ a b. false≢true (sym e ∙ and_from _ _ (eq-eqb s' s a) (subst (λ p. place_eq p (place_of owner) ≡ true) (ap place_of (sym b) ∙ owner_at_place db q) (place_eq_refl (place_of owner))))))
            ∙ ap (λ b. cond b (edited edit value) value) (sym e)
      ]
  membership_cells edit o present here ring (Slot t n) =
      let value = cell schema capacity db (Slot t n) in
      let moved = edited (ChangeOwner s o) value in
      elim (cases_Bool (eqb t k.rtype && eqb n k.number)) [
        | inl e ↦
            let es = and_parts _ _ e in
            let at : key_at db t n ≡ k = (λ i. key_at db (eqb-true t k.rtype es.0 i) (eqb-true n k.number es.1 i)) ∙ latest schema capacity db legal k live in
            let raised_is : new.records k ≡ option_map next_version (db.records k) = changes.records k ∙ ap (λ b. cond b (option_map next_version (db.records k)) (db.records k)) (key_eq_refl k) in
            (λ i. SlotValue (option_map (slot_of schema capacity new ((key_at_same same t n ∙ at) i)) (new.records ((key_at_same same t n ∙ at) i))))
            ∙ ap (λ r. SlotValue (option_map (slot_of schema capacity new k) r)) raised_is
            ∙ ap SlotValue (slot_changed o here (db.records k))
            ∙ (λ i. SlotValue (option_map with_next_version (option_map (with_owner s o) (option_map (slot_of schema capacity db (sym at i)) (db.records (sym at i))))))
            ∙ ap (λ b. cond b (edited RaiseVersion (cond b moved value)) (cond b moved value)) (sym e)
        | inr e ↦
            let x = key_at db t n in
            let other : key_eq k x ≡ false = false_from_ne_true _ (λ h. false≢true (sym e ∙ same_numbers (same_key k x h))) in
            let other' : key_eq x k ≡ false = false_from_ne_true _ (λ h. false≢true (sym e ∙ same_numbers (sym (same_key x k h)))) in
            slot_same same schema capacity t n (changes.records x ∙ ap (λ b. cond b (option_map next_version (db.records x)) (db.records x)) other) (changes.member_else x other')
            ∙ ap (λ b. cond b (edited RaiseVersion (cond b moved value)) (cond b moved value)) (sym e)
      ] where
        same_numbers : k ≡ key_at db t n → (eqb t k.rtype && eqb n k.number) ≡ true
        same_numbers h = and_from _ _ (eq-eqb t k.rtype (sym (ap (λ x. x.rtype) h))) (eq-eqb n k.number (sym (ap (λ x. x.number) h)))
