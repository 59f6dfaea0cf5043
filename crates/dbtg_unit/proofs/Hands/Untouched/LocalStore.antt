-- STORE changes the extent of its type, the slot of the new record, its own rings and those of its current owners, and no other cell.
use Rattle.std.proofs.Common.{◌≡◌, refl, sym, ◌∙◌, ap, subst, ℕ, ◌+◌, true, false, ◌&&◌, ◌||◌, List, [], Option, Some, None, eqb, inl, inr, arith}
use Rattle.std.specs.Prelude.{is_some, option_map, unwrap_or}
use Rattle.std.proofs.lemmas.Bool.{and_parts, and_from, and_right, false≢true, false_from_ne_true, eqb-true, eq-eqb, cond-false, cases_Bool}
use Rattle.dbtg_schema.specs.Lists.{Lists}
use Rattle.dbtg_schema.specs.Structure.{automatic_sets, owns}
use Rattle.dbtg_schema.proofs.Public.{none_is}
use Rattle.dbtg_cells.specs.declared.key.DbKey.{DbKey}
use Rattle.dbtg_cells.specs.declared.key.Owner.{Owner}
use Rattle.dbtg_cells.specs.declared.key.Owner.TheVariants.{Rec}
use Rattle.dbtg_cells.specs.declared.key.Value.{Value}
use Rattle.dbtg_cells.specs.declared.name.CellName.{CellName}
use Rattle.dbtg_cells.specs.declared.name.CellName.TheVariants.{Usage, Extent, Ring, Slot}
use Rattle.dbtg_cells.specs.Keys.{key_eq, owner_eq}
use Rattle.dbtg_cells.specs.Names.{place_eq}
use Rattle.dbtg_cells.proofs.Public.{place_eq_refl, same_key, same_owner, same_place}
use Rattle.dbtg_unit.specs.declared.unit.Unit.{Unit}
use Rattle.dbtg_unit.specs.declared.unit.Place.{Place}
use Rattle.dbtg_unit.specs.Database.State.Base.{Database, Record, is_live, key_at, members_of, is_member, calc_items, key_item}
use Rattle.dbtg_unit.specs.Database.State.Units.{place_in}
use Rattle.dbtg_unit.specs.Database.State.CellNames.{place_of}
use Rattle.dbtg_unit.specs.Database.State.Cells.{cell, owner_at}
use Rattle.dbtg_unit.specs.Database.Statements.Effect.{connected_in, with_new, new_key, joined}
use Rattle.dbtg_unit.specs.Database.State.Legal.{Legal}
use Rattle.dbtg_unit.proofs.Database.Legal.StoreLegal.{joins, member_connected, member_new}
use Rattle.dbtg_unit.proofs.Hands.Untouched.LocalCells.{usage_same, extent_same, ring_same, ring_none, slot_same}
use Rattle.dbtg_unit.proofs.Hands.Untouched.LocalInsert.{current_owner_place}
use Rattle.dbtg_unit.proofs.Hands.Untouched.LocalModify.{among}
use Rattle.dbtg_unit.proofs.Hands.Untouched.LocalRemove.{owner_at_place}
use Rattle.dbtg_unit.proofs.Database.Records.OwnersFound.{owner_of_by_members}

-- a new key is not live
pub new_is_fresh : (schema : Lists) (capacity : ℕ) (db : Database) (t n : ℕ) → Legal schema capacity db → is_live db (new_key db t n) ≡ false
new_is_fresh schema capacity db t n legal = false_from_ne_true _ (λ live. let last = (legal.keys (new_key db t n) live).4 in absurd (omega arith))

module _ (schema : Lists) (capacity : ℕ) (db : Database) (unit : Unit) (t n : ℕ) (items : List Value) where
  abbrev k : DbKey
  k = new_key db t n

  abbrev pub after_store : Database
  after_store = connected_in schema (with_new schema db k items) unit (automatic_sets schema t) k

  other_last : (u m : ℕ) → (u ≡ t → m ≡ n → ⊥) → after_store.last u m ≡ db.last u m
  other_last u m h = cond-false (eqb u t && eqb m n) (db.last t n + 1) (db.last u m) (false_from_ne_true _ (λ e. let es = and_parts _ _ e in h (eqb-true u t es.0) (eqb-true m n es.1)))

  other_record : (x : DbKey) → key_eq k x ≡ false → after_store.records x ≡ db.records x
  other_record x h = cond-false (key_eq k x) (Some (record { items = items; version = 1 })) (db.records x) h

  other_list : (s : ℕ) (o : Owner) → (joins schema unit (automatic_sets schema t) s o ≡ true → ⊥) → ((owns schema s t && owner_eq (Rec k) o) ≡ true → ⊥) → after_store.lists s o ≡ db.lists s o
  other_list s o h g =
      let d = with_new schema db k items in
      cond-false (joins schema unit (automatic_sets schema t) s o) (option_map (joined schema d unit s k) (d.lists s o)) (d.lists s o) (false_from_ne_true _ h)
      ∙ cond-false (owns schema s t && owner_eq (Rec k) o) (Some []) (db.lists s o) (false_from_ne_true _ g)

  other_place : (q : Option (ℕ × ℕ)) → place_eq q (Some (t, n)) ≡ false → owner_at after_store q ≡ owner_at db q
  other_place None h = refl
  other_place (Some p) h = λ i. Rec (record { rtype = p.0; number = p.1; generation = other_last p.0 p.1 (λ e f. false≢true (sym h ∙ and_from _ _ (eq-eqb p.0 t e) (eq-eqb p.1 n f))) i })

  module _ (legal : Legal schema capacity db) (legal' : Legal schema capacity after_store) where
    -- a live record is another one
    other_live : (x : DbKey) → is_live db x ≡ true → key_eq k x ≡ false
    other_live x live = false_from_ne_true _ (λ e. false≢true (sym (new_is_fresh schema capacity db t n legal) ∙ ap (is_live db) (same_key k x e) ∙ live))

    other_member : (x : DbKey) → key_eq x k ≡ false → (s : ℕ) (o : Owner) → is_member x (members_of after_store s o) ≡ is_member x (members_of db s o)
    other_member x h s o =
        let d = with_new schema db k items in
        member_connected schema d unit (automatic_sets schema t) k s o x
        ∙ ap (λ b. b || is_member x (members_of d s o)) (and_right (joins schema unit (automatic_sets schema t) s o && is_some (d.lists s o)) (key_eq x k) h)
        ∙ member_new schema capacity db k items legal (new_is_fresh schema capacity db t n legal) s o x

    -- a set that the type does not own has no list of an owner of the type
    no_list : (d : Database) → Legal schema capacity d → (s m : ℕ) → owns schema s t ≡ false → d.lists s (Rec (key_at d t m)) ≡ None
    no_list d ld s m h = none_is (d.lists s (Rec (key_at d t m))) (ld.pairs s (Rec (key_at d t m)) ∙ ap (λ b. b && is_live d (key_at d t m)) h)

    pub stored_local : (c : CellName) → (c ≡ Extent t → ⊥) → (c ≡ Slot t n → ⊥)
        → ((s : ℕ) (place : Place) → among s (automatic_sets schema t) ≡ true → place_in schema unit s ≡ Some place → c ≡ Ring s (place_of place.owner) → ⊥)
        → ((s : ℕ) → owns schema s t ≡ true → c ≡ Ring s (Some (t, n)) → ⊥)
        → cell schema capacity after_store c ≡ cell schema capacity db c
    stored_local (Usage a) not_extent not_slot not_joined not_owned = usage_same schema capacity db after_store a refl
    stored_local (Extent u) not_extent not_slot not_joined not_owned =
        extent_same schema capacity db after_store u (λ m. other_last u m (λ e f. not_extent (ap Extent e)))
        (λ x is_u. ap (option_map (λ (r : Record). calc_items schema u r.items)) (other_record x (false_from_ne_true _ (λ e. not_extent (ap Extent (sym is_u ∙ ap (λ (y : DbKey). y.rtype) (sym (same_key k x e))))))))
    stored_local (Ring s q) not_extent not_slot not_joined not_owned =
        elim (cases_Bool (place_eq q (Some (t, n)))) [
          | inl h ↦
              let e = same_place q (Some (t, n)) h in
              let unowned : owns schema s t ≡ false = false_from_ne_true _ (λ own. not_owned s own (ap (Ring s) e)) in
              subst (λ (p : Option (ℕ × ℕ)). cell schema capacity after_store (Ring s p) ≡ cell schema capacity db (Ring s p)) (sym e)
              (ring_none schema capacity db after_store s (Some (t, n)) (no_list after_store legal' s n unowned) (no_list db legal s n unowned))
          | inr h ↦
              ring_same schema capacity db after_store s q (other_place q h)
              (other_list s (owner_at db q)
              (λ j. let js = and_parts _ _ j in let place = current_owner_place schema unit s (owner_at db q) js.1 in
              not_joined s place.0 js.0 place.1 (ap (Ring s) (sym (owner_at_place db q) ∙ ap place_of (sym place.2))))
              (λ j. let js = and_parts _ _ j in
              false≢true (sym h ∙ ap (λ p. place_eq p (Some (t, n))) (sym (owner_at_place db q) ∙ ap place_of (sym (same_owner (Rec k) (owner_at db q) js.1))) ∙ place_eq_refl (Some (t, n)))))
              (λ x m. ap (λ (o : Option Record). key_item schema s x.rtype (unwrap_or (option_map (λ (r : Record). r.items) o) [])) (other_record x (other_live x (legal.members s (owner_at db q) x m).0)))
        ]
    stored_local (Slot u m) not_extent not_slot not_joined not_owned =
        let x = key_at db u m in
        slot_same schema capacity db after_store u m (other_last u m (λ e f. not_slot (λ i. Slot (e i) (f i))))
        (other_record x (false_from_ne_true _ (λ e. not_slot (λ i. Slot ((sym (same_key k x e) i).rtype) ((sym (same_key k x e) i).number)))))
        (λ s live. owner_of_by_members schema capacity db after_store legal legal' s x
        (other_member x (false_from_ne_true _ (λ e. not_slot (λ i. Slot ((same_key x k e i).rtype) ((same_key x k e i).number)))) s))
