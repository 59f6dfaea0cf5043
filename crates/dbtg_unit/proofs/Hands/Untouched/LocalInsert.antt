-- INSERT changes the ring of the current owner and the slot of the record, and no other cell.
use Rattle.std.proofs.Common.{◌≡◌, refl, sym, ◌∙◌, ap, subst, ℕ, Bool, true, false, ◌&&◌, ◌||◌, List, [], ◌∷◌, Option, Some, None, eqb, inl, inr}
use Rattle.std.specs.Prelude.{is_some, option_map, unwrap_or}
use Rattle.std.proofs.lemmas.Bool.{and_parts, and_right, or_cases, false≢true, false_from_ne_true, eqb-true, cond-false, cond_both}
use Rattle.dbtg_schema.specs.Lists.{Lists}
use Rattle.dbtg_cells.specs.declared.key.DbKey.{DbKey}
use Rattle.dbtg_cells.specs.declared.key.Owner.{Owner}
use Rattle.dbtg_cells.specs.declared.key.Value.{Value}
use Rattle.dbtg_cells.specs.declared.name.CellName.{CellName}
use Rattle.dbtg_cells.specs.declared.name.CellName.TheVariants.{Usage, Extent, Ring, Slot}
use Rattle.dbtg_cells.specs.Keys.{key_eq, owner_eq}
use Rattle.dbtg_cells.proofs.Public.{same_key, same_owner}
use Rattle.dbtg_unit.specs.declared.unit.Unit.{Unit}
use Rattle.dbtg_unit.specs.declared.unit.Place.{Place}
use Rattle.dbtg_unit.specs.Database.State.Base.{Database, Record, is_live, items_of, key_at, members_of, is_member, key_item}
use Rattle.dbtg_unit.specs.Database.State.Units.{place_in}
use Rattle.dbtg_unit.specs.Database.State.CellNames.{place_of}
use Rattle.dbtg_unit.specs.Database.State.Cells.{cell, owner_at}
use Rattle.dbtg_unit.specs.Database.Statements.Effect.{raised, next_version, connected_in, joined, is_current_owner}
use Rattle.dbtg_unit.proofs.Lists.Membership.{some_and_value}
use Rattle.dbtg_unit.proofs.Database.Legal.StoreLegal.{joins, member_connected}
use Rattle.dbtg_unit.proofs.Hands.Untouched.LocalCells.{usage_same, extent_same, ring_same, slot_same, owner_of_same, owner_at_same}
use Rattle.dbtg_unit.proofs.Hands.Untouched.LocalRemove.{owner_at_place}

-- RECORDS WITH THE NEXT VERSION

-- the same records are live
pub raised_live : (test : DbKey → Bool) (db : Database) (x : DbKey) → is_live (raised test db) x ≡ is_live db x
raised_live test db x = cond_both (test x) (option_map next_version (db.records x)) (db.records x) (λ o. is_some o ≡ is_live db x) (λ e. kept (db.records x)) (λ e. refl) where
  kept : (o : Option Record) → is_some (option_map next_version o) ≡ is_some o
  kept None = refl
  kept (Some r) = refl

-- what is made of their items is as before
pub raised_of_items : {X : Type 0} (f : List Value → X) (test : DbKey → Bool) (db : Database) (x : DbKey) → option_map (λ (r : Record). f r.items) ((raised test db).records x) ≡ option_map (λ (r : Record). f r.items) (db.records x)
raised_of_items f test db x =
    cond_both (test x) (option_map next_version (db.records x)) (db.records x) (λ o. option_map (λ (r : Record). f r.items) o ≡ option_map (λ (r : Record). f r.items) (db.records x)) (λ e. kept (db.records x)) (λ e. refl) where
      kept : (o : Option Record) → option_map (λ (r : Record). f r.items) (option_map next_version o) ≡ option_map (λ (r : Record). f r.items) o
      kept None = refl
      kept (Some r) = refl

pub raised_items : (test : DbKey → Bool) (db : Database) (x : DbKey) → items_of (raised test db) x ≡ items_of db x
raised_items test db x = ap (λ (o : Option (List Value)). unwrap_or o []) (raised_of_items (λ items. items) test db x)

-- who is current in a set, and owns the list that is joined
pub current_owner_place : (schema : Lists) (unit : Unit) (s : ℕ) (o : Owner) → is_current_owner schema unit s o ≡ true → (place : Place) × (place_in schema unit s ≡ Some place) × (place.owner ≡ o)
current_owner_place schema unit s o h = let e = some_and_value (λ (place : Place). owner_eq place.owner o) (place_in schema unit s) h in (e.0, e.1, same_owner e.0.owner o e.2)

-- the key of a slot that is not k's is not k
pub other_key : (db : Database) (k : DbKey) (t n : ℕ) → (Slot t n ≡ Slot k.rtype k.number → ⊥) → key_eq k (key_at db t n) ≡ false
other_key db k t n h = false_from_ne_true _ (λ e. h (λ i. Slot ((sym (same_key k (key_at db t n) e) i).rtype) ((sym (same_key k (key_at db t n) e) i).number)))

pub other_key' : (db : Database) (k : DbKey) (t n : ℕ) → (Slot t n ≡ Slot k.rtype k.number → ⊥) → key_eq (key_at db t n) k ≡ false
other_key' db k t n h = false_from_ne_true _ (λ e. h (λ i. Slot ((same_key (key_at db t n) k e i).rtype) ((same_key (key_at db t n) k e i).number)))

module _ (schema : Lists) (capacity : ℕ) (db : Database) (unit : Unit) (s : ℕ) (k : DbKey) where
  abbrev pub after_insert : Database
  after_insert = raised (key_eq k) (connected_in schema db unit (s ∷ []) k)

  other_list : (s' : ℕ) (o : Owner) → (joins schema unit (s ∷ []) s' o ≡ true → ⊥) → after_insert.lists s' o ≡ db.lists s' o
  other_list s' o h = cond-false _ (option_map (joined schema db unit s' k) (db.lists s' o)) (db.lists s' o) (false_from_ne_true _ h)

  other_member : (x : DbKey) → key_eq x k ≡ false → (s' : ℕ) (o : Owner) → is_member x (members_of after_insert s' o) ≡ is_member x (members_of db s' o)
  other_member x h s' o = member_connected schema db unit (s ∷ []) k s' o x ∙ ap (λ b. b || is_member x (members_of db s' o)) (and_right (joins schema unit (s ∷ []) s' o && is_some (db.lists s' o)) (key_eq x k) h)

  pub inserted_local : (c : CellName) → ((place : Place) → place_in schema unit s ≡ Some place → c ≡ Ring s (place_of place.owner) → ⊥) → (c ≡ Slot k.rtype k.number → ⊥)
      → cell schema capacity after_insert c ≡ cell schema capacity db c
  inserted_local (Usage a) not_ring not_slot = usage_same schema capacity db after_insert a refl
  inserted_local (Extent t) not_ring not_slot = extent_same schema capacity db after_insert t (λ n. refl) (λ x e. raised_of_items _ (key_eq k) (connected_in schema db unit (s ∷ []) k) x)
  inserted_local (Ring s' q) not_ring not_slot =
      ring_same schema capacity db after_insert s' q (owner_at_same schema capacity db after_insert (λ t n. refl) (λ x. raised_live (key_eq k) (connected_in schema db unit (s ∷ []) k) x) q)
      (other_list s' (owner_at db q) (λ h.
      let hs = and_parts _ _ h in
      let place = current_owner_place schema unit s' (owner_at db q) hs.1 in
      let same : s ≡ s' = only hs.0 in
      not_ring place.0 (subst (λ n. place_in schema unit n ≡ Some place.0) (sym same) place.1) (λ i. Ring (sym same i) ((sym (owner_at_place db q) ∙ ap place_of (sym place.2)) i))))
      (λ x m. ap (key_item schema s' x.rtype) (raised_items (key_eq k) (connected_in schema db unit (s ∷ []) k) x)) where
        only : (eqb s s' || false) ≡ true → s ≡ s'
        only h = elim (or_cases _ _ h) [ inl e ↦ eqb-true s s' e | inr e ↦ absurd (false≢true e) ]
  inserted_local (Slot t n) not_ring not_slot =
      slot_same schema capacity db after_insert t n refl (cond-false _ (option_map next_version (db.records (key_at db t n))) (db.records (key_at db t n)) (other_key db k t n not_slot))
      (λ s' live. owner_of_same schema capacity db after_insert (λ u m. refl) (λ x. raised_live (key_eq k) (connected_in schema db unit (s ∷ []) k) x) s' (key_at db t n) (other_member (key_at db t n) (other_key' db k t n not_slot) s'))
