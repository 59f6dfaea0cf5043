-- INSERT changes the cells by its edits, and no other cell.
use Rattle.std.proofs.Common.{◌≡◌, refl, sym, ◌∙◌, ap, subst, ℕ, true, false, ◌&&◌, ◌||◌, List, [], Option, Some, None, map, eqb, inl, inr}
use Rattle.std.specs.Prelude.{is_some, option_map, unwrap_or}
use Rattle.std.proofs.lemmas.Bool.{and_parts, and_from, cases_Bool, eqb-true, eq-eqb, false≢true, false_from_ne_true}
use Rattle.dbtg_schema.specs.Lists.{Lists}
use Rattle.dbtg_schema.specs.Structure.{order_of}
use Rattle.dbtg_schema.specs.declared.shape.Order.{Order}
use Rattle.dbtg_schema.specs.declared.shape.Order.TheVariants.{First, Last, Next, Prior, Sorted}
use Rattle.dbtg_cells.specs.declared.key.DbKey.{DbKey}
use Rattle.dbtg_cells.specs.declared.key.Owner.{Owner}
use Rattle.dbtg_cells.specs.declared.key.Value.{Value}
use Rattle.dbtg_cells.specs.declared.name.CellName.{CellName}
use Rattle.dbtg_cells.specs.Shown.{RingValue}
use Rattle.dbtg_cells.specs.Keys.{key_eq, owner_eq}
use Rattle.dbtg_cells.specs.Placed.{placed}
use Rattle.dbtg_cells.proofs.Public.{key_eq_refl, owner_eq_refl, same_owner}
use Rattle.dbtg_unit.specs.declared.unit.Place.{Place}
use Rattle.dbtg_unit.specs.declared.unit.Unit.{Unit}
use Rattle.dbtg_unit.specs.Database.State.Base.{key_item, Database, is_live, items_of, members_of, is_member, sort_key}
use Rattle.dbtg_unit.specs.Database.State.Units.{place_in}
use Rattle.dbtg_unit.specs.Database.Statements.Effect.{inserted, spot, is_current_owner, joined}
use Rattle.dbtg_unit.specs.Database.State.Legal.{Legal}
use Rattle.dbtg_unit.specs.Database.State.Cells.{cell, ring_of}
use Rattle.dbtg_unit.specs.Hands.Edits.{edited_at, member_spot, with_members}
use Rattle.dbtg_unit.specs.Database.Statements.StoredFacts.{whole}
use Rattle.dbtg_unit.specs.Hands.PlanOf.{inserting}
use Rattle.dbtg_unit.proofs.Hands.Changes.OneMembership.{ChangesMembership, changed_items_same, membership_edits, membership_cells}
use Rattle.dbtg_unit.specs.declared.edit.Edit.{Edit}
use Rattle.dbtg_unit.specs.declared.edit.Edit.TheVariants.{PlaceMember}
use Rattle.dbtg_unit.proofs.Lists.PlacedMaps.{map_placed, spot_before_map}
use Rattle.dbtg_unit.proofs.Lists.Listing.{any_placed}
use Rattle.dbtg_unit.proofs.Database.Records.OwnersFound.{member_owner_found}
use Rattle.dbtg_unit.proofs.Database.Records.SameItems.{sort_key_same}

-- a spot in a ring is the spot in the list, by the members' keys
spot_members : (order : Order) (position : Option DbKey) (key : DbKey → Option Value) (m : DbKey)
    → spot order position key m ≡ spot_before_map (λ x. (x, key x)) (member_spot order position (key m))
spot_members First position key m = refl
spot_members Last position key m = refl
spot_members Next None key m = refl
spot_members Next (Some p) key m = refl
spot_members Prior None key m = refl
spot_members Prior (Some p) key m = refl
spot_members (Sorted ascending duplicates) position key m = refl

-- a list with a new member shows in its ring as the ring with that member
pub ring_placed : (order : Order) (position : Option DbKey) (key : DbKey → Option Value) (m : DbKey) (list : List DbKey)
    → map (λ x. (x, key x)) (placed (spot order position key m) m list) ≡ placed (member_spot order position (key m)) (m, key m) (map (λ x. (x, key x)) list)
ring_placed order position key m list =
    ap (λ s. map (λ x. (x, key x)) (placed s m list)) (spot_members order position key m)
    ∙ map_placed (λ x. (x, key x)) (member_spot order position (key m)) m list

module _ (schema : Lists) (capacity : ℕ) (db : Database) (unit : Unit) (s : ℕ) (k : DbKey) (place : Place)
    (legal : Legal schema capacity db) (stands : place_in schema unit s ≡ Some place) (live : is_live db k ≡ true) where
  abbrev pub new : Database
  new = (inserted schema db unit s k).database

  owner_is_current : (o : Owner) → is_current_owner schema unit s o ≡ owner_eq place.owner o
  owner_is_current o = rw stands refl

  -- the list of the current owner has k, and every other list is as it was
  other_lists_stay : (s' : ℕ) (o : Owner) → (s' ≡ s → o ≡ place.owner → ⊥) → new.lists s' o ≡ db.lists s' o
  other_lists_stay s' o other =
      elim (cases_Bool (eqb s s')) [
        | inl e ↦
            let here = eqb-true s s' e in
            let not_owner : is_current_owner schema unit s' o ≡ false =
            false_from_ne_true _ (λ h. other (sym here) (sym (same_owner place.owner o (sym (owner_is_current o) ∙ ap (λ u. is_current_owner schema unit u o) here ∙ h)))) in
            rw (e, not_owner) refl
        | inr e ↦ rw e refl
      ]

  list_here : new.lists s place.owner ≡ option_map (joined schema db unit s k) (db.lists s place.owner)
  list_here = rw (eq-eqb s s refl, owner_is_current place.owner, owner_eq_refl place.owner) refl

  has_here : is_some (db.lists s place.owner) ≡ true → is_member k (members_of new s place.owner) ≡ true
  has_here present =
      ap (λ l. is_member k (unwrap_or l [])) list_here
      ∙ elim (db.lists s place.owner) as (λ l. is_some l ≡ true → is_member k (unwrap_or (option_map (joined schema db unit s k) l) []) ≡ true) [
        | None ↦ λ h. absurd (false≢true h)
        | Some list ↦ λ h. any_placed (key_eq k) _ k list ∙ ap (λ b. b || is_member k list) (key_eq_refl k)
      ] present

  -- another record is in the lists where it was
  other_members_stay : (x : DbKey) → key_eq x k ≡ false → (s' : ℕ) (o : Owner) → is_member x (members_of new s' o) ≡ is_member x (members_of db s' o)
  other_members_stay x other s' o =
      elim (cases_Bool (eqb s' s && owner_eq o place.owner)) [
        | inl e ↦
            let es = and_parts _ _ e in
            let set_is = eqb-true s' s es.0 in
            let owner = same_owner o place.owner es.1 in
            (λ i. is_member x (members_of new (set_is i) (owner i)))
            ∙ ap (λ l. is_member x (unwrap_or l [])) list_here
            ∙ elim (db.lists s place.owner) as (λ l. is_member x (unwrap_or (option_map (joined schema db unit s k) l) []) ≡ is_member x (unwrap_or l [])) [
              | None ↦ refl
              | Some list ↦ any_placed (key_eq x) _ k list ∙ ap (λ b. b || is_member x list) other
            ]
            ∙ (λ i. is_member x (members_of db (sym set_is i) (sym owner i)))
        | inr e ↦ ap (λ l. is_member x (unwrap_or l [])) (other_lists_stay s' o (λ a b. false≢true (sym e ∙ and_from _ _ (eq-eqb s' s a) (subst (λ p. owner_eq p place.owner ≡ true) (sym b) (owner_eq_refl place.owner)))))
      ]

  changes : ChangesMembership schema capacity db new s k place.owner
  changes = record { records = λ x. refl; last = λ t n. refl; usage = λ a. refl; list_else = other_lists_stay; member_else = other_members_stay }

  ring_here : (l : Option (List DbKey)) → option_map (ring_of schema new s place.owner) (option_map (joined schema db unit s k) l)
      ≡ option_map (with_members (placed (member_spot (order_of schema s) place.at (sort_key schema db s k)) (k, sort_key schema db s k))) (option_map (ring_of schema db s place.owner) l)
  ring_here None = refl
  ring_here (Some list) =
      let placed_is : map (λ x. (x, sort_key schema db s x)) (joined schema db unit s k list)
      ≡ placed (member_spot (order_of schema s) place.at (sort_key schema db s k)) (k, sort_key schema db s k) (map (λ x. (x, sort_key schema db s x)) list) =
      rw stands (ring_placed (order_of schema s) place.at (sort_key schema db s) k list) in
      (λ i. Some (record { owner = place.owner; members = map (λ x. (x, sort_key_same (changed_items_same changes) schema s x i)) (joined schema db unit s k list) }))
      ∙ (λ i. Some (record { owner = place.owner; members = placed_is i }))

  -- INSERT changes the cells by its edits
  pub insert_makes : Legal schema capacity new → is_some (db.lists s place.owner) ≡ true → (c : CellName) → cell schema capacity new c ≡ edited_at c (inserting schema (whole schema capacity db) unit s k).cells (cell schema capacity db c)
  insert_makes legal_new present c =
      let key = key_item schema s k.rtype (items_of db k) in
      let edit : Edit = PlaceMember (order_of schema s) place.at k key in
      let edits_are : (inserting schema (whole schema capacity db) unit s k).cells ≡ membership_edits changes legal live edit (Some place.owner) = rw stands refl in
      membership_cells changes legal live edit (Some place.owner) present (member_owner_found schema capacity new legal_new s place.owner k (has_here present))
      (ap (λ l. RingValue (option_map (ring_of schema new s place.owner) l)) list_here ∙ ap RingValue (ring_here (db.lists s place.owner))) c
      ∙ ap (λ es. edited_at c es (cell schema capacity db c)) (sym edits_are)
