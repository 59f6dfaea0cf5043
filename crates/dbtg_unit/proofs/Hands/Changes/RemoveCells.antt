-- REMOVE changes the cells by its edits, and no other cell.
use Rattle.std.proofs.Common.{◌≡◌, refl, sym, ◌∙◌, ap, subst, ℕ, true, false, cond, not, List, [], ◌∷◌, Option, Some, None, map, eqb, inl, inr}
use Rattle.std.specs.Prelude.{option_map, unwrap_or}
use Rattle.std.proofs.lemmas.Bool.{cases_Bool, eqb-true, eq-eqb, false_from_ne_true}
use Rattle.dbtg_schema.specs.Lists.{Lists}
use Rattle.dbtg_cells.specs.declared.key.DbKey.{DbKey}
use Rattle.dbtg_cells.specs.declared.key.Owner.{Owner}
use Rattle.dbtg_cells.specs.declared.name.CellName.{CellName}
use Rattle.dbtg_cells.specs.Shown.{RingValue}
use Rattle.dbtg_cells.specs.Keys.{key_eq}
use Rattle.dbtg_unit.specs.declared.unit.Unit.{Unit}
use Rattle.dbtg_unit.specs.declared.edit.Edit.TheVariants.{TakeOut}
use Rattle.dbtg_unit.specs.Database.State.Base.{Database, is_live, members_of, is_member, owner_of, sort_key}
use Rattle.dbtg_unit.specs.Database.Statements.Effect.{removed, without}
use Rattle.dbtg_unit.specs.Database.State.Legal.{Legal}
use Rattle.dbtg_unit.specs.Database.State.Cells.{cell, ring_of}
use Rattle.dbtg_unit.specs.Hands.Edits.{edited_at, members_without, with_members}
use Rattle.dbtg_unit.specs.Database.Statements.StoredFacts.{whole}
use Rattle.dbtg_unit.specs.Hands.PlanOf.{removing}
use Rattle.dbtg_unit.proofs.Lists.PlacedMaps.{map_filter}
use Rattle.dbtg_unit.proofs.Hands.Untouched.LocalRemove.{without_absent, member_without}
use Rattle.dbtg_unit.proofs.Database.Records.OwnersFound.{member_has_list, owner_has_member, find_none}
use Rattle.dbtg_unit.proofs.Hands.Changes.OneMembership.{ChangesMembership, changed_items_same, membership_edits, membership_cells}
use Rattle.dbtg_unit.proofs.Database.Records.SameItems.{sort_key_same}

-- no list has a key that was taken out of it
pub without_gone : (k : DbKey) (xs : List DbKey) → is_member k (without k xs) ≡ false
without_gone k [] = refl
without_gone k (x ∷ xs) =
    elim (cases_Bool (key_eq k x)) [
      | inl e ↦ rw e (without_gone k xs)
      | inr e ↦ rw (e, e) (without_gone k xs)
    ]

module _ (schema : Lists) (capacity : ℕ) (db : Database) (unit : Unit) (s : ℕ) (k : DbKey) (owner : Owner)
    (legal : Legal schema capacity db) (live : is_live db k ≡ true) (stands : owner_of schema capacity db s k ≡ Some owner) where
  abbrev pub new : Database
  new = (removed db unit s k).database

  has : is_member k (members_of db s owner) ≡ true
  has = owner_has_member schema capacity db s owner k stands

  list_here : new.lists s owner ≡ option_map (without k) (db.lists s owner)
  list_here = rw (eq-eqb s s refl) refl

  -- every other list is as it was
  other_lists_stay : (s' : ℕ) (o : Owner) → (s' ≡ s → o ≡ owner → ⊥) → new.lists s' o ≡ db.lists s' o
  other_lists_stay s' o other =
      elim (cases_Bool (eqb s' s)) [
        | inl e ↦
            let here = eqb-true s' s e in
            let absent : is_member k (members_of db s' o) ≡ false =
            false_from_ne_true _ (λ h. other here (legal.in_one s o owner k (subst (λ u. is_member k (members_of db u o) ≡ true) here h) has)) in
            rw e (elim (db.lists s' o) as (λ l. is_member k (unwrap_or l []) ≡ false → option_map (without k) l ≡ l) [
              | None ↦ λ h. refl
              | Some list ↦ λ h. ap Some (without_absent k list h)
            ] absent)
        | inr e ↦ rw e refl
      ]

  -- another record is in the lists where it was
  other_members_stay : (x : DbKey) → key_eq x k ≡ false → (s' : ℕ) (o : Owner) → is_member x (members_of new s' o) ≡ is_member x (members_of db s' o)
  other_members_stay x other s' o =
      elim (eqb s' s) as (λ b. is_member x (unwrap_or (cond b (option_map (without k) (db.lists s' o)) (db.lists s' o)) []) ≡ is_member x (members_of db s' o)) [
        | true ↦ elim (db.lists s' o) as (λ l. is_member x (unwrap_or (option_map (without k) l) []) ≡ is_member x (unwrap_or l [])) [ None ↦ refl | Some list ↦ member_without k x list other ]
        | false ↦ refl
      ]

  gone : (o : Owner) → is_member k (members_of new s o) ≡ false
  gone o = rw (eq-eqb s s refl) (elim (db.lists s o) as (λ l. is_member k (unwrap_or (option_map (without k) l) []) ≡ false) [ None ↦ refl | Some list ↦ without_gone k list ])

  changes : ChangesMembership schema capacity db new s k owner
  changes = record { records = λ x. refl; last = λ t n. refl; usage = λ a. refl; list_else = other_lists_stay; member_else = other_members_stay }

  ring_here : (l : Option (List DbKey)) → option_map (ring_of schema new s owner) (option_map (without k) l) ≡ option_map (with_members (members_without k)) (option_map (ring_of schema db s owner) l)
  ring_here None = refl
  ring_here (Some list) =
      (λ i. Some (record { owner = owner; members = map (λ x. (x, sort_key_same (changed_items_same changes) schema s x i)) (without k list) }))
      ∙ (λ i. Some (record { owner = owner; members = map_filter (λ x. (x, sort_key schema db s x)) (λ m. not (key_eq k m.0)) list i }))

  -- REMOVE changes the cells by its edits
  pub remove_makes : (c : CellName) → cell schema capacity new c ≡ edited_at c (removing (whole schema capacity db) s k).cells (cell schema capacity db c)
  remove_makes c =
      let edits_are : (removing (whole schema capacity db) s k).cells ≡ membership_edits changes legal live (TakeOut k) None = rw stands refl in
      membership_cells changes legal live (TakeOut k) None (member_has_list (db.lists s owner) k has) (find_none (λ o. is_member k (members_of new s o)) _ gone)
      (ap (λ l. RingValue (option_map (ring_of schema new s owner) l)) list_here ∙ ap RingValue (ring_here (db.lists s owner))) c
      ∙ ap (λ es. edited_at c es (cell schema capacity db c)) (sym edits_are)
