-- MODIFY changes the slot of the record, the extent where a CALC item is named, and the rings that are sorted by a named item, and no other cell.
use Rattle.std.proofs.Common.{◌≡◌, refl, sym, ◌∙◌, ap, subst, ℕ, Bool, true, false, ◌&&◌, ◌||◌, List, [], Option, Some, None, eqb, map, inl, inr}
use Rattle.std.specs.Prelude.{is_some, option_map, unwrap_or}
use Rattle.std.specs.List.{list_any}
use Rattle.std.proofs.lemmas.Bool.{and_parts, false≢true, false_from_ne_true, cond-true, cond-false, cond_both, cases_Bool}
use Rattle.dbtg_schema.specs.Lists.{Lists}
use Rattle.dbtg_schema.specs.Structure.{rekeyed_sets}
use Rattle.dbtg_cells.specs.declared.key.DbKey.{DbKey}
use Rattle.dbtg_cells.specs.declared.key.Owner.{Owner}
use Rattle.dbtg_cells.specs.declared.key.Value.{Value}
use Rattle.dbtg_cells.specs.declared.name.CellName.{CellName}
use Rattle.dbtg_cells.specs.declared.name.CellName.TheVariants.{Usage, Extent, Ring, Slot}
use Rattle.dbtg_cells.specs.Keys.{key_eq}
use Rattle.dbtg_cells.proofs.Public.{key_eq_refl, same_key}
use Rattle.dbtg_unit.specs.declared.statement.Change.{Change}
use Rattle.dbtg_unit.specs.declared.unit.Unit.{Unit}
use Rattle.dbtg_unit.specs.Database.State.Base.{Database, Record, is_live, items_of, key_at, members_of, is_member, calc_items, key_item, sort_key}
use Rattle.dbtg_unit.specs.Database.State.CellNames.{place_of}
use Rattle.dbtg_unit.specs.Database.State.Cells.{cell, owner_at}
use Rattle.dbtg_unit.specs.Database.Statements.Effect.{next_version, with_items, with_its_items, changed_items, joined, without, modified, names_calc}
use Rattle.dbtg_unit.proofs.Lists.Listing.{any_placed}
use Rattle.dbtg_unit.proofs.Database.Records.ItemsAfterModify.{same_calc_items, same_key_item}
use Rattle.dbtg_unit.proofs.Hands.Untouched.LocalRemove.{member_without, owner_at_place}
use Rattle.dbtg_unit.proofs.Hands.Untouched.LocalCells.{usage_same, extent_same, ring_same, slot_same, owner_of_same, owner_at_same}
use Rattle.dbtg_unit.proofs.Hands.Untouched.LocalInsert.{raised_live, raised_of_items, other_key, other_key'}

-- s is among these
abbrev pub among : ℕ → List ℕ → Bool
among s = list_any (λ s'. eqb s' s)

module _ (schema : Lists) (capacity : ℕ) (db : Database) (unit : Unit) (changes : List Change) (k : DbKey) where
  abbrev pub after_modify : Database
  after_modify = (modified schema capacity db unit changes k).database

  abbrev pub renamed : List ℕ
  renamed = rekeyed_sets schema k.rtype (map (λ c. c.item) changes)

  abbrev items_now : List Value
  items_now = changed_items changes (items_of db k)

  -- the record that is there before versions are raised
  abbrev placed_anew : Database
  placed_anew = with_items db k items_now

  live_same : (x : DbKey) → is_live after_modify x ≡ is_live db x
  live_same x = raised_live (key_eq k) placed_anew x ∙ cond_both (key_eq k x) (option_map (with_its_items items_now) (db.records x)) (db.records x) (λ o. is_some o ≡ is_live db x) (λ e. kept (db.records x)) (λ e. refl) where
    kept : (o : Option Record) → is_some (option_map (with_its_items items_now) o) ≡ is_some o
    kept None = refl
    kept (Some r) = refl

  other_record : (x : DbKey) → key_eq k x ≡ false → after_modify.records x ≡ db.records x
  other_record x h =
      cond-false (key_eq k x) (option_map next_version (placed_anew.records x)) (placed_anew.records x) h
      ∙ cond-false (key_eq k x) (option_map (with_its_items items_now) (db.records x)) (db.records x) h

  other_items : (x : DbKey) → key_eq k x ≡ false → items_of after_modify x ≡ items_of db x
  other_items x h = ap (λ (o : Option Record). unwrap_or (option_map (λ (r : Record). r.items) o) []) (other_record x h)

  -- what is made of k's items is made of the changed ones
  own_of_items : {X : Type 0} (f : List Value → X) → option_map (λ (r : Record). f r.items) (after_modify.records k) ≡ option_map (λ (r : Record). f items_now) (db.records k)
  own_of_items f =
      raised_of_items f (key_eq k) placed_anew k
      ∙ ap (option_map (λ (r : Record). f r.items)) (cond-true (key_eq k k) (option_map (with_its_items items_now) (db.records k)) (db.records k) (key_eq_refl k))
      ∙ kept (db.records k) where
        kept : (o : Option Record) → option_map (λ (r : Record). f r.items) (option_map (with_its_items items_now) o) ≡ option_map (λ (r : Record). f items_now) o
        kept None = refl
        kept (Some r) = refl

  other_list : (s : ℕ) (o : Owner) → (among s renamed ≡ true → is_member k (members_of db s o) ≡ true → ⊥) → after_modify.lists s o ≡ db.lists s o
  other_list s o h =
      cond-false (among s renamed && is_member k (members_of db s o)) (option_map (λ list. joined schema placed_anew unit s k (without k list)) (db.lists s o)) (db.lists s o)
      (false_from_ne_true _ (λ e. let es = and_parts _ _ e in h es.0 es.1))

  other_member : (x : DbKey) → key_eq x k ≡ false → (s : ℕ) (o : Owner) → is_member x (members_of after_modify s o) ≡ is_member x (members_of db s o)
  other_member x h s o =
      cond_both (among s renamed && is_member k (members_of db s o)) (option_map (λ list. joined schema placed_anew unit s k (without k list)) (db.lists s o)) (db.lists s o)
      (λ l. is_member x (unwrap_or l []) ≡ is_member x (members_of db s o)) (λ e. moved (db.lists s o)) (λ e. refl) where
        moved : (l : Option (List DbKey)) → is_member x (unwrap_or (option_map (λ list. joined schema placed_anew unit s k (without k list)) l) []) ≡ is_member x (unwrap_or l [])
        moved None = refl
        moved (Some list) = any_placed (key_eq x) _ k (without k list) ∙ ap (λ b. b || is_member x (without k list)) h ∙ member_without k x list h

  -- the CALC values of a record whose extent is not named
  calc_kept : (t : ℕ) → (names_calc schema k.rtype changes ≡ true → Extent t ≡ Extent k.rtype → ⊥) → (x : DbKey) → x.rtype ≡ t
      → option_map (λ (r : Record). calc_items schema t r.items) (after_modify.records x) ≡ option_map (λ (r : Record). calc_items schema t r.items) (db.records x)
  calc_kept t free x is_t =
      elim (cases_Bool (key_eq k x)) [
        | inr other ↦ ap (option_map (λ (r : Record). calc_items schema t r.items)) (other_record x other)
        | inl same ↦
            let e : k ≡ x = same_key k x same in
            let type : k.rtype ≡ t = ap (λ (y : DbKey). y.rtype) e ∙ is_t in
            let unnamed : names_calc schema t changes ≡ false = false_from_ne_true _ (λ named. free (subst (λ u. names_calc schema u changes ≡ true) (sym type) named) (ap Extent (sym type))) in
            subst (λ (y : DbKey). option_map (λ (r : Record). calc_items schema t r.items) (after_modify.records y) ≡ option_map (λ (r : Record). calc_items schema t r.items) (db.records y)) e
            (own_of_items (calc_items schema t) ∙ same_calc (db.records k) refl unnamed)
      ] where
        same_calc : (o : Option Record) → db.records k ≡ o → names_calc schema t changes ≡ false → option_map (λ (r : Record). calc_items schema t items_now) o ≡ option_map (λ (r : Record). calc_items schema t r.items) o
        same_calc None at unnamed = refl
        same_calc (Some r) at unnamed =
            ap Some (same_calc_items schema t changes (items_of db k) unnamed ∙ ap (λ (o : Option Record). calc_items schema t (unwrap_or (option_map (λ (r : Record). r.items) o) [])) at)

  -- the sort key of a member of a list that is not placed anew
  key_kept : (s : ℕ) (o : Owner) → is_live db k ≡ true → (among s renamed ≡ true → is_member k (members_of db s o) ≡ true → ⊥) → (x : DbKey) → is_member x (members_of db s o) ≡ true → sort_key schema after_modify s x ≡ sort_key schema db s x
  key_kept s o live free x m =
      elim (cases_Bool (key_eq k x)) [
        | inr other ↦ ap (key_item schema s x.rtype) (other_items x other)
        | inl same ↦
            let e : k ≡ x = same_key k x same in
            let unnamed : among s renamed ≡ false = false_from_ne_true _ (λ named. free named (subst (λ (y : DbKey). is_member y (members_of db s o) ≡ true) (sym e) m)) in
            subst (λ (y : DbKey). sort_key schema after_modify s y ≡ sort_key schema db s y) e
            (ap (λ (i : Option (List Value)). key_item schema s k.rtype (unwrap_or i [])) (own_of_items (λ items. items)) ∙ of_live (db.records k) live ∙ same_key_item schema s k.rtype changes (items_of db k) unnamed)
      ] where
        of_live : (r : Option Record) → is_some r ≡ true → key_item schema s k.rtype (unwrap_or (option_map (λ (r : Record). items_now) r) []) ≡ key_item schema s k.rtype items_now
        of_live None h = absurd (false≢true h)
        of_live (Some r) h = refl

  pub modified_local : is_live db k ≡ true → (c : CellName)
      → ((s : ℕ) (o : Owner) → among s renamed ≡ true → is_member k (members_of db s o) ≡ true → c ≡ Ring s (place_of o) → ⊥)
      → (names_calc schema k.rtype changes ≡ true → c ≡ Extent k.rtype → ⊥) → (c ≡ Slot k.rtype k.number → ⊥)
      → cell schema capacity after_modify c ≡ cell schema capacity db c
  modified_local live (Usage a) not_ring not_extent not_slot = usage_same schema capacity db after_modify a refl
  modified_local live (Extent t) not_ring not_extent not_slot = extent_same schema capacity db after_modify t (λ n. refl) (calc_kept t not_extent)
  modified_local live (Ring s q) not_ring not_extent not_slot =
      let free : among s renamed ≡ true → is_member k (members_of db s (owner_at db q)) ≡ true → ⊥ = λ named m. not_ring s (owner_at db q) named m (ap (Ring s) (sym (owner_at_place db q))) in
      ring_same schema capacity db after_modify s q (owner_at_same schema capacity db after_modify (λ t n. refl) live_same q)
      (other_list s (owner_at db q) free) (key_kept s (owner_at db q) live free)
  modified_local live (Slot t n) not_ring not_extent not_slot =
      slot_same schema capacity db after_modify t n refl (other_record (key_at db t n) (other_key db k t n not_slot))
      (λ s l. owner_of_same schema capacity db after_modify (λ u m. refl) live_same s (key_at db t n) (other_member (key_at db t n) (other_key' db k t n not_slot) s))
