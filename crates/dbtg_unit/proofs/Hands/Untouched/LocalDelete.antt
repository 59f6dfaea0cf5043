-- DELETE changes the cells of what it takes, of the members of its lists and of the lists that it is in, and no other cell.
use Rattle.std.proofs.Common.{◌≡◌, refl, sym, ◌∙◌, ap, ℕ, Bool, true, false, cond, not, ◌&&◌, ◌||◌, List, [], ◌∷◌, Option, Some, None, inl, inr}
use Rattle.std.specs.Prelude.{option_map, unwrap_or, filter}
use Rattle.std.specs.List.{list_any}
use Rattle.std.proofs.lemmas.Bool.{and_parts, or_left, or_right, false≢true, false_from_ne_true, not_from_false, cond-true, cond-false, cond_both, cases_Bool}
use Rattle.dbtg_schema.specs.Lists.{Lists}
use Rattle.dbtg_schema.specs.Structure.{owns, set_numbers}
use Rattle.dbtg_schema.proofs.Public.{none_is}
use Rattle.dbtg_cells.specs.declared.key.DbKey.{DbKey}
use Rattle.dbtg_cells.specs.declared.key.Owner.{Owner}
use Rattle.dbtg_cells.specs.declared.key.Owner.TheVariants.{System, Rec}
use Rattle.dbtg_cells.specs.declared.key.Value.{Value}
use Rattle.dbtg_cells.specs.declared.name.CellName.{CellName}
use Rattle.dbtg_cells.specs.declared.name.CellName.TheVariants.{Usage, Extent, Ring, Slot}
use Rattle.dbtg_cells.specs.Keys.{key_eq}
use Rattle.dbtg_cells.proofs.Public.{key_eq_refl, same_key}
use Rattle.dbtg_unit.specs.declared.statement.Erase.{Erase}
use Rattle.dbtg_unit.specs.declared.unit.Unit.{Unit}
use Rattle.dbtg_unit.specs.Database.State.Base.{Database, Record, is_live, key_at, members_of, is_member, calc_items, key_item}
use Rattle.dbtg_unit.specs.Database.State.CellNames.{place_of, slot_name}
use Rattle.dbtg_unit.specs.Database.State.Cells.{cell, owner_at}
use Rattle.dbtg_unit.specs.Database.Statements.Doomed.{doomed}
use Rattle.dbtg_unit.specs.Database.Statements.Effect.{next_version, deleted, is_gone}
use Rattle.dbtg_unit.specs.Database.State.Legal.{Legal}
use Rattle.dbtg_unit.proofs.Database.Records.LiveKeys.{in_member}
use Rattle.dbtg_unit.proofs.Lists.Membership.{any_element}
use Rattle.dbtg_unit.proofs.Hands.Untouched.LocalCells.{usage_same, extent_same, ring_same, ring_none, slot_same}
use Rattle.dbtg_unit.proofs.Hands.Untouched.LocalInsert.{raised_of_items}
use Rattle.dbtg_unit.proofs.Hands.Untouched.LocalRemove.{owner_at_place}
use Rattle.dbtg_unit.proofs.Database.Records.OwnersFound.{owner_of_by_members}

-- the members that stay
abbrev pub staying : List DbKey → List DbKey → List DbKey
staying gone = filter (λ x. not (is_member x gone))

all_stay : (gone xs : List DbKey) → ((x : DbKey) → is_member x xs ≡ true → is_member x gone ≡ false) → staying gone xs ≡ xs
all_stay gone [] h = refl
all_stay gone (x ∷ xs) h =
    cond-true (not (is_member x gone)) (x ∷ staying gone xs) (staying gone xs) (not_from_false _ (h x (or_left _ _ (key_eq_refl x))))
    ∙ ap (λ (ys : List DbKey). x ∷ ys) (all_stay gone xs (λ y m. h y (or_right _ _ m)))

pub stays_member : (gone : List DbKey) (x : DbKey) (xs : List DbKey) → is_member x gone ≡ false → is_member x (staying gone xs) ≡ is_member x xs
stays_member gone x [] h = refl
stays_member gone x (y ∷ ys) h =
    elim (cases_Bool (key_eq x y)) [
      | inl e ↦
          let stays : not (is_member y gone) ≡ true = not_from_false _ (ap (λ (z : DbKey). is_member z gone) (sym (same_key x y e)) ∙ h) in
          ap (is_member x) (cond-true (not (is_member y gone)) (y ∷ staying gone ys) (staying gone ys) stays) ∙ ap (λ b. key_eq x y || b) (stays_member gone x ys h)
      | inr e ↦
          cond_both (not (is_member y gone)) (y ∷ staying gone ys) (staying gone ys) (λ zs. is_member x zs ≡ (key_eq x y || is_member x ys))
          (λ kept. ap (λ b. key_eq x y || b) (stays_member gone x ys h)) (λ left. stays_member gone x ys h ∙ ap (λ b. b || is_member x ys) (sym e))
    ]

module _ (schema : Lists) (capacity : ℕ) (db : Database) (unit : Unit) (option : Erase) (k : DbKey) where
  abbrev pub gone : List DbKey
  gone = doomed schema capacity db option k

  abbrev pub after_delete : Database
  after_delete = (deleted schema capacity db unit option k).database

  abbrev pub is_taken_out : DbKey → Bool
  is_taken_out x = not (is_member x gone) && list_any (λ s. list_any (λ o. is_member x (members_of db s (Rec o))) gone) (set_numbers schema)

  abbrev without_gone : Database
  without_gone = record db {
    records = λ x. cond (is_member x gone) None (db.records x);
    lists = λ s o. cond (is_gone gone o) None (option_map (staying gone) (db.lists s o));
  }

  staying_record : (x : DbKey) → is_member x gone ≡ false → without_gone.records x ≡ db.records x
  staying_record x h = cond-false (is_member x gone) None (db.records x) h

  pub staying_of_items : {X : Type 0} (f : List Value → X) (x : DbKey) → is_member x gone ≡ false → option_map (λ (r : Record). f r.items) (after_delete.records x) ≡ option_map (λ (r : Record). f r.items) (db.records x)
  staying_of_items f x h = raised_of_items f is_taken_out without_gone x ∙ ap (option_map (λ (r : Record). f r.items)) (staying_record x h)

  module _ (legal : Legal schema capacity db) (legal' : Legal schema capacity after_delete) (c : CellName)
      (not_slot : (d : DbKey) → is_member d gone ≡ true → c ≡ slot_name d → ⊥)
      (not_member_slot : (d : DbKey) (s : ℕ) (x : DbKey) → is_member d gone ≡ true → is_member x (members_of db s (Rec d)) ≡ true → c ≡ slot_name x → ⊥)
      (not_ring : (d : DbKey) (s : ℕ) → is_member d gone ≡ true → owns schema s d.rtype ≡ true → c ≡ Ring s (Some (d.rtype, d.number)) → ⊥)
      (not_outer : (d : DbKey) (s : ℕ) (o : Owner) → is_member d gone ≡ true → is_member d (members_of db s o) ≡ true → c ≡ Ring s (place_of o) → ⊥)
      (not_extent : (d : DbKey) → is_member d gone ≡ true → c ≡ Extent d.rtype → ⊥) where
    no_list : (d : Database) → Legal schema capacity d → (s : ℕ) (x : DbKey) → owns schema s x.rtype ≡ false → d.lists s (Rec x) ≡ None
    no_list d ld s x h = none_is (d.lists s (Rec x)) (ld.pairs s (Rec x) ∙ ap (λ b. b && is_live d x) h)

    ring_at : (s : ℕ) (q : Option (ℕ × ℕ)) → c ≡ Ring s q → cell schema capacity after_delete (Ring s q) ≡ cell schema capacity db (Ring s q)
    ring_at s q is_c = by_owner (owner_at db q) refl where
      same_place : (o : Owner) → owner_at db q ≡ o → c ≡ Ring s (place_of o)
      same_place o e = is_c ∙ ap (Ring s) (sym (owner_at_place db q) ∙ ap place_of e)

      same_at : owner_at after_delete q ≡ owner_at db q
      same_at = last_alone q where
        last_alone : (q : Option (ℕ × ℕ)) → owner_at after_delete q ≡ owner_at db q
        last_alone None = refl
        last_alone (Some p) = refl

      kept : (o : Owner) → owner_at db q ≡ o → is_gone gone o ≡ false → cell schema capacity after_delete (Ring s q) ≡ cell schema capacity db (Ring s q)
      kept o e h =
          let stay : (x : DbKey) → is_member x (members_of db s (owner_at db q)) ≡ true → is_member x gone ≡ false
          = λ x m. false_from_ne_true _ (λ g. not_outer x s (owner_at db q) g m (same_place (owner_at db q) refl)) in
          ring_same schema capacity db after_delete s q same_at
          (cond-false (is_gone gone (owner_at db q)) None (option_map (staying gone) (db.lists s (owner_at db q))) (ap (is_gone gone) e ∙ h) ∙ same_list (db.lists s (owner_at db q)) stay)
          (λ x m. ap (λ (i : Option (List Value)). key_item schema s x.rtype (unwrap_or i [])) (staying_of_items (λ items. items) x (stay x m))) where
            same_list : (l : Option (List DbKey)) → ((x : DbKey) → is_member x (unwrap_or l []) ≡ true → is_member x gone ≡ false) → option_map (staying gone) l ≡ l
            same_list None h = refl
            same_list (Some list) h = ap Some (all_stay gone list h)

      by_owner : (o : Owner) → owner_at db q ≡ o → cell schema capacity after_delete (Ring s q) ≡ cell schema capacity db (Ring s q)
      by_owner System e = kept System e refl
      by_owner (Rec d) e =
          elim (cases_Bool (is_member d gone)) [
            | inr h ↦ kept (Rec d) e h
            | inl h ↦
                let unowned : owns schema s d.rtype ≡ false = false_from_ne_true _ (λ own. not_ring d s h own (same_place (Rec d) e)) in
                ring_none schema capacity db after_delete s q (ap (after_delete.lists s) (same_at ∙ e) ∙ no_list after_delete legal' s d unowned) (ap (db.lists s) e ∙ no_list db legal s d unowned)
          ]

    slot_at : (t n : ℕ) → c ≡ Slot t n → cell schema capacity after_delete (Slot t n) ≡ cell schema capacity db (Slot t n)
    slot_at t n is_c =
        let x = key_at db t n in
        let stays : is_member x gone ≡ false = false_from_ne_true _ (λ g. not_slot x g is_c) in
        let not_out : is_taken_out x ≡ false = false_from_ne_true _ (λ out.
        let s = any_element (λ s. list_any (λ o. is_member x (members_of db s (Rec o))) gone) (set_numbers schema) (and_parts _ _ out).1 in
        let d = any_element (λ o. is_member x (members_of db s.0 (Rec o))) gone s.2 in
        not_member_slot d.0 s.0 x (in_member d.0 gone d.1) d.2 is_c) in
        slot_same schema capacity db after_delete t n refl
        (cond-false (is_taken_out x) (option_map next_version (without_gone.records x)) (without_gone.records x) not_out ∙ staying_record x stays)
        (λ s live. owner_of_by_members schema capacity db after_delete legal legal' s x (members_same x s stays (λ d g m. not_member_slot d s x g m is_c))) where
          members_same : (x : DbKey) (s : ℕ) → is_member x gone ≡ false → ((d : DbKey) → is_member d gone ≡ true → is_member x (members_of db s (Rec d)) ≡ true → ⊥) → (o : Owner)
              → is_member x (members_of after_delete s o) ≡ is_member x (members_of db s o)
          members_same x s stays none o =
              cond_both (is_gone gone o) None (option_map (staying gone) (db.lists s o)) (λ l. is_member x (unwrap_or l []) ≡ is_member x (members_of db s o))
              (λ g. sym (false_from_ne_true _ (in_gone o g))) (λ g. kept (db.lists s o)) where
                in_gone : (o : Owner) → is_gone gone o ≡ true → is_member x (members_of db s o) ≡ true → ⊥
                in_gone System g m = false≢true g
                in_gone (Rec d) g m = none d g m

                kept : (l : Option (List DbKey)) → is_member x (unwrap_or (option_map (staying gone) l) []) ≡ is_member x (unwrap_or l [])
                kept None = refl
                kept (Some list) = stays_member gone x list stays

    by_name : (e : CellName) → c ≡ e → cell schema capacity after_delete e ≡ cell schema capacity db e
    by_name (Usage a) is_c = usage_same schema capacity db after_delete a refl
    by_name (Extent t) is_c =
        extent_same schema capacity db after_delete t (λ n. refl) (λ x is_t. staying_of_items (calc_items schema t) x (false_from_ne_true _ (λ g. not_extent x g (is_c ∙ ap Extent (sym is_t)))))
    by_name (Ring s q) is_c = ring_at s q is_c
    by_name (Slot t n) is_c = slot_at t n is_c

    pub deleted_local : cell schema capacity after_delete c ≡ cell schema capacity db c
    deleted_local = by_name c refl
