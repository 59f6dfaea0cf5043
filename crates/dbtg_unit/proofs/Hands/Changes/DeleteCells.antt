-- DELETE changes the cells by its edits, and no other cell.
use Rattle.std.proofs.Common.{◌≡◌, refl, sym, ◌∙◌, ap, subst, ℕ, ◌+◌, arith, Bool, true, false, cond, not, ◌&&◌, List, [], ◌∷◌, ◌++◌, length, Option, Some, None, eqb, inl, inr, map}
use Rattle.std.specs.Prelude.{filter, is_some, option_map, unwrap_or}
use Rattle.std.specs.List.{flat_map, list_any}
use Rattle.std.proofs.lemmas.Bool.{and_parts, and_from, cases_Bool, cond-false, eq-eqb, eqb-true, false≢true, false_from_ne_true, not-true, or_left, or_right}
use Rattle.dbtg_schema.specs.Lists.{Lists}
use Rattle.dbtg_schema.specs.Lookups.{some_and}
use Rattle.dbtg_schema.specs.Structure.{owns, set_numbers}
use Rattle.dbtg_schema.proofs.Public.{some_is}
use Rattle.dbtg_cells.specs.declared.key.DbKey.{DbKey}
use Rattle.dbtg_cells.specs.declared.key.Owner.{Owner}
use Rattle.dbtg_cells.specs.declared.key.Owner.TheVariants.{System, Rec}
use Rattle.dbtg_cells.specs.declared.name.CellName.{CellName}
use Rattle.dbtg_cells.specs.declared.name.CellName.TheVariants.{Usage, Extent, Ring, Slot}
use Rattle.dbtg_cells.specs.Keys.{key_eq}
use Rattle.dbtg_cells.specs.Names.{name_eq}
use Rattle.dbtg_cells.specs.Shown.{CellValue, ExtentValue, RingValue, SlotValue}
use Rattle.dbtg_cells.proofs.Public.{key_eq_refl, name_eq_refl, same_key, same_place}
use Rattle.dbtg_unit.specs.declared.edit.CellEdit.{CellEdit}
use Rattle.dbtg_unit.specs.declared.edit.Edit.TheVariants.{ChangeOwner, RaiseVersion, TakeOut, Vacate}
use Rattle.dbtg_unit.specs.declared.statement.Erase.{Erase}
use Rattle.dbtg_unit.specs.declared.unit.Unit.{Unit}
use Rattle.dbtg_unit.specs.Database.State.Base.{Database, Record, calc_items, is_live, is_member, key_at, key_item, members_of, owner_of, sort_key}
use Rattle.dbtg_unit.specs.Database.State.CellNames.{place_of, slot_name}
use Rattle.dbtg_unit.specs.Database.State.Cells.{cell, number_of, owner_at, ring_of, slot_of}
use Rattle.dbtg_unit.specs.Hands.Edits.{edited, edited_at, vacated, with_members}
use Rattle.dbtg_unit.specs.Hands.EditsOf.{closing_edits, delete_edits, leave_number, leaving_edits, left_behind, losing_edits, lost_sets, ring_edits, slot_edit, staying_owner}
use Rattle.dbtg_unit.specs.Database.Statements.Effect.{is_gone, next_version, version_of}
use Rattle.dbtg_unit.specs.Hands.Erasing.{doomed_in_turn, members_of_all}
use Rattle.dbtg_unit.specs.Database.State.Legal.{Legal, differ, pairwise}
use Rattle.dbtg_unit.specs.Database.State.Units.{owners_of}
use Rattle.dbtg_unit.proofs.Hands.Changes.EditsInTurn.{edited_at_append, has_number, has_number_filter, has_number_passes}
use Rattle.dbtg_unit.proofs.Database.Laws.LeastSets.{set_of_member}
use Rattle.dbtg_unit.proofs.Hands.Untouched.InTurn.{all_from, with_those_pass, doomed_as_met, each_once, has_those, met_are_live}
use Rattle.dbtg_unit.proofs.Database.Records.LiveKeys.{in_member, live_is_latest, member_in, member_nowhere, member_of_owner, unlisted_has_no_owner, owner_of_member}
use Rattle.dbtg_unit.proofs.Lists.Membership.{In, all_at, any_element, any_in, in_filter, in_flat_map, of_filter, of_flat_map, some_and_value}
use Rattle.dbtg_unit.proofs.Hands.Untouched.LocalCells.{map_agree}
use Rattle.dbtg_unit.proofs.Hands.Untouched.LocalDelete.{after_delete, deleted_local, gone, is_taken_out, staying, staying_of_items, stays_member}
use Rattle.dbtg_unit.proofs.Hands.Untouched.LocalStatements.{set_of_owner}
use Rattle.dbtg_unit.proofs.Hands.Changes.ManyEdits.{Closes, Skips, Thins, closes_flat, closes_map, edits_of_one, is_of_number, numbers_left, owners_lost, skips_flat, skips_map, slots_vacated, thins_flat, thins_ring, with_owners}
use Rattle.dbtg_unit.proofs.Lists.PlacedMaps.{map_filter}
use Rattle.dbtg_unit.proofs.Hands.Changes.RangeMaps.{map_range_same}
use Rattle.dbtg_unit.proofs.Hands.Untouched.LocalRemove.{owner_at_place}

filter_agree : (p q : DbKey → Bool) (xs : List DbKey) → ((x : DbKey) → is_member x xs ≡ true → p x ≡ q x) → filter p xs ≡ filter q xs
filter_agree p q [] h = refl
filter_agree p q (x ∷ xs) h = λ i. cond (h x (or_left _ _ (key_eq_refl x)) i) (x ∷ filter_agree p q xs (λ y m. h y (or_right _ _ m)) i) (filter_agree p q xs (λ y m. h y (or_right _ _ m)) i)

module _ (schema : Lists) (capacity : ℕ) (db : Database) (unit : Unit) (option : Erase) (k : DbKey) (legal : Legal schema capacity db) (live : is_live db k ≡ true) where
  abbrev doom : List DbKey
  doom = gone schema capacity db unit option k

  abbrev new : Database
  new = after_delete schema capacity db unit option k

  abbrev turn : List DbKey
  turn = doomed_in_turn schema capacity db option k

  abbrev left : List DbKey
  left = left_behind (members_of_all schema db) turn

  abbrev taken_out : DbKey → Bool
  taken_out = is_taken_out schema capacity db unit option k

  -- WHAT GOES

  goes : (x : DbKey) → is_member x doom ≡ is_member x turn
  goes x = doomed_as_met schema capacity db legal option k live x

  pub goes_live : (x : DbKey) → In x turn → is_live db x ≡ true
  goes_live x i = all_at (is_live db) x turn (met_are_live schema capacity db legal option k live) i

  owner_goes : (o : Owner) → is_gone doom o ≡ is_gone turn o
  owner_goes System = refl
  owner_goes (Rec d) = goes d

  -- a record that goes and has this number is the number's latest
  is_at : (t n : ℕ) (x : DbKey) → is_live db x ≡ true → (eqb t x.rtype && eqb n x.number) ≡ true → key_at db t n ≡ x
  is_at t n x there h =
      let hs = and_parts _ _ h in
      (λ i. key_at db (eqb-true t x.rtype hs.0 i) (eqb-true n x.number hs.1 i)) ∙ live_is_latest schema capacity db legal x there

  -- WHO IS LEFT BEHIND

  abbrev all_members : DbKey → List DbKey
  all_members = members_of_all schema db

  -- the members of what goes that stay, each where it is listed
  staying_members : List DbKey
  staying_members = filter (λ x. not (is_member x turn)) (flat_map all_members turn)

  pub left_taken : (x : DbKey) → is_member x left ≡ true → taken_out x ≡ true
  unfolding staying_members
  left_taken x h =
      all_at taken_out x left
      (with_those_pass taken_out [] staying_members refl (all_from taken_out staying_members (λ y i.
      let kept = of_filter (λ x. not (is_member x turn)) y (flat_map all_members turn) i in
      let d = of_flat_map all_members y turn kept.0 in
      let s = of_flat_map (λ s. members_of db s (Rec d.0)) y (set_numbers schema) d.2 in
      and_from _ _ (ap not (goes y) ∙ kept.1)
      (any_in (λ s. list_any (λ o. is_member y (members_of db s (Rec o))) doom) s.0 (set_numbers schema) s.1
      (any_in (λ o. is_member y (members_of db s.0 (Rec o))) d.0 doom (member_in d.0 doom (goes d.0 ∙ in_member d.0 turn d.1)) (in_member y _ s.2))))))
      (member_in x left h)

  taken_left : (x : DbKey) → taken_out x ≡ true → is_member x left ≡ true
  unfolding staying_members
  taken_left x h =
      let hs = and_parts _ _ h in
      let s = any_element (λ s. list_any (λ o. is_member x (members_of db s (Rec o))) doom) (set_numbers schema) hs.1 in
      let d = any_element (λ o. is_member x (members_of db s.0 (Rec o))) doom s.2 in
      has_those [] staying_members x
      (in_filter (λ x. not (is_member x turn)) x (flat_map all_members turn)
      (in_flat_map all_members d.0 x turn (member_in d.0 turn (sym (goes d.0) ∙ in_member d.0 doom d.1))
      (in_flat_map (λ s. members_of db s (Rec d.0)) s.0 x (set_numbers schema) s.1 (member_in x _ d.2)))
      (sym (ap not (goes x)) ∙ hs.0))

  pub left_stays : (x : DbKey) → is_member x left ≡ true → is_member x doom ≡ false
  left_stays x h = not-true _ (and_parts _ _ (left_taken x h)).0

  pub left_live : (x : DbKey) → is_member x left ≡ true → is_live db x ≡ true
  left_live x h =
      let s = any_element (λ s. list_any (λ o. is_member x (members_of db s (Rec o))) doom) (set_numbers schema) (and_parts _ _ (left_taken x h)).1 in
      let d = any_element (λ o. is_member x (members_of db s.0 (Rec o))) doom s.2 in
      (legal.members s.0 (Rec d.0) x d.2).0

  -- who is left behind has its next version
  pub left_are_taken_out : (x : DbKey) → is_member x left ≡ taken_out x
  left_are_taken_out x =
      elim (cases_Bool (taken_out x)) [
        | inl e ↦ taken_left x e ∙ sym e
        | inr e ↦ false_from_ne_true _ (λ h. false≢true (sym e ∙ left_taken x h)) ∙ sym e
      ]

  pub version_left : (x : DbKey) → is_member x left ≡ true → version_of new x ≡ version_of db x + 1
  version_left x h =
      let r = some_is (db.records x) (left_live x h) in
      (λ i. unwrap_or (option_map (λ (q : Record). q.version) (cond (left_taken x h i) (option_map next_version (cond (left_stays x h i) None (db.records x))) (cond (left_stays x h i) None (db.records x)))) 0)
      ∙ ap (λ (o : Option Record). unwrap_or (option_map (λ (q : Record). q.version) (option_map next_version o)) 0) r.1
      ∙ ap (λ (o : Option Record). unwrap_or (option_map (λ (q : Record). q.version) o) 0 + 1) (sym r.1)

  pub left_once : pairwise differ left ≡ true
  unfolding staying_members
  left_once = each_once [] staying_members refl

  -- THE PARTS OF THE EDITS

  abbrev leavings : List CellEdit
  leavings = flat_map (leaving_edits schema (owner_of schema capacity db) turn) turn

  abbrev closings : List CellEdit
  closings = flat_map (closing_edits schema) turn

  abbrev vacatings : List CellEdit
  vacatings = map (λ d. slot_edit d Vacate) turn

  abbrev losings : List CellEdit
  losings = flat_map (losing_edits schema (owner_of schema capacity db) turn) left

  in_parts : (c : CellName) (v : CellValue) → edited_at c (delete_edits schema capacity db option k) v ≡ edited_at c losings (edited_at c vacatings (edited_at c closings (edited_at c leavings (edited_at c (map leave_number turn) v))))
  in_parts c v =
      edited_at_append c (map leave_number turn) (leavings ++ (closings ++ (vacatings ++ losings))) v
      ∙ edited_at_append c leavings (closings ++ (vacatings ++ losings)) _
      ∙ edited_at_append c closings (vacatings ++ losings) _
      ∙ edited_at_append c vacatings losings _

  pub skips_leavings : (c : CellName) → ((s : ℕ) (q : Option (ℕ × ℕ)) → name_eq c (Ring s q) ≡ false) → Skips c leavings
  skips_leavings c h = skips_flat c (leaving_edits schema (owner_of schema capacity db) turn) turn (λ d i. skips_flat c _ (set_numbers schema) (λ s j. of_owner s d (staying_owner turn (owner_of schema capacity db s d)))) where
    of_owner : (s : ℕ) (d : DbKey) (o : Option Owner) → Skips c (ring_edits s o (TakeOut d ∷ []))
    of_owner s d None v = refl
    of_owner s d (Some p) v = ap (λ b. cond b (edited (TakeOut d) v) v) (h s (place_of p))

  pub skips_closings : (c : CellName) → ((s : ℕ) (q : Option (ℕ × ℕ)) → name_eq c (Ring s q) ≡ false) → Skips c closings
  skips_closings c h = skips_flat c (closing_edits schema) turn (λ d i. skips_map c _ (filter (λ s. owns schema s d.rtype) (set_numbers schema)) (λ s. h s (Some (d.rtype, d.number))))

  skips_losing : (c : CellName) (x : DbKey) → name_eq c (slot_name x) ≡ false → Skips c (losing_edits schema (owner_of schema capacity db) turn x)
  skips_losing c x h v =
      edited_at_append c (map (λ s. slot_edit x (ChangeOwner s None)) (lost_sets schema (owner_of schema capacity db) turn x)) (slot_edit x RaiseVersion ∷ []) v
      ∙ ap (edited_at c (slot_edit x RaiseVersion ∷ [])) (skips_map c _ (lost_sets schema (owner_of schema capacity db) turn x) (λ s. h) v)
      ∙ ap (λ b. cond b (edited RaiseVersion v) v) h

  skips_each_losing : (c : CellName) → ((x : DbKey) → In x left → name_eq c (slot_name x) ≡ false) → Skips c losings
  skips_each_losing c h = skips_flat c (losing_edits schema (owner_of schema capacity db) turn) left (λ x i. skips_losing c x (h x i))

  -- THE CELLS

  usage_makes : (a : ℕ) → cell schema capacity new (Usage a) ≡ edited_at (Usage a) (delete_edits schema capacity db option k) (cell schema capacity db (Usage a))
  unfolding cell
  usage_makes a =
      let c = Usage a in
      let v = cell schema capacity db c in
      sym (in_parts c v
      ∙ skips_each_losing c (λ x i. refl) _ ∙ skips_map c (λ d. slot_edit d Vacate) turn (λ d. refl) _ ∙ skips_closings c (λ s q. refl) _ ∙ skips_leavings c (λ s q. refl) _
      ∙ skips_map c leave_number turn (λ d. refl) v)

  gone_record : (x : DbKey) → is_member x doom ≡ true → new.records x ≡ None
  gone_record x h =
      (λ i. cond (taken_out x) (option_map next_version (cond (h i) None (db.records x))) (cond (h i) None (db.records x)))
      ∙ elim (taken_out x) as (λ b. cond {A = Option Record} b None None ≡ None) [ true ↦ refl | false ↦ refl ]

  extent_makes : (t : ℕ) → cell schema capacity new (Extent t) ≡ edited_at (Extent t) (delete_edits schema capacity db option k) (cell schema capacity db (Extent t))
  unfolding cell
  extent_makes t =
      let c = Extent t in
      ap ExtentValue (map_range_same (number_of schema new t) (λ n. cond (list_any (is_of_number t n) turn) (vacated (number_of schema db t n)) (number_of schema db t n)) 1 capacity (λ n low. number_is n))
      ∙ sym (in_parts c (cell schema capacity db c)
      ∙ skips_each_losing c (λ x i. refl) _ ∙ skips_map c (λ d. slot_edit d Vacate) turn (λ d. refl) _ ∙ skips_closings c (λ s q. refl) _ ∙ skips_leavings c (λ s q. refl) _
      ∙ numbers_left t capacity turn (number_of schema db t) (λ d i. let facts = legal.keys d (goes_live d i) in let positive = facts.1 in omega arith)) where
        number_is : (n : ℕ) → number_of schema new t n ≡ cond (list_any (is_of_number t n) turn) (vacated (number_of schema db t n)) (number_of schema db t n)
        number_is n =
            let x = key_at db t n in
            elim (cases_Bool (is_member x turn)) [
              | inl e ↦
                  let left_here : list_any (is_of_number t n) turn ≡ true = any_in (is_of_number t n) x turn (member_in x turn e) (and_from _ _ (eq-eqb t t refl) (eq-eqb n n refl)) in
                  (λ i. record { last = db.last t n; calc = option_map (λ (r : Record). calc_items schema t r.items) (gone_record x (goes x ∙ e) i) })
                  ∙ ap (λ b. cond b (vacated (number_of schema db t n)) (number_of schema db t n)) (sym left_here)
              | inr e ↦
                  let kept : list_any (is_of_number t n) turn ≡ false = false_from_ne_true _ (λ h.
                  let d = any_element (is_of_number t n) turn h in
                  false≢true (sym e ∙ ap (λ (y : DbKey). is_member y turn) (is_at t n d.0 (goes_live d.0 d.1) d.2) ∙ in_member d.0 turn d.1)) in
                  (λ i. record { last = db.last t n; calc = staying_of_items schema capacity db unit option k (calc_items schema t) x (goes x ∙ e) i })
                  ∙ ap (λ b. cond b (vacated (number_of schema db t n)) (number_of schema db t n)) (sym kept)
            ]

  -- RINGS

  was : (s : ℕ) (p : Owner) (x : DbKey) → is_member x (members_of new s p) ≡ true → (is_gone doom p ≡ false) × (is_member x (members_of db s p) ≡ true)
  was s p x h =
      elim (cases_Bool (is_gone doom p)) [
        | inl e ↦ absurd (false≢true (ap (λ b. is_member x (unwrap_or (cond b None (option_map (staying doom) (db.lists s p))) [])) (sym e) ∙ h))
        | inr e ↦ (e, of (db.lists s p) (ap (λ b. is_member x (unwrap_or (cond b None (option_map (staying doom) (db.lists s p))) [])) (sym e) ∙ h))
      ] where
        of : (l : Option (List DbKey)) → is_member x (unwrap_or (option_map (staying doom) l) []) ≡ true → is_member x (unwrap_or l []) ≡ true
        of None h = h
        of (Some list) h = in_member x list (of_filter (λ y. not (is_member y doom)) x list (member_in x _ h)).0

  still : (s : ℕ) (p : Owner) (x : DbKey) → is_gone doom p ≡ false → is_member x doom ≡ false → is_member x (members_of db s p) ≡ true → is_member x (members_of new s p) ≡ true
  still s p x e n h = ap (λ b. is_member x (unwrap_or (cond b None (option_map (staying doom) (db.lists s p))) [])) e ∙ of (db.lists s p) h where
    of : (l : Option (List DbKey)) → is_member x (unwrap_or l []) ≡ true → is_member x (unwrap_or (option_map (staying doom) l) []) ≡ true
    of None h = h
    of (Some list) h = stays_member doom x list n ∙ h

  module _ (s : ℕ) (q : Option (ℕ × ℕ)) where
    abbrev here : CellName
    here = Ring s q

    abbrev holder : Owner
    holder = owner_at db q

    -- the edits close the ring
    abbrev closed : Bool
    closed = list_any (λ (d : DbKey). list_any (λ s'. name_eq here (Ring s' (Some (d.rtype, d.number)))) (filter (λ s'. owns schema s' d.rtype) (set_numbers schema))) turn

    -- they take a key out of it
    abbrev out : DbKey → Bool
    out m = list_any (λ d. list_any (λ s'. some_and (λ p. name_eq here (Ring s' (place_of p)) && key_eq d m) (staying_owner turn (owner_of schema capacity db s' d))) (set_numbers schema)) turn

    closes : Closes here closings closed
    closes = closes_flat here (closing_edits schema) (λ d. list_any (λ s'. name_eq here (Ring s' (Some (d.rtype, d.number)))) (filter (λ s'. owns schema s' d.rtype) (set_numbers schema))) turn
        (λ d. closes_map here (λ s'. Ring s' (Some (d.rtype, d.number))) (filter (λ s'. owns schema s' d.rtype) (set_numbers schema)))

    thins : Thins here leavings out
    thins = thins_flat here (leaving_edits schema (owner_of schema capacity db) turn)
        (λ d m. list_any (λ s'. some_and (λ p. name_eq here (Ring s' (place_of p)) && key_eq d m) (staying_owner turn (owner_of schema capacity db s' d))) (set_numbers schema)) turn
        (λ d. thins_flat here (λ s'. ring_edits s' (staying_owner turn (owner_of schema capacity db s' d)) (TakeOut d ∷ []))
        (λ s' m. some_and (λ p. name_eq here (Ring s' (place_of p)) && key_eq d m) (staying_owner turn (owner_of schema capacity db s' d))) (set_numbers schema)
        (λ s'. thins_ring here s' d (staying_owner turn (owner_of schema capacity db s' d))))

    same_holder : owner_at new q ≡ holder
    same_holder = by q where
      by : (q : Option (ℕ × ℕ)) → owner_at new q ≡ owner_at db q
      by None = refl
      by (Some p) = refl

    after_edits : edited_at here (delete_edits schema capacity db option k) (cell schema capacity db here)
        ≡ RingValue (cond closed None (option_map (with_members (filter (λ m. not (out m.0)))) (option_map (ring_of schema db s holder) (db.lists s holder))))
    unfolding cell
    after_edits =
        in_parts here (cell schema capacity db here)
        ∙ skips_each_losing here (λ x i. refl) _ ∙ skips_map here (λ d. slot_edit d Vacate) turn (λ d. refl) _
        ∙ ap (λ v. edited_at here closings (edited_at here leavings v)) (skips_map here leave_number turn (λ d. refl) (cell schema capacity db here))
        ∙ ap (edited_at here closings) (thins (option_map (ring_of schema db s holder) (db.lists s holder)))
        ∙ closes (option_map (with_members (filter (λ m. not (out m.0)))) (option_map (ring_of schema db s holder) (db.lists s holder)))

    -- the ring of an owner that goes is closed
    closed_gone : (d : DbKey) → holder ≡ Rec d → is_member d doom ≡ true → is_some (db.lists s holder) ≡ true → closed ≡ true
    closed_gone d e g there =
        let owned : owns schema s d.rtype ≡ true = (and_parts _ _ (sym (legal.pairs s (Rec d)) ∙ ap (λ o. is_some (db.lists s o)) (sym e) ∙ there)).0 in
        any_in (λ (d : DbKey). list_any (λ s'. name_eq here (Ring s' (Some (d.rtype, d.number)))) (filter (λ s'. owns schema s' d.rtype) (set_numbers schema))) d turn (member_in d turn (sym (goes d) ∙ g))
        (any_in (λ s'. name_eq here (Ring s' (Some (d.rtype, d.number)))) s _ (in_filter (λ s'. owns schema s' d.rtype) s (set_numbers schema) (set_of_owner schema s d.rtype owned) owned)
        (subst (λ (r : Option (ℕ × ℕ)). name_eq here (Ring s r) ≡ true) (sym (owner_at_place db q) ∙ ap place_of e) (name_eq_refl here)))

    -- and no other
    closed_owner : closed ≡ true → is_gone doom holder ≡ true
    closed_owner h =
        let d = any_element (λ (d : DbKey). list_any (λ s'. name_eq here (Ring s' (Some (d.rtype, d.number)))) (filter (λ s'. owns schema s' d.rtype) (set_numbers schema))) turn h in
        let s' = any_element (λ s'. name_eq here (Ring s' (Some (d.0.rtype, d.0.number)))) _ d.2 in
        let place_is : q ≡ Some (d.0.rtype, d.0.number) = same_place q _ (and_parts _ _ s'.2).1 in
        ap (λ (r : Option (ℕ × ℕ)). is_gone doom (owner_at db r)) place_is
        ∙ ap (λ (x : DbKey). is_member x doom) (live_is_latest schema capacity db legal d.0 (goes_live d.0 d.1))
        ∙ goes d.0 ∙ in_member d.0 turn d.1

    -- a member goes where it is taken out
    out_is : is_gone doom holder ≡ false → (m : DbKey) → is_member m (members_of db s holder) ≡ true → out m ≡ is_member m doom
    out_is stays m has =
        elim (cases_Bool (is_member m doom)) [
          | inl e ↦
              let set = set_of_member schema s m.rtype (legal.members s holder m has).1 in
              let owner : staying_owner turn (owner_of schema capacity db s m) ≡ Some holder
              = ap (staying_owner turn) (owner_of_member schema capacity db legal s holder m has) ∙ cond-false (is_gone turn holder) None (Some holder) (sym (owner_goes holder) ∙ stays) in
              any_in (λ d. list_any (λ s'. some_and (λ p. name_eq here (Ring s' (place_of p)) && key_eq d m) (staying_owner turn (owner_of schema capacity db s' d))) (set_numbers schema)) m turn (member_in m turn (sym (goes m) ∙ e))
              (any_in (λ s'. some_and (λ p. name_eq here (Ring s' (place_of p)) && key_eq m m) (staying_owner turn (owner_of schema capacity db s' m))) s (set_numbers schema) set
              (ap (some_and (λ p. name_eq here (Ring s (place_of p)) && key_eq m m)) owner
              ∙ and_from _ _ (subst (λ (r : Option (ℕ × ℕ)). name_eq here (Ring s r) ≡ true) (sym (owner_at_place db q)) (name_eq_refl here)) (key_eq_refl m)))
              ∙ sym e
          | inr e ↦
              false_from_ne_true _ (λ h.
              let d = any_element (λ d. list_any (λ s'. some_and (λ p. name_eq here (Ring s' (place_of p)) && key_eq d m) (staying_owner turn (owner_of schema capacity db s' d))) (set_numbers schema)) turn h in
              let s' = any_element (λ s'. some_and (λ p. name_eq here (Ring s' (place_of p)) && key_eq d.0 m) (staying_owner turn (owner_of schema capacity db s' d.0))) (set_numbers schema) d.2 in
              let p = some_and_value (λ p. name_eq here (Ring s'.0 (place_of p)) && key_eq d.0 m) (staying_owner turn (owner_of schema capacity db s'.0 d.0)) s'.2 in
              false≢true (sym e ∙ goes m ∙ ap (λ (x : DbKey). is_member x turn) (sym (same_key d.0 m (and_parts _ _ p.2).1)) ∙ in_member d.0 turn d.1))
              ∙ sym e
        ]

    staying_members_are : is_gone doom holder ≡ false → (list : List DbKey) → db.lists s holder ≡ Some list
        → ring_of schema new s holder (staying doom list) ≡ with_members (filter (λ m. not (out m.0))) (ring_of schema db s holder list)
    staying_members_are stays list is = λ i. record {
      owner = holder;
      members = (
          map_agree (λ x. (x, sort_key schema new s x)) (λ x. (x, sort_key schema db s x)) (staying doom list)
          (λ x m. λ j. (x, key_item schema s x.rtype (unwrap_or (staying_of_items schema capacity db unit option k (λ items. items) x (not-true _ (of_filter (λ y. not (is_member y doom)) x list (member_in x _ m)).1) j) [])))
          ∙ ap (map (λ x. (x, sort_key schema db s x))) (filter_agree (λ x. not (is_member x doom)) (λ x. not (out x)) list (λ x m. ap not (sym (out_is stays x (ap (λ l. is_member x (unwrap_or l [])) is ∙ m)))))
          ∙ map_filter (λ x. (x, sort_key schema db s x)) (λ m. not (out m.0)) list) i;
    }

    -- the ring as it is afterwards, by whether its owner goes and whether it is closed
    abbrev RingIs : Bool → Bool → Option (List DbKey) → Type 0
    RingIs g c l =
        option_map (ring_of schema new s holder) (cond g None (option_map (staying doom) l))
        ≡ cond c None (option_map (with_members (filter (λ m. not (out m.0)))) (option_map (ring_of schema db s holder) l))

    gone_is : (o : Owner) → is_gone doom o ≡ true → (d : DbKey) × (o ≡ Rec d) × (is_member d doom ≡ true)
    gone_is System h = absurd (false≢true h)
    gone_is (Rec d) h = (d, refl, h)

    ring_is : (l : Option (List DbKey)) → db.lists s holder ≡ l → RingIs (is_gone doom holder) closed l
    ring_is None is = nothing (is_gone doom holder) closed where
      nothing : (g c : Bool) → RingIs g c None
      nothing true true = refl
      nothing true false = refl
      nothing false true = refl
      nothing false false = refl
    ring_is (Some list) is =
        elim (cases_Bool (is_gone doom holder)) [
          | inl g ↦
              let d = gone_is holder g in
              subst (λ b. RingIs b closed (Some list)) (sym g) (subst (λ b. RingIs true b (Some list)) (sym (closed_gone d.0 d.1 d.2 (ap is_some is))) refl)
          | inr g ↦
              let open_still : closed ≡ false = false_from_ne_true _ (λ c. false≢true (sym g ∙ closed_owner c)) in
              subst (λ b. RingIs b closed (Some list)) (sym g) (subst (λ b. RingIs false b (Some list)) (sym open_still) (ap Some (staying_members_are g list is)))
        ]

    ring_makes : cell schema capacity new here ≡ edited_at here (delete_edits schema capacity db option k) (cell schema capacity db here)
    unfolding cell
    ring_makes =
        (λ i. RingValue (option_map (ring_of schema new s (same_holder i)) (new.lists s (same_holder i))))
        ∙ ap RingValue (ring_is (db.lists s holder) refl)
        ∙ sym after_edits

  -- SLOTS

  module _ (legal' : Legal schema capacity new) where
    -- a record that stays has no owner where its own goes, and elsewhere its own
    owner_after : (x : DbKey) → is_member x doom ≡ false → (s : ℕ) → owner_of schema capacity new s x ≡ cond (some_and (is_gone turn) (owner_of schema capacity db s x)) None (owner_of schema capacity db s x)
    owner_after x stays s = by (owner_of schema capacity db s x) refl where
      by : (o : Option Owner) → owner_of schema capacity db s x ≡ o → owner_of schema capacity new s x ≡ cond (some_and (is_gone turn) o) None o
      by None e = unlisted_has_no_owner schema capacity new legal' s x (λ p m. false≢true (sym (member_nowhere schema capacity db legal s x e p) ∙ (was s p x m).1))
      by (Some p) e =
          let has = member_of_owner schema capacity db legal s p x e in
          elim (cases_Bool (is_gone doom p)) [
            | inl g ↦
                unlisted_has_no_owner schema capacity new legal' s x (λ o m.
                let w = was s o x m in
                false≢true (sym w.0 ∙ ap (is_gone doom) (legal.in_one s o p x w.1 has) ∙ g))
                ∙ ap (λ b. cond b None (Some p)) (sym (sym (owner_goes p) ∙ g))
            | inr g ↦ owner_of_member schema capacity new legal' s p x (still s p x g stays has) ∙ ap (λ b. cond b None (Some p)) (sym (sym (owner_goes p) ∙ g))
          ]

    module _ (t n : ℕ) where
      abbrev slot : CellName
      slot = Slot t n

      abbrev x : DbKey
      x = key_at db t n

      -- the edits vacate the slot
      abbrev vacated_here : Bool
      vacated_here = list_any (λ d. name_eq slot (slot_name d)) turn

      slot_edited : edited_at slot (delete_edits schema capacity db option k) (cell schema capacity db slot)
          ≡ edited_at slot losings (SlotValue (cond vacated_here None (option_map (slot_of schema capacity db x) (db.records x))))
      unfolding cell
      slot_edited =
          in_parts slot (cell schema capacity db slot)
          ∙ ap (λ v. edited_at slot losings (edited_at slot vacatings v))
          (skips_closings slot (λ s q. refl) _ ∙ skips_leavings slot (λ s q. refl) _ ∙ skips_map slot leave_number turn (λ d. refl) (cell schema capacity db slot))
          ∙ ap (edited_at slot losings) (slots_vacated slot turn (option_map (slot_of schema capacity db x) (db.records x)))

      vacated_is : vacated_here ≡ is_member x doom
      vacated_is =
          elim (cases_Bool (is_member x doom)) [
            | inl e ↦ any_in (λ d. name_eq slot (slot_name d)) x turn (member_in x turn (sym (goes x) ∙ e)) (name_eq_refl slot) ∙ sym e
            | inr e ↦
                false_from_ne_true _ (λ h.
                let d = any_element (λ d. name_eq slot (slot_name d)) turn h in
                false≢true (sym e ∙ goes x ∙ ap (λ (y : DbKey). is_member y turn) (is_at t n d.0 (goes_live d.0 d.1) d.2) ∙ in_member d.0 turn d.1))
                ∙ sym e
          ]

      -- a slot of another record
      other_slot : (y : DbKey) → In y left → key_eq x y ≡ false → name_eq slot (slot_name y) ≡ false
      other_slot y i other = false_from_ne_true _ (λ h. false≢true (sym other ∙ ap (key_eq x) (sym (is_at t n y (left_live y (in_member y left i)) h)) ∙ key_eq_refl x))

      not_left : is_member x left ≡ false → Skips slot losings
      not_left h = skips_each_losing slot (λ y i. other_slot y i (false_from_ne_true _ (λ same. false≢true (sym h ∙ ap (λ (z : DbKey). is_member z left) (same_key x y same) ∙ in_member y left i))))

      gone_slot : is_member x doom ≡ true → cell schema capacity new slot ≡ edited_at slot (delete_edits schema capacity db option k) (cell schema capacity db slot)
      unfolding cell
      gone_slot g =
          ap (λ r. SlotValue (option_map (slot_of schema capacity new x) r)) (gone_record x g)
          ∙ sym (slot_edited
          ∙ ap (λ b. edited_at slot losings (SlotValue (cond b None (option_map (slot_of schema capacity db x) (db.records x))))) (vacated_is ∙ g)
          ∙ not_left (false_from_ne_true _ (λ h. false≢true (sym (left_stays x h) ∙ g))) (SlotValue None))

      -- the owners of one that is left behind
      owners_left : is_member x doom ≡ false → owners_of schema capacity new x ≡ map (λ s. cond (has_number s (lost_sets schema (owner_of schema capacity db) turn x)) None (owner_of schema capacity db s x)) (set_numbers schema)
      owners_left stays =
          map_range_same (λ s. owner_of schema capacity new s x) (λ s. cond (has_number s (lost_sets schema (owner_of schema capacity db) turn x)) None (owner_of schema capacity db s x)) 0 (length schema.sets)
          (λ s low. owner_after x stays s ∙ ap (λ b. cond b None (owner_of schema capacity db s x)) (sym (lost_is s))) where
            lost_is : (s : ℕ) → has_number s (lost_sets schema (owner_of schema capacity db) turn x) ≡ some_and (is_gone turn) (owner_of schema capacity db s x)
            lost_is s =
                elim (cases_Bool (some_and (is_gone turn) (owner_of schema capacity db s x))) [
                  | inl e ↦
                      let o = some_and_value (is_gone turn) (owner_of schema capacity db s x) e in
                      let set = set_of_member schema s x.rtype (legal.members s o.0 x (member_of_owner schema capacity db legal s o.0 x o.1)).1 in
                      has_number_filter (λ s. some_and (is_gone turn) (owner_of schema capacity db s x)) s (set_numbers schema) e (any_in (λ z. eqb z s) s (set_numbers schema) set (eq-eqb s s refl)) ∙ sym e
                  | inr e ↦ false_from_ne_true _ (λ h. false≢true (sym e ∙ has_number_passes (λ s. some_and (is_gone turn) (owner_of schema capacity db s x)) s (set_numbers schema) h)) ∙ sym e
                ]

      left_slot : is_member x left ≡ true → cell schema capacity new slot ≡ edited_at slot (delete_edits schema capacity db option k) (cell schema capacity db slot)
      unfolding cell
      left_slot h =
          let stays = left_stays x h in
          let r = some_is (db.records x) (left_live x h) in
          let raised_record : new.records x ≡ Some (next_version r.0)
          = (λ i. cond (left_taken x h i) (option_map next_version (cond (stays i) None (db.records x))) (cond (stays i) None (db.records x))) ∙ ap (option_map next_version) r.1 in
          let lost : List CellEdit = map (λ s. slot_edit x (ChangeOwner s None)) (lost_sets schema (owner_of schema capacity db) turn x) in
          let raise : List CellEdit = slot_edit x RaiseVersion ∷ [] in
          let old = slot_of schema capacity db x r.0 in
          ap (λ o. SlotValue (option_map (slot_of schema capacity new x) o)) raised_record
          ∙ (λ i. SlotValue (Some (record { generation = x.generation; version = r.0.version + 1; items = r.0.items; owners = owners_left stays i })))
          ∙ sym (slot_edited
          ∙ ap (λ b. edited_at slot losings (SlotValue (cond b None (option_map (slot_of schema capacity db x) (db.records x))))) (vacated_is ∙ stays)
          ∙ ap (λ o. edited_at slot losings (SlotValue (option_map (slot_of schema capacity db x) o))) r.1
          ∙ edits_of_one slot (losing_edits schema (owner_of schema capacity db) turn) left x (SlotValue (Some old)) left_once h (λ y i other. skips_losing slot y (other_slot y i other))
          ∙ edited_at_append slot lost raise (SlotValue (Some old))
          ∙ ap (edited_at slot raise) (owners_lost slot x (name_eq_refl slot) old (length schema.sets) (lost_sets schema (owner_of schema capacity db) turn x) (λ s. owner_of schema capacity db s x))
          ∙ ap (λ b. cond b (edited RaiseVersion (SlotValue (Some (with_owners (map (λ s. cond (has_number s (lost_sets schema (owner_of schema capacity db) turn x)) None (owner_of schema capacity db s x)) (set_numbers schema)) old))))
          (SlotValue (Some (with_owners (map (λ s. cond (has_number s (lost_sets schema (owner_of schema capacity db) turn x)) None (owner_of schema capacity db s x)) (set_numbers schema)) old)))) (name_eq_refl slot))

      -- a slot of a record that is not touched, or of none
      other_record : is_member x doom ≡ false → is_member x left ≡ false → cell schema capacity new slot ≡ edited_at slot (delete_edits schema capacity db option k) (cell schema capacity db slot)
      unfolding cell
      other_record stays apart =
          deleted_local schema capacity db unit option k legal legal' slot
          (λ d g is. false≢true (sym stays ∙ ap (λ (y : DbKey). is_member y doom) (slot_is d (goes_live d (member_in d turn (sym (goes d) ∙ g))) is) ∙ g))
          (λ d s y g m is.
          let same = slot_is y (legal.members s (Rec d) y m).0 is in
          let set = set_of_member schema s y.rtype (legal.members s (Rec d) y m).1 in
          let has : is_member x (members_of db s (Rec d)) ≡ true = ap (λ (z : DbKey). is_member z (members_of db s (Rec d))) same ∙ m in
          false≢true (sym apart ∙ taken_left x (and_from _ _ (ap not stays)
          (any_in (λ s. list_any (λ o. is_member x (members_of db s (Rec o))) doom) s (set_numbers schema) set
          (any_in (λ o. is_member x (members_of db s (Rec o))) d doom (member_in d doom g) has)))))
          (λ d s g own is. let never : ⊥ = cc in never) (λ d s o g m is. let never : ⊥ = cc in never) (λ d g is. let never : ⊥ = cc in never)
          ∙ sym (slot_edited
          ∙ ap (λ b. edited_at slot losings (SlotValue (cond b None (option_map (slot_of schema capacity db x) (db.records x))))) (vacated_is ∙ stays)
          ∙ not_left apart (cell schema capacity db slot)) where
            slot_is : (y : DbKey) → is_live db y ≡ true → slot ≡ slot_name y → x ≡ y
            slot_is y there is = is_at t n y there (subst (λ (c : CellName). name_eq slot c ≡ true) is (name_eq_refl slot))

      slot_makes : cell schema capacity new slot ≡ edited_at slot (delete_edits schema capacity db option k) (cell schema capacity db slot)
      slot_makes =
          elim (cases_Bool (is_member x doom)) [
            | inl g ↦ gone_slot g
            | inr stays ↦ elim (cases_Bool (is_member x left)) [ inl h ↦ left_slot h | inr apart ↦ other_record stays apart ]
          ]

    -- DELETE changes the cells by its edits
    pub delete_makes : (c : CellName) → cell schema capacity new c ≡ edited_at c (delete_edits schema capacity db option k) (cell schema capacity db c)
    delete_makes (Usage a) = usage_makes a
    delete_makes (Extent t) = extent_makes t
    delete_makes (Ring s q) = ring_makes s q
    delete_makes (Slot t n) = slot_makes t n
