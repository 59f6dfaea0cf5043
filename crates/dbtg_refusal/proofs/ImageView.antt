-- What an image answers is what its database answers, where the database is legal.
-- k is a key, s a set, o an owner, t a record type, a an area.
use Rattle.std.proofs.Common.{◌≡◌, refl, sym, ◌∙◌, ap, subst, ℕ, ◌≤◌, Bool, true, false, cond, ◌&&◌, ◌||◌, not, List, [], ◌∷◌, Option, Some, None, eqb, inl, inr, ⊎_elim, map, length, arith}
use Rattle.std.specs.Prelude.{is_none, is_some, option_map, option_and_then, unwrap_or}
use Rattle.std.specs.List.{find, flat_map, list_any, range_with_len}
use Rattle.std.specs.Option.{option_or}
use Rattle.std.proofs.lemmas.Bool.{cases_Bool, cases_lt, eq-eqb, eqb-true, false_from_ne_true, false≢true, and_from}
use Rattle.std.proofs.lemmas.List.Folds.{find-append}
use Rattle.std.proofs.lemmas.Option.{slice_get_past}
use Rattle.dbtg_schema.specs.Lists.{Lists}
use Rattle.dbtg_schema.specs.Lookups.{some_and}
use Rattle.dbtg_schema.specs.Structure.{is_system, owner_type}
use Rattle.dbtg_cells.specs.declared.key.DbKey.{DbKey}
use Rattle.dbtg_cells.specs.declared.key.Owner.{Owner}
use Rattle.dbtg_cells.specs.declared.key.Owner.TheVariants.{System, Rec}
use Rattle.dbtg_cells.specs.declared.key.Value.{Value}
use Rattle.dbtg_cells.specs.Keys.{is_member, key_eq, owner_eq, values_eq}
use Rattle.dbtg_cells.specs.Members.{is_left_out}
use Rattle.dbtg_cells.proofs.Public.{owner_eq_refl, same_key, same_owner}
use Rattle.dbtg_unit.specs.Database.State.Base.{Database, Record, calc_items, is_live, items_of, live_keys, members_of, owner_of, owners, version_of}
use Rattle.dbtg_unit.specs.Database.State.Image.{Image, image_of}
use Rattle.dbtg_unit.specs.Database.State.Legal.{Legal, has_occurrence}
use Rattle.dbtg_unit.specs.Database.Statements.Doomed.{all_keys}
use Rattle.dbtg_unit.proofs.Public.{In, all_are_live, any_element, any_in, in_member, in_range, live_in_all, member_in, of_live_keys, of_map, owner_in}
use Rattle.dbtg_refusal.specs.Inside.Imaged.{holder_in_image, holds, items_in, list_in, lists_in, live_in, owner_in as owner_in_image, users_in, version_in}
use Rattle.dbtg_refusal.specs.Obstacles.{holder_in}
use Rattle.dbtg_refusal.proofs.FoundInLists.{any_map, found_agree, found_back, found_beside, found_kept, found_none, got_at, got_past, no_elements, or_itself}

none_live : {X : Type 0} (field : Record → X) (d : X) (r : Option Record) → unwrap_or (cond (is_some r) (Some (unwrap_or (option_map field r) d)) None) d ≡ unwrap_or (option_map field r) d
none_live field d None = refl
none_live field d (Some r) = refl

as_listed : (l : Option (List DbKey)) → cond (is_some l) (Some (unwrap_or l [])) None ≡ l
as_listed None = refl
as_listed (Some list) = refl

module _ (schema : Lists) (capacity : ℕ) (db : Database) (legal : Legal schema capacity db) where
  abbrev keys : List DbKey
  keys = all_keys schema capacity db

  abbrev image : Image
  image = image_of schema capacity db

  -- RECORDS

  listed_is_live : (k : DbKey) → is_member k keys ≡ is_live db k
  listed_is_live k =
      elim (cases_Bool (is_live db k)) [
        | inl h ↦ in_member k keys (live_in_all schema capacity db legal k h) ∙ sym h
        | inr h ↦ false_from_ne_true _ (λ g. absurd (false≢true (sym h ∙ all_are_live schema capacity db legal k (member_in k keys g)))) ∙ sym h
      ]

  pub same_live : (k : DbKey) → live_in image k ≡ is_live db k
  unfolding image_of
  same_live k = any_map (λ e. key_eq k e.0) (λ x. (x, items_of db x)) keys ∙ listed_is_live k

  pub same_items : (k : DbKey) → items_in image k ≡ items_of db k
  unfolding image_of
  same_items k =
      ap (λ o. unwrap_or o []) (found_beside (key_eq k) k (λ x h. sym (same_key k x h)) (items_of db) keys)
      ∙ ap (λ b. unwrap_or (cond b (Some (items_of db k)) None) []) (listed_is_live k)
      ∙ none_live (λ r. r.items) [] (db.records k)

  pub same_version : (k : DbKey) → version_in image k ≡ version_of db k
  unfolding image_of
  same_version k =
      ap (λ o. unwrap_or o 0) (found_beside (key_eq k) k (λ x h. sym (same_key k x h)) (version_of db) keys)
      ∙ ap (λ b. unwrap_or (cond b (Some (version_of db k)) None) 0) (listed_is_live k)
      ∙ none_live (λ r. r.version) 0 (db.records k)

  -- LISTS

  abbrev pair : ℕ → Owner → Owner × List DbKey
  pair s o = (o, members_of db s o)

  abbrev pairs : ℕ → List (Owner × List DbKey)
  pairs s = map (pair s) (owners schema capacity db s)

  lists_are : (s : ℕ) → lists_in image s ≡ pairs s
  unfolding image_of
  lists_are s =
      ⊎_elim (λ h. ap (λ l. unwrap_or l []) (got_at pairs (length schema.sets) s h))
      (λ h. ap (λ l. unwrap_or l []) (got_past pairs (length schema.sets) 0 s h)
      ∙ sym (ap (λ set. map (pair s) (cond (some_and (λ x. is_none x.owner) set) (System ∷ []) (unwrap_or (option_map (λ t. map Rec (live_keys capacity db t)) (option_and_then (λ x. x.owner) set)) []))) (slice_get_past schema.sets s h)))
      (cases_lt s (length schema.sets))

  owner_occurs : (s : ℕ) (o : Owner) → In o (owners schema capacity db s) → has_occurrence schema db s o ≡ true
  owner_occurs s o at =
      elim (cases_Bool (is_system schema s)) [
        | inl h ↦ of_system (subst (λ b. In o (cond b (System ∷ []) (unwrap_or (option_map (λ t. map Rec (live_keys capacity db t)) (owner_type schema s)) []))) h at) h
        | inr h ↦ of_type (owner_type schema s) refl (subst (λ b. In o (cond b (System ∷ []) (unwrap_or (option_map (λ t. map Rec (live_keys capacity db t)) (owner_type schema s)) []))) h at)
      ] where
        of_system : In o (System ∷ []) → is_system schema s ≡ true → has_occurrence schema db s o ≡ true
        of_system (inl e) h = ap (has_occurrence schema db s) (sym e) ∙ h
        of_system (inr e) h = absurd e

        of_type : (type : Option ℕ) → owner_type schema s ≡ type → In o (unwrap_or (option_map (λ t. map Rec (live_keys capacity db t)) type) []) → has_occurrence schema db s o ≡ true
        of_type None e i = absurd i
        of_type (Some t) e i =
            let made = of_map Rec o (live_keys capacity db t) i in
            let facts = of_live_keys schema capacity db legal made.0 t made.1 in
            ap (has_occurrence schema db s) (sym made.2)
            ∙ and_from _ _ (ap (some_and (λ owner. eqb owner made.0.rtype)) e ∙ eq-eqb t made.0.rtype (sym facts.1)) facts.0

  is_listed : (s : ℕ) (o : Owner) → list_any (λ x. owner_eq x o) (owners schema capacity db s) ≡ is_some (db.lists s o)
  is_listed s o =
      elim (cases_Bool (is_some (db.lists s o))) [
        | inl h ↦ any_in (λ x. owner_eq x o) o _ (owner_in schema capacity db legal s o (sym (legal.pairs s o) ∙ h)) (owner_eq_refl o) ∙ sym h
        | inr h ↦
            false_from_ne_true _ (λ g.
            let e = any_element (λ x. owner_eq x o) (owners schema capacity db s) g in
            absurd (false≢true (sym h ∙ legal.pairs s o ∙ ap (has_occurrence schema db s) (sym (same_owner e.0 o e.2)) ∙ owner_occurs s e.0 e.1)))
            ∙ sym h
      ]

  pub same_list : (s : ℕ) (o : Owner) → list_in image s o ≡ db.lists s o
  same_list s o =
      ap (λ ls. option_map (λ (e : Owner × List DbKey). e.1) (find (λ e. owner_eq e.0 o) ls)) (lists_are s)
      ∙ found_beside (λ x. owner_eq x o) o (λ x h. same_owner x o h) (members_of db s) (owners schema capacity db s)
      ∙ ap (λ b. cond b (Some (members_of db s o)) None) (is_listed s o)
      ∙ as_listed (db.lists s o)

  pub same_owner_of : (s : ℕ) (k : DbKey) → owner_in_image image s k ≡ owner_of schema capacity db s k
  same_owner_of s k =
      ap (λ ls. option_map (λ (e : Owner × List DbKey). e.0) (find (λ e. is_member k e.1) ls)) (lists_are s)
      ∙ found_back (λ (e : Owner × List DbKey). is_member k e.1) (pair s) (λ e. e.0) (λ o. refl) (owners schema capacity db s)

  -- CALC ITEMS

  module _ (t : ℕ) (q : DbKey → Bool) where
    of_type : (ts : List ℕ) → find (λ k. eqb k.rtype t && q k) (flat_map (live_keys capacity db) ts) ≡ cond (list_any (λ u. eqb u t) ts) (find q (live_keys capacity db t)) None
    of_type [] = refl
    of_type (u ∷ ts) =
        find-append (λ k. eqb k.rtype t && q k) (live_keys capacity db u) (flat_map (live_keys capacity db) ts)
        ∙ elim (cases_Bool (eqb u t)) [
          | inl h ↦
              let is : u ≡ t = eqb-true u t h in
              ap (λ o. option_or o (find (λ k. eqb k.rtype t && q k) (flat_map (live_keys capacity db) ts)))
              (found_agree (λ k. eqb k.rtype t && q k) q (live_keys capacity db u) (λ k i. ap (λ b. b && q k) (ap (λ n. eqb n t) (of_live_keys schema capacity db legal k u i).1 ∙ h)) ∙ ap (λ n. find q (live_keys capacity db n)) is)
              ∙ ap (option_or (find q (live_keys capacity db t))) (of_type ts)
              ∙ or_itself (find q (live_keys capacity db t)) (list_any (λ u. eqb u t) ts)
              ∙ sym (ap (λ b. cond (b || list_any (λ u. eqb u t) ts) (find q (live_keys capacity db t)) None) h)
          | inr h ↦
              ap (λ o. option_or o (find (λ k. eqb k.rtype t && q k) (flat_map (live_keys capacity db) ts)))
              (found_agree (λ k. eqb k.rtype t && q k) (λ k. false) (live_keys capacity db u) (λ k i. ap (λ b. b && q k) (ap (λ n. eqb n t) (of_live_keys schema capacity db legal k u i).1 ∙ h)) ∙ found_none (live_keys capacity db u))
              ∙ of_type ts
              ∙ sym (ap (λ b. cond (b || list_any (λ u. eqb u t) ts) (find q (live_keys capacity db t)) None) h)
        ]

    no_type : length schema.types ≤ t → live_keys capacity db t ≡ []
    no_type past =
        no_elements (live_keys capacity db t) (λ k i.
        let facts = of_live_keys schema capacity db legal k t i in
        let below = (legal.keys k facts.0).0 in
        let is = facts.1 in
        omega arith)

    in_keys : find (λ k. eqb k.rtype t && q k) keys ≡ find q (live_keys capacity db t)
    in_keys =
        of_type (range_with_len 0 (length schema.types))
        ∙ ⊎_elim
        (λ h. ap (λ b. cond b (find q (live_keys capacity db t)) None) (any_in (λ u. eqb u t) t (range_with_len 0 (length schema.types)) (in_range (length schema.types) 0 t (omega arith) (omega arith)) (eq-eqb t t refl)))
        (λ h. nothing _ (find q (live_keys capacity db t)) (ap (find q) (no_type h)))
        (cases_lt t (length schema.types)) where
          nothing : (b : Bool) (o : Option DbKey) → o ≡ None → cond b o None ≡ o
          nothing true o e = refl
          nothing false o e = sym e

  pub same_holder : (t : ℕ) (values : List Value) (left : Option DbKey) → holder_in_image schema image t values left ≡ holder_in schema capacity db t values left
  unfolding image_of
  same_holder t values left =
      found_back (holds schema t values left) (λ k. (k, items_of db k)) (λ e. e.0) (λ k. refl) keys
      ∙ in_keys t (λ k. values_eq (calc_items schema t (items_of db k)) values && not (is_left_out left k))
      ∙ found_kept (λ k. values_eq (calc_items schema t (items_of db k)) values) (λ k. not (is_left_out left k)) (live_keys capacity db t)

  -- AREAS

  pub same_users : (a : ℕ) → users_in image a ≡ db.usage a
  unfolding image_of
  same_users a =
      ⊎_elim (λ h. ap (λ l. unwrap_or l []) (got_at db.usage (length schema.areas) a h))
      (λ h. ap (λ l. unwrap_or l []) (got_past db.usage (length schema.areas) 0 a h) ∙ sym (legal.no_area a h))
      (cases_lt a (length schema.areas))
