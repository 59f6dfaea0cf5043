-- Each cell of a statement is a cell of the schema at this capacity.
use Rattle.std.proofs.Common.{◌≡◌, refl, sym, ap, subst, ℕ, Bool, true, false, ◌&&◌, List, [], ◌∷◌, ◌++◌, length, map, Option, Some, None, inl, inr, arith}
use Rattle.std.specs.Prelude.{Ok, filter, is_some, nat_lt, slice_get, option_map, option_and_then, unwrap_or, if◌then◌else◌, ◌==◌}
use Rattle.std.specs.List.{list_any, list_all, range_with_len, flat_map}
use Rattle.std.specs.Option.{option_or}
use Rattle.std.proofs.lemmas.Bool.{and_parts, and_from, cond_both, false≢true, eqb-true, ltb-false, lt-ltb, le-leb}
use Rattle.std.proofs.lemmas.Option.{slice_get_within}
use Rattle.dbtg_schema.specs.Lists.{Lists}
use Rattle.dbtg_schema.specs.Lookups.{at, first_cause, some_and}
use Rattle.dbtg_schema.specs.Sound.{IsSound}
use Rattle.dbtg_schema.specs.Structure.{area_of, automatic_sets, calc_of, is_system, owns, rekeyed_sets, set_numbers, types_in}
use Rattle.dbtg_schema.specs.declared.shape.RecordType.{RecordType}
use Rattle.dbtg_cells.specs.declared.key.DbKey.{DbKey}
use Rattle.dbtg_cells.specs.declared.key.Owner.{Owner}
use Rattle.dbtg_cells.specs.declared.key.Owner.TheVariants.{System, Rec}
use Rattle.dbtg_cells.specs.declared.name.CellName.{CellName}
use Rattle.dbtg_cells.specs.declared.name.CellName.TheVariants.{Extent, Ring}
use Rattle.dbtg_cells.specs.CellNumbers.{is_cell}
use Rattle.dbtg_cells.specs.Keys.{key_below, value_eq}
use Rattle.dbtg_unit.specs.Database.Statements.StoredFacts.{whole}
use Rattle.dbtg_unit.specs.declared.statement.Erase.{Erase}
use Rattle.dbtg_unit.specs.declared.statement.Form.{Form}
use Rattle.dbtg_unit.specs.declared.statement.Form.TheVariants.{Key, CurrentOfUnit, CurrentOfType, CurrentOfSet, CurrentOfArea, InSet, InArea, OwnerOf, Calc, NextDuplicate, Sorted}
use Rattle.dbtg_unit.specs.declared.statement.Statement.{Statement}
use Rattle.dbtg_unit.specs.declared.statement.Statement.TheVariants.{OpenArea, CloseArea, Find, Get, Store, Insert, Remove, Modify, Delete, Keep, Free}
use Rattle.dbtg_unit.specs.declared.statement.Suppress.{Suppress}
use Rattle.dbtg_unit.specs.declared.statement.Which.{Which}
use Rattle.dbtg_unit.specs.declared.unit.Cause.TheVariants.{End, NoneSatisfies}
use Rattle.dbtg_unit.specs.declared.unit.Place.{Place}
use Rattle.dbtg_unit.specs.declared.unit.Unit.{Unit}
use Rattle.dbtg_unit.specs.Database.State.Base.{Database, is_live, is_member, live_keys, members_of, owner_of, sort_key}
use Rattle.dbtg_unit.specs.Database.State.Belongs.{IsUnitOf, IsWithin, is_key_of, is_number, is_owner_in, is_place_in, owner_within}
use Rattle.dbtg_unit.specs.Database.State.CellNames.{place_of, slot_name}
use Rattle.dbtg_unit.specs.Database.Statements.Checks.{is_beyond}
use Rattle.dbtg_unit.specs.Database.Statements.Doomed.{all_keys, takes}
use Rattle.dbtg_unit.specs.Database.Statements.Effect.{free_number, has_members, is_plain, new_key, own_checks}
use Rattle.dbtg_unit.specs.Hands.Erasing.{cells_of_doomed, delete_cells, delete_cells_of, doomed_in_turn, outer_cells, own_rings, rings_to_member, taken_with}
use Rattle.dbtg_unit.specs.Database.Statements.Fits.{fits, form_fits, if_named, is_type}
use Rattle.dbtg_unit.specs.Database.Statements.Found.{found, has_type, keys_in_area, with_calc}
use Rattle.dbtg_unit.specs.Database.State.Legal.{Legal}
use Rattle.dbtg_unit.specs.Hands.Needs.{cells_of, current_owner, find_cells, ring_names, slot_names, store_cells, store_rings}
use Rattle.dbtg_unit.specs.Database.State.Units.{key_of_owner, key_of_place, place_in}
use Rattle.dbtg_unit.proofs.Public.{In, IsGoodPlace, all_at, all_in, any_element, find_element, in_member, list_owner_is_good, live_key_is_good}
use Rattle.dbtg_unit.proofs.Public.{all_flat, all_join, brought_all, chosen_by_key_in, chosen_in, current_is, first_in, first_is_in, first_of_filter, found_is, found_passes, once_all, owner_is_type}
use Rattle.dbtg_unit.proofs.Public.{member_has_list, member_of_owner, of_filter, of_flat_map, of_live_keys, of_map, of_range, some_and_value}

module _ (schema : Lists) (capacity : ℕ) where
  -- all these cells are cells of the schema
  abbrev pub all_exist : List CellName → Bool
  all_exist cs = list_all (is_cell schema capacity) cs

  -- the key has a slot
  abbrev pub has_slot : DbKey → Bool
  has_slot k = is_cell schema capacity (slot_name k)

  -- the owner, where there is one, has a ring in set s
  abbrev pub has_ring : ℕ → Option Owner → Bool
  has_ring s o = all_exist (ring_names s o)

  number_of_slot : (k : DbKey) → has_slot k ≡ true → is_number capacity k.number ≡ true
  number_of_slot k h = (and_parts (nat_lt k.rtype (length schema.types)) (is_number capacity k.number) h).1

  ring_exists : (s : ℕ) (o : Owner) → is_owner_in schema s o ≡ true → owner_within capacity o ≡ true → has_ring s (Some o) ≡ true
  ring_exists s System h g = and_from _ _ h refl
  ring_exists s (Rec k) h g = and_from _ _ (and_from _ _ h g) refl

  current_exists : (o : Option DbKey) → if_named (is_key_of schema) o ≡ true → if_named (λ k. is_number capacity k.number) o ≡ true → all_exist (slot_names o) ≡ true
  current_exists None h g = refl
  current_exists (Some k) h g = and_from _ _ (and_from _ _ h g) refl

  type_in_range : (t : ℕ) → In t (range_with_len 0 (length schema.types)) → is_type schema t ≡ true
  type_in_range t i = let r = of_range (length schema.types) 0 t i in let high = r.1 in lt-ltb t (length schema.types) (omega arith)

  -- a record type with a CALC clause is the schema's
  calc_type : (t : ℕ) → is_some (calc_of schema t) ≡ true → is_type schema t ≡ true
  calc_type t = go (slice_get schema.types t) refl
    where
      go : (o : Option RecordType) → slice_get schema.types t ≡ o → is_some (option_and_then (λ r. r.calc) o) ≡ true → is_type schema t ≡ true
      go None e h = absurd (false≢true h)
      go (Some r) e h = lt-ltb t (length schema.types) (slice_get_within schema.types t r e)

  -- a number that is free is within the capacity
  free_within : (db : Database) (t n : ℕ) → free_number capacity db t ≡ Some n → is_number capacity n ≡ true
  free_within db t n e =
      let r = of_range capacity 1 n (of_filter _ n (range_with_len 1 capacity) (first_in _ n e)).0 in
      let low = r.0 in
      let high = r.1 in
      and_from _ _ (lt-ltb 0 n (omega arith)) (le-leb n capacity (omega arith))

  own_rings_exist : (k : DbKey) → has_slot k ≡ true → all_exist (own_rings schema k) ≡ true
  own_rings_exist k h = all_in (is_cell schema capacity) _ (λ c i.
      let m = of_map _ c _ i in
      subst (λ d. is_cell schema capacity d ≡ true) m.2 (and_from _ _ (of_filter (λ s. owns schema s k.rtype) m.0 _ m.1).1 (number_of_slot k h)))

  rings_to_member_exist : (db : Database) (k : DbKey) → has_slot k ≡ true → (sets : List ℕ) → list_all (λ s. owns schema s k.rtype) sets ≡ true → all_exist (rings_to_member schema db k sets) ≡ true
  rings_to_member_exist db k h [] g = refl
  rings_to_member_exist db k h (s ∷ sets) g =
      let gs = and_parts _ _ g in
      and_from _ _ (and_from _ _ gs.0 (number_of_slot k h))
      (cond_both (nat_lt 0 (length (members_of db s (Rec k)))) _ _ (λ cs. all_exist cs ≡ true) (λ e. refl) (λ e. rings_to_member_exist db k h sets gs.1))

-- OF A LEGAL DATABASE

module _ (schema : Lists) (capacity : ℕ) (db : Database) (legal : Legal schema capacity db) where
  live_exists : (k : DbKey) → is_live db k ≡ true → has_slot schema capacity k ≡ true
  live_exists k h = let key = live_key_is_good schema capacity db legal k h in and_from _ _ key.key key.number

  member_exists : (s : ℕ) (o : Owner) (k : DbKey) → In k (members_of db s o) → has_slot schema capacity k ≡ true
  member_exists s o k i = live_exists k (legal.members s o k (in_member k _ i)).0

  list_exists : (s : ℕ) (o : Owner) (k : DbKey) → is_member k (members_of db s o) ≡ true → has_ring schema capacity s (Some o) ≡ true
  list_exists s o k h = let owner = list_owner_is_good schema capacity db legal s o (member_has_list (db.lists s o) k h) in ring_exists schema capacity s o owner.of_set owner.within

  -- the owner of a record has a ring
  pub owner_exists : (s : ℕ) (k : DbKey) → has_ring schema capacity s (owner_of schema capacity db s k) ≡ true
  owner_exists s k = go (owner_of schema capacity db s k) refl
    where
      go : (o : Option Owner) → owner_of schema capacity db s k ≡ o → has_ring schema capacity s o ≡ true
      go None e = refl
      go (Some o) e = list_exists s o k (member_of_owner schema capacity db legal s o k e)

  calc_exists : (r : ℕ) (values : _) (k : DbKey) → In k (with_calc schema capacity db r values) → has_slot schema capacity k ≡ true
  calc_exists r values k i = live_exists k (of_live_keys schema capacity db legal k r (of_filter _ k _ i).0).0

  -- THE CELLS OF A DELETE

  doomed_exist : (d : DbKey) → has_slot schema capacity d ≡ true → all_exist schema capacity (cells_of_doomed schema db d) ≡ true
  doomed_exist d h =
      and_from _ _ h
      (all_join (is_cell schema capacity) (own_rings schema d) _ (own_rings_exist schema capacity d h)
      (all_in (is_cell schema capacity) _ (λ c i.
      let m = of_map slot_name c _ i in
      let s = of_flat_map (λ s. members_of db s (Rec d)) m.0 (set_numbers schema) m.1 in
      subst (λ e. is_cell schema capacity e ≡ true) m.2 (member_exists s.0 (Rec d) m.0 s.2))))

  outer_exist : (gone : List DbKey) → all_exist schema capacity (outer_cells schema capacity db gone) ≡ true
  outer_exist gone =
      all_join (is_cell schema capacity) (map Extent (filter (λ t. list_any (λ d. d.rtype == t) gone) (range_with_len 0 (length schema.types)))) _
      (all_in (is_cell schema capacity) _ (λ c i.
      let m = of_map Extent c _ i in
      subst (λ e. is_cell schema capacity e ≡ true) m.2 (type_in_range schema capacity m.0 (of_filter (λ t. list_any (λ d. d.rtype == t) gone) m.0 _ m.1).0)))
      (all_flat (is_cell schema capacity) _ (set_numbers schema) (λ s j. all_in (is_cell schema capacity) _ (λ c i.
      let m = of_map (λ o. Ring s (place_of o)) c _ i in
      let d = any_element (λ (x : DbKey). is_member x (members_of db s m.0)) gone (of_filter (λ o. list_any (λ d. is_member d (members_of db s o)) gone) m.0 _ m.1).1 in
      subst (λ e. is_cell schema capacity e ≡ true) m.2 (and_parts _ true (list_exists s m.0 d.0 d.2)).0)))

  delete_cells_exist : (unit : Unit) (option : Erase) (k : DbKey) → has_slot schema capacity k ≡ true → all_exist schema capacity (delete_cells schema capacity db unit option k) ≡ true
  delete_cells_exist unit option k h =
      cond_both (is_some (first_cause (own_checks (whole schema capacity db) unit k))) _ _ (λ cs. all_exist schema capacity cs ≡ true) (λ f. and_from _ _ h refl)
      (λ f. cond_both (is_plain option && has_members schema (whole schema capacity db) k) _ _ (λ cs. all_exist schema capacity cs ≡ true)
      (λ g. and_from _ _ h (rings_to_member_exist schema capacity db k h _ (all_in (λ s. owns schema s k.rtype) _ (λ s i. (of_filter (λ s. owns schema s k.rtype) s _ i).1))))
      (λ g. once_all (is_cell schema capacity) [] (slot_name k ∷ own_rings schema k ++ flat_map (cells_of_doomed schema db) gone ++ outer_cells schema capacity db gone) all_of_it))
    where
      gone : List DbKey
      gone = doomed_in_turn schema capacity db option k

      gone_exist : list_all (has_slot schema capacity) gone ≡ true
      gone_exist =
          brought_all (has_slot schema capacity) (taken_with schema capacity db option)
          (λ d e. all_flat (has_slot schema capacity) _ (set_numbers schema) (λ s i. all_in (has_slot schema capacity) _ (λ m j. member_exists s (Rec d) m (of_filter (takes schema capacity db option s (Rec d)) m _ j).0)))
          (length (all_keys schema capacity db)) 0 (k ∷ []) (and_from _ _ h refl)

      all_of_it : all_exist schema capacity (slot_name k ∷ own_rings schema k ++ flat_map (cells_of_doomed schema db) gone ++ outer_cells schema capacity db gone) ≡ true
      all_of_it =
          all_join (is_cell schema capacity) (slot_name k ∷ own_rings schema k ++ flat_map (cells_of_doomed schema db) gone) _
          (all_join (is_cell schema capacity) (slot_name k ∷ own_rings schema k) _ (and_from _ _ h (own_rings_exist schema capacity k h))
          (all_flat (is_cell schema capacity) (cells_of_doomed schema db) gone (λ d i. doomed_exist d (all_at (has_slot schema capacity) d gone gone_exist i))))
          (outer_exist gone)

-- OF A UNIT OF THE SCHEMA

module _ (schema : Lists) (capacity : ℕ) (sound : IsSound schema) (db : Database) (legal : Legal schema capacity db) (unit : Unit) (of : IsUnitOf schema unit) (within : IsWithin capacity unit) where
  place_is_good : (s : ℕ) → IsGoodPlace schema capacity s (place_in schema unit s)
  place_is_good s = go (at unit.currency.sets s) (of.of_sets s) (within.sets s)
    where
      go : (o : Option Place) → if_named (is_place_in schema s) o ≡ true → if_named (λ place. owner_within capacity place.owner && if_named (λ k. is_number capacity k.number) place.at) o ≡ true →
          IsGoodPlace schema capacity s (option_or o (if is_system schema s then Some (record { owner = System; at = None }) else None))
      go (Some p) h g = record { of_set = h; within = g }
      go None h g = cond_both (is_system schema s) _ _ (IsGoodPlace schema capacity s) (λ e. record { of_set = and_from _ _ e refl; within = refl }) (λ e. record { of_set = refl; within = refl })

  current_ring_exists : (s : ℕ) → has_ring schema capacity s (current_owner schema unit s) ≡ true
  current_ring_exists s = go (place_in schema unit s) (place_is_good s)
    where
      go : (o : Option Place) → IsGoodPlace schema capacity s o → has_ring schema capacity s (option_map (λ place. place.owner) o) ≡ true
      go None g = refl
      go (Some p) g = ring_exists schema capacity s p.owner (and_parts _ _ g.of_set).0 (and_parts _ _ g.within).0

  -- the slot that a place names, at its record or else at its owner
  named_exists : (s : ℕ) (k : Option DbKey) (o : Owner) → if_named (is_key_of schema) k ≡ true → if_named (λ k. is_number capacity k.number) k ≡ true → is_owner_in schema s o ≡ true → owner_within capacity o ≡ true →
      all_exist schema capacity (slot_names (option_or k (key_of_owner o))) ≡ true
  named_exists s (Some k) o h g i w = and_from _ _ (and_from _ _ h g) refl
  named_exists s None System h g i w = refl
  named_exists s None (Rec k) h g i w = and_from _ _ (and_from _ _ (lt-ltb k.rtype (length schema.types) (owner_is_type schema sound s k.rtype i)) w) refl

  run_unit_exists : all_exist schema capacity (slot_names unit.currency.run_unit) ≡ true
  run_unit_exists = current_exists schema capacity unit.currency.run_unit of.run_unit within.run_unit

  in_set_exists : (which : Which) (r : Option ℕ) (s : ℕ) (k : DbKey) → found schema capacity db unit (InSet which r s) ≡ Ok k → has_slot schema capacity k ≡ true
  in_set_exists which r s k e =
      let c = current_is (place_in schema unit s) _ k e in
      member_exists schema capacity db legal s c.0.owner k (chosen_in which (has_type r) c.0.at (members_of db s c.0.owner) k (found_is _ _ _ k c.2)).0

  sorted_exists : (v : _) (s : ℕ) (k : DbKey) → found schema capacity db unit (Sorted s v) ≡ Ok k → has_slot schema capacity k ≡ true
  sorted_exists v s k e =
      let c = current_is (place_in schema unit s) _ k e in
      member_exists schema capacity db legal s c.0.owner k (find_element (λ x. some_and (value_eq v) (sort_key schema db s x)) (members_of db s c.0.owner) k (found_is _ _ _ k c.2)).0

  type_named : (a : ℕ) (r : Option ℕ) → if_named (λ t. nat_lt t (length schema.types) && area_of schema t == a) r ≡ true → (t : ℕ) → In t (unwrap_or (option_map (λ t. t ∷ []) r) (types_in schema a)) → is_type schema t ≡ true
  type_named a None f t i = type_in_range schema capacity t (of_filter (λ t. area_of schema t == a) t _ i).0
  type_named a (Some u) f t (inl e) = subst (λ v. is_type schema v ≡ true) e (and_parts _ _ f).0
  type_named a (Some u) f t (inr i) = absurd i

  in_area_exist : (which : Which) (r : Option ℕ) (a : ℕ) → form_fits schema (InArea which r a) ≡ true → all_exist schema capacity (find_cells schema capacity db unit (InArea which r a)) ≡ true
  in_area_exist which r a f =
      all_join (is_cell schema capacity) (map Extent types) _
      (all_in (is_cell schema capacity) (map Extent types) (λ c i. let m = of_map Extent c types i in subst (λ d. is_cell schema capacity d ≡ true) m.2 (type_named a r (and_parts _ _ f).1 m.0 m.1)))
      (found_passes (is_cell schema capacity) _ (λ k e.
      let i = chosen_by_key_in which (at unit.currency.areas a) (keys_in_area schema capacity db r a) k (found_is None _ End k e) in
      let m = of_flat_map (live_keys capacity db) k (types_in schema a) (of_filter (has_type r) k _ i).0 in
      live_exists schema capacity db legal k (of_live_keys schema capacity db legal k m.0 m.2).0))
    where
      types : List ℕ
      types = unwrap_or (option_map (λ t. t ∷ []) r) (types_in schema a)

  -- a key that a FIND names is not beyond the capacity
  key_exists : (k : DbKey) → form_fits schema (Key k) ≡ true → nat_lt capacity k.number ≡ false → has_slot schema capacity k ≡ true
  key_exists k f b =
      let named = and_parts _ _ (and_parts _ _ (and_parts _ _ (and_parts _ _ f).0).0).0 in
      and_from _ _ named.0 (and_from _ _ named.1 (le-leb k.number capacity (ltb-false capacity k.number b)))

  find_cells_exist : (form : Form) (suppress : Suppress) → form_fits schema form ≡ true → is_beyond capacity (Find suppress form) ≡ false → all_exist schema capacity (find_cells schema capacity db unit form) ≡ true
  find_cells_exist (Key k) suppress f b = and_from _ _ (key_exists k f b) refl
  find_cells_exist CurrentOfUnit suppress f b = run_unit_exists
  find_cells_exist (CurrentOfType r) suppress f b =
      go (at unit.currency.types r) (of.of_types r) (within.types r)
    where
      go : (o : Option DbKey) → if_named (λ k. k.rtype == r) o ≡ true → if_named (λ k. is_number capacity k.number) o ≡ true → all_exist schema capacity (slot_names o) ≡ true
      go None h g = refl
      go (Some k) h g = and_from _ _ (and_from _ _ (subst (λ t. is_type schema t ≡ true) (sym (eqb-true k.rtype r h)) f) g) refl
  find_cells_exist (CurrentOfSet s) suppress f b = go (place_in schema unit s) (place_is_good s)
    where
      go : (o : Option Place) → IsGoodPlace schema capacity s o → all_exist schema capacity (slot_names (option_and_then key_of_place o)) ≡ true
      go None g = refl
      go (Some p) g = let i = and_parts _ _ g.of_set in let w = and_parts _ _ g.within in named_exists s p.at p.owner i.1 w.1 i.0 w.0
  find_cells_exist (CurrentOfArea a) suppress f b = current_exists schema capacity (at unit.currency.areas a) (of.of_areas a) (within.areas a)
  find_cells_exist (InSet which r s) suppress f b =
      all_join (is_cell schema capacity) (ring_names s (current_owner schema unit s)) _ (current_ring_exists s) (found_passes (is_cell schema capacity) _ (in_set_exists which r s))
  find_cells_exist (InArea which r a) suppress f b = in_area_exist which r a f
  find_cells_exist (OwnerOf s) suppress f b = go (place_in schema unit s) (place_is_good s)
    where
      go : (o : Option Place) → IsGoodPlace schema capacity s o → all_exist schema capacity (slot_names (option_and_then (λ place. key_of_place (record place { at = None })) o)) ≡ true
      go None g = refl
      go (Some p) g = named_exists s None p.owner refl refl (and_parts _ _ g.of_set).0 (and_parts _ _ g.within).0
  find_cells_exist (Calc r values) suppress f b =
      and_from _ _ (calc_type schema capacity r (ap is_some (some_and_value _ (calc_of schema r) f).1))
      (found_passes (is_cell schema capacity) _ (λ k e. calc_exists schema capacity db legal r values k (first_is_in _ k (found_is None _ NoneSatisfies k e))))
  find_cells_exist (NextDuplicate r) suppress f b =
      and_from _ _ (calc_type schema capacity r f)
      (found_passes (is_cell schema capacity) _ (λ k e.
      let c = current_is (at unit.currency.types r) _ k e in
      calc_exists schema capacity db legal r _ k (first_of_filter (key_below c.0) _ k (found_is _ _ _ k c.2)).0))
  find_cells_exist (Sorted s v) suppress f b =
      all_join (is_cell schema capacity) (ring_names s (current_owner schema unit s)) _ (current_ring_exists s) (found_passes (is_cell schema capacity) _ (sorted_exists v s))

  -- the rings of a STORE
  store_rings_exist : (k : DbKey) → is_number capacity k.number ≡ true → all_exist schema capacity (store_rings schema unit k) ≡ true
  store_rings_exist k number =
      all_flat (is_cell schema capacity) _ (set_numbers schema) (λ s i. all_join (is_cell schema capacity) (current s) (own s) (all_currents_exist s) (own_exist s))
    where
      current : ℕ → List CellName
      current s = if list_any (λ s'. s' == s) (automatic_sets schema k.rtype) then ring_names s (current_owner schema unit s) else []

      own : ℕ → List CellName
      own s = if owns schema s k.rtype then Ring s (Some (k.rtype, k.number)) ∷ [] else []

      all_currents_exist : (s : ℕ) → all_exist schema capacity (current s) ≡ true
      all_currents_exist s = cond_both (list_any (λ s'. s' == s) (automatic_sets schema k.rtype)) _ _ (λ cs. all_exist schema capacity cs ≡ true) (λ e. current_ring_exists s) (λ e. refl)

      own_exist : (s : ℕ) → all_exist schema capacity (own s) ≡ true
      own_exist s = cond_both (owns schema s k.rtype) _ _ (λ cs. all_exist schema capacity cs ≡ true) (λ e. and_from _ _ (and_from _ _ e number) refl) (λ e. refl)

  store_cells_exist : (t : ℕ) → is_type schema t ≡ true → (o : Option ℕ) → ((n : ℕ) → o ≡ Some n → is_number capacity n ≡ true) → (taken : Bool) → all_exist schema capacity (store_cells schema unit (option_map (new_key db t) o) taken) ≡ true
  store_cells_exist t h None g taken = refl
  store_cells_exist t h (Some n) g true = refl
  store_cells_exist t h (Some n) g false =
      all_join (is_cell schema capacity) (store_rings schema unit (new_key db t n)) _ (store_rings_exist (new_key db t n) (g n refl)) (and_from _ _ (and_from _ _ h (g n refl)) refl)

  modify_cells_exist : (g : List (Option Owner)) → ((s : ℕ) → has_ring schema capacity s (at g s) ≡ true) → (t : ℕ) → is_type schema t ≡ true → (named : List ℕ) (calc : Bool) →
      all_exist schema capacity ((if calc then Extent t ∷ [] else []) ++ flat_map (λ s. ring_names s (at g s)) (rekeyed_sets schema t named) ++ slot_names unit.currency.run_unit) ≡ true
  modify_cells_exist g guesses t h named calc =
      all_join (is_cell schema capacity) ((if calc then Extent t ∷ [] else []) ++ flat_map (λ s. ring_names s (at g s)) (rekeyed_sets schema t named)) _
      (all_join (is_cell schema capacity) (if calc then Extent t ∷ [] else []) _
      (cond_both calc _ _ (λ cs. all_exist schema capacity cs ≡ true) (λ e. and_from _ _ h refl) (λ e. refl))
      (all_flat (is_cell schema capacity) (λ s. ring_names s (at g s)) (rekeyed_sets schema t named) (λ s i. guesses s)))
      run_unit_exists

  connect_cells_exist : (s : ℕ) (o : Option Owner) → has_ring schema capacity s o ≡ true → all_exist schema capacity (ring_names s o ++ slot_names unit.currency.run_unit) ≡ true
  connect_cells_exist s o h = all_join (is_cell schema capacity) (ring_names s o) _ h run_unit_exists

  -- where each guess has a ring, each cell of a statement exists
  pub cells_exist : (g : List (Option Owner)) → ((s : ℕ) → has_ring schema capacity s (at g s) ≡ true) → (x : Statement) → fits schema x ≡ true → is_beyond capacity x ≡ false →
      all_exist schema capacity (cells_of schema capacity db unit g x) ≡ true
  cells_exist g guesses (OpenArea a mode) f b = and_from _ _ f refl
  cells_exist g guesses (CloseArea a) f b = and_from _ _ f refl
  cells_exist g guesses (Find suppress form) f b = find_cells_exist form suppress (and_parts _ _ f).0 b
  cells_exist g guesses (Get r) f b = run_unit_exists
  cells_exist g guesses (Store t items suppress) f b =
      let h = (and_parts _ _ (and_parts _ _ f).0).0 in
      and_from _ _ h (store_cells_exist t h (free_number capacity db t) (free_within schema capacity db t) _)
  cells_exist g guesses (Insert s) f b = connect_cells_exist s _ (current_ring_exists s)
  cells_exist g guesses (Remove s) f b = connect_cells_exist s _ (guesses s)
  cells_exist g guesses (Modify t changes) f b = modify_cells_exist g guesses t (and_parts _ _ (and_parts _ _ f).0).0 _ _
  cells_exist g guesses (Delete option) f b = go unit.currency.run_unit run_unit_exists
    where
      go : (o : Option DbKey) → all_exist schema capacity (slot_names o) ≡ true → all_exist schema capacity (delete_cells_of schema capacity db unit option o) ≡ true
      go None h = refl
      go (Some k) h = delete_cells_exist schema capacity db legal unit option k (and_parts _ true h).0
  cells_exist g guesses Keep f b = run_unit_exists
  cells_exist g guesses (Free all) f b = refl
