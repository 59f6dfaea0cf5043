-- Each cell of a statement lies in one of its areas: all statements but DELETE.
use Rattle.std.proofs.Common.{◌≡◌, refl, sym, ◌∙◌, ap, subst, ℕ, Bool, true, false, eqb, ◌&&◌, List, [], ◌∷◌, ◌++◌, length, map, Option, Some, None, inl, inr, arith}
use Rattle.std.specs.Prelude.{Result, Ok, Err, is_some, nat_lt, slice_get, option_map, option_and_then, unwrap_or, if◌then◌else◌, ◌==◌}
use Rattle.std.specs.List.{list_any, list_all, flat_map}
use Rattle.std.specs.Option.{option_or}
use Rattle.std.proofs.lemmas.Bool.{and_parts, and_from, or_left, or_right, cond_both, false≢true, eqb-true, eq-eqb}
use Rattle.std.proofs.lemmas.List.Folds.{list_all-append}
use Rattle.dbtg_schema.specs.Lists.{Lists}
use Rattle.dbtg_schema.specs.Lookups.{at, some_and}
use Rattle.dbtg_schema.specs.Structure.{area_of, automatic_sets, first_member, home, is_system, member_clause, owns, rekeyed_sets, set_member_types, set_numbers, types_in}
use Rattle.dbtg_schema.specs.declared.shape.SetType.{SetType}
use Rattle.dbtg_cells.specs.declared.key.DbKey.{DbKey}
use Rattle.dbtg_cells.specs.declared.key.Owner.{Owner}
use Rattle.dbtg_cells.specs.declared.key.Owner.TheVariants.{System, Rec}
use Rattle.dbtg_cells.specs.declared.name.CellName.{CellName}
use Rattle.dbtg_cells.specs.declared.name.CellName.TheVariants.{Usage, Extent, Ring}
use Rattle.dbtg_cells.specs.Keys.{key_below, value_eq}
use Rattle.dbtg_unit.specs.declared.statement.Form.{Form}
use Rattle.dbtg_unit.specs.declared.statement.Form.TheVariants.{Key, CurrentOfUnit, CurrentOfType, CurrentOfSet, CurrentOfArea, InSet, InArea, OwnerOf, Calc, NextDuplicate, Sorted}
use Rattle.dbtg_unit.specs.declared.statement.Which.{Which}
use Rattle.dbtg_unit.specs.declared.statement.Statement.{Statement}
use Rattle.dbtg_unit.specs.declared.statement.Statement.TheVariants.{OpenArea, CloseArea, Find, Get, Store, Insert, Remove, Modify, Delete, Keep, Free}
use Rattle.dbtg_unit.specs.declared.unit.Place.{Place}
use Rattle.dbtg_unit.specs.declared.unit.Unit.{Unit}
use Rattle.dbtg_unit.specs.declared.unit.Cause.{Cause}
use Rattle.dbtg_unit.specs.declared.unit.Cause.TheVariants.{End, NoneSatisfies}
use Rattle.dbtg_unit.specs.Database.State.Base.{Database, free_number, live_keys, members_of, sort_key}
use Rattle.dbtg_unit.specs.Database.State.Belongs.{IsUnitOf, is_owner_in, is_place_in}
use Rattle.dbtg_unit.specs.Database.State.CellNames.{area_of_cell, slot_name}
use Rattle.dbtg_unit.specs.Database.Statements.Checks.{area_of_current, areas_of, find_areas}
use Rattle.dbtg_unit.specs.Database.Statements.Effect.{new_key}
use Rattle.dbtg_unit.specs.Database.Statements.Fits.{fits, form_fits, if_named}
use Rattle.dbtg_unit.specs.Database.Statements.Found.{found, has_type, keys_in_area, with_calc}
use Rattle.dbtg_unit.specs.Database.State.Legal.{Legal}
use Rattle.dbtg_unit.specs.Hands.Needs.{cells_of, current_owner, find_cells, found_slot, ring_names, slot_names, store_cells, store_rings}
use Rattle.dbtg_unit.specs.Database.State.Units.{key_of_owner, key_of_place, place_in}
use Rattle.dbtg_unit.proofs.Database.Records.LiveKeys.{in_member, of_live_keys}
use Rattle.dbtg_unit.proofs.Hands.Taking.FoundKeys.{chosen_by_key_in, chosen_in, current_is, first_is_in, first_of_filter, found_is}
use Rattle.dbtg_unit.proofs.Lists.Agreeing.{all_in}
use Rattle.dbtg_unit.proofs.Lists.Membership.{In, any_element, any_in, find_element, in_filter, in_map, in_range, of_filter, of_flat_map, of_map}
use Rattle.dbtg_unit.specs.Hands.EditsOf.{is_delete}

-- LISTS OF WHICH ALL PASS

pub all_join : {X : Type 0} (p : X → Bool) (xs ys : List X) → list_all p xs ≡ true → list_all p ys ≡ true → list_all p (xs ++ ys) ≡ true
all_join p xs ys h g = list_all-append p xs ys ∙ and_from _ _ h g

pub all_flat : {X Y : Type 0} (p : Y → Bool) (f : X → List Y) (xs : List X) → ((x : X) → In x xs → list_all p (f x) ≡ true) → list_all p (flat_map f xs) ≡ true
all_flat p f [] h = refl
all_flat p f (x ∷ xs) h = all_join p (f x) (flat_map f xs) (h x (inl refl)) (all_flat p f xs (λ y i. h y (inr i)))

-- the slot of what is found, where a key is found
pub found_passes : (p : CellName → Bool) (r : Result DbKey Cause) → ((k : DbKey) → r ≡ Ok k → p (slot_name k) ≡ true) → list_all p (found_slot r) ≡ true
found_passes p (Ok k) h = and_from _ _ (h k refl) refl
found_passes p (Err cause) h = refl

-- area a is among these
abbrev pub is_among : List ℕ → ℕ → Bool
is_among areas a = list_any (λ b. eqb b a) areas

pub among_mapped : (f : ℕ → ℕ) (x : ℕ) (xs : List ℕ) → In x xs → is_among (map f xs) (f x) ≡ true
among_mapped f x xs i = any_in (λ b. eqb b (f x)) (f x) (map f xs) (in_map f x xs i) (eq-eqb (f x) (f x) refl)

-- a set lies in the area of its owner type
pub home_owned : (schema : Lists) (s t : ℕ) → owns schema s t ≡ true → home schema s ≡ area_of schema t
home_owned schema s t e = go (slice_get schema.sets s) e
  where
    of_owner : (set : SetType) (o : Option ℕ) → some_and (λ owner. eqb owner t) o ≡ true → area_of schema (unwrap_or o (first_member set.members)) ≡ area_of schema t
    of_owner set None e = absurd (false≢true e)
    of_owner set (Some o) e = ap (area_of schema) (eqb-true o t e)

    go : (o : Option SetType) → some_and (λ owner. eqb owner t) (option_and_then (λ set. set.owner) o) ≡ true → area_of schema (unwrap_or (option_map (λ set. unwrap_or set.owner (first_member set.members)) o) 0) ≡ area_of schema t
    go None e = absurd (false≢true e)
    go (Some set) e = of_owner set set.owner e

module _ (schema : Lists) where
  -- the cell lies in one of these areas
  abbrev pub lies_in : List ℕ → CellName → Bool
  lies_in areas c = is_among areas (area_of_cell schema c)

  pub lies_first : (c : CellName) (areas : List ℕ) → lies_in (area_of_cell schema c ∷ areas) c ≡ true
  lies_first c areas = or_left _ _ (eq-eqb (area_of_cell schema c) (area_of_cell schema c) refl)

  pub all_lie_behind : (a : ℕ) (areas : List ℕ) (cs : List CellName) → list_all (lies_in areas) cs ≡ true → list_all (lies_in (a ∷ areas)) cs ≡ true
  all_lie_behind a areas [] h = refl
  all_lie_behind a areas (c ∷ cs) h = let hs = and_parts _ _ h in and_from _ _ (or_right _ _ hs.0) (all_lie_behind a areas cs hs.1)

  pub slots_lie : (areas : List ℕ) (o : Option DbKey) → ((k : DbKey) → o ≡ Some k → lies_in areas (slot_name k) ≡ true) → list_all (lies_in areas) (slot_names o) ≡ true
  slots_lie areas None h = refl
  slots_lie areas (Some k) h = and_from _ _ (h k refl) refl

  pub current_lies : (o : Option DbKey) → list_all (lies_in (area_of_current schema o)) (slot_names o) ≡ true
  current_lies None = refl
  current_lies (Some k) = and_from _ _ (lies_first (slot_name k) []) refl

  pub rings_lie : (areas : List ℕ) (s : ℕ) (o : Option Owner) → is_among areas (home schema s) ≡ true → list_all (lies_in areas) (ring_names s o) ≡ true
  rings_lie areas s None h = refl
  rings_lie areas s (Some o) h = and_from _ _ h refl

  -- a slot of the type of the only area
  typed_lies : (r : ℕ) (k : DbKey) → k.rtype ≡ r → lies_in (area_of schema r ∷ []) (slot_name k) ≡ true
  typed_lies r k e = or_left _ _ (eq-eqb _ _ (ap (area_of schema) (sym e)))

  -- the place of a unit in a set names an owner of the set
  place_of_set : (unit : Unit) → IsUnitOf schema unit → (s : ℕ) (place : Place) → place_in schema unit s ≡ Some place → is_owner_in schema s place.owner ≡ true
  place_of_set unit of s place e = go (at unit.currency.sets s) (of.of_sets s) e
    where
      system : (b : Bool) → is_system schema s ≡ b → (if b then Some (record { owner = System; at = None }) else None) ≡ Some place → is_owner_in schema s place.owner ≡ true
      system true h e = let q : record { owner = System; at = None } ≡ place = cc in subst (λ (p : Place). is_owner_in schema s p.owner ≡ true) q h
      system false h e = absurd (cc (e))

      go : (o : Option Place) → if_named (is_place_in schema s) o ≡ true → option_or o (if is_system schema s then Some (record { owner = System; at = None }) else None) ≡ Some place → is_owner_in schema s place.owner ≡ true
      go None h e = system (is_system schema s) refl e
      go (Some p) h e = let q : p ≡ place = cc in subst (λ (p : Place). is_owner_in schema s p.owner ≡ true) q (and_parts _ _ h).0

module _ (schema : Lists) (capacity : ℕ) (db : Database) (legal : Legal schema capacity db) where
  -- the type of a member of a list is a member type of the set
  pub member_type : (s : ℕ) (o : Owner) (k : DbKey) → In k (members_of db s o) → In k.rtype (set_member_types schema s)
  member_type s o k i =
      let m = legal.members s o k (in_member k _ i) in
      let below = (legal.keys k m.0).0 in
      in_filter (λ t. is_some (member_clause schema s t)) k.rtype _ (in_range (length schema.types) 0 k.rtype (omega arith) (omega arith)) m.1

  member_lies : (s : ℕ) (o : Owner) (k : DbKey) → In k (members_of db s o) → lies_in schema (map (area_of schema) (set_member_types schema s)) (slot_name k) ≡ true
  member_lies s o k i = among_mapped (area_of schema) k.rtype (set_member_types schema s) (member_type s o k i)

  in_set_lies : (unit : Unit) (which : Which) (r : Option ℕ) (s : ℕ) (k : DbKey) → found schema capacity db unit (InSet which r s) ≡ Ok k → lies_in schema (find_areas schema unit (InSet which r s)) (slot_name k) ≡ true
  in_set_lies unit which r s k e =
      let c = current_is (place_in schema unit s) _ k e in
      let m = chosen_in which (has_type r) c.0.at (members_of db s c.0.owner) k (found_is _ _ _ k c.2) in
      or_right _ _ (typed r c.0.owner m.0 m.1)
    where
      typed : (r : Option ℕ) (o : Owner) → In k (members_of db s o) → has_type r k ≡ true → lies_in schema (map (area_of schema) (unwrap_or (option_map (λ t. t ∷ []) r) (set_member_types schema s))) (slot_name k) ≡ true
      typed None o i t = member_lies s o k i
      typed (Some r) o i t = typed_lies schema r k (eqb-true k.rtype r t)

  sorted_lies : (unit : Unit) (v : _) (s : ℕ) (k : DbKey) → found schema capacity db unit (Sorted s v) ≡ Ok k → lies_in schema (find_areas schema unit (Sorted s v)) (slot_name k) ≡ true
  sorted_lies unit v s k e =
      let c = current_is (place_in schema unit s) _ k e in
      or_right _ _ (member_lies s c.0.owner k (find_element (λ x. some_and (value_eq v) (sort_key schema db s x)) (members_of db s c.0.owner) k (found_is _ _ _ k c.2)).0)

  type_area : (a : ℕ) (r : Option ℕ) → if_named (λ t. nat_lt t (length schema.types) && area_of schema t == a) r ≡ true → (t : ℕ) → In t (unwrap_or (option_map (λ t. t ∷ []) r) (types_in schema a)) → eqb a (area_of schema t) ≡ true
  type_area a None f t i = eq-eqb _ _ (sym (eqb-true _ _ (of_filter (λ t. area_of schema t == a) t _ i).1))
  type_area a (Some u) f t (inl e) = eq-eqb _ _ (sym (ap (area_of schema) (sym e) ∙ eqb-true _ _ (and_parts _ _ f).1))
  type_area a (Some u) f t (inr i) = absurd i

  in_area_lies : (unit : Unit) (which : Which) (r : Option ℕ) (a : ℕ) → form_fits schema (InArea which r a) ≡ true → list_all (lies_in schema (a ∷ [])) (find_cells schema capacity db unit (InArea which r a)) ≡ true
  in_area_lies unit which r a f =
      all_join (lies_in schema (a ∷ [])) (map Extent types) _
      (all_in _ (map Extent types) (λ c i. let m = of_map Extent c types i in subst (λ d. lies_in schema (a ∷ []) d ≡ true) m.2 (or_left _ _ (type_area a r (and_parts _ _ f).1 m.0 m.1))))
      (found_passes (lies_in schema (a ∷ [])) _ (λ k e.
      let i = chosen_by_key_in which (at unit.currency.areas a) (keys_in_area schema capacity db r a) k (found_is None _ End k e) in
      let m = of_flat_map (live_keys capacity db) k (types_in schema a) (of_filter (has_type r) k _ i).0 in
      let t = (of_live_keys schema capacity db legal k m.0 m.2).1 in
      or_left _ _ (eq-eqb _ _ (sym (ap (area_of schema) t ∙ eqb-true _ _ (of_filter (λ t. area_of schema t == a) m.0 _ m.1).1)))))
    where
      types : List ℕ
      types = unwrap_or (option_map (λ t. t ∷ []) r) (types_in schema a)

  calc_lies : (r : ℕ) (values : _) (k : DbKey) → In k (with_calc schema capacity db r values) → lies_in schema (area_of schema r ∷ []) (slot_name k) ≡ true
  calc_lies r values k i = typed_lies schema r k (of_live_keys schema capacity db legal k r (of_filter _ k _ i).0).1

  home_first : (s : ℕ) (areas : List ℕ) → is_among (home schema s ∷ areas) (home schema s) ≡ true
  home_first s areas = or_left _ _ (eq-eqb (home schema s) (home schema s) refl)

  pub find_cells_lie : (unit : Unit) → IsUnitOf schema unit → (form : Form) → form_fits schema form ≡ true → list_all (lies_in schema (find_areas schema unit form)) (find_cells schema capacity db unit form) ≡ true
  find_cells_lie unit of (Key k) f = and_from _ _ (lies_first schema (slot_name k) []) refl
  find_cells_lie unit of CurrentOfUnit f = current_lies schema unit.currency.run_unit
  find_cells_lie unit of (CurrentOfType r) f = slots_lie schema (area_of schema r ∷ []) (at unit.currency.types r) (λ k e. typed_lies schema r k (eqb-true _ _ (subst (λ o. if_named (λ x. x.rtype == r) o ≡ true) e (of.of_types r))))
  find_cells_lie unit of (CurrentOfSet s) f = current_lies schema (option_and_then key_of_place (place_in schema unit s))
  find_cells_lie unit of (CurrentOfArea a) f = current_lies schema (at unit.currency.areas a)
  find_cells_lie unit of (InSet which r s) f =
      all_join _ (ring_names s (current_owner schema unit s)) _ (rings_lie schema (find_areas schema unit (InSet which r s)) s _ (home_first s _)) (found_passes (lies_in schema (find_areas schema unit (InSet which r s))) _ (in_set_lies unit which r s))
  find_cells_lie unit of (InArea which r a) f = in_area_lies unit which r a f
  find_cells_lie unit of (OwnerOf s) f = go (place_in schema unit s) (place_of_set schema unit of s)
    where
      owner : (o : Owner) → is_owner_in schema s o ≡ true → list_all (lies_in schema (home schema s ∷ [])) (slot_names (key_of_owner o)) ≡ true
      owner System h = refl
      owner (Rec k) h = and_from _ _ (or_left _ _ (eq-eqb _ _ (home_owned schema s k.rtype h))) refl

      go : (o : Option Place) → ((place : Place) → o ≡ Some place → is_owner_in schema s place.owner ≡ true) → list_all (lies_in schema (home schema s ∷ [])) (slot_names (option_and_then (λ place. key_of_place (record place { at = None })) o)) ≡ true
      go None h = refl
      go (Some place) h = owner place.owner (h place refl)
  find_cells_lie unit of (Calc r values) f = and_from _ _ (lies_first schema (Extent r) []) (found_passes (lies_in schema (area_of schema r ∷ [])) _ (λ k e. calc_lies r values k (first_is_in _ k (found_is None _ NoneSatisfies k e))))
  find_cells_lie unit of (NextDuplicate r) f =
      and_from _ _ (lies_first schema (Extent r) []) (found_passes (lies_in schema (area_of schema r ∷ [])) _ (λ k e.
      let c = current_is (at unit.currency.types r) _ k e in
      calc_lies r _ k (first_of_filter (key_below c.0) _ k (found_is _ _ _ k c.2)).0))
  find_cells_lie unit of (Sorted s v) f =
      all_join _ (ring_names s (current_owner schema unit s)) _ (rings_lie schema (find_areas schema unit (Sorted s v)) s _ (home_first s _)) (found_passes (lies_in schema (find_areas schema unit (Sorted s v))) _ (sorted_lies unit v s))

  -- the rings of a STORE
  pub store_rings_lie : (unit : Unit) (k : DbKey) → list_all (lies_in schema (area_of schema k.rtype ∷ map (home schema) (automatic_sets schema k.rtype))) (store_rings schema unit k) ≡ true
  store_rings_lie unit k =
      all_flat (lies_in schema areas) _ (set_numbers schema) (λ s i. all_join (lies_in schema areas) (current s) (own s) (all_currents_lie s) (own_lie s))
    where
      areas : List ℕ
      areas = area_of schema k.rtype ∷ map (home schema) (automatic_sets schema k.rtype)

      current : ℕ → List CellName
      current s = if list_any (λ s'. s' == s) (automatic_sets schema k.rtype) then ring_names s (current_owner schema unit s) else []

      own : ℕ → List CellName
      own s = if owns schema s k.rtype then Ring s (Some (k.rtype, k.number)) ∷ [] else []

      all_currents_lie : (s : ℕ) → list_all (lies_in schema areas) (current s) ≡ true
      all_currents_lie s = cond_both (list_any (λ s'. s' == s) (automatic_sets schema k.rtype)) _ _ (λ cs. list_all (lies_in schema areas) cs ≡ true)
          (λ e.
          let a = any_element (λ s'. s' == s) (automatic_sets schema k.rtype) e in
          rings_lie schema areas s _ (or_right _ _ (subst (λ s'. is_among (map (home schema) (automatic_sets schema k.rtype)) (home schema s') ≡ true) (eqb-true a.0 s a.2) (among_mapped (home schema) a.0 _ a.1))))
          (λ e. refl)

      own_lie : (s : ℕ) → list_all (lies_in schema areas) (own s) ≡ true
      own_lie s = cond_both (owns schema s k.rtype) _ _ (λ cs. list_all (lies_in schema areas) cs ≡ true) (λ e. and_from _ _ (or_left _ _ (eq-eqb _ _ (sym (home_owned schema s k.rtype e)))) refl) (λ e. refl)

  store_cells_lie : (unit : Unit) (t : ℕ) (n : Option ℕ) (taken : Bool) → list_all (lies_in schema (area_of schema t ∷ map (home schema) (automatic_sets schema t))) (store_cells schema unit (option_map (new_key db t) n) taken) ≡ true
  store_cells_lie unit t None taken = refl
  store_cells_lie unit t (Some n) true = refl
  store_cells_lie unit t (Some n) false = all_join _ (store_rings schema unit (new_key db t n)) _ (store_rings_lie unit (new_key db t n)) (and_from _ _ (lies_first schema (slot_name (new_key db t n)) _) refl)

  -- a MODIFY of type t is of a current of that type
  modify_cells_lie : (unit : Unit) (g : List (Option Owner)) (t : ℕ) (named : List ℕ) (calc : Bool) → ((k : DbKey) → unit.currency.run_unit ≡ Some k → k.rtype ≡ t) →
      list_all (lies_in schema (area_of schema t ∷ map (home schema) (rekeyed_sets schema t named))) ((if calc then Extent t ∷ [] else []) ++ flat_map (λ s. ring_names s (at g s)) (rekeyed_sets schema t named) ++ slot_names unit.currency.run_unit) ≡ true
  modify_cells_lie unit g t named calc typed =
      all_join (lies_in schema areas) ((if calc then Extent t ∷ [] else []) ++ flat_map (λ s. ring_names s (at g s)) (rekeyed_sets schema t named)) _
      (all_join (lies_in schema areas) (if calc then Extent t ∷ [] else []) _
      (cond_both calc _ _ (λ cs. list_all (lies_in schema areas) cs ≡ true) (λ e. and_from _ _ (lies_first schema (Extent t) _) refl) (λ e. refl))
      (all_flat (lies_in schema areas) (λ s. ring_names s (at g s)) (rekeyed_sets schema t named) (λ s i. rings_lie schema areas s (at g s) (or_right _ _ (among_mapped (home schema) s _ i)))))
      (slots_lie schema areas unit.currency.run_unit (λ k e. or_left _ _ (eq-eqb _ _ (ap (area_of schema) (sym (typed k e))))))
    where
      areas : List ℕ
      areas = area_of schema t ∷ map (home schema) (rekeyed_sets schema t named)

  insert_cells_lie : (s : ℕ) (o : Option Owner) (k : Option DbKey) → list_all (lies_in schema (home schema s ∷ area_of_current schema k)) (ring_names s o ++ slot_names k) ≡ true
  insert_cells_lie s o k = all_join _ (ring_names s o) _ (rings_lie schema (home schema s ∷ area_of_current schema k) s o (home_first s _)) (all_lie_behind schema (home schema s) _ _ (current_lies schema k))

  -- of all statements but DELETE
  pub cells_lie : (unit : Unit) → IsUnitOf schema unit → (g : List (Option Owner)) (x : Statement) → fits schema x ≡ true → is_delete x ≡ false →
      ((t : ℕ) (changes : _) → x ≡ Modify t changes → (k : DbKey) → unit.currency.run_unit ≡ Some k → k.rtype ≡ t) →
      list_all (lies_in schema (areas_of schema unit x)) (cells_of schema capacity db unit g x) ≡ true
  cells_lie unit of g (OpenArea a mode) f d m = and_from _ _ (lies_first schema (Usage a) []) refl
  cells_lie unit of g (CloseArea a) f d m = and_from _ _ (lies_first schema (Usage a) []) refl
  cells_lie unit of g (Find suppress form) f d m = find_cells_lie unit of form (and_parts _ _ f).0
  cells_lie unit of g (Get r) f d m = current_lies schema unit.currency.run_unit
  cells_lie unit of g (Store t items suppress) f d m = and_from _ _ (lies_first schema (Extent t) _) (store_cells_lie unit t (free_number capacity db t) _)
  cells_lie unit of g (Insert s) f d m = insert_cells_lie s _ unit.currency.run_unit
  cells_lie unit of g (Remove s) f d m = insert_cells_lie s _ unit.currency.run_unit
  cells_lie unit of g (Modify t changes) f d m = modify_cells_lie unit g t _ _ (m t changes refl)
  cells_lie unit of g (Delete option) f d m = absurd (cc (d))
  cells_lie unit of g Keep f d m = current_lies schema unit.currency.run_unit
  cells_lie unit of g (Free all) f d m = refl
