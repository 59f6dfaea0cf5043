-- What a FIND finds from the held cells is what it finds in each database that agrees with them.
-- k is a key, s a set, r and t record types, a an area, v a value, c the name of a cell, db a database.
use Rattle.std.proofs.Common.{◌≡◌, refl, sym, ◌∙◌, ap, subst, ℕ, zero, suc, ◌+◌, ◌<◌, ◌≤◌, ◌≢◌, Bool, true, false, cond, not, ◌&&◌, List, [], ◌∷◌, ◌++◌, length, Option, Some, None, eqb, map, arith, inl, inr}
use Rattle.std.specs.Prelude.{◌==◌, nat_lt, is_none, is_some, option_and_then, option_map, unwrap_or, filter, Result, Ok, Err, if◌then◌else◌}
use Rattle.std.specs.List.{find, flat_map, range_with_len}
use Rattle.std.proofs.lemmas.Bool.{and_parts, cases_Bool, cond-true, cond-false, eqb-true, eq-eqb, false≢true, false_from_ne_true}
use Rattle.std.proofs.lemmas.Bool.Decides.{nat_tests}
use Rattle.std.proofs.lemmas.List.Elements.{filter-append}
use Rattle.dbtg_schema.specs.Lists.{Lists}
use Rattle.dbtg_schema.specs.Lookups.{at, first, first_cause, some_and}
use Rattle.dbtg_schema.specs.Structure.{area_of, types_in}
use Rattle.dbtg_cells.specs.declared.key.DbKey.{DbKey}
use Rattle.dbtg_cells.specs.declared.key.Value.{Value}
use Rattle.dbtg_cells.specs.declared.name.CellName.{CellName}
use Rattle.dbtg_cells.specs.declared.name.CellName.TheVariants.{Extent, Ring}
use Rattle.dbtg_cells.specs.declared.ring.Occurrence.{Occurrence}
use Rattle.dbtg_cells.specs.Keys.{has_type, key_below, value_eq}
use Rattle.dbtg_cells.specs.Members.{members_in}
use Rattle.dbtg_cells.specs.Numbers.{has_values, numbers_where}
use Rattle.dbtg_unit.specs.declared.statement.Form.{Form}
use Rattle.dbtg_unit.specs.declared.statement.Form.TheVariants.{Key, CurrentOfUnit, CurrentOfType, CurrentOfSet, CurrentOfArea, InSet, InArea, OwnerOf, Calc, NextDuplicate, Sorted}
use Rattle.dbtg_unit.specs.declared.statement.Which.{Which}
use Rattle.dbtg_unit.specs.declared.unit.Cause.{Cause}
use Rattle.dbtg_unit.specs.declared.unit.Cause.TheVariants.{Deleted, End, NoneSatisfies, PositionLost}
use Rattle.dbtg_unit.specs.declared.unit.Place.{Place}
use Rattle.dbtg_unit.specs.declared.unit.Unit.{Unit}
use Rattle.dbtg_unit.specs.Database.State.Base.{Database, calc_items, is_live, items_of, key_at, live_keys, members_of, sort_key}
use Rattle.dbtg_unit.specs.Database.State.Belongs.{IsUnitOf}
use Rattle.dbtg_unit.specs.Database.State.CellNames.{place_of, slot_name}
use Rattle.dbtg_unit.specs.Database.State.Cells.{number_of}
use Rattle.dbtg_unit.specs.Database.Statements.Fits.{form_fits, if_named, is_type}
use Rattle.dbtg_unit.specs.Database.Statements.Found.{chosen, chosen_by_key, found, found_unless, is_lost, keys_in_area, needs_position, with_calc, with_current}
use Rattle.dbtg_unit.specs.Hands.Hands.{Hands}
use Rattle.dbtg_unit.specs.Inside.InHand.{key_of, values_of_key}
use Rattle.dbtg_unit.specs.Hands.InHand.{numbers_in, occurrence_in}
use Rattle.dbtg_unit.specs.Hands.Local.{Agrees, holds}
use Rattle.dbtg_unit.specs.Hands.Needs.{cells_to_find, ring_names, slot_names}
use Rattle.dbtg_unit.specs.Database.State.Units.{key_of_owner, key_of_place, place_in}
use Rattle.dbtg_unit.proofs.Public.{In, calc_items_in_hand, entries_in_hand, first_map, in_filter, in_map, keys_behind_in_hand, list_in_hand, live_by_extent, live_in_hand, live_keys_in_hand, none_pass, numbers_in_hand, of_filter, of_map, of_range, with_calc_in_hand}
use Rattle.dbtg_plan.specs.Inside.Finding.{area_keys_in, duplicate_found, found_in, is_wanted, keys_of_type, keys_wanted, member_found, sorted_found, stored_or}

-- LISTS

-- a live key of a type is of that type
live_key_type : (capacity t : ℕ) (d : Database) (x : DbKey) → In x (live_keys capacity d t) → x.rtype ≡ t
live_key_type capacity t d x i =
    let made = of_map (key_at d t) x (range_with_len 1 capacity) (of_filter (is_live d) x (map (key_at d t) (range_with_len 1 capacity)) i).0 in
    ap (λ (y : DbKey). y.rtype) (sym made.2)

all_pass : {X : Type 0} (p : X → Bool) (xs : List X) → ((x : X) → In x xs → p x ≡ true) → filter p xs ≡ xs
all_pass p [] h = refl
all_pass p (x ∷ xs) h = cond-true (p x) (x ∷ filter p xs) (filter p xs) (h x (inl refl)) ∙ ap (λ ys. x ∷ ys) (all_pass p xs (λ y i. h y (inr i)))

-- those of some lists that pass, list by list
kept_of_lists : {X Y : Type 0} (p : Y → Bool) (q : X → Bool) (f g : X → List Y) (xs : List X) → ((x : X) → In x xs → filter p (cond (q x) (f x) []) ≡ g x) → filter p (flat_map f (filter q xs)) ≡ flat_map g xs
kept_of_lists p q f g [] h = refl
kept_of_lists {X} p q f g (x ∷ xs) h =
    here (q x) (h x (inl refl)) ∙ ap (λ ys. g x ++ ys) (kept_of_lists p q f g xs (λ y i. h y (inr i))) where
      here : (b : Bool) → filter p (cond b (f x) []) ≡ g x → filter p (flat_map f (cond b (x ∷ filter q xs) (filter q xs))) ≡ g x ++ filter p (flat_map f (filter q xs))
      here true e = filter-append p (f x) (flat_map f (filter q xs)) ∙ ap (λ ys. ys ++ filter p (flat_map f (filter q xs))) e
      here false e = ap (λ ys. ys ++ filter p (flat_map f (filter q xs))) e

-- the one number that is named
pub only_named : (u a n : ℕ) → a ≤ u → u < a + n → filter (λ t. eqb t u) (range_with_len a n) ≡ u ∷ []
only_named u a zero low high = absurd (omega arith)
only_named u a (suc n) low high =
    elim (cases_Bool (eqb a u)) [
      | inl e ↦
          let same : a ≡ u = eqb-true a u e in
          cond-true (eqb a u) (a ∷ filter (λ t. eqb t u) (range_with_len (a + 1) n)) (filter (λ t. eqb t u) (range_with_len (a + 1) n)) e
          ∙ ap (λ ts. a ∷ ts) (none_pass (λ t. eqb t u) (range_with_len (a + 1) n) (λ t i. false_from_ne_true _ (λ h. let is : t ≡ u = eqb-true t u h in let low' = (of_range n (a + 1) t i).0 in absurd (omega arith))))
          ∙ ap (λ t. t ∷ []) same
      | inr e ↦
          let apart : a ≢ u = λ same. false≢true (sym e ∙ eq-eqb a u same) in
          cond-false (eqb a u) (a ∷ filter (λ t. eqb t u) (range_with_len (a + 1) n)) (filter (λ t. eqb t u) (range_with_len (a + 1) n)) e
          ∙ only_named u (a + 1) n (omega arith) (omega arith)
    ]

-- the types that a FIND in an area goes over
pub extents_named : (schema : Lists) (r : Option ℕ) (a : ℕ) → if_named (λ t. is_type schema t && area_of schema t == a) r ≡ true
    → unwrap_or (option_map (λ t. t ∷ []) r) (types_in schema a) ≡ filter (is_wanted schema r a) (range_with_len 0 (length schema.types))
extents_named schema None a fit = refl
extents_named schema (Some u) a fit = sym (only_named u 0 (length schema.types) (omega arith) (below (and_parts _ _ fit).0)) where
  below : nat_lt u (length schema.types) ≡ true → u < 0 + length schema.types
  below h = grind (arith, nat_tests)

-- the first with a value, of elements with their values
find_pairs : {X Y : Type 0} (p : Y → Bool) (f : X → Y) (xs : List X) → option_map (λ (e : X × Y). e.0) (find (λ (e : X × Y). p e.1) (map (λ x. (x, f x)) xs)) ≡ find (λ x. p (f x)) xs
find_pairs p f [] = refl
find_pairs {X} {Y} p f (x ∷ xs) =
    elim (p (f x)) as (λ b. option_map (λ (e : X × Y). e.0) (cond b (Some (x, f x)) (find (λ (e : X × Y). p e.1) (map (λ x. (x, f x)) xs))) ≡ cond b (Some x) (find (λ x. p (f x)) xs))
    [ true ↦ refl | false ↦ find_pairs p f xs ]

module _ (schema : Lists) (capacity : ℕ) (db : Database) (hands : Hands) (unit : Unit) (agrees : Agrees schema capacity db hands unit) where
  abbrev InHand : List CellName → Type 0
  InHand names = (c : CellName) → In c names → holds hands.cells c ≡ true

  -- A RECORD

  or_cause : (cause : Cause) (k : DbKey) → holds hands.cells (slot_name k) ≡ true → (if is_live db k then Ok k else Err cause) ≡ stored_or cause hands k
  or_cause cause k held = ap (λ b. cond b (Ok k) (Err cause)) (live_in_hand schema capacity db hands unit agrees k held)

  current_reads : (o : Option DbKey) → InHand (slot_names o) → with_current o (λ k. if is_live db k then Ok k else Err Deleted) ≡ with_current o (stored_or Deleted hands)
  current_reads None held = refl
  current_reads (Some k) held = or_cause Deleted k (held (slot_name k) (inl refl))

  -- A SET

  abbrev in_list : Which → Option ℕ → Option DbKey → Option (List DbKey) → Result DbKey Cause
  in_list which r p l =
      found_unless (first_cause ((is_none l, Deleted) ∷ (needs_position which && is_lost p (unwrap_or l []), PositionLost) ∷ [])) (chosen which (has_type r) p (unwrap_or l [])) End

  by_occurrence : (which : Which) (r : Option ℕ) (p : Option DbKey) (o : Option Occurrence)
      → in_list which r p (option_map (λ (x : Occurrence). map (λ (e : DbKey × Option Value). e.0) x.members) o) ≡ member_found which r p o
  by_occurrence which r p None = refl
  by_occurrence which r p (Some o) = refl

  in_set_reads : (which : Which) (r : Option ℕ) (s : ℕ) (o : Option Place) → InHand (ring_names s (option_map (λ (place : Place). place.owner) o))
      → with_current o (λ place. in_list which r place.at (db.lists s place.owner)) ≡ with_current o (λ place. member_found which r place.at (occurrence_in hands s place.owner))
  in_set_reads which r s None held = refl
  in_set_reads which r s (Some place) held =
      ap (in_list which r place.at) (list_in_hand schema capacity db hands unit agrees s place.owner (held (Ring s (place_of place.owner)) (inl refl)))
      ∙ by_occurrence which r place.at (occurrence_in hands s place.owner)

  abbrev by_key : Value → Option (List DbKey) → Option DbKey → Result DbKey Cause
  by_key v l k = found_unless (first_cause ((is_none l, Deleted) ∷ [])) k NoneSatisfies

  no_list : (v : Value) (k : Option DbKey) (o : Option Occurrence)
      → by_key v (option_map (λ (x : Occurrence). map (λ (e : DbKey × Option Value). e.0) x.members) o) k ≡ found_unless (first_cause ((is_none o, Deleted) ∷ [])) k NoneSatisfies
  no_list v k None = refl
  no_list v k (Some o) = refl

  sorted_reads : (v : Value) (s : ℕ) (o : Option Place) → InHand (ring_names s (option_map (λ (place : Place). place.owner) o))
      → with_current o (λ place. by_key v (db.lists s place.owner) (find (λ k. some_and (value_eq v) (sort_key schema db s k)) (members_of db s place.owner)))
      ≡ with_current o (λ place. sorted_found v (occurrence_in hands s place.owner))
  sorted_reads v s None held = refl
  sorted_reads v s (Some place) held =
      let ring = held (Ring s (place_of place.owner)) (inl refl) in
      let list = list_in_hand schema capacity db hands unit agrees s place.owner ring in
      let hit = sym (find_pairs (some_and (value_eq v)) (sort_key schema db s) (members_of db s place.owner))
      ∙ ap (λ es. option_map (λ (e : DbKey × Option Value). e.0) (find (λ (e : DbKey × Option Value). some_and (value_eq v) e.1) es)) (sym (entries_in_hand schema capacity db hands unit agrees s place.owner ring)) in
      (λ i. by_key v (list i) (hit i)) ∙ no_list v (option_map (λ (e : DbKey × Option Value). e.0) (find (λ (e : DbKey × Option Value). some_and (value_eq v) e.1) (members_in (occurrence_in hands s place.owner)))) (occurrence_in hands s place.owner)

  -- AN AREA

  keys_read : (t : ℕ) → holds hands.cells (Extent t) ≡ true → live_keys capacity db t ≡ keys_of_type t (numbers_in hands t)
  keys_read t held = live_keys_in_hand schema capacity db agrees.legal t (numbers_in hands t) (numbers_in_hand schema capacity db hands unit agrees t held)

  wanted_read : (r : Option ℕ) (a : ℕ) → if_named (λ t. is_type schema t && area_of schema t == a) r ≡ true → (t : ℕ) → (is_wanted schema r a t ≡ true → holds hands.cells (Extent t) ≡ true)
      → filter (has_type r) (cond (area_of schema t == a) (live_keys capacity db t) []) ≡ keys_wanted schema hands r a t
  wanted_read None a fit t held =
      all_pass (has_type None) (cond (area_of schema t == a) (live_keys capacity db t) []) (λ k i. refl)
      ∙ elim (cases_Bool (area_of schema t == a)) [
        | inl e ↦ cond-true (area_of schema t == a) (live_keys capacity db t) [] e ∙ keys_read t (held e) ∙ sym (cond-true (area_of schema t == a) (keys_of_type t (numbers_in hands t)) [] e)
        | inr e ↦ cond-false (area_of schema t == a) (live_keys capacity db t) [] e ∙ sym (cond-false (area_of schema t == a) (keys_of_type t (numbers_in hands t)) [] e)
      ]
  wanted_read (Some u) a fit t held =
      elim (cases_Bool (eqb t u)) [
        | inl e ↦
            let here : area_of schema t == a ≡ true = ap (λ x. area_of schema x == a) (eqb-true t u e) ∙ (and_parts _ _ fit).1 in
            ap (filter (has_type (Some u))) (cond-true (area_of schema t == a) (live_keys capacity db t) [] here)
            ∙ all_pass (has_type (Some u)) (live_keys capacity db t) (λ k i. ap (λ x. eqb x u) (live_key_type capacity t db k i) ∙ e)
            ∙ keys_read t (held e) ∙ sym (cond-true (eqb t u) (keys_of_type t (numbers_in hands t)) [] e)
        | inr e ↦ no_other (area_of schema t == a) e ∙ sym (cond-false (eqb t u) (keys_of_type t (numbers_in hands t)) [] e)
      ] where
        no_other : (b : Bool) → eqb t u ≡ false → filter (has_type (Some u)) (cond b (live_keys capacity db t) []) ≡ []
        no_other true e = none_pass (has_type (Some u)) (live_keys capacity db t) (λ k i. ap (λ x. eqb x u) (live_key_type capacity t db k i) ∙ e)
        no_other false e = refl

  area_reads : (r : Option ℕ) (a : ℕ) → if_named (λ t. is_type schema t && area_of schema t == a) r ≡ true → InHand (map Extent (filter (is_wanted schema r a) (range_with_len 0 (length schema.types))))
      → keys_in_area schema capacity db r a ≡ area_keys_in schema hands r a
  area_reads r a fit held =
      kept_of_lists (has_type r) (λ t. area_of schema t == a) (live_keys capacity db) (keys_wanted schema hands r a) (range_with_len 0 (length schema.types))
      (λ t i. wanted_read r a fit t (λ w. held (Extent t) (in_map Extent t (filter (is_wanted schema r a) (range_with_len 0 (length schema.types))) (in_filter (is_wanted schema r a) t (range_with_len 0 (length schema.types)) i w))))

  -- CALC VALUES

  module _ (r : ℕ) (held : holds hands.cells (Extent r) ≡ true) where
    are : numbers_in hands r ≡ map (number_of schema db r) (range_with_len 1 capacity)
    are = numbers_in_hand schema capacity db hands unit agrees r held

    calc_reads : (values : List Value) → first (with_calc schema capacity db r values) ≡ option_map (key_of (numbers_in hands r) r) (first (numbers_where (has_values values) (numbers_in hands r)))
    calc_reads values =
        ap first (with_calc_in_hand schema capacity db agrees.legal r (numbers_in hands r) are values)
        ∙ first_map (key_of (numbers_in hands r) r) (numbers_where (has_values values) (numbers_in hands r))

    next_reads : (k : DbKey) → k.rtype ≡ r → is_live db k ≡ true → (values : List Value)
        → first (filter (key_below k) (with_calc schema capacity db r values)) ≡ option_map (key_of (numbers_in hands r) r) (first (filter (nat_lt k.number) (numbers_where (has_values values) (numbers_in hands r))))
    next_reads k is_r live values =
        ap (λ ks. first (filter (key_below k) ks)) (with_calc_in_hand schema capacity db agrees.legal r (numbers_in hands r) are values)
        ∙ ap first (keys_behind_in_hand schema capacity db agrees.legal r (numbers_in hands r) are k is_r live (numbers_where (has_values values) (numbers_in hands r)))
        ∙ first_map (key_of (numbers_in hands r) r) (filter (nat_lt k.number) (numbers_where (has_values values) (numbers_in hands r)))

    abbrev duplicate : DbKey → Result DbKey Cause
    duplicate k = found_unless (first_cause ((not (is_live db k), Deleted) ∷ [])) (first (filter (key_below k) (with_calc schema capacity db r (calc_items schema r (items_of db k))))) End

    abbrev next_equal : DbKey → Option (List Value) → Result DbKey Cause
    next_equal k o = found_unless (first_cause ((is_none o, Deleted) ∷ [])) (option_map (key_of (numbers_in hands r) r) (first (filter (nat_lt k.number) (numbers_where (has_values (unwrap_or o [])) (numbers_in hands r))))) End

    duplicate_reads : (o : Option DbKey) → if_named (λ k. k.rtype == r) o ≡ true → with_current o duplicate ≡ with_current o (duplicate_found r (numbers_in hands r))
    duplicate_reads None typed = refl
    duplicate_reads (Some k) typed = by_values (values_of_key (numbers_in hands r) k) refl where
      is_r : k.rtype ≡ r
      is_r = eqb-true k.rtype r typed

      live : is_live db k ≡ is_some (values_of_key (numbers_in hands r) k)
      live = live_by_extent schema capacity db agrees.legal r (numbers_in hands r) are k is_r

      by_values : (o : Option (List Value)) → values_of_key (numbers_in hands r) k ≡ o → duplicate k ≡ next_equal k (values_of_key (numbers_in hands r) k)
      by_values None e =
          ap (λ b. found_unless (first_cause ((not b, Deleted) ∷ [])) (first (filter (key_below k) (with_calc schema capacity db r (calc_items schema r (items_of db k))))) End) (live ∙ ap is_some e)
          ∙ ap (next_equal k) (sym e)
      by_values (Some values) e =
          let live_now : is_live db k ≡ true = live ∙ ap is_some e in
          let items : calc_items schema r (items_of db k) ≡ values
          = calc_items_in_hand schema capacity db agrees.legal r (numbers_in hands r) are k is_r ∙ ap (λ (o : Option (List Value)). unwrap_or o (calc_items schema r [])) e in
          (λ i. found_unless (first_cause ((not (live_now i), Deleted) ∷ [])) (first (filter (key_below k) (with_calc schema capacity db r (items i)))) End)
          ∙ ap (λ o. found_unless None o End) (next_reads k is_r live_now values)
          ∙ ap (next_equal k) (sym e)

  -- EVERY FORM

  pub found_reads : IsUnitOf schema unit → (form : Form) → form_fits schema form ≡ true → InHand (cells_to_find schema unit form) → found schema capacity db unit form ≡ found_in schema unit hands form
  found_reads of_schema (Key k) fit held = or_cause NoneSatisfies k (held (slot_name k) (inl refl))
  found_reads of_schema CurrentOfUnit fit held = current_reads unit.currency.run_unit held
  found_reads of_schema (CurrentOfType r) fit held = current_reads (at unit.currency.types r) held
  found_reads of_schema (CurrentOfSet s) fit held = current_reads (option_and_then key_of_place (place_in schema unit s)) held
  found_reads of_schema (CurrentOfArea a) fit held = current_reads (at unit.currency.areas a) held
  found_reads of_schema (InSet which r s) fit held = in_set_reads which r s (place_in schema unit s) held
  found_reads of_schema (InArea which r a) fit held = ap (λ keys. found_unless None (chosen_by_key which (at unit.currency.areas a) keys) End) (area_reads r a (and_parts _ _ fit).1 (subst (λ ts. InHand (map Extent ts)) (extents_named schema r a (and_parts _ _ fit).1) held))
  found_reads of_schema (OwnerOf s) fit held = current_reads (option_and_then (λ (place : Place). key_of_owner place.owner) (place_in schema unit s)) held
  found_reads of_schema (Calc r values) fit held = ap (λ (o : Option DbKey). found_unless None o NoneSatisfies) (calc_reads r (held (Extent r) (inl refl)) values)
  found_reads of_schema (NextDuplicate r) fit held = duplicate_reads r (held (Extent r) (inl refl)) (at unit.currency.types r) (of_schema.of_types r)
  found_reads of_schema (Sorted s v) fit held = sorted_reads v s (place_in schema unit s) held
