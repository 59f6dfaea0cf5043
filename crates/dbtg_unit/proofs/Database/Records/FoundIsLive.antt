-- What a FIND finds in a legal database is live.
use Rattle.std.proofs.Common.{◌≡◌, refl, sym, ◌∙◌, ap, subst, ℕ, zero, suc, ◌-◌, ◌<◌, Bool, true, false, cond, not, ◌&&◌, List, [], ◌∷◌, length, Option, Some, None, inl, inr, ℤ, pos, negsuc, arith, get_or, reverse, map}
use Rattle.std.specs.Prelude.{Result, Ok, Err, is_none, option_and_then, filter, slice_get, pred}
use Rattle.std.specs.List.{find, flat_map, list_all, range_with_len}
use Rattle.std.proofs.lemmas.Bool.{and_parts, and_from, cases_Bool, cond_both}
use Rattle.std.proofs.lemmas.List.{get_or-reverse, length-reverse}
use Rattle.std.proofs.lemmas.List.Folds.{list_all-append}
use Rattle.dbtg_schema.specs.Lists.{Lists}
use Rattle.dbtg_schema.specs.Lookups.{at, behind, first, final, first_cause, in_front, nth, some_and}
use Rattle.dbtg_schema.specs.Structure.{types_in}
use Rattle.dbtg_cells.specs.declared.key.DbKey.{DbKey}
use Rattle.dbtg_cells.specs.declared.key.Owner.{Owner}
use Rattle.dbtg_cells.specs.declared.key.Value.{Value}
use Rattle.dbtg_cells.specs.Keys.{key_eq, key_below, value_eq, values_eq}
use Rattle.dbtg_cells.proofs.Public.{passes_at}
use Rattle.dbtg_unit.specs.declared.statement.Which.{Which}
use Rattle.dbtg_unit.specs.declared.statement.Which.TheVariants.{First, Last, Next, Prior, Nth}
use Rattle.dbtg_unit.specs.declared.statement.Form.{Form}
use Rattle.dbtg_unit.specs.declared.statement.Form.TheVariants.{Key, CurrentOfUnit, CurrentOfType, CurrentOfSet, CurrentOfArea, InSet, InArea, OwnerOf, Calc, NextDuplicate, Sorted}
use Rattle.dbtg_unit.specs.declared.unit.Place.{Place}
use Rattle.dbtg_unit.specs.declared.unit.Unit.{Unit}
use Rattle.dbtg_unit.specs.declared.unit.Cause.{Cause}
use Rattle.dbtg_unit.specs.declared.unit.Cause.TheVariants.{Deleted, End, NoneSatisfies, PositionLost}
use Rattle.dbtg_unit.specs.Database.State.Base.{Database, is_live, items_of, calc_items, key_at, live_keys, members_of, sort_key}
use Rattle.dbtg_unit.specs.Database.State.Units.{place_in, key_of_place}
use Rattle.dbtg_unit.specs.Database.Statements.Found.{chosen, chosen_by_key, found, found_unless, has_type, is_lost, keys_in_area, needs_position, with_calc, with_current}
use Rattle.dbtg_unit.specs.Database.State.Legal.{Legal}
use Rattle.dbtg_unit.proofs.Lists.WithANewMember.{all_filter, all_kept}
use Rattle.dbtg_unit.proofs.Database.Legal.ListsChanged.{all_members}

-- ELEMENTS THAT PASS

pub at_passes : {X : Type 0} (p : X → Bool) (xs : List X) (i : ℕ) (x : X) → list_all p xs ≡ true → slice_get xs i ≡ Some x → p x ≡ true
at_passes p [] i x h e = absurd (none_some e) where
  none_some : None ≡ Some x → ⊥
  none_some h = cc
at_passes {X} p (y ∷ ys) zero x h e = let same : y ≡ x = cc in subst (λ (z : X). p z ≡ true) same (and_parts _ _ h).0
at_passes p (y ∷ ys) (suc i) x h e = at_passes p ys i x (and_parts _ _ h).1 e

all_from_at : {X : Type 0} (p : X → Bool) (xs : List X) → ((i : ℕ) (d : X) → i < length xs → p (get_or xs i d) ≡ true) → list_all p xs ≡ true
all_from_at p [] w = refl
all_from_at p (x ∷ xs) w = and_from _ _ (w zero x (omega arith)) (all_from_at p xs (λ i d low. w (suc i) d (omega arith)))

all_reverse : {X : Type 0} (p : X → Bool) (xs : List X) → list_all p xs ≡ true → list_all p (reverse xs) ≡ true
all_reverse {X} p xs h =
    all_from_at p (reverse xs) (λ i d low.
    let size : length (reverse xs) ≡ length xs = length-reverse xs in
    let low' : i < length xs = omega arith in
    subst (λ (z : X). p z ≡ true) (sym (get_or-reverse xs i d low')) (passes_at p xs (length xs - 1 - i) d h (omega arith)))

first_passes : {X : Type 0} (p : X → Bool) (xs : List X) (x : X) → list_all p xs ≡ true → first xs ≡ Some x → p x ≡ true
first_passes p [] x h e = at_passes p [] 0 x h e
first_passes p (y ∷ ys) x h e = at_passes p (y ∷ ys) 0 x h e

final_passes : {X : Type 0} (p : X → Bool) (xs : List X) (x : X) → list_all p xs ≡ true → final xs ≡ Some x → p x ≡ true
final_passes p xs x h e = first_passes p (reverse xs) x (all_reverse p xs h) e

all_behind : {X : Type 0} (p is : X → Bool) (xs : List X) → list_all p xs ≡ true → list_all p (behind is xs) ≡ true
all_behind p is [] h = refl
all_behind p is (x ∷ xs) h = let hs = and_parts _ _ h in cond_both (is x) _ _ (λ ys. list_all p ys ≡ true) (λ e. hs.1) (λ e. all_behind p is xs hs.1)

all_in_front : {X : Type 0} (p is : X → Bool) (xs : List X) → list_all p xs ≡ true → list_all p (in_front is xs) ≡ true
all_in_front p is [] h = refl
all_in_front p is (x ∷ xs) h = let hs = and_parts _ _ h in cond_both (is x) _ _ (λ ys. list_all p ys ≡ true) (λ e. refl) (λ e. and_from _ _ hs.0 (all_in_front p is xs hs.1))

all_flat : {X Y : Type 0} (p : Y → Bool) (f : X → List Y) (xs : List X) → ((x : X) → list_all p (f x) ≡ true) → list_all p (flat_map f xs) ≡ true
all_flat p f [] w = refl
all_flat p f (x ∷ xs) w = list_all-append p (f x) (flat_map f xs) ∙ and_from _ _ (w x) (all_flat p f xs w)

nth_passes : (p : DbKey → Bool) (n : ℤ) (xs : List DbKey) (x : DbKey) → list_all p xs ≡ true → nth n xs ≡ Some x → p x ≡ true
nth_passes p (pos n) xs x h e = at_passes p xs (pred n) x h e
nth_passes p (negsuc n) xs x h e = at_passes p (reverse xs) n x (all_reverse p xs h) e

chosen_passes : (p : DbKey → Bool) (which : Which) (test : DbKey → Bool) (place : Option DbKey) (xs : List DbKey) (x : DbKey) → list_all p xs ≡ true → chosen which test place xs ≡ Some x → p x ≡ true
chosen_passes p First test place xs x h e = first_passes p (filter test xs) x (all_filter p test xs h) e
chosen_passes p Last test place xs x h e = final_passes p (filter test xs) x (all_filter p test xs h) e
chosen_passes p Next test None xs x h e = first_passes p (filter test xs) x (all_filter p test xs h) e
chosen_passes p Next test (Some q) xs x h e = first_passes p (filter test (behind (key_eq q) xs)) x (all_filter p test (behind (key_eq q) xs) (all_behind p (key_eq q) xs h)) e
chosen_passes p Prior test None xs x h e = final_passes p (filter test xs) x (all_filter p test xs h) e
chosen_passes p Prior test (Some q) xs x h e = final_passes p (filter test (in_front (key_eq q) xs)) x (all_filter p test (in_front (key_eq q) xs) (all_in_front p (key_eq q) xs h)) e
chosen_passes p (Nth n) test place xs x h e = nth_passes p n (filter test xs) x (all_filter p test xs h) e

by_key_passes : (p : DbKey → Bool) (which : Which) (current : Option DbKey) (xs : List DbKey) (x : DbKey) → list_all p xs ≡ true → chosen_by_key which current xs ≡ Some x → p x ≡ true
by_key_passes p First current xs x h e = first_passes p xs x h e
by_key_passes p Last current xs x h e = final_passes p xs x h e
by_key_passes p Next current xs x h e = let t : DbKey → Bool = λ k. some_and (λ c. key_below c k) current in first_passes p (filter t xs) x (all_filter p t xs h) e
by_key_passes p Prior current xs x h e = let t : DbKey → Bool = λ k. some_and (λ c. key_below k c) current in final_passes p (filter t xs) x (all_filter p t xs h) e
by_key_passes p (Nth n) current xs x h e = nth_passes p n xs x h e

found_in : (p : DbKey → Bool) (test : DbKey → Bool) (xs : List DbKey) (x : DbKey) → list_all p xs ≡ true → find test xs ≡ Some x → p x ≡ true
found_in p test [] x h e = at_passes p [] 0 x h e
found_in p test (y ∷ ys) x h e =
    let hs = and_parts _ _ h in
    elim (cases_Bool (test y)) [
      | inl t ↦ at_passes p (y ∷ ys) 0 x h (ap (λ b. cond b (Some y) (find test ys)) (sym t) ∙ e)
      | inr t ↦ found_in p test ys x hs.1 (ap (λ b. cond b (Some y) (find test ys)) (sym t) ∙ e)
    ]

-- RESULTS

ok_err : {X E : Type 0} {x : X} {e : E} → Err e ≡ Ok x → ⊥
ok_err h = cc

if_ok : (b : Bool) (k x : DbKey) (cause : Cause) → cond b (Ok k) (Err cause) ≡ Ok x → (b ≡ true) × (k ≡ x)
if_ok true k x cause h = (refl, cc)
if_ok false k x cause h = absurd (ok_err h)

module _ (schema : Lists) (capacity : ℕ) (db : Database) (unit : Unit) (legal : Legal schema capacity db) where
  -- what a result gives, if anything, is live
  abbrev pub GivesLive : Result DbKey Cause → Type 0
  GivesLive result = (x : DbKey) → result ≡ Ok x → is_live db x ≡ true

  abbrev if_live : DbKey → Result DbKey Cause
  if_live k = cond (is_live db k) (Ok k) (Err Deleted)

  where_live : (k : DbKey) (cause : Cause) → GivesLive (cond (is_live db k) (Ok k) (Err cause))
  where_live k cause x h = let p = if_ok (is_live db k) k x cause h in subst (λ (y : DbKey). is_live db y ≡ true) p.1 p.0

  of_current : {X : Type 0} (o : Option X) (f : X → Result DbKey Cause) → ((y : X) → GivesLive (f y)) → GivesLive (with_current o f)
  of_current None f w x h = absurd (ok_err h)
  of_current (Some y) f w x h = w y x h

  of_key : (cause : Option Cause) (key : Option DbKey) (none : Cause) → ((x : DbKey) → key ≡ Some x → is_live db x ≡ true) → GivesLive (found_unless cause key none)
  of_key (Some cause) key none w x h = absurd (ok_err h)
  of_key None (Some k) none w x h = let same : k ≡ x = cc in w x (ap Some same)
  of_key None None none w x h = absurd (ok_err h)

  members_live : (s : ℕ) (o : Owner) → list_all (is_live db) (members_of db s o) ≡ true
  members_live s o = all_members (is_live db) (members_of db s o) (λ x h. (legal.members s o x h).0)

  keys_live : (t : ℕ) → list_all (is_live db) (live_keys capacity db t) ≡ true
  keys_live t = all_kept (is_live db) (map (key_at db t) (range_with_len 1 capacity))

  calc_live : (t : ℕ) (values : List Value) → list_all (is_live db) (with_calc schema capacity db t values) ≡ true
  calc_live t values = all_filter (is_live db) (λ k. values_eq (calc_items schema t (items_of db k)) values) (live_keys capacity db t) (keys_live t)

  abbrev in_list : Which → Option ℕ → ℕ → Place → Result DbKey Cause
  in_list which r s place =
      let list = members_of db s place.owner in
      found_unless (first_cause ((is_none (db.lists s place.owner), Deleted) ∷ (needs_position which && is_lost place.at list, PositionLost) ∷ [])) (chosen which (has_type r) place.at list) End

  abbrev duplicate_found : ℕ → DbKey → Result DbKey Cause
  duplicate_found r k = found_unless (first_cause ((not (is_live db k), Deleted) ∷ [])) (first (filter (key_below k) (with_calc schema capacity db r (calc_items schema r (items_of db k))))) End

  abbrev by_value : Value → ℕ → Place → Result DbKey Cause
  by_value value s place =
      found_unless (first_cause ((is_none (db.lists s place.owner), Deleted) ∷ [])) (find (λ k. some_and (value_eq value) (sort_key schema db s k)) (members_of db s place.owner)) NoneSatisfies

  pub found_live : (form : Form) → GivesLive (found schema capacity db unit form)
  found_live (Key k) = where_live k NoneSatisfies
  found_live CurrentOfUnit = of_current unit.currency.run_unit if_live (λ k. where_live k Deleted)
  found_live (CurrentOfType r) = of_current (at unit.currency.types r) if_live (λ k. where_live k Deleted)
  found_live (CurrentOfArea a) = of_current (at unit.currency.areas a) if_live (λ k. where_live k Deleted)
  found_live (CurrentOfSet s) = of_current (option_and_then key_of_place (place_in schema unit s)) if_live (λ k. where_live k Deleted)
  found_live (InSet which r s) = of_current (place_in schema unit s) (in_list which r s) (λ place.
      of_key (first_cause ((is_none (db.lists s place.owner), Deleted) ∷ (needs_position which && is_lost place.at (members_of db s place.owner), PositionLost) ∷ [])) (chosen which (has_type r) place.at (members_of db s place.owner)) End
      (λ x e. chosen_passes (is_live db) which (has_type r) place.at (members_of db s place.owner) x (members_live s place.owner) e))
  found_live (InArea which r a) =
      of_key None (chosen_by_key which (at unit.currency.areas a) (keys_in_area schema capacity db r a)) End
      (λ x e. by_key_passes (is_live db) which (at unit.currency.areas a) (keys_in_area schema capacity db r a) x
      (all_filter (is_live db) (has_type r) (flat_map (live_keys capacity db) (types_in schema a)) (all_flat (is_live db) (live_keys capacity db) (types_in schema a) keys_live)) e)
  found_live (OwnerOf s) = of_current (option_and_then (λ place. key_of_place (record place { at = None })) (place_in schema unit s)) if_live (λ k. where_live k Deleted)
  found_live (Calc r values) =
      of_key None (first (with_calc schema capacity db r values)) NoneSatisfies (λ x e. first_passes (is_live db) (with_calc schema capacity db r values) x (calc_live r values) e)
  found_live (NextDuplicate r) = of_current (at unit.currency.types r) (duplicate_found r) (λ k.
      let equal = with_calc schema capacity db r (calc_items schema r (items_of db k)) in
      of_key (first_cause ((not (is_live db k), Deleted) ∷ [])) (first (filter (key_below k) equal)) End
      (λ x e. first_passes (is_live db) (filter (key_below k) equal) x (all_filter (is_live db) (key_below k) equal (calc_live r (calc_items schema r (items_of db k)))) e))
  found_live (Sorted s value) = of_current (place_in schema unit s) (by_value value s) (λ place.
      of_key (first_cause ((is_none (db.lists s place.owner), Deleted) ∷ [])) (find (λ k. some_and (value_eq value) (sort_key schema db s k)) (members_of db s place.owner)) NoneSatisfies
      (λ x e. found_in (is_live db) (λ k. some_and (value_eq value) (sort_key schema db s k)) (members_of db s place.owner) x (members_live s place.owner) e))
