-- What a statement other than DELETE holds settles which of its cells it takes next, whatever else the database has.
use Rattle.std.proofs.Common.{◌≡◌, refl, sym, ◌∙◌, ap, subst, ℕ, Bool, true, false, not, ◌&&◌, List, [], ◌∷◌, ◌++◌, map, Option, Some, None, ◌⊎◌, inl, inr}
use Rattle.std.specs.Prelude.{Result, Err, filter, is_none, option_map, unwrap_or, ◌==◌}
use Rattle.std.specs.List.{find}
use Rattle.std.proofs.lemmas.Bool.{cases_Bool, false≢true, eqb-true}
use Rattle.dbtg_schema.specs.Lists.{Lists}
use Rattle.dbtg_schema.specs.Lookups.{at, first, first_cause, some_and}
use Rattle.dbtg_schema.specs.Structure.{types_in}
use Rattle.dbtg_cells.specs.declared.key.DbKey.{DbKey}
use Rattle.dbtg_cells.specs.declared.key.Owner.{Owner}
use Rattle.dbtg_cells.specs.declared.key.Value.{Value}
use Rattle.dbtg_cells.specs.declared.name.CellName.{CellName}
use Rattle.dbtg_cells.specs.declared.name.CellName.TheVariants.{Extent, Ring}
use Rattle.dbtg_cells.specs.Keys.{key_below, value_eq}
use Rattle.dbtg_unit.specs.declared.statement.Form.{Form}
use Rattle.dbtg_unit.specs.declared.statement.Form.TheVariants.{Key, CurrentOfUnit, CurrentOfType, CurrentOfSet, CurrentOfArea, InSet, InArea, OwnerOf, Calc, NextDuplicate, Sorted}
use Rattle.dbtg_unit.specs.declared.statement.Which.{Which}
use Rattle.dbtg_unit.specs.declared.statement.Statement.{Statement}
use Rattle.dbtg_unit.specs.declared.statement.Statement.TheVariants.{OpenArea, CloseArea, Find, Get, Store, Insert, Remove, Modify, Delete, Keep, Free}
use Rattle.dbtg_unit.specs.declared.unit.Cause.{Cause}
use Rattle.dbtg_unit.specs.declared.unit.Cause.TheVariants.{Deleted, End, NoneSatisfies, PositionLost}
use Rattle.dbtg_unit.specs.declared.unit.Place.{Place}
use Rattle.dbtg_unit.specs.declared.unit.Unit.{Unit}
use Rattle.dbtg_unit.specs.Database.State.Base.{Database, is_live, items_of, calc_items, members_of, sort_key}
use Rattle.dbtg_unit.specs.Database.State.Belongs.{IsUnitOf}
use Rattle.dbtg_unit.specs.Database.State.CellNames.{place_of}
use Rattle.dbtg_unit.specs.Database.State.Cells.{cell}
use Rattle.dbtg_unit.specs.Database.Statements.Effect.{free_number, calc_taken, new_key}
use Rattle.dbtg_unit.specs.Database.Statements.StoredFacts.{whole}
use Rattle.dbtg_unit.specs.Database.Statements.Fits.{if_named}
use Rattle.dbtg_unit.specs.Database.Statements.Found.{chosen, chosen_by_key, found_unless, has_type, is_lost, needs_position, with_calc}
use Rattle.dbtg_unit.specs.Database.State.Legal.{Legal}
use Rattle.dbtg_unit.specs.Hands.Needs.{cells_of, find_cells, found_slot, store_cells}
use Rattle.dbtg_unit.specs.Database.State.Units.{place_in}
use Rattle.dbtg_unit.proofs.Public.{In, in_map}
use Rattle.dbtg_unit.proofs.Public.{find_none_of}
use Rattle.dbtg_step.specs.Machine.Network.{is_delete}
use Rattle.dbtg_step.proofs.Network.SameCells.{area_keys_same, free_same, items_same, keyed_same, lists_same, live_same, new_same, taken_same, with_calc_same, with_key}

-- if none of the first list passes, what is found after it counts
find_join : {X : Type 0} (p : X → Bool) (xs ys zs : List X) → (find p xs ≡ None → find p ys ≡ find p zs) → find p (xs ++ ys) ≡ find p (xs ++ zs)
find_join p [] ys zs h = h refl
find_join p (x ∷ xs) ys zs h = elim (cases_Bool (p x)) [ inl e ↦ rw e refl | inr e ↦ rw e (find_join p xs ys zs (λ n. h (rw e n))) ]

-- a member is found by its sort key alone
find_keyed : (schema : Lists) (db : Database) (s : ℕ) (test : Option Value → Bool) (ks : List DbKey) → find (λ k. test (sort_key schema db s k)) ks ≡ option_map (λ (p : DbKey × Option Value). p.0) (find (λ (p : DbKey × Option Value). test p.1) (map (with_key schema db s) ks))
find_keyed schema db s test [] = refl
find_keyed schema db s test (k ∷ ks) = elim (cases_Bool (test (sort_key schema db s k))) [ inl e ↦ rw e refl | inr e ↦ rw e (find_keyed schema db s test ks) ]

-- a deleted current finds nothing
dead_finds : (live : Bool) (key : Option DbKey) → live ≡ false → found_unless (first_cause ((not live, Deleted) ∷ [])) key End ≡ Err Deleted
dead_finds true key e = absurd (false≢true (sym e))
dead_finds false key e = refl

module _ (schema : Lists) (capacity : ℕ) (db eb : Database) (ldb : Legal schema capacity db) (leb : Legal schema capacity eb) (unit : Unit) (of : IsUnitOf schema unit)
    (p : CellName → Bool) (same : (c : CellName) → p c ≡ false → cell schema capacity db c ≡ cell schema capacity eb c) where
  found_stable : (names : List CellName) (r q : Result DbKey Cause) → (find p names ≡ None → r ≡ q) → find p (names ++ found_slot r) ≡ find p (names ++ found_slot q)
  found_stable names r q h = find_join p names (found_slot r) (found_slot q) (λ n. ap (λ x. find p (found_slot x)) (h n))

  -- if none of the names passes, each cell is alike
  alike : (names : List CellName) → find p names ≡ None → (c : CellName) → In c names → cell schema capacity db c ≡ cell schema capacity eb c
  alike names n c i = same c (find_none_of p names n c i)

  alike_one : (c : CellName) → find p (c ∷ []) ≡ None → cell schema capacity db c ≡ cell schema capacity eb c
  alike_one c n = alike (c ∷ []) n c (inl refl)

  in_set : (which : Which) (r : Option ℕ) (s : ℕ) (o : Option Place) → place_in schema unit s ≡ o → find p (find_cells schema capacity db unit (InSet which r s)) ≡ find p (find_cells schema capacity eb unit (InSet which r s))
  in_set which r s None e = rw e refl
  in_set which r s (Some place) e =
      rw e (found_stable (Ring s (place_of place.owner) ∷ []) _ _ (λ n. ap found_in (lists_same schema capacity db eb ldb leb s place.owner (alike_one (Ring s (place_of place.owner)) n))))
    where
      found_in : Option (List DbKey) → Result DbKey Cause
      found_in l = found_unless (first_cause ((is_none l, Deleted) ∷ (needs_position which && is_lost place.at (unwrap_or l []), PositionLost) ∷ [])) (chosen which (has_type r) place.at (unwrap_or l [])) End

  sorted : (v : Value) (s : ℕ) (o : Option Place) → place_in schema unit s ≡ o → find p (find_cells schema capacity db unit (Sorted s v)) ≡ find p (find_cells schema capacity eb unit (Sorted s v))
  sorted v s None e = rw e refl
  sorted v s (Some place) e =
      rw e (found_stable (Ring s (place_of place.owner) ∷ []) _ _ (λ n.
      let ring = alike_one (Ring s (place_of place.owner)) n in
      let lists = lists_same schema capacity db eb ldb leb s place.owner ring in
      let keyed = keyed_same schema capacity db eb ldb leb s place.owner ring in
      let key : find (λ k. some_and (value_eq v) (sort_key schema db s k)) (members_of db s place.owner) ≡ find (λ k. some_and (value_eq v) (sort_key schema eb s k)) (members_of eb s place.owner)
      = find_keyed schema db s (some_and (value_eq v)) _ ∙ (ap (λ ps. option_map (λ (q : DbKey × Option Value). q.0) (find (λ (q : DbKey × Option Value). some_and (value_eq v) q.1) ps)) keyed ∙ sym (find_keyed schema eb s (some_and (value_eq v)) _)) in
      λ i. found_unless (first_cause ((is_none (lists i), Deleted) ∷ [])) (key i) NoneSatisfies))

  in_area : (which : Which) (r : Option ℕ) (a : ℕ) → find p (find_cells schema capacity db unit (InArea which r a)) ≡ find p (find_cells schema capacity eb unit (InArea which r a))
  in_area which r a =
      found_stable (map Extent types) _ _ (λ n. ap (λ ks. found_unless None (chosen_by_key which (at unit.currency.areas a) ks) End)
      (area_keys_same schema capacity db eb ldb leb r (types_in schema a) (λ t i. alike (map Extent types) n (Extent t) (in_map Extent t types i))))
    where
      types : List ℕ
      types = unwrap_or (option_map (λ t. t ∷ []) r) (types_in schema a)

  next_duplicate : (r : ℕ) (o : Option DbKey) → at unit.currency.types r ≡ o → find p (find_cells schema capacity db unit (NextDuplicate r)) ≡ find p (find_cells schema capacity eb unit (NextDuplicate r))
  next_duplicate r None e = rw e refl
  next_duplicate r (Some k) e = rw e (found_stable (Extent r ∷ []) _ _ (λ n. go (alike_one (Extent r) n) (cases_Bool (is_live db k))))
    where
      typed : k.rtype ≡ r
      typed = eqb-true _ _ (subst (λ o. if_named (λ x. x.rtype == r) o ≡ true) e (of.of_types r))

      next_in : Database → Result DbKey Cause
      next_in d = found_unless (first_cause ((not (is_live d k), Deleted) ∷ [])) (first (filter (key_below k) (with_calc schema capacity d r (calc_items schema r (items_of d k))))) End

      go : (c : cell schema capacity db (Extent r) ≡ cell schema capacity eb (Extent r)) → (is_live db k ≡ true) ⊎ (is_live db k ≡ false) → next_in db ≡ next_in eb
      go c (inl live) =
          let alive = live_same schema capacity db eb ldb leb r c k typed in
          let keys = with_calc_same schema capacity db eb ldb leb r c (calc_items schema r (items_of db k)) ∙ ap (with_calc schema capacity eb r) (items_same schema capacity db eb ldb leb r c k typed live) in
          λ i. found_unless (first_cause ((not (alive i), Deleted) ∷ [])) (first (filter (key_below k) (keys i))) End
      go c (inr dead) = dead_finds (is_live db k) _ dead ∙ sym (dead_finds (is_live eb k) _ (sym (live_same schema capacity db eb ldb leb r c k typed) ∙ dead))

  find_stable : (form : Form) → find p (find_cells schema capacity db unit form) ≡ find p (find_cells schema capacity eb unit form)
  find_stable (Key k) = refl
  find_stable CurrentOfUnit = refl
  find_stable (CurrentOfType r) = refl
  find_stable (CurrentOfSet s) = refl
  find_stable (CurrentOfArea a) = refl
  find_stable (InSet which r s) = in_set which r s _ refl
  find_stable (InArea which r a) = in_area which r a
  find_stable (OwnerOf s) = refl
  find_stable (Calc r values) = found_stable (Extent r ∷ []) _ _ (λ n. ap (λ ks. found_unless None (first ks) NoneSatisfies) (with_calc_same schema capacity db eb ldb leb r (alike_one (Extent r) n) values))
  find_stable (NextDuplicate r) = next_duplicate r _ refl
  find_stable (Sorted s v) = sorted v s _ refl

  store_stable : (t : ℕ) (items : List Value) → find p (Extent t ∷ store_cells schema unit (option_map (new_key db t) (free_number capacity db t)) (calc_taken schema (whole schema capacity db) t items None))
      ≡ find p (Extent t ∷ store_cells schema unit (option_map (new_key eb t) (free_number capacity eb t)) (calc_taken schema (whole schema capacity eb) t items None))
  store_stable t items = find_join p (Extent t ∷ []) _ _ (λ n.
      let c = alike_one (Extent t) n in
      let free = free_same schema capacity db eb ldb leb t c in
      let taken = taken_same schema capacity db eb ldb leb t c items None in
      λ i. find p (store_cells schema unit (option_map (λ m. new_same schema capacity db eb ldb leb t c m i) (free i)) (taken i)))

  pub cells_stable : (g : List (Option Owner)) (x : Statement) → is_delete x ≡ false → find p (cells_of schema capacity db unit g x) ≡ find p (cells_of schema capacity eb unit g x)
  cells_stable g (OpenArea a mode) d = refl
  cells_stable g (CloseArea a) d = refl
  cells_stable g (Find suppress form) d = find_stable form
  cells_stable g (Get r) d = refl
  cells_stable g (Store t items suppress) d = store_stable t items
  cells_stable g (Insert s) d = refl
  cells_stable g (Remove s) d = refl
  cells_stable g (Modify t changes) d = refl
  cells_stable g (Delete option) d = absurd (false≢true (sym d))
  cells_stable g Keep d = refl
  cells_stable g (Free all) d = refl
