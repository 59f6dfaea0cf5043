-- A statement whose guesses are right changes no cell that it does not name.
use Rattle.std.proofs.Common.{◌≡◌, refl, sym, ◌∙◌, ap, subst, ℕ, Bool, true, false, cond, not, ◌&&◌, List, [], ◌∷◌, ◌++◌, length, Option, Some, None, eqb, inl, inr, ⊎_elim, ◌⊎◌, arith, map}
use Rattle.std.specs.Prelude.{◌==◌, is_some, is_none, filter, option_map, option_and_then, unwrap_or, slice_set, slice_get, if◌then◌else◌}
use Rattle.std.specs.List.{list_any, flat_map, range_with_len}
use Rattle.std.proofs.lemmas.Bool.{and_from, or_left, or_right, or_cases, or_parts, false≢true, false_from_ne_true, eqb-true, eq-eqb, cond-false, cases_Bool, not-false}
use Rattle.std.proofs.lemmas.Option.{none-some, slice_get_within}
use Rattle.dbtg_schema.specs.Lists.{Lists}
use Rattle.dbtg_schema.specs.Lookups.{at, some_and, first_cause}
use Rattle.dbtg_schema.specs.Structure.{automatic_sets, is_automatic, member_clause, owns, owner_type, rekeyed_sets, set_numbers}
use Rattle.dbtg_schema.specs.declared.shape.SetType.{SetType}
use Rattle.dbtg_schema.proofs.Public.{some_is}
use Rattle.dbtg_cells.specs.declared.key.DbKey.{DbKey}
use Rattle.dbtg_cells.specs.declared.key.Owner.{Owner}
use Rattle.dbtg_cells.specs.declared.key.Owner.TheVariants.{Rec}
use Rattle.dbtg_cells.specs.declared.name.CellName.{CellName}
use Rattle.dbtg_cells.specs.declared.name.CellName.TheVariants.{Usage, Extent, Ring, Slot}
use Rattle.dbtg_cells.specs.declared.usage.Mode.{Mode}
use Rattle.dbtg_cells.specs.declared.key.Value.{Value}
use Rattle.dbtg_cells.specs.Keys.{owner_eq}
use Rattle.dbtg_cells.specs.Shown.{UsageValue}
use Rattle.dbtg_cells.specs.Names.{name_eq}
use Rattle.dbtg_cells.proofs.Public.{name_eq_refl, same_owner}
use Rattle.dbtg_unit.specs.declared.statement.Change.{Change}
use Rattle.dbtg_unit.specs.declared.statement.Erase.{Erase}
use Rattle.dbtg_unit.specs.declared.statement.Statement.{Statement}
use Rattle.dbtg_unit.specs.declared.statement.Statement.TheVariants.{OpenArea, CloseArea, Store, Insert, Remove, Modify, Delete}
use Rattle.dbtg_unit.specs.declared.statement.Suppress.{Suppress}
use Rattle.dbtg_unit.specs.declared.unit.Place.{Place}
use Rattle.dbtg_unit.specs.declared.unit.Unit.{Unit}
use Rattle.dbtg_unit.specs.declared.unit.Cause.{Cause}
use Rattle.dbtg_unit.specs.declared.unit.Cause.TheVariants.{UsageConflict, Deleted, NotMember, NoRoom, DuplicatesNotAllowed, OwnerHasMembers}
use Rattle.dbtg_unit.specs.Database.State.Base.{Database, is_live, owner_of, owners, members_of, is_member, key_item}
use Rattle.dbtg_unit.specs.Database.Statements.Doomed.{all_keys, doomed}
use Rattle.dbtg_unit.specs.Database.Statements.StoredFacts.{whole}
use Rattle.dbtg_unit.specs.Database.Statements.Effect.{StatementEffect, effect_on_cells, done, store_checks, stored, new_key, free_number, conflict, own_checks, is_plain, has_members, names_calc, calc_taken, place_checks}
use Rattle.dbtg_unit.specs.Database.State.CellNames.{slot_name, place_of}
use Rattle.dbtg_unit.specs.Database.State.Cells.{cell}
use Rattle.dbtg_unit.specs.Hands.Erasing.{names_once, doomed_in_turn, own_rings, cells_of_doomed, outer_cells, delete_cells_of}
use Rattle.dbtg_unit.specs.Hands.Needs.{cells_of, current_owner, guessed_sets, is_stale, is_wrong_guess, ring_names, slot_names, store_cells, store_rings}
use Rattle.dbtg_unit.specs.Database.State.Legal.{Legal}
use Rattle.dbtg_unit.proofs.Database.Legal.PassedChecks.{first_check_passes, passes_append}
use Rattle.dbtg_unit.proofs.Database.Legal.Outcomes.{of_unless, of_current}
use Rattle.dbtg_unit.proofs.Database.Records.LiveKeys.{all_are_live, member_in, owner_in, listed_has_occurrence, owner_of_member, member_of_owner}
use Rattle.dbtg_unit.proofs.Lists.Membership.{In, of_filter, any_in, any_element, in_map, in_filter, in_left, in_right, in_flat_map, in_range, some_and_value}
use Rattle.dbtg_unit.proofs.Database.Laws.LeastSets.{set_of_member, doomed_is_least_set}
use Rattle.dbtg_unit.proofs.Hands.Untouched.InTurn.{doomed_is_met}
use Rattle.dbtg_unit.proofs.Hands.Untouched.LocalRemove.{removed_local}
use Rattle.dbtg_unit.proofs.Hands.Untouched.LocalInsert.{inserted_local}
use Rattle.dbtg_unit.proofs.Hands.Untouched.LocalModify.{among, modified_local}
use Rattle.dbtg_unit.proofs.Hands.Untouched.LocalStore.{stored_local}
use Rattle.dbtg_unit.proofs.Hands.Untouched.LocalDelete.{deleted_local}

-- NAMES

-- a name that is not among these is none of them
pub not_it : (c d : CellName) (names : List CellName) → list_any (name_eq c) names ≡ false → In d names → c ≡ d → ⊥
not_it c d names h i e = false≢true (sym h ∙ any_in (name_eq c) d names i (subst (λ (x : CellName). name_eq c x ≡ true) e (name_eq_refl c)))

-- each name is still there, where each stands once
once_kept : (met names : List CellName) (c : CellName) → In c names → (list_any (name_eq c) met ≡ true) ⊎ (list_any (name_eq c) (names_once met names) ≡ true)
once_kept met [] c i = absurd i
once_kept met (x ∷ xs) c i =
    elim (cases_Bool (list_any (name_eq x) met)) [
      | inl h ↦ subst (λ b. (list_any (name_eq c) met ≡ true) ⊎ (list_any (name_eq c) (cond b (names_once met xs) (x ∷ names_once (x ∷ met) xs)) ≡ true)) (sym h)
          (⊎_elim (λ e. inl (subst (λ (y : CellName). list_any (name_eq y) met ≡ true) e h)) (λ j. once_kept met xs c j) i)
      | inr h ↦ subst (λ b. (list_any (name_eq c) met ≡ true) ⊎ (list_any (name_eq c) (cond b (names_once met xs) (x ∷ names_once (x ∷ met) xs)) ≡ true)) (sym h)
          (⊎_elim
          (λ e. inr (or_left _ _ (subst (λ (y : CellName). name_eq c y ≡ true) (sym e) (name_eq_refl c))))
          (λ j. ⊎_elim (λ m. ⊎_elim (λ here. inr (or_left _ _ here)) (λ there. inl there) (or_cases _ _ m)) (λ r. inr (or_right _ _ r)) (once_kept (x ∷ met) xs c j))
          i)
    ]

pub names_once_complete : (names : List CellName) (c d : CellName) → list_any (name_eq c) (names_once [] names) ≡ false → In d names → c ≡ d → ⊥
names_once_complete names c d h i e =
    ⊎_elim (λ m. false≢true m) (λ m. false≢true (sym h ∙ m)) (once_kept [] names c (subst (λ (x : CellName). In x names) (sym e) i))

-- a set that owns a type is a set of the schema
pub set_of_owner : (schema : Lists) (s t : ℕ) → owns schema s t ≡ true → In s (set_numbers schema)
set_of_owner schema s t h =
    let owner = some_and_value (λ o. eqb o t) (owner_type schema s) h in
    let set = of_chain (slice_get schema.sets s) owner.0 owner.1 in
    let below = slice_get_within schema.sets s set.0 set.1 in
    in_range (length schema.sets) 0 s (omega arith) (omega arith) where
      of_chain : (set : Option SetType) (t : ℕ) → option_and_then (λ (x : SetType). x.owner) set ≡ Some t → (x : SetType) × (set ≡ Some x)
      of_chain None t e = absurd (none-some t e)
      of_chain (Some x) t e = (x, refl)

-- GUESSES

-- a guess that is not wrong is the owner
pub right_guess : (o : Owner) (guess : Option Owner) → is_wrong_guess (Some o) guess ≡ false → guess ≡ Some o
right_guess o guess h = let p = some_and_value (owner_eq o) guess (not-false _ h) in p.1 ∙ ap Some (sym (same_owner o p.0 p.2))

module _ (schema : Lists) (capacity : ℕ) (db : Database) (unit : Unit) (guesses : List (Option Owner)) (legal : Legal schema capacity db) where
  -- the guess in a needed set is the owner whose list has k
  pub guess_is : (statement : Statement) (k : DbKey) → is_stale schema capacity db unit guesses statement ≡ false → unit.currency.run_unit ≡ Some k → is_live db k ≡ true
      → (s : ℕ) (o : Owner) → In s (guessed_sets schema unit statement) → is_member k (members_of db s o) ≡ true → at guesses s ≡ Some o
  guess_is statement k fresh current live s o needed m =
      right_guess o (at guesses s) (false_from_ne_true _ (λ wrong. false≢true (sym fresh
      ∙ ap (some_and (λ (x : DbKey). is_live db x && list_any (λ s'. is_wrong_guess (owner_of schema capacity db s' x) (at guesses s')) (guessed_sets schema unit statement))) current
      ∙ and_from _ _ live (any_in (λ s'. is_wrong_guess (owner_of schema capacity db s' k) (at guesses s')) s (guessed_sets schema unit statement) needed
      (ap (λ (p : Option Owner). is_wrong_guess p (at guesses s)) (owner_of_member schema capacity db legal s o k m) ∙ wrong)))))

  -- the ring of a guess that is the owner's is named
  ring_in_names : (s : ℕ) (o : Owner) (guess : Option Owner) → guess ≡ Some o → In (Ring s (place_of o)) (ring_names s guess)
  ring_in_names s o guess e = subst (λ (g : Option Owner). In (Ring s (place_of o)) (ring_names s g)) (sym e) (inl refl)

  slot_in_names : (k : DbKey) → unit.currency.run_unit ≡ Some k → In (slot_name k) (slot_names unit.currency.run_unit)
  slot_in_names k e = subst (λ (r : Option DbKey). In (slot_name k) (slot_names r)) (sym e) (inl refl)

  -- the cells that are not named stay, where the database is legal again
  abbrev pub Stays : Statement → StatementEffect → Type 0
  Stays statement o =
      Legal schema capacity o.database → (c : CellName) → list_any (name_eq c) (cells_of schema capacity db unit guesses statement) ≡ false → cell schema capacity o.database c ≡ cell schema capacity db c

  -- what the first check leaves
  first_passes : (b : Bool) (cause : Cause) (rest : Option Cause) → cond b (Some cause) rest ≡ None → b ≡ false
  first_passes true cause rest h = absurd (none-some cause (sym h))
  first_passes false cause rest h = refl

  own_live : (k : DbKey) (rest : Option Cause) → cond (not (is_live db k)) (Some Deleted) rest ≡ None → is_live db k ≡ true
  own_live k rest h = not-false _ (first_passes (not (is_live db k)) Deleted rest h)

  pub of_remove : (s : ℕ) → is_stale schema capacity db unit guesses (Remove s) ≡ false → Stays (Remove s) (effect_on_cells schema capacity db unit (Remove s))
  of_remove s fresh =
      of_current db unit (Stays (Remove s)) (λ cause legal' c h. refl) unit.currency.run_unit _ _ (λ k e checks legal' c h.
      let split = passes_append (own_checks (whole schema capacity db) unit k) ((is_none (owner_of schema capacity db s k), NotMember) ∷ []) checks in
      let owner = some_is (owner_of schema capacity db s k) (not_none (owner_of schema capacity db s k) (first_check_passes (is_none (owner_of schema capacity db s k), NotMember) [] split.1).0) in
      let has = member_of_owner schema capacity db legal s owner.0 k owner.1 in
      let guess = guess_is (Remove s) k fresh e (own_live k _ checks) s owner.0 (inl refl) has in
      removed_local schema capacity db unit s k legal owner.0 has c
      (λ is. not_it c (Ring s (place_of owner.0)) _ h (in_left _ (ring_names s (at guesses s)) (slot_names unit.currency.run_unit) (ring_in_names s owner.0 (at guesses s) guess)) is)
      (λ is. not_it c (slot_name k) _ h (in_right _ (ring_names s (at guesses s)) (slot_names unit.currency.run_unit) (slot_in_names k e)) is)) where
        not_none : {X : Type 0} (o : Option X) → is_none o ≡ false → is_some o ≡ true
        not_none None h = absurd (false≢true (sym h))
        not_none (Some x) h = refl

  pub of_insert : (s : ℕ) → Stays (Insert s) (effect_on_cells schema capacity db unit (Insert s))
  of_insert s =
      of_current db unit (Stays (Insert s)) (λ cause legal' c h. refl) unit.currency.run_unit _ _ (λ k e checks legal' c h.
      inserted_local schema capacity db unit s k c
      (λ place stands is. not_it c (Ring s (place_of place.owner)) _ h
      (in_left _ (ring_names s (current_owner schema unit s)) (slot_names unit.currency.run_unit) (ring_in_names s place.owner (current_owner schema unit s) (ap (option_map (λ (p : Place). p.owner)) stands))) is)
      (λ is. not_it c (slot_name k) _ h (in_right _ (ring_names s (current_owner schema unit s)) (slot_names unit.currency.run_unit) (slot_in_names k e)) is))

  pub of_modify : (t : ℕ) (changes : List Change) → is_stale schema capacity db unit guesses (Modify t changes) ≡ false → ((k : DbKey) → unit.currency.run_unit ≡ Some k → k.rtype ≡ t)
      → Stays (Modify t changes) (effect_on_cells schema capacity db unit (Modify t changes))
  of_modify t changes fresh typed =
      of_current db unit (Stays (Modify t changes)) (λ cause legal' c h. refl) unit.currency.run_unit _ _ (λ k e checks legal' c h.
      let is_t = typed k e in
      let live = own_live k _ checks in
      let extents : List CellName = if names_calc schema t changes then Extent t ∷ [] else [] in
      let rings : List CellName = flat_map (λ s. ring_names s (at guesses s)) (rekeyed_sets schema t (map (λ (c : Change). c.item) changes)) in
      modified_local schema capacity db unit changes k live c
      (λ s o named has is.
      let here : In s (rekeyed_sets schema t (map (λ (c : Change). c.item) changes)) = subst (λ u. In s (rekeyed_sets schema u (map (λ (c : Change). c.item) changes))) is_t (number_of_test s (rekeyed_sets schema k.rtype (map (λ (c : Change). c.item) changes)) named) in
      let guess = guess_is (Modify t changes) k fresh e live s o here has in
      not_it c (Ring s (place_of o)) _ h (in_left _ (extents ++ rings) (slot_names unit.currency.run_unit) (in_right _ extents rings (in_flat_map (λ s. ring_names s (at guesses s)) s _ _ here (ring_in_names s o (at guesses s) guess)))) is)
      (λ named is.
      let named' : names_calc schema t changes ≡ true = subst (λ u. names_calc schema u changes ≡ true) is_t named in
      not_it c (Extent t) _ h (in_left _ (extents ++ rings) (slot_names unit.currency.run_unit) (in_left _ extents rings (subst (λ b. In (Extent t) (cond b (Extent t ∷ []) [])) (sym named') (inl refl)))) (is ∙ ap Extent is_t))
      (λ is. not_it c (slot_name k) _ h (in_right _ (extents ++ rings) (slot_names unit.currency.run_unit) (slot_in_names k e)) is)) where
        number_of_test : (s : ℕ) (sets : List ℕ) → among s sets ≡ true → In s sets
        number_of_test s sets h = let e = any_element (λ s'. eqb s' s) sets h in subst (λ n. In n sets) (eqb-true e.0 s e.2) e.1

  abbrev opened : ℕ → Mode → StatementEffect
  opened a mode = done (record db { usage = λ b. if b == a then db.usage b ++ (unit.number, mode) ∷ [] else db.usage b }) (record unit { modes = slice_set unit.modes a (Some mode) }) None None

  of_opened : (a : ℕ) (mode : Mode) → Stays (OpenArea a mode) (opened a mode)
  unfolding cell
  of_opened a mode legal' (Usage b) h = ap UsageValue (cond-false (eqb b a) (db.usage b ++ (unit.number, mode) ∷ []) (db.usage b) (or_parts _ _ h).0)
  of_opened a mode legal' (Extent t) h = refl
  of_opened a mode legal' (Ring s None) h = refl
  of_opened a mode legal' (Ring s (Some p)) h = refl
  of_opened a mode legal' (Slot t n) h = refl

  pub of_open : (a : ℕ) (mode : Mode) → Stays (OpenArea a mode) (effect_on_cells schema capacity db unit (OpenArea a mode))
  of_open a mode =
      of_unless db unit (Stays (OpenArea a mode)) (λ cause legal' c h. refl) (first_cause ((list_any (λ e. conflict e.1 mode) (db.usage a), UsageConflict) ∷ [])) (opened a mode) (λ free. of_opened a mode)

  pub of_close : (a : ℕ) → Stays (CloseArea a) (effect_on_cells schema capacity db unit (CloseArea a))
  unfolding cell
  of_close a legal' (Usage b) h = ap UsageValue (cond-false (eqb b a) (filter (λ e. not (e.0 == unit.number)) (db.usage b)) (db.usage b) (or_parts _ _ h).0)
  of_close a legal' (Extent t) h = refl
  of_close a legal' (Ring s None) h = refl
  of_close a legal' (Ring s (Some p)) h = refl
  of_close a legal' (Slot t n) h = refl

  -- the rings of a STORE in one set
  abbrev joined_rings : ℕ → ℕ → List CellName
  joined_rings t s = if among s (automatic_sets schema t) then ring_names s (current_owner schema unit s) else []

  abbrev owned_rings : ℕ → ℕ → ℕ → List CellName
  owned_rings t n s = if owns schema s t then Ring s (Some (t, n)) ∷ [] else []

  abbrev rings_of : DbKey → ℕ → List CellName
  rings_of k s = joined_rings k.rtype s ++ owned_rings k.rtype k.number s

  automatic_set : (s t : ℕ) → among s (automatic_sets schema t) ≡ true → In s (set_numbers schema)
  automatic_set s t h =
      let e = any_element (λ s'. eqb s' s) (automatic_sets schema t) h in
      (of_filter (λ s. some_and (λ m. is_automatic m.class) (member_clause schema s t)) s (set_numbers schema) (subst (λ n. In n (automatic_sets schema t)) (eqb-true e.0 s e.2) e.1)).0

  there : (o : Option ℕ) → is_none o ≡ false → o ≡ Some (unwrap_or o 0)
  there None h = absurd (false≢true (sym h))
  there (Some n) h = refl

  -- the outer cells of a DELETE, in their two parts
  abbrev extents_of : List DbKey → List CellName
  extents_of met = map Extent (filter (λ t. list_any (λ d. d.rtype == t) met) (range_with_len 0 (length schema.types)))

  abbrev rings_with : List DbKey → List CellName
  rings_with met = flat_map (λ s. map (λ o. Ring s (place_of o)) (filter (λ o. list_any (λ d. is_member d (members_of db s o)) met) (owners schema capacity db s))) (set_numbers schema)

  type_in : (option : Erase) (d k : DbKey) → is_live db k ≡ true → is_member d (doomed schema capacity db option k) ≡ true → In d.rtype (range_with_len 0 (length schema.types))
  type_in option d k live g =
      let below = (legal.keys d (all_are_live schema capacity db legal d (member_in d (all_keys schema capacity db) ((doomed_is_least_set schema capacity db option k).within d g)))).0 in
      in_range (length schema.types) 0 d.rtype (omega arith) (omega arith)

  pub of_store : (t : ℕ) (items : List Value) (suppress : Suppress) → Stays (Store t items suppress) (effect_on_cells schema capacity db unit (Store t items suppress))
  of_store t items suppress =
      of_unless db unit (Stays (Store t items suppress)) (λ cause legal' c h. refl) (first_cause (store_checks schema (whole schema capacity db) unit t items))
      (stored schema capacity db unit (new_key db t (unwrap_or (free_number capacity db t) 0)) items suppress)
      (λ checks legal' c h.
      let n = unwrap_or (free_number capacity db t) 0 in
      let k = new_key db t n in
      let rest = flat_map (λ s. place_checks schema (whole schema capacity db) unit s (key_item schema s t items)) (automatic_sets schema t) in
      let first = first_check_passes (is_none (free_number capacity db t), NoRoom) ((calc_taken schema (whole schema capacity db) t items None, DuplicatesNotAllowed) ∷ rest) checks in
      let second = first_check_passes (calc_taken schema (whole schema capacity db) t items None, DuplicatesNotAllowed) rest first.1 in
      let free : free_number capacity db t ≡ Some n = there (free_number capacity db t) first.0 in
      let names : List CellName = Extent t ∷ (store_rings schema unit k ++ slot_name k ∷ []) in
      let others : list_any (name_eq c) names ≡ false
      = sym (λ i. list_any (name_eq c) (Extent t ∷ store_cells schema unit (option_map (new_key db t) (free i)) (second.0 i))) ∙ h in
      stored_local schema capacity db unit t n items legal legal' c
      (λ is. not_it c (Extent t) names others (inl refl) is)
      (λ is. not_it c (Slot t n) names others (inr (in_right _ (store_rings schema unit k) (slot_name k ∷ []) (inl refl))) is)
      (λ s place joins stands is. not_it c (Ring s (place_of place.owner)) names others
      (inr (in_left _ (store_rings schema unit k) (slot_name k ∷ []) (in_flat_map (rings_of k) s _ (set_numbers schema) (automatic_set s t joins)
      (in_left _ (joined_rings t s) (owned_rings t n s) (subst (λ b. In (Ring s (place_of place.owner)) (cond b (ring_names s (current_owner schema unit s)) [])) (sym joins)
      (ring_in_names s place.owner (current_owner schema unit s) (ap (option_map (λ (p : Place). p.owner)) stands))))))) is)
      (λ s own is. not_it c (Ring s (Some (t, n))) names others
      (inr (in_left _ (store_rings schema unit k) (slot_name k ∷ []) (in_flat_map (rings_of k) s _ (set_numbers schema) (set_of_owner schema s t own)
      (in_right _ (joined_rings t s) (owned_rings t n s) (subst (λ b. In (Ring s (Some (t, n))) (cond b (Ring s (Some (t, n)) ∷ []) [])) (sym own) (inl refl)))))) is))

  pub of_delete : (option : Erase) → Stays (Delete option) (effect_on_cells schema capacity db unit (Delete option))
  of_delete option =
      of_current db unit (Stays (Delete option)) (λ cause legal' c h. refl) unit.currency.run_unit _ _ (λ k e checks legal' c h.
      let split = passes_append (own_checks (whole schema capacity db) unit k) ((is_plain option && has_members schema (whole schema capacity db) k, OwnerHasMembers) ∷ []) checks in
      let met = doomed_in_turn schema capacity db option k in
      let live = own_live k _ checks in
      let names = slot_name k ∷ own_rings schema k ++ flat_map (cells_of_doomed schema db) met ++ outer_cells schema capacity db met in
      let named : delete_cells_of schema capacity db unit option unit.currency.run_unit ≡ names_once [] names
      = ap (delete_cells_of schema capacity db unit option) e
      ∙ cond-false (is_some (first_cause (own_checks (whole schema capacity db) unit k))) (slot_name k ∷ []) _ (ap is_some split.0)
      ∙ cond-false (is_plain option && has_members schema (whole schema capacity db) k) _ _ (first_check_passes (is_plain option && has_members schema (whole schema capacity db) k, OwnerHasMembers) [] split.1).0 in
      let others : list_any (name_eq c) (names_once [] names) ≡ false = ap (list_any (name_eq c)) (sym named) ∙ h in
      let turn : (d : DbKey) → is_member d (doomed schema capacity db option k) ≡ true → In d met = λ d g. member_in d met (doomed_is_met schema capacity db legal option k live d g) in
      let of_one : (d : DbKey) (x : CellName) → is_member d (doomed schema capacity db option k) ≡ true → In x (cells_of_doomed schema db d) → c ≡ x → ⊥
      = λ d x g i is. names_once_complete names c x others
      (inr (in_left x (own_rings schema k ++ flat_map (cells_of_doomed schema db) met) (outer_cells schema capacity db met)
      (in_right x (own_rings schema k) (flat_map (cells_of_doomed schema db) met) (in_flat_map (cells_of_doomed schema db) d x met (turn d g) i)))) is in
      let of_outer : (x : CellName) → In x (outer_cells schema capacity db met) → c ≡ x → ⊥
      = λ x i is. names_once_complete names c x others
      (inr (in_right x (own_rings schema k ++ flat_map (cells_of_doomed schema db) met) (outer_cells schema capacity db met) i)) is in
      deleted_local schema capacity db unit option k legal legal' c
      (λ d g is. of_one d (slot_name d) g (inl refl) is)
      (λ d s x g m is. of_one d (slot_name x) g
      (inr (in_right _ (own_rings schema d) _ (in_map slot_name x _ (in_flat_map (λ s. members_of db s (Rec d)) s x (set_numbers schema) (set_of_member schema s x.rtype (legal.members s (Rec d) x m).1) (member_in x (members_of db s (Rec d)) m))))) is)
      (λ d s g own is. of_one d (Ring s (Some (d.rtype, d.number))) g
      (inr (in_left _ (own_rings schema d) _ (in_map (λ s. Ring s (Some (d.rtype, d.number))) s _ (in_filter (λ s. owns schema s d.rtype) s (set_numbers schema) (set_of_owner schema s d.rtype own) own)))) is)
      (λ d s o g m is. of_outer (Ring s (place_of o)) (in_right _ (extents_of met) (rings_with met)
      (in_flat_map (λ s. map (λ o. Ring s (place_of o)) (filter (λ o. list_any (λ d. is_member d (members_of db s o)) met) (owners schema capacity db s))) s _ (set_numbers schema)
      (set_of_member schema s d.rtype (legal.members s o d m).1)
      (in_map (λ o. Ring s (place_of o)) o _ (in_filter (λ o. list_any (λ d. is_member d (members_of db s o)) met) o (owners schema capacity db s) (owner_in schema capacity db legal s o (listed_has_occurrence schema capacity db legal s o d m))
      (any_in (λ d. is_member d (members_of db s o)) d met (turn d g) m))))) is)
      (λ d g is. of_outer (Extent d.rtype) (in_left _ (extents_of met) (rings_with met)
      (in_map Extent d.rtype _ (in_filter (λ t. list_any (λ d. eqb d.rtype t) met) d.rtype (range_with_len 0 (length schema.types)) (type_in option d k live g)
      (any_in (λ x. eqb x.rtype d.rtype) d met (turn d g) (eq-eqb d.rtype d.rtype refl))))) is))
