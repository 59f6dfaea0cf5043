-- A refusal for what is stored has something in its way.
use Rattle.std.proofs.Common.{◌≡◌, refl, ◌∙◌, ap, subst, ℕ, Bool, true, false, cond, ◌&&◌, not, List, [], ◌∷◌, Option, Some, None, inl, inr, map}
use Rattle.std.specs.Prelude.{◌⊎◌, is_none, is_some, length, nat_lt, option_and_then, option_map}
use Rattle.std.specs.List.{find, flat_map}
use Rattle.std.proofs.lemmas.Bool.{and_parts, false≢true}
use Rattle.dbtg_schema.specs.Lists.{Lists}
use Rattle.dbtg_schema.specs.Lookups.{first_cause, some_and}
use Rattle.dbtg_schema.specs.Structure.{automatic_sets, calc_of, order_of, rekeyed_sets, set_numbers}
use Rattle.dbtg_schema.specs.declared.shape.Calc.{Calc as CalcOf}
use Rattle.dbtg_schema.proofs.Public.{some_is}
use Rattle.dbtg_cells.specs.declared.key.DbKey.{DbKey}
use Rattle.dbtg_cells.specs.declared.key.Owner.{Owner}
use Rattle.dbtg_cells.specs.declared.key.Owner.TheVariants.{Rec}
use Rattle.dbtg_cells.specs.declared.key.Value.{Value}
use Rattle.dbtg_cells.specs.declared.usage.Mode.{Mode}
use Rattle.dbtg_cells.specs.Keys.{option_value_eq}
use Rattle.dbtg_cells.specs.Members.{is_left_out}
use Rattle.dbtg_cells.specs.Modes.{conflict}
use Rattle.dbtg_unit.specs.declared.statement.Change.{Change}
use Rattle.dbtg_unit.specs.declared.statement.Erase.{Erase}
use Rattle.dbtg_unit.specs.declared.statement.Statement.{Statement}
use Rattle.dbtg_unit.specs.declared.statement.Statement.TheVariants.{OpenArea, CloseArea, Find, Get, Store, Insert, Remove, Modify, Delete, Keep, Free}
use Rattle.dbtg_unit.specs.declared.statement.Suppress.{Suppress}
use Rattle.dbtg_unit.specs.declared.unit.Cause.{Cause}
use Rattle.dbtg_unit.specs.declared.unit.Cause.TheVariants as cause
use Rattle.dbtg_unit.specs.declared.unit.Place.{Place}
use Rattle.dbtg_unit.specs.declared.unit.Unit.{Unit}
use Rattle.dbtg_unit.specs.Database.State.Base.{Database, calc_items, items_of, key_item, members_of}
use Rattle.dbtg_unit.specs.Database.State.Units.{kept_version}
use Rattle.dbtg_unit.specs.Database.Statements.Checks.{about, checks_at, checks_on_cells, delete_checks, insert_checks, live_checks, modify_checks, open_checks, own_checks, place_checks, remove_checks}
use Rattle.dbtg_unit.specs.Database.Statements.Conditions.{calc_taken, changed_items, has_members, is_plain, joined_place, names_calc, refuses_equal, sort_key_taken}
use Rattle.dbtg_unit.specs.Database.Statements.Found.{is_lost, with_calc}
use Rattle.dbtg_unit.specs.Database.Statements.StoredFacts.{StoredFacts, whole}
use Rattle.dbtg_unit.proofs.Public.{find_element}
use Rattle.dbtg_refusal.specs.declared.obstacle.Obstacle.TheVariants as obstacle
use Rattle.dbtg_refusal.specs.Obstacles.{Holder, holder_in, in_store, member_with, obstacle_of, rekeyed_member}
use Rattle.dbtg_refusal.proofs.FirstCauses.{first_in, first_joined, first_of, first_of_each, first_of_tests, map_some, passing_some, then_some}
use Rattle.dbtg_refusal.proofs.FoundInLists.{any_is_found}

pub lost_at : (at : Option DbKey) (list : List DbKey) → is_lost at list ≡ true → is_some at ≡ true
lost_at None list h = absurd (false≢true h)
lost_at (Some p) list h = refl

module _ (schema : Lists) (capacity : ℕ) (db : Database) (unit : Unit) where
  abbrev view : StoredFacts
  view = whole schema capacity db

  abbrev holder : Holder
  holder = holder_in schema capacity db

  abbrev Has : Statement → Cause → Type 0
  Has x why = is_some (obstacle_of schema capacity db unit x why) ≡ true

  has : (x : Statement) (why : Cause) {c : Cause} → c ≡ why → Has x c → Has x why
  has x why same h = subst (Has x) same h

  -- if a record's CALC items are taken, some record has them
  calc_held : (t : ℕ) (items : List Value) (left : Option DbKey) → calc_taken schema view t items left ≡ true → is_some (holder t (calc_items schema t items) left) ≡ true
  calc_held t items left h = any_is_found (λ x. not (is_left_out left x)) (with_calc schema capacity db t (calc_items schema t items)) ∙ by (calc_of schema t) h where
    by : (o : Option CalcOf) → some_and (λ calc. not calc.duplicates_allowed && view.has_calc t (calc_items schema t items) left) o ≡ true → view.has_calc t (calc_items schema t items) left ≡ true
    by None h = absurd (false≢true h)
    by (Some calc) h = (and_parts _ _ h).1

  -- if a sort key is taken, some member has it
  key_held : (s : ℕ) (o : Owner) (left : Option DbKey) (v : Option Value) → view.has_sort_key s o left v ≡ true → is_some (member_with schema view s o left v) ≡ true
  key_held s o left v h = any_is_found (λ x. not (is_left_out left x) && option_value_eq (key_item schema s x.rtype (items_of db x)) v) (members_of db s o) ∙ h

  -- THE RECORD THAT IS CHANGED

  own : (k : DbKey) (why : Cause) → first_cause (own_checks view unit k) ≡ Some why → (cause.Deleted ≡ why) ⊎ ((cause.ChangedByAnother ≡ why) × (is_some (kept_version unit k) ≡ true))
  own k why h =
      elim (first_in (own_checks view unit k) why h) [
        | inl p ↦ inl p.1
        | inr r ↦ elim r.1 [
          | inl p ↦ inr (p.1, passing_some _ _ p.0)
          | inr q ↦ absurd q.1
        ]
      ]

  -- a statement about the current of run-unit
  own_has : (x : Statement) (k : DbKey) (why : Cause) → unit.currency.run_unit ≡ Some k → Has x cause.Deleted → first_cause (own_checks view unit k) ≡ Some why → Has x why
  own_has x k why is deleted h =
      elim (own k why h) [
        | inl same ↦ has x why same deleted
        | inr p ↦ has x why p.0 (then_some _ _ k is (map_some _ _ ∙ p.1))
      ]

  recorded : (k : DbKey) → unit.currency.run_unit ≡ Some k → is_some (option_map obstacle.Record unit.currency.run_unit) ≡ true
  recorded k is = map_some obstacle.Record unit.currency.run_unit ∙ ap is_some is

  -- GET and KEEP
  live : (x : Statement) (why : Cause) → ((k : DbKey) → unit.currency.run_unit ≡ Some k → Has x cause.Deleted) → (o : Option DbKey) → unit.currency.run_unit ≡ o → first_cause (about o (live_checks view)) ≡ Some why → Has x why
  live x why deleted None is h = absurd (cc (h))
  live x why deleted (Some k) is h =
      elim (first_in (live_checks view k) why h) [
        | inl p ↦ has x why p.1 (deleted k is)
        | inr q ↦ absurd q.1
      ]

  -- A NEW MEMBER

  -- what refuses it: the owner, the position, or a member with its sort key
  placing : (s : ℕ) (place : Place) (v : Option Value) (why : Cause) → first_cause (checks_at schema view s place v) ≡ Some why
      → (cause.Deleted ≡ why) ⊎ (((cause.PositionLost ≡ why) × (is_some place.at ≡ true)) ⊎ ((cause.DuplicatesNotAllowed ≡ why) × (is_some (member_with schema view s place.owner None v) ≡ true)))
  placing s place v why h =
      elim (first_in (checks_at schema view s place v) why h) [
        | inl p ↦ inl p.1
        | inr r ↦ elim r.1 [
          | inl p ↦ inr (inl (p.1, lost_at place.at (members_of db s place.owner) (and_parts _ _ p.0).1))
          | inr q ↦ elim q.1 [
            | inl p ↦ inr (inr (p.1, key_held s place.owner None v (and_parts _ _ p.0).1))
            | inr n ↦ absurd n.1
          ]
        ]
      ]

  -- STORE

  module _ (t : ℕ) (items : List Value) (suppress : Suppress) where
    abbrev storing : Statement
    storing = Store t items suppress

    in_set : (why : Cause) → calc_taken schema view t items None ≡ false → (s : ℕ) → find (λ r. is_some (first_cause (place_checks schema view unit r (key_item schema r t items)))) (automatic_sets schema t) ≡ Some s
        → first_cause (place_checks schema view unit s (key_item schema s t items)) ≡ Some why → Has storing why
    in_set why no_calc s is h =
        elim (placing s (joined_place schema unit s) (key_item schema s t items) why h) [
          | inl same ↦ has storing why same (then_some _ _ s is refl)
          | inr other ↦ elim other [
            | inl p ↦ has storing why p.0 (then_some _ _ s is (map_some _ _ ∙ p.1))
            | inr p ↦ has storing why p.0
                (ap (λ b. is_some (cond b (option_map obstacle.Record (holder t (calc_items schema t items) None)) (in_store schema view unit t items cause.DuplicatesNotAllowed))) no_calc
                ∙ then_some _ _ s is (map_some _ _ ∙ p.1))
          ]
        ]

    store_has : (why : Cause) → first_cause (checks_on_cells schema view unit storing) ≡ Some why → Has storing why
    store_has why h =
        let places = flat_map (λ r. place_checks schema view unit r (key_item schema r t items)) (automatic_sets schema t) in
        elim (first_of (view.is_full t, cause.NoRoom) ((calc_taken schema view t items None, cause.DuplicatesNotAllowed) ∷ places) why h) [
          | inl p ↦ has storing why p.1 refl
          | inr r ↦ elim (first_of (calc_taken schema view t items None, cause.DuplicatesNotAllowed) places why r.1) [
            | inl p ↦ has storing why p.1
                (ap (λ b. is_some (cond b (option_map obstacle.Record (holder t (calc_items schema t items) None)) (in_store schema view unit t items cause.DuplicatesNotAllowed))) p.0
                ∙ map_some _ _ ∙ calc_held t items None p.0)
            | inr q ↦ let each = first_of_each (λ r. place_checks schema view unit r (key_item schema r t items)) (automatic_sets schema t) why q.1 in in_set why q.0 each.0 each.1 each.2
          ]
        ]

  -- THE OTHERS

  insert_has : (s : ℕ) (why : Cause) (o : Option DbKey) → unit.currency.run_unit ≡ o → first_cause (about o (insert_checks schema view unit s)) ≡ Some why → Has (Insert s) why
  insert_has s why None is h = absurd (cc (h))
  insert_has s why (Some k) is h =
      let places = place_checks schema view unit s (key_item schema s k.rtype (items_of db k)) in
      elim (first_joined (own_checks view unit k) ((is_some (view.owner s k), cause.AlreadyMember) ∷ places) why h) [
        | inl p ↦ own_has (Insert s) k why is (map_some _ _ ∙ ap is_some is) p
        | inr r ↦ elim (first_of (is_some (view.owner s k), cause.AlreadyMember) places why r.1) [
          | inl p ↦ has (Insert s) why p.1 (then_some _ _ k is (map_some _ _ ∙ p.0))
          | inr q ↦ elim (placing s (joined_place schema unit s) (key_item schema s k.rtype (items_of db k)) why q.1) [
            | inl same ↦ has (Insert s) why same (map_some _ _ ∙ ap is_some is)
            | inr other ↦ elim other [
              | inl p ↦ has (Insert s) why p.0 (map_some _ _ ∙ p.1)
              | inr p ↦ has (Insert s) why p.0 (then_some _ _ k is (map_some _ _ ∙ p.1))
            ]
          ]
        ]
      ]

  remove_has : (s : ℕ) (why : Cause) (o : Option DbKey) → unit.currency.run_unit ≡ o → first_cause (about o (remove_checks view unit s)) ≡ Some why → Has (Remove s) why
  remove_has s why None is h = absurd (cc (h))
  remove_has s why (Some k) is h =
      elim (first_joined (own_checks view unit k) ((is_none (view.owner s k), cause.NotMember) ∷ []) why h) [
        | inl p ↦ own_has (Remove s) k why is (recorded k is) p
        | inr r ↦ elim (first_in ((is_none (view.owner s k), cause.NotMember) ∷ []) why r.1) [
          | inl p ↦ has (Remove s) why p.1 (map_some _ _ ∙ ap is_some is)
          | inr q ↦ absurd q.1
        ]
      ]

  delete_has : (option : Erase) (why : Cause) (o : Option DbKey) → unit.currency.run_unit ≡ o → first_cause (about o (delete_checks schema view unit option)) ≡ Some why → Has (Delete option) why
  delete_has option why None is h = absurd (cc (h))
  delete_has option why (Some k) is h =
      elim (first_joined (own_checks view unit k) ((is_plain option && has_members schema view k, cause.OwnerHasMembers) ∷ []) why h) [
        | inl p ↦ own_has (Delete option) k why is (recorded k is) p
        | inr r ↦ elim (first_in ((is_plain option && has_members schema view k, cause.OwnerHasMembers) ∷ []) why r.1) [
          | inl p ↦ has (Delete option) why p.1
              (then_some _ _ k is (map_some _ _ ∙ any_is_found (λ s. nat_lt 0 (length (members_of db s (Rec k)))) (set_numbers schema) ∙ (and_parts _ _ p.0).1))
          | inr q ↦ absurd q.1
        ]
      ]

  -- a sort key that is taken in the list which has the record
  rekeyed_held : (k : DbKey) (items : List Value) (s : ℕ) → sort_key_taken schema view k items s ≡ true → is_some (rekeyed_member schema view k items s) ≡ true
  rekeyed_held k items s h = by (view.owner s k) h where
    by : (o : Option Owner) → some_and (λ o. view.has_sort_key s o (Some k) (key_item schema s k.rtype items)) o ≡ true
        → is_some (option_and_then (λ o. option_map (obstacle.Member s o) (member_with schema view s o (Some k) (key_item schema s k.rtype items))) o) ≡ true
    by None h = absurd (false≢true h)
    by (Some o) h = map_some _ _ ∙ key_held s o (Some k) (key_item schema s k.rtype items) h

  modify_has : (t : ℕ) (changes : List Change) (why : Cause) (o : Option DbKey) → unit.currency.run_unit ≡ o → first_cause (about o (modify_checks schema view unit changes)) ≡ Some why → Has (Modify t changes) why
  modify_has t changes why None is h = absurd (cc (h))
  modify_has t changes why (Some k) is h =
      let items = changed_items changes (items_of db k) in
      let sets = rekeyed_sets schema k.rtype (map (λ c. c.item) changes) in
      let taken : ℕ → Bool = λ s. refuses_equal (order_of schema s) && sort_key_taken schema view k items s in
      let with_calc_items = option_map obstacle.Record (holder k.rtype (calc_items schema k.rtype items) (Some k)) in
      let with_sort_key = option_and_then (rekeyed_member schema view k items) (find taken sets) in
      let calc = names_calc schema k.rtype changes && calc_taken schema view k.rtype items (Some k) in
      let tests : List (Bool × Cause) = map (λ s. (taken s, cause.DuplicatesNotAllowed)) sets in
      elim (first_joined (own_checks view unit k) ((calc, cause.DuplicatesNotAllowed) ∷ tests) why h) [
        | inl p ↦ own_has (Modify t changes) k why is (recorded k is) p
        | inr r ↦ elim (first_of (calc, cause.DuplicatesNotAllowed) tests why r.1) [
          | inl p ↦ has (Modify t changes) why p.1
              (then_some _ _ k is (ap (λ b. is_some (cond b with_calc_items with_sort_key)) p.0 ∙ map_some _ _ ∙ calc_held k.rtype items (Some k) (and_parts _ _ p.0).1))
          | inr q ↦
              let one = first_of_tests taken cause.DuplicatesNotAllowed why sets q.1 in
              let found = some_is (find taken sets) (any_is_found taken sets ∙ one.1) in
              let it = find_element taken sets found.0 found.1 in
              has (Modify t changes) why one.0
              (then_some _ _ k is (ap (λ b. is_some (cond b with_calc_items with_sort_key)) q.0 ∙ then_some _ _ found.0 found.1 (rekeyed_held k items found.0 (and_parts _ _ it.1).1)))
        ]
      ]

  -- what the checks on cells refuse has something in its way
  pub on_cells : (x : Statement) (why : Cause) → first_cause (checks_on_cells schema view unit x) ≡ Some why → Has x why
  on_cells (OpenArea a mode) why h =
      elim (first_in (open_checks view a mode) why h) [
        | inl p ↦ has (OpenArea a mode) why p.1 (map_some _ _ ∙ any_is_found (λ (e : ℕ × Mode). conflict e.1 mode) (db.usage a) ∙ p.0)
        | inr q ↦ absurd q.1
      ]
  on_cells (CloseArea a) why h = absurd (cc (h))
  on_cells (Find suppress form) why h = absurd (cc (h))
  on_cells (Get r) why h = live (Get r) why recorded unit.currency.run_unit refl h
  on_cells (Store t items suppress) why h = store_has t items suppress why h
  on_cells (Insert s) why h = insert_has s why unit.currency.run_unit refl h
  on_cells (Remove s) why h = remove_has s why unit.currency.run_unit refl h
  on_cells (Modify t changes) why h = modify_has t changes why unit.currency.run_unit refl h
  on_cells (Delete option) why h = delete_has option why unit.currency.run_unit refl h
  on_cells Keep why h = live Keep why recorded unit.currency.run_unit refl h
  on_cells (Free all) why h = absurd (cc (h))
