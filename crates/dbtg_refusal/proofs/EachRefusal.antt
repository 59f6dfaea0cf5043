-- Each refusal has something in its way.
use Rattle.std.proofs.Common.{◌≡◌, refl, sym, ◌∙◌, ap, subst, ℕ, Bool, true, false, cond, ◌&&◌, not, List, [], ◌∷◌, Option, Some, None, inl, inr}
use Rattle.std.specs.Prelude.{◌⊎◌, Result, Ok, Err, filter, is_none, is_some, option_and_then, unwrap_or}
use Rattle.std.specs.List.{find}
use Rattle.std.proofs.lemmas.Bool.{and_parts, false≢true}
use Rattle.dbtg_schema.specs.Lists.{Lists}
use Rattle.dbtg_schema.specs.Lookups.{at, first, first_cause, some_and}
use Rattle.dbtg_schema.specs.Sound.{IsSound}
use Rattle.dbtg_cells.specs.declared.key.DbKey.{DbKey}
use Rattle.dbtg_cells.specs.declared.key.Owner.TheVariants.{System}
use Rattle.dbtg_cells.specs.Keys.{has_type, key_below, value_eq}
use Rattle.dbtg_unit.specs.declared.statement.Form.{Form}
use Rattle.dbtg_unit.specs.declared.statement.Form.TheVariants.{Key, CurrentOfUnit, CurrentOfType, CurrentOfSet, CurrentOfArea, InSet, InArea, OwnerOf, Calc, NextDuplicate, Sorted}
use Rattle.dbtg_unit.specs.declared.statement.Statement.{Statement}
use Rattle.dbtg_unit.specs.declared.statement.Statement.TheVariants.{OpenArea, CloseArea, Find, Get, Store, Insert, Remove, Modify, Delete, Keep, Free}
use Rattle.dbtg_unit.specs.declared.statement.Suppress.{Suppress}
use Rattle.dbtg_unit.specs.declared.unit.Cause.{Cause}
use Rattle.dbtg_unit.specs.declared.unit.Cause.TheVariants as cause
use Rattle.dbtg_unit.specs.declared.unit.Place.{Place}
use Rattle.dbtg_unit.specs.declared.unit.Status.TheVariants.{Done, Refused}
use Rattle.dbtg_unit.specs.declared.unit.Unit.{Unit}
use Rattle.dbtg_unit.specs.Database.State.Base.{Database, calc_items, is_live, items_of, members_of, sort_key}
use Rattle.dbtg_unit.specs.Database.State.Units.{key_of_place, place_in}
use Rattle.dbtg_unit.specs.Database.Statements.Checks.{checks_at_once, checks_on_cells, refused_at_once}
use Rattle.dbtg_unit.specs.Database.Statements.Effect.{StatementEffect, done_on_cells, done_on_current, effect, effect_on_cells, finding, unless_refused}
use Rattle.dbtg_unit.specs.Database.Statements.Fits.{fits}
use Rattle.dbtg_unit.specs.Database.Statements.Found.{chosen, chosen_by_key, found, found_unless, is_lost, keys_in_area, needs_position, with_calc, with_current}
use Rattle.dbtg_unit.specs.Database.Statements.StoredFacts.{whole}
use Rattle.dbtg_refusal.specs.declared.obstacle.Obstacle.TheVariants as obstacle
use Rattle.dbtg_refusal.specs.Obstacles.{holder_in, obstacle_of}
use Rattle.dbtg_refusal.proofs.FirstCauses.{first_in, map_some, none_holds}
use Rattle.dbtg_refusal.proofs.RefusedAtOnce.{at_once}
use Rattle.dbtg_refusal.proofs.RefusedOnCells.{lost_at, on_cells}

-- WHAT A FIND FINDS

-- an error that is this cause
same_error : {X : Type 0} (c why : Cause) → ◌≡◌ {A = Result X Cause} (Err c) (Err why) → c ≡ why
same_error c why h = cc (h)

-- a search that can be refused: the conditions refuse it, or nothing is found
unless : (o : Option Cause) (key : Option DbKey) (none why : Cause) → found_unless o key none ≡ Err why → (o ≡ Some why) ⊎ (none ≡ why)
unless (Some c) key none why h = inl (ap Some (same_error c why h))
unless None (Some k) none why h = absurd (cc (h))
unless None None none why h = inr (same_error none why h)

-- a record that is looked at: it is not there
not_live : (b : Bool) (k : DbKey) (c why : Cause) → cond b (Ok k) (Err c) ≡ Err why → c ≡ why
not_live true k c why h = absurd (cc (h))
not_live false k c why h = same_error c why h

done_not_refused : (why : Cause) → Done ≡ Refused why → ⊥
done_not_refused why h = cc (h)

module _ (schema : Lists) (capacity : ℕ) (db : Database) (unit : Unit) where
  abbrev Has : Statement → Cause → Type 0
  Has x why = is_some (obstacle_of schema capacity db unit x why) ≡ true

  has : (x : Statement) (why : Cause) {c : Cause} → c ≡ why → Has x c → Has x why
  has x why same h = subst (Has x) same h

  -- a current: there is none, or its record is deleted
  of_current : (x : Statement) (why : Cause) (o : Option DbKey) → Has x cause.NoSuchCurrent → (is_some o ≡ true → Has x cause.Deleted) → with_current o (λ k. cond (is_live db k) (Ok k) (Err cause.Deleted)) ≡ Err why → Has x why
  of_current x why None lacking deleted h = has x why (same_error _ why h) lacking
  of_current x why (Some k) lacking deleted h = has x why (not_live (is_live db k) k cause.Deleted why h) (deleted refl)

  of_search : {X : Type 0} (x : Statement) (why none : Cause) (key : X → Option DbKey) (checks : X → List (Bool × Cause)) (o : Option X) → Has x cause.NoSuchCurrent → Has x none
      → ((at : X) → o ≡ Some at → first_cause (checks at) ≡ Some why → Has x why) → with_current o (λ at. found_unless (first_cause (checks at)) (key at) none) ≡ Err why → Has x why
  of_search x why none key checks None lacking in_vain refused h = has x why (same_error _ why h) lacking
  of_search x why none key checks (Some at) lacking in_vain refused h =
      elim (unless (first_cause (checks at)) (key at) none why h) [
        | inl p ↦ refused at refl p
        | inr same ↦ has x why same in_vain
      ]

  in_vain : (x : Statement) (why none : Cause) (key : Option DbKey) → Has x none → found_unless None key none ≡ Err why → Has x why
  in_vain x why none key there h = elim (unless None key none why h) [ inl p ↦ absurd (cc (p)) | inr same ↦ has x why same there ]

  run_unit_has : (suppress : Suppress) (why : Cause) (o : Option DbKey) → unit.currency.run_unit ≡ o → is_none unit.currency.run_unit ≡ false → with_current o (λ k. cond (is_live db k) (Ok k) (Err cause.Deleted)) ≡ Err why
      → Has (Find suppress CurrentOfUnit) why
  run_unit_has suppress why None is some h = absurd (false≢true (sym some ∙ ap is_none is))
  run_unit_has suppress why (Some k) is some h = has (Find suppress CurrentOfUnit) why (not_live (is_live db k) k cause.Deleted why h) (map_some obstacle.Record unit.currency.run_unit ∙ ap is_some is)

  find_has : (form : Form) (suppress : Suppress) (why : Cause) → refused_at_once schema capacity unit (Find suppress form) ≡ None → found schema capacity db unit form ≡ Err why → Has (Find suppress form) why
  find_has (Key k) suppress why passed h = has (Find suppress (Key k)) why (not_live (is_live db k) k cause.NoneSatisfies why h) refl
  find_has CurrentOfUnit suppress why passed h = run_unit_has suppress why unit.currency.run_unit refl (none_holds (checks_at_once schema capacity unit (Find suppress CurrentOfUnit)) passed).0 h
  find_has (CurrentOfType r) suppress why passed h = of_current (Find suppress (CurrentOfType r)) why (at unit.currency.types r) refl (λ there. map_some obstacle.Record (at unit.currency.types r) ∙ there) h
  find_has (CurrentOfSet s) suppress why passed h =
      of_current (Find suppress (CurrentOfSet s)) why (option_and_then key_of_place (place_in schema unit s)) refl (λ there. map_some obstacle.Record (option_and_then key_of_place (place_in schema unit s)) ∙ there) h
  find_has (CurrentOfArea a) suppress why passed h = of_current (Find suppress (CurrentOfArea a)) why (at unit.currency.areas a) refl (λ there. map_some obstacle.Record (at unit.currency.areas a) ∙ there) h
  find_has (InSet which r s) suppress why passed h =
      of_search (Find suppress (InSet which r s)) why cause.End
      (λ (place : Place). chosen which (has_type r) place.at (members_of db s place.owner))
      (λ (place : Place). (is_none (db.lists s place.owner), cause.Deleted) ∷ (needs_position which && is_lost place.at (members_of db s place.owner), cause.PositionLost) ∷ [])
      (place_in schema unit s) refl refl
      (λ place is p. elim (first_in ((is_none (db.lists s place.owner), cause.Deleted) ∷ (needs_position which && is_lost place.at (members_of db s place.owner), cause.PositionLost) ∷ []) why p) [
        | inl q ↦ has (Find suppress (InSet which r s)) why q.1 refl
        | inr q ↦ elim q.1 [
          | inl w ↦ has (Find suppress (InSet which r s)) why w.1
              (map_some _ _ ∙ ap (λ (o : Option Place). is_some (unwrap_or o (record { owner = System; at = None })).at) is ∙ lost_at place.at (members_of db s place.owner) (and_parts _ _ w.0).1)
          | inr w ↦ absurd w.1
        ]
      ]) h
  find_has (InArea which r a) suppress why passed h = in_vain (Find suppress (InArea which r a)) why cause.End (chosen_by_key which (at unit.currency.areas a) (keys_in_area schema capacity db r a)) refl h
  find_has (OwnerOf s) suppress why passed h =
      of_current (Find suppress (OwnerOf s)) why (option_and_then (λ (place : Place). key_of_place (record place { at = None })) (place_in schema unit s)) refl (λ there. refl) h
  find_has (Calc r values) suppress why passed h = in_vain (Find suppress (Calc r values)) why cause.NoneSatisfies (first (with_calc schema capacity db r values)) refl h
  find_has (NextDuplicate r) suppress why passed h =
      of_search (Find suppress (NextDuplicate r)) why cause.End
      (λ k. first (filter (key_below k) (with_calc schema capacity db r (calc_items schema r (items_of db k)))))
      (λ k. (not (is_live db k), cause.Deleted) ∷ [])
      (at unit.currency.types r) refl refl
      (λ k is p. elim (first_in ((not (is_live db k), cause.Deleted) ∷ []) why p) [
        | inl q ↦ has (Find suppress (NextDuplicate r)) why q.1 (map_some obstacle.Record (at unit.currency.types r) ∙ ap is_some is)
        | inr q ↦ absurd q.1
      ]) h
  find_has (Sorted s value) suppress why passed h =
      of_search (Find suppress (Sorted s value)) why cause.NoneSatisfies
      (λ (place : Place). find (λ k. some_and (value_eq value) (sort_key schema db s k)) (members_of db s place.owner))
      (λ (place : Place). (is_none (db.lists s place.owner), cause.Deleted) ∷ [])
      (place_in schema unit s) refl refl
      (λ place is p. elim (first_in ((is_none (db.lists s place.owner), cause.Deleted) ∷ []) why p) [
        | inl q ↦ has (Find suppress (Sorted s value)) why q.1 refl
        | inr q ↦ absurd q.1
      ]) h

  -- WHAT NO CHECK REFUSES

  finding_has : (form : Form) (suppress : Suppress) (why : Cause) (after : DbKey → Unit) → refused_at_once schema capacity unit (Find suppress form) ≡ None → (r : Result DbKey Cause) → found schema capacity db unit form ≡ r
      → (finding db unit r after).answer.status ≡ Refused why → Has (Find suppress form) why
  finding_has form suppress why after passed (Ok k) is h = absurd (cc (h))
  finding_has form suppress why after passed (Err c) is h = let same : c ≡ why = cc (h) in find_has form suppress why passed (is ∙ ap Err same)

  on_current : (x : Statement) (why : Cause) (o : Option DbKey) (f : DbKey → StatementEffect) → ((k : DbKey) → (f k).answer.status ≡ Done) → (done_on_current db unit o f).answer.status ≡ Refused why → Has x why
  on_current x why None f fine h = let same : cause.NoCurrentOfRunUnit ≡ why = cc (h) in has x why same refl
  on_current x why (Some k) f fine h = absurd (done_not_refused why (sym (fine k) ∙ h))

  not_done : (x : Statement) (why : Cause) → refused_at_once schema capacity unit x ≡ None → (done_on_cells schema capacity db unit x).answer.status ≡ Refused why → Has x why
  not_done (OpenArea a mode) why passed h = absurd (done_not_refused why h)
  not_done (CloseArea a) why passed h = absurd (done_not_refused why h)
  not_done (Find suppress form) why passed h = finding_has form suppress why _ passed (found schema capacity db unit form) refl h
  not_done (Get r) why passed h = on_current (Get r) why unit.currency.run_unit _ (λ k. refl) h
  not_done (Store t items suppress) why passed h = absurd (done_not_refused why h)
  not_done (Insert s) why passed h = on_current (Insert s) why unit.currency.run_unit _ (λ k. refl) h
  not_done (Remove s) why passed h = on_current (Remove s) why unit.currency.run_unit _ (λ k. refl) h
  not_done (Modify t changes) why passed h = on_current (Modify t changes) why unit.currency.run_unit _ (λ k. refl) h
  not_done (Delete option) why passed h = on_current (Delete option) why unit.currency.run_unit _ (λ k. refl) h
  not_done Keep why passed h = on_current Keep why unit.currency.run_unit _ (λ k. refl) h
  not_done (Free true) why passed h = absurd (done_not_refused why h)
  not_done (Free false) why passed h = on_current (Free false) why unit.currency.run_unit _ (λ k. refl) h

  -- EACH REFUSAL

  on_checks : (x : Statement) (why : Cause) → refused_at_once schema capacity unit x ≡ None → (o : Option Cause) → first_cause (checks_on_cells schema (whole schema capacity db) unit x) ≡ o
      → (unless_refused db unit o (done_on_cells schema capacity db unit x)).answer.status ≡ Refused why → Has x why
  on_checks x why passed None is h = not_done x why passed h
  on_checks x why passed (Some c) is h = let same : c ≡ why = cc (h) in on_cells schema capacity db unit x why (is ∙ ap Some same)

  at_first : (x : Statement) (why : Cause) → IsSound schema → fits schema x ≡ true → (o : Option Cause) → refused_at_once schema capacity unit x ≡ o
      → (unless_refused db unit o (effect_on_cells schema capacity db unit x)).answer.status ≡ Refused why → Has x why
  at_first x why sound fit None is h = on_checks x why is (first_cause (checks_on_cells schema (whole schema capacity db) unit x)) refl h
  at_first x why sound fit (Some c) is h =
      let same : c ≡ why = cc (h) in at_once schema capacity (whole schema capacity db) (holder_in schema capacity db) unit x why sound fit (is ∙ ap Some same)

  pub each_refusal : (x : Statement) (why : Cause) → IsSound schema → fits schema x ≡ true → (effect schema capacity db unit x).answer.status ≡ Refused why → Has x why
  unfolding effect
  each_refusal x why sound fit h = at_first x why sound fit (refused_at_once schema capacity unit x) refl h
