-- Memory that is refused where a need is asked for stands in the place of an event: a DELETE that has its areas waits for
-- nobody.
use Rattle.std.proofs.Common.{ℕ, ◌≡◌, ◌≢◌, ◌<◌, ◌-◌, Bool, true, false, ◌&&◌, List, [], Option, Some, None, drop, slice_get, refl, sym, ap, ◌∙◌, suc}
use Rattle.std.specs.Prelude.{is_some, not, ◌==◌, if◌then◌else◌, Result, Ok, Err, OnErr}
use Rattle.std.specs.List.{find, list_any}
use Rattle.std.proofs.lemmas.Bool.{false≢true}
use Rattle.std.proofs.lemmas.Option.{none-some}
use Rattle.dbtg_schema.specs.Lists.{Lists}
use Rattle.dbtg_schema.specs.Lookups.{at as guess_at, some_and}
use Rattle.dbtg_cells.specs.declared.key.DbKey.{DbKey}
use Rattle.dbtg_cells.specs.declared.key.Owner.{Owner}
use Rattle.dbtg_cells.specs.declared.cell.Cell.{Cell}
use Rattle.dbtg_cells.specs.declared.name.CellName.{CellName}
use Rattle.dbtg_cells.specs.Names.{name_eq, name_below}
use Rattle.dbtg_cells.specs.CellNumbers.{cell_number}
use Rattle.dbtg_cells.proofs.Public.{has_number}
use Rattle.dbtg_unit.specs.declared.held.Need.TheVariants.{Take, Ready}
use Rattle.dbtg_unit.specs.declared.statement.Statement.{Statement}
use Rattle.dbtg_unit.specs.declared.statement.Statement.TheVariants.{OpenArea, CloseArea, Find, Get, Store, Insert, Remove, Modify, Delete, Keep, Free}
use Rattle.dbtg_unit.specs.declared.unit.Unit.{Unit}
use Rattle.dbtg_unit.specs.declared.moves.Stepped.TheVariants.{NoMemory}
use Rattle.dbtg_unit.specs.Database.State.Base.{Database, is_live, owner_of}
use Rattle.dbtg_unit.specs.Database.Statements.Checks.{refused_at_once}
use Rattle.dbtg_unit.specs.Hands.Hands.{Hands}
use Rattle.dbtg_unit.specs.Hands.Needs.{areas_in_order, cells_of, is_stale, is_wrong_guess, need, next_of}
use Rattle.dbtg_step.specs.declared.parts.Parts.{Parts}
use Rattle.dbtg_step.specs.declared.parts.UnitState.{UnitState}
use Rattle.dbtg_step.specs.declared.parts.StatementProgress.{StatementProgress}
use Rattle.dbtg_step.specs.Machine.SequentialDatabase.{NeedsArea, StaleGuesses}
use Rattle.dbtg_step.specs.Machine.Machine.{State}
use Rattle.dbtg_step.specs.Machine.Step.{MovedTo, next_need, step}
use Rattle.dbtg_step.specs.Inside.NeverStuck.{InTurn}
use Rattle.dbtg_step.specs.Machine.Network.{is_delete, network, next_need_of}
use Rattle.dbtg_step.specs.Core.Parts.{held_cells_of, progress_of, shown_progress, unit_state_of}
use Rattle.dbtg_step.specs.Inside.Parts.{state_of}
use Rattle.dbtg_step.specs.Machine.NeedOrder.{HasItsAreas}
use Rattle.dbtg_step.specs.Inside.Stands.{StandsNeeding}
use Rattle.dbtg_step.specs.Inside.Events.{IsStepped, IsWell, NeedsNext, noted_now, opening_for}
use Rattle.dbtg_step.proofs.TheCore.EventsShown.{drop_found, found}
use Rattle.dbtg_step.proofs.TheCore.FollowsShown.{refused_is, statement, wants}
use Rattle.dbtg_step.proofs.Network.NameOrder.{names_are_ordered}
use Rattle.dbtg_step.proofs.Network.NeededCellsExist.{needed_is_cell}
use Rattle.dbtg_step.proofs.TheCore.NeedsShown.{agrees_now, database_now, need_of_holding}
use Rattle.dbtg_step.proofs.Network.NetworkFacts.{needs_in_order, network_is_sequential}
use Rattle.dbtg_step.proofs.Network.NetworkNeeds.{needed_not_in_hand, chose_area}
use Rattle.dbtg_step.proofs.Runs.Ordered.{ordered}
use Rattle.dbtg_step.proofs.Runs.Waiting.{exclusive_moves}
use Rattle.dbtg_step.proofs.EachEvent.UnitLists.{set_same_at}

-- with all areas held none is needed
no_area_needed : (schema : Lists) (capacity : ℕ) (db : Database) (unit : Unit) (hands : Hands) (x : Statement) → HasItsAreas schema unit hands x → (others : List (Option Owner)) (a : ℕ) → next_need_of others (need schema capacity db unit hands x) ≡ NeedsArea a → ⊥
unfolding need
no_area_needed schema capacity db unit hands x has others a e =
    let first = find (λ b. not (list_any (λ c. c == b) hands.areas)) (areas_in_order schema unit x) in
    let wanted : first ≡ Some a =
    (chose_area others (is_some (refused_at_once schema capacity unit x)) first (find (λ c. not (list_any (λ (f : CellName × Cell). name_eq c f.0) hands.cells)) (cells_of schema capacity db unit hands.guesses x)) (is_stale schema capacity db unit hands.guesses x) a e).1 in
    none-some a (sym has.areas ∙ wanted)

-- a DELETE goes by no guesses
module _ (schema : Lists) (capacity : ℕ) (db : Database) (unit : Unit) (guesses : List (Option Owner)) where
  no_wrong_guess : (current : Option DbKey) → some_and (λ k. is_live db k && list_any (λ s. is_wrong_guess (owner_of schema capacity db s k) (guess_at guesses s)) []) current ≡ false
  no_wrong_guess None = refl
  no_wrong_guess (Some k) = elim (is_live db k) as (λ b. b && false ≡ false) [ true ↦ refl | false ↦ refl ]

  delete_is_not_stale : (x : Statement) → is_delete x ≡ true → is_stale schema capacity db unit guesses x ≡ false
  delete_is_not_stale (OpenArea a mode) e = absurd (cc (e))
  delete_is_not_stale (CloseArea a) e = absurd (cc (e))
  delete_is_not_stale (Find suppress form) e = absurd (cc (e))
  delete_is_not_stale (Get r) e = absurd (cc (e))
  delete_is_not_stale (Store t items suppress) e = absurd (cc (e))
  delete_is_not_stale (Insert s) e = absurd (cc (e))
  delete_is_not_stale (Remove s) e = absurd (cc (e))
  delete_is_not_stale (Modify t changes) e = absurd (cc (e))
  delete_is_not_stale (Delete option) e = no_wrong_guess unit.currency.run_unit
  delete_is_not_stale Keep e = absurd (cc (e))
  delete_is_not_stale (Free all) e = absurd (cc (e))

-- so it doesn't turn back
not_stale_choice : (guesses others : List (Option Owner)) (b : Bool) (oa : Option ℕ) (oc : Option CellName) (stale : Bool) → stale ≡ false → next_need_of guesses (if b then Ready else next_of oa oc stale) ≢ StaleGuesses others
not_stale_choice guesses others true oa oc stale f e = absurd (cc (e))
not_stale_choice guesses others false (Some a) oc stale f e = absurd (cc (e))
not_stale_choice guesses others false None (Some c) stale f e = absurd (cc (e))
not_stale_choice guesses others false None None true f e = absurd (cc (f))
not_stale_choice guesses others false None None false f e = absurd (cc (e))

delete_goes_onward : (schema : Lists) (capacity : ℕ) (db : Database) (unit : Unit) (hands : Hands) (x : Statement) → is_delete x ≡ true → (guesses others : List (Option Owner)) → next_need_of guesses (need schema capacity db unit hands x) ≢ StaleGuesses others
unfolding need
delete_goes_onward schema capacity db unit hands x deletes guesses others =
    not_stale_choice guesses others (is_some (refused_at_once schema capacity unit x)) (find (λ a. not (list_any (λ b. b == a) hands.areas)) (areas_in_order schema unit x)) (find (λ c. not (list_any (λ (f : CellName × Cell). name_eq c f.0) hands.cells)) (cells_of schema capacity db unit hands.guesses x))
    (is_stale schema capacity db unit hands.guesses x) (delete_is_not_stale schema capacity db unit hands.guesses x deletes)

module _ (schema : Lists) (capacity u : ℕ) (old : Parts) (r : UnitState) (well : IsWell schema capacity old) (numbered : 0 < u) (at : slice_get old.runners.items (u - 1) ≡ Some r) (w : StatementProgress) (s : StandsNeeding r w) where
  -- a DELETE that has its areas waits for nobody
  pub delete_moves : ((x : Statement) → slice_get r.script r.next ≡ Some x → HasItsAreas schema r.unit r.held x) →
      (after : State (network schema capacity)) × (step (network schema capacity) (opening_for schema capacity old) (state_of schema capacity old) u ≡ MovedTo after)
  unfolding next_need
  delete_moves f =
      let x = statement schema capacity u old r well numbered at w s in
      let has = f x.0 x.1 in
      let opening = opening_for schema capacity old in
      let state = unit_state_of schema capacity r in
      let progress = shown_progress schema capacity r.held w in
      let here = found schema capacity u old r well numbered at in
      let is = ap (progress_of schema capacity r.held) s.before.progress in
      let remaining = drop_found r.script r.next x.0 x.1 in
      let order = ordered (network schema capacity) (network_is_sequential schema capacity well.sound) name_below (needs_in_order schema capacity well.sound) opening (state_of schema capacity old) well.lawful well.in_turn in
      let turn : InTurn (network schema capacity) name_below state progress = well.in_turn.each u state progress here is s.before.ticket in
      let same : turn.x ≡ x.0 = (let both = sym turn.remaining ∙ remaining in cc (both)) in
      let alone : w.exclusive ≡ true = turn.exclusive ∙ (ap is_delete same ∙ has.deletes) in
      let db = database_now schema capacity u old r well numbered at in
      let moves = exclusive_moves (network schema capacity) (network_is_sequential schema capacity well.sound) opening name_below names_are_ordered (state_of schema capacity old) well.lawful order u state progress here is x.0 (drop (suc r.next) r.script)
      s.before.ticket remaining (λ t. ap held_cells_of (s.turned t)) alone (next_need_of (noted_now schema capacity old r x.0) (need schema capacity db r.unit r.held x.0)) (ap (next_need_of (noted_now schema capacity old r x.0)) (need_of_holding schema capacity db r.unit x.0 r.held)) (no_area_needed schema capacity db r.unit r.held x.0 has (noted_now schema capacity old r x.0)) in
      (moves.after, moves.event)

  pub need_refused : ((x : Statement) → slice_get r.script r.next ≡ Some x → HasItsAreas schema r.unit r.held x) → IsStepped schema capacity u NoMemory old old
  unfolding next_need
  need_refused f =
      let x = statement schema capacity u old r well numbered at w s in
      let has = f x.0 x.1 in
      let db = database_now schema capacity u old r well numbered at in
      let moves = delete_moves f in
      let wanting = wants schema capacity u old r well numbered at w s moves.0 moves.1 (next_need_of (noted_now schema capacity old r x.0) (need schema capacity db r.unit r.held x.0)) (ap (next_need_of (noted_now schema capacity old r x.0)) (need_of_holding schema capacity db r.unit x.0 r.held)) (delete_goes_onward schema capacity db r.unit r.held x.0 has.deletes (noted_now schema capacity old r x.0)) in
      refused_is schema capacity u old r well numbered at w s wanting old r refl refl (sym (set_same_at old.runners.items (u - 1) r at)) refl (well.runners (u - 1) r at)

-- what follows from what an Err has
pub err_also : {T E : Type 0} (r : Result T E) (P Q : Type 0) → (P → Q) → OnErr r P → OnErr r Q
err_also (Ok t) P Q f h = tt
err_also (Err e) P Q f h = f h

module _ (schema : Lists) (capacity u : ℕ) (old : Parts) (r : UnitState) (well : IsWell schema capacity old) (numbered : 0 < u) (at : slice_get old.runners.items (u - 1) ≡ Some r) (w : StatementProgress) (s : StandsNeeding r w) where
  -- a cell that is needed has a number
  pub needed_has_number : (c : CellName) → NeedsNext schema capacity old u w (Take c) → cell_number schema capacity c ≡ None → ⊥
  needed_has_number c needs e =
      let x = statement schema capacity u old r well numbered at w s in
      let here = found schema capacity u old r well numbered at in
      let exists = needed_is_cell schema capacity well.sound (opening_for schema capacity old) (state_of schema capacity old) well.lawful u (unit_state_of schema capacity r) (shown_progress schema capacity r.held w) x.0 (drop (suc r.next) r.script) c here (well.guesses u (unit_state_of schema capacity r) here) (drop_found r.script r.next x.0 x.1) (needs r x.0 at x.1).is in
      false≢true (sym (ap is_some e) ∙ (has_number schema capacity c ∙ exists))

  -- and isn't held
  pub needed_is_free : (c : CellName) → NeedsNext schema capacity old u w (Take c) → list_any (λ (e : CellName × Cell). name_eq c e.0) r.held.cells ≡ false
  needed_is_free c needs =
      let x = statement schema capacity u old r well numbered at w s in
      needed_not_in_hand schema capacity (database_now schema capacity u old r well numbered at) r.unit r.held x.0 c
      ((needs r x.0 at x.1).everywhere (database_now schema capacity u old r well numbered at) (agrees_now schema capacity u old r well numbered at))
