-- What a DELETE that needs nothing more prepares can be made of the held cells.
use Rattle.std.proofs.Common.{◌≡◌, refl, sym, ◌∙◌, ap, subst, ℕ, ◌≤◌, arith, true, false, cond, List, [], length, Option, Some, None, map}
use Rattle.std.specs.Prelude.{Result, Ok, Err, IfOk, is_some, option_map, unwrap_or}
use Rattle.std.specs.List.{flat_map, list_all, list_any}
use Rattle.std.proofs.lemmas.Bool.{and_parts, eqb-true, false≢true, false_from_ne_true, not-true, not_from_false}
use Rattle.std.proofs.lemmas.Option.{none-some}
use Rattle.dbtg_schema.specs.Lists.{Lists}
use Rattle.dbtg_cells.specs.declared.cell.Cell.{Cell}
use Rattle.dbtg_cells.specs.declared.cell.Cell.TheVariants.{Usage as UsageCell, Extent as ExtentCell, Ring as RingCell, Slot as SlotCell}
use Rattle.dbtg_cells.specs.declared.key.DbKey.{DbKey}
use Rattle.dbtg_cells.specs.declared.key.Owner.{Owner}
use Rattle.dbtg_cells.specs.declared.name.CellName.{CellName}
use Rattle.dbtg_cells.specs.declared.name.CellName.TheVariants.{Ring, Slot}
use Rattle.dbtg_cells.specs.Cells.{shown}
use Rattle.dbtg_cells.specs.Keys.{is_member, key_eq}
use Rattle.dbtg_cells.specs.Members.{keys_in}
use Rattle.dbtg_cells.specs.Names.{name_eq}
use Rattle.dbtg_cells.specs.Numbers.{is_used}
use Rattle.dbtg_cells.specs.Shown.{CellValue, SlotValue}
use Rattle.dbtg_cells.proofs.Public.{key_eq_refl}
use Rattle.dbtg_unit.specs.declared.edit.CellEdit.{CellEdit}
use Rattle.dbtg_unit.specs.declared.edit.Edit.TheVariants.{Vacate}
use Rattle.dbtg_unit.specs.declared.statement.Erase.{Erase}
use Rattle.dbtg_unit.specs.declared.statement.Statement.TheVariants.{Delete}
use Rattle.dbtg_unit.specs.declared.unit.Unit.{Unit}
use Rattle.dbtg_unit.specs.Database.State.Base.{Database, Record, calc_items, is_live, key_at, owner_of, sort_key}
use Rattle.dbtg_unit.specs.Database.State.CellNames.{place_of, slot_name}
use Rattle.dbtg_unit.specs.Database.State.Cells.{cell, number_of, owner_at, ring_of, slot_of}
use Rattle.dbtg_unit.specs.Hands.Edits.{edited_at}
use Rattle.dbtg_unit.specs.Hands.EditsOf.{closing_edits, delete_edits, leave_number, leaving_edits, left_behind, losing_edits, slot_edit, staying_owner}
use Rattle.dbtg_unit.specs.Database.Statements.Effect.{is_gone}
use Rattle.dbtg_unit.specs.Hands.Erasing.{delete_cells, doomed_in_turn, members_of_all}
use Rattle.dbtg_unit.specs.Hands.Hands.{Hands}
use Rattle.dbtg_unit.specs.Database.State.Legal.{differ, pairwise}
use Rattle.dbtg_unit.specs.Hands.Local.{Agrees, holds}
use Rattle.dbtg_unit.specs.Hands.Locality.{IsMadeOnEach, made_by}
use Rattle.dbtg_unit.specs.Hands.Prepared.{Plan}
use Rattle.dbtg_unit.specs.Hands.Making.{CanFinish, CanMake, HaveNextVersions, MayPrepare}
use Rattle.dbtg_unit.proofs.Public.{In, all_at, all_from, firsts_pairs, held_cell_agrees, held_shows, in_member, left_live, left_once, listed_has_occurrence, live_is_latest, may_plan, member_of_owner, met_are_live, met_once, owner_stands_at_place, pairwise_weaker, plan_makes, range_distinct, skips_closings, skips_leavings, skips_map, slots_vacated}
use Rattle.dbtg_erase.specs.Inside.ErasePlan.{whole_plan}
use Rattle.dbtg_erase.proofs.CanErase.{HasNext, IsIn, apart, closings_possible, losings_possible, numbers_possible, places_possible, vacatings_possible}
use Rattle.dbtg_erase.proofs.ErasePlan.{edits_are as planned_edits, left_held}
use Rattle.dbtg_erase.proofs.PlanIsEffect.{Passed, is_prepared, plan_by}
use Rattle.dbtg_erase.proofs.Possible.{Possible, possible_append, possible_can_make}

module _ (schema : Lists) (capacity : ℕ) (db : Database) (hands : Hands) (unit : Unit) (agrees : Agrees schema capacity db hands unit) (option : Erase) (k : DbKey)
    (has : (c : CellName) → In c (delete_cells schema capacity db unit option k) → holds hands.cells c ≡ true) (next : HaveNextVersions hands.cells) (p : Passed schema capacity db unit option k) where
  abbrev turn : List DbKey
  turn = doomed_in_turn schema capacity db option k

  abbrev left : List DbKey
  left = left_behind (members_of_all schema db) turn

  abbrev shows : CellName → CellValue
  shows = cell schema capacity db

  abbrev numbers : List CellEdit
  numbers = map leave_number turn

  abbrev leavings : List CellEdit
  leavings = flat_map (leaving_edits schema (owner_of schema capacity db) turn) turn

  abbrev closings : List CellEdit
  closings = flat_map (closing_edits schema) turn

  abbrev vacatings : List CellEdit
  vacatings = map (λ d. slot_edit d Vacate) turn

  -- different live records do not share a number
  apart_live : (xs : List DbKey) → list_all (is_live db) xs ≡ true → pairwise differ xs ≡ true → pairwise apart xs ≡ true
  apart_live xs live once =
      pairwise_weaker differ apart (is_live db) xs
      (λ x y lx ly d. not_from_false _ (false_from_ne_true _ (λ g.
      let gs = and_parts _ _ g in
      let same : y ≡ x = sym (live_is_latest schema capacity db agrees.legal y ly) ∙ (λ i. key_at db (eqb-true y.rtype x.rtype gs.0 i) (eqb-true y.number x.number gs.1 i)) ∙ live_is_latest schema capacity db agrees.legal x lx in
      false≢true (sym (not-true _ d) ∙ ap (key_eq x) same ∙ key_eq_refl x)))) live once

  turn_live : list_all (is_live db) turn ≡ true
  turn_live = met_are_live schema capacity db agrees.legal option k p.live

  used : (d : DbKey) → In d turn → (1 ≤ d.number) × (d.number ≤ capacity) × (is_used (number_of schema db d.rtype d.number) ≡ true)
  used d i =
      let live = all_at (is_live db) d turn turn_live i in
      let facts = agrees.legal.keys d live in
      let low = facts.1 in
      (omega arith, facts.2, ap (λ x. is_some (option_map (λ (r : Record). calc_items schema d.rtype r.items) (db.records x))) (live_is_latest schema capacity db agrees.legal d live) ∙ there (db.records d) live) where
        there : (r : Option Record) → is_some r ≡ true → is_some (option_map (λ (r : Record). calc_items schema d.rtype r.items) r) ≡ true
        there None h = h
        there (Some r) h = refl

  numbers_can : Possible numbers shows
  unfolding cell
  numbers_can = numbers_possible capacity turn shows (number_of schema db) (λ t. refl) (apart_live turn turn_live (met_once schema capacity db agrees.legal option k p.live)) used

  -- a record is a member in the ring of its owner
  is_in_ring : (d : DbKey) (s : ℕ) (o : Owner) → owner_of schema capacity db s d ≡ Some o → IsIn d (shows (Ring s (place_of o)))
  unfolding cell
  is_in_ring d s o e =
      let member = member_of_owner schema capacity db agrees.legal s o d e in
      let place = owner_stands_at_place schema capacity db agrees.legal s o (listed_has_occurrence schema capacity db agrees.legal s o d member) in (
        option_map (ring_of schema db s (owner_at db (place_of o))) (db.lists s (owner_at db (place_of o))),
        refl,
        subst (λ (q : Owner). is_member d (keys_in (option_map (ring_of schema db s q) (db.lists s q))) ≡ true) (sym place) (of (db.lists s o) member),
      ) where
        of : (l : Option (List DbKey)) → is_member d (unwrap_or l []) ≡ true → is_member d (keys_in (option_map (ring_of schema db s o) l)) ≡ true
        of None h = h
        of (Some list) h = ap (is_member d) (firsts_pairs (sort_key schema db s) list) ∙ h

  stays_of : (q : Option Owner) (o : Owner) → staying_owner turn q ≡ Some o → q ≡ Some o
  stays_of None o h = absurd (none-some o h)
  stays_of (Some q) o h =
      elim (is_gone turn q) as (λ b. cond b None (Some q) ≡ Some o → Some q ≡ Some o) [ true ↦ λ e. absurd (none-some o e) | false ↦ λ e. e ] h

  leavings_can : Possible leavings (λ c. edited_at c numbers (shows c))
  leavings_can =
      places_possible schema (owner_of schema capacity db) turn (range_distinct 0 (length schema.sets)) turn _ (met_once schema capacity db agrees.legal option k p.live)
      (λ d i s j o e. subst (IsIn d) (sym (skips_map (Ring s (place_of o)) leave_number turn (λ x. refl) (shows (Ring s (place_of o))))) (is_in_ring d s o (stays_of (owner_of schema capacity db s d) o e)))

  -- the slot of one that is left behind shows what it did
  slot_shown : (t n : ℕ) → HasNext (shows (Slot t n)) → HasNext (edited_at (Slot t n) vacatings (edited_at (Slot t n) closings (edited_at (Slot t n) leavings (edited_at (Slot t n) numbers (shows (Slot t n))))))
  unfolding cell
  slot_shown t n h =
      let c = Slot t n in
      let o = option_map (slot_of schema capacity db (key_at db t n)) (db.records (key_at db t n)) in
      let same : edited_at c vacatings (edited_at c closings (edited_at c leavings (edited_at c numbers (shows c)))) ≡ SlotValue (cond (list_any (λ d. name_eq c (slot_name d)) turn) None o)
      = ap (edited_at c vacatings)
      (skips_closings schema capacity db unit option k agrees.legal p.live c (λ s q. refl) _ ∙ skips_leavings schema capacity db unit option k agrees.legal p.live c (λ s q. refl) _ ∙ skips_map c leave_number turn (λ d. refl) (shows c))
      ∙ slots_vacated c turn o in
      subst HasNext (sym same) (elim (list_any (λ d. name_eq c (slot_name d)) turn) as (λ b. HasNext (SlotValue (cond b None o))) [ true ↦ λ r e. absurd (cc) | false ↦ h ])

  left_next : (x : DbKey) → In x left → HasNext (shows (slot_name x))
  left_next x i r e =
      let y = held_shows schema capacity db hands unit agrees (slot_name x) (left_held schema capacity db hands unit agrees option k has p.own p.none p.live x i) in
      next (slot_name x) r (y.1 ∙ ap Some (slot_is y.0 (y.2 ∙ e))) where
        slot_is : (y : Cell) → shown y ≡ SlotValue (Some r) → y ≡ SlotCell (Some r)
        slot_is (SlotCell v) h = cc
        slot_is (UsageCell v) h = absurd (cc)
        slot_is (ExtentCell v) h = absurd (cc)
        slot_is (RingCell v) h = absurd (cc)

  losings_can : Possible (flat_map (losing_edits schema (owner_of schema capacity db) turn) left) (λ c. edited_at c vacatings (edited_at c closings (edited_at c leavings (edited_at c numbers (shows c)))))
  losings_can =
      losings_possible schema (owner_of schema capacity db) turn left _
      (apart_live left (all_from (is_live db) left (λ x i. left_live schema capacity db unit option k agrees.legal p.live x (in_member x left i))) (left_once schema capacity db unit option k agrees.legal p.live))
      (λ x i. slot_shown x.rtype x.number (left_next x i))

  pub edits_can : CanMake (delete_edits schema capacity db option k) hands.cells
  edits_can =
      possible_can_make (delete_edits schema capacity db option k) shows hands.cells (λ c x there. held_cell_agrees schema capacity db hands.cells c x agrees.cells there)
      (possible_append numbers _ shows numbers_can
      (possible_append leavings _ _ leavings_can
      (possible_append closings _ _ (closings_possible schema turn _)
      (possible_append vacatings _ _ (vacatings_possible turn _) losings_can))))

module _ (schema : Lists) (capacity : ℕ) (unit : Unit) (hands : Hands) (option : Erase) (may : MayPrepare schema capacity unit hands (Delete option)) where
  can_make : (db : Database) → Agrees schema capacity db hands unit → CanMake (whole_plan schema capacity hands unit option).cells hands.cells
  can_make db agrees =
      plan_by schema capacity unit hands option (may_plan may) db agrees (λ (plan : Plan). CanMake plan.cells hands.cells) (λ cause e. tt)
      (λ k current e has p. subst (λ es. CanMake es hands.cells) (planned_edits schema capacity db hands unit agrees option k has p.own p.none p.live)
      (edits_can schema capacity db hands unit agrees option k has may.versions p))

  -- a DELETE that needs nothing more can finish what it prepares
  pub delete_can_finish : CanFinish schema capacity unit hands (Delete option) (whole_plan schema capacity hands unit option)
  delete_can_finish = record { prepared = is_prepared schema capacity unit hands option (may_plan may); can_make = can_make }

  -- and so makes it, if memory was found, on every database to which the held cells belong
  pub delete_makes : {E : Type 0} (prepared : Result Plan E) → IfOk prepared (λ plan. plan ≡ whole_plan schema capacity hands unit option) → IfOk prepared (λ plan. IsMadeOnEach schema capacity unit hands (Delete option) (made_by schema unit hands plan))
  delete_makes (Ok plan) is =
      subst (λ (p : Plan). IsMadeOnEach schema capacity unit hands (Delete option) (made_by schema unit hands p)) (sym is)
      (plan_makes schema capacity unit (Delete option) (whole_plan schema capacity hands unit option) hands hands may (record { areas = refl; cells = refl; guesses = refl }) delete_can_finish)
  delete_makes (Err e) is = tt
