-- Two views that answer alike where a statement asks have the same plan; and the held cells of a ready statement answer as each
-- database that agrees with them does.
-- k is a key, s a set, v and w views.
use Rattle.std.proofs.Common.{◌≡◌, refl, sym, ◌∙◌, ap, subst, ℕ, ◌<◌, ◌+◌, Bool, true, false, not, List, [], ◌∷◌, ◌++◌, length, map, Option, Some, None, inl, arith}
use Rattle.std.specs.Prelude.{⊤, option_and_then, option_map, unwrap_or}
use Rattle.std.specs.List.{flat_map, list_any}
use Rattle.std.proofs.lemmas.Bool.{false≢true, ltb-true}
use Rattle.dbtg_schema.specs.Lists.{Lists}
use Rattle.dbtg_schema.specs.Lookups.{at, first_cause}
use Rattle.dbtg_schema.specs.Structure.{automatic_sets, order_of, rekeyed_sets, set_numbers}
use Rattle.dbtg_cells.specs.declared.key.DbKey.{DbKey}
use Rattle.dbtg_cells.specs.declared.key.Owner.{Owner}
use Rattle.dbtg_cells.specs.declared.key.Owner.TheVariants.{System}
use Rattle.dbtg_cells.specs.declared.key.Value.{Value}
use Rattle.dbtg_cells.specs.declared.name.CellName.TheVariants.{Ring}
use Rattle.dbtg_unit.specs.declared.edit.CellEdit.{CellEdit}
use Rattle.dbtg_unit.specs.declared.edit.Edit.TheVariants.{ChangeItems, ChangeOwner, EnterUser, RaiseVersion, ReplaceMember, TakeOut}
use Rattle.dbtg_unit.specs.declared.edit.UnitEdit.TheVariants.{Keep as KeepEdit, Leave, Move, Same}
use Rattle.dbtg_unit.specs.declared.statement.Change.{Change}
use Rattle.dbtg_unit.specs.declared.statement.Statement.{Statement}
use Rattle.dbtg_unit.specs.declared.statement.Statement.TheVariants.{OpenArea, CloseArea, Find, Get, Store, Insert, Remove, Modify, Delete, Keep, Free}
use Rattle.dbtg_unit.specs.declared.unit.Cause.{Cause}
use Rattle.dbtg_unit.specs.declared.unit.Cause.TheVariants.{Deleted, UsageConflict}
use Rattle.dbtg_unit.specs.declared.unit.Place.{Place}
use Rattle.dbtg_unit.specs.declared.unit.Unit.{Unit}
use Rattle.dbtg_unit.specs.Database.State.Base.{Database, key_item}
use Rattle.dbtg_unit.specs.Database.State.CellNames.{place_of, slot_name}
use Rattle.dbtg_unit.specs.Database.State.Units.{noted, place_in}
use Rattle.dbtg_unit.specs.Database.Statements.Checks.{about, insert_checks, live_checks, modify_checks, refused_at_once, remove_checks}
use Rattle.dbtg_unit.specs.Database.Statements.Conditions.{calc_taken, changed_items, joined_place, names_calc}
use Rattle.dbtg_unit.specs.Database.Statements.Effect.{conflict}
use Rattle.dbtg_unit.specs.Database.Statements.StoredFacts.{StoredFacts, whole}
use Rattle.dbtg_unit.specs.Hands.Hands.{Hands}
use Rattle.dbtg_unit.specs.Hands.InHand.{in_hand}
use Rattle.dbtg_unit.specs.Hands.Local.{Agrees, holds}
use Rattle.dbtg_unit.specs.Hands.Needs.{current_owner, ring_names, slot_names}
use Rattle.dbtg_unit.specs.Hands.PlanOf.{calc_edits, done_answer, done_plan, inserting, joining_edit, mode_plan, modify_edits, modifying, planned_on_current, removing, replacing_edits, ring_edits, slot_edit, storing}
use Rattle.dbtg_unit.specs.Inside.PlanOf.{plan_of}
use Rattle.dbtg_unit.specs.Hands.Prepared.{Plan}
use Rattle.dbtg_unit.specs.Inside.Prepared.{unless_refusal}
use Rattle.dbtg_unit.proofs.Public.{HasAll, flat_map_agrees, live_in_hand, modify_checks_agree, modify_typed, of_filter, same_calc_beside, In, MayPlan, SameNumbers, SameOccurrence, SameRecord, same_numbers, store_checks_agree, in_left, in_range, in_right, insert_checks_agree, owner_in_hand, passes_without_cells, prepared_has_all, remove_checks_agree, same_occurrence, same_record, some_from_not_none, users_in_hand}
use Rattle.dbtg_plan.specs.Inside.Modifying.{is_rekeyed}
use Rattle.dbtg_plan.proofs.Plans.ModifyHolds.{extent_held, rings_held, slot_held}
use Rattle.dbtg_plan.proofs.Plans.StoreHolds.{extent, joined_held, key_in_hand}

-- the statements that are planned over a view
abbrev pub is_planned : Statement → Bool
is_planned (Find suppress form) = false
is_planned (Delete option) = false
is_planned _ = true

-- this of the current of run-unit, where there is one
abbrev pub OfCurrent : Unit → (DbKey → Type 0) → Type 0
OfCurrent unit P = (k : DbKey) → unit.currency.run_unit ≡ Some k → P k

-- the same of a record that is to have changes: of its CALC items where one is named, and of its owner and occurrence in each set in
-- which it is placed anew
pub record SameToChange (schema : Lists) (v w : StoredFacts) (changes : List Change) (k : DbKey) : Type 0 where
  pub record_is : SameRecord v w k
  pub calc : names_calc schema k.rtype changes ≡ true → v.is_live k ≡ true → (values : List Value) → v.has_calc k.rtype values (Some k) ≡ w.has_calc k.rtype values (Some k)
  pub owners : (s : ℕ) → In s (rekeyed_sets schema k.rtype (map (λ c. c.item) changes)) → v.owner s k ≡ w.owner s k
  pub rings : (s : ℕ) (o : Owner) → In s (rekeyed_sets schema k.rtype (map (λ c. c.item) changes)) → w.owner s k ≡ Some o → SameOccurrence v w s o

-- the same of a record type and of the occurrences that a new record of it joins, where it gets a number and its CALC items are not taken
pub record SameToStore (schema : Lists) (v w : StoredFacts) (unit : Unit) (t : ℕ) (items : List Value) : Type 0 where
  pub numbers : SameNumbers v w t
  pub fresh : v.fresh t ≡ w.fresh t
  pub places : w.is_full t ≡ false → calc_taken schema w t items None ≡ false → (s : ℕ) → In s (automatic_sets schema t) → SameOccurrence v w s (joined_place schema unit s).owner

-- the same where a statement asks
abbrev pub SameFor : Lists → StoredFacts → StoredFacts → Unit → Statement → Type 0
SameFor schema v w unit (OpenArea a mode) = v.users a ≡ w.users a
SameFor schema v w unit (Get r) = OfCurrent unit (SameRecord v w)
SameFor schema v w unit (Store t items suppress) = SameToStore schema v w unit t items
SameFor schema v w unit (Insert s) = OfCurrent unit (λ k. SameRecord v w k × (v.owner s k ≡ w.owner s k) × SameOccurrence v w s (joined_place schema unit s).owner)
SameFor schema v w unit (Remove s) = OfCurrent unit (λ k. SameRecord v w k × (v.owner s k ≡ w.owner s k))
SameFor schema v w unit (Modify t changes) = OfCurrent unit (SameToChange schema v w changes)
SameFor schema v w unit Keep = OfCurrent unit (SameRecord v w)
SameFor schema v w unit _ = ⊤

current_agrees : (current : Option DbKey) (checks checks' : DbKey → List (Bool × Cause)) (plan plan' : DbKey → Plan)
    → ((k : DbKey) → current ≡ Some k → (first_cause (checks k) ≡ first_cause (checks' k)) × (plan k ≡ plan' k))
    → unless_refusal (first_cause (about current checks)) (planned_on_current current plan) ≡ unless_refusal (first_cause (about current checks')) (planned_on_current current plan')
current_agrees None checks checks' plan plan' h = refl
current_agrees (Some k) checks checks' plan plan' h = let is = h k refl in λ i. unless_refusal (is.0 i) (is.1 i)

-- the same record has the same plan of its changes
modifying_agrees : (schema : Lists) (v w : StoredFacts) (unit : Unit) (changes : List Change) (k : DbKey) → SameToChange schema v w changes k → modifying schema v unit changes k ≡ modifying schema w unit changes k
modifying_agrees schema v w unit changes k all =
    λ i. record { answer = done_answer; cells = cells i; versions = (k, all.record_is.version i + 1) ∷ []; unit = Same } where
      sets : List ℕ
      sets = rekeyed_sets schema k.rtype (map (λ c. c.item) changes)

      rings : (items : List Value) → flat_map (replacing_edits schema v unit k items) sets ≡ flat_map (replacing_edits schema w unit k items) sets
      rings items =
          flat_map_agrees (replacing_edits schema v unit k items) (replacing_edits schema w unit k items) sets
          (λ s there. ap (λ (o : Option Owner). ring_edits s o (ReplaceMember (order_of schema s) (option_and_then (λ (place : Place). place.at) (place_in schema unit s)) k (key_item schema s k.rtype items) ∷ [])) (all.owners s there))

      cells : modify_edits schema v unit changes k (changed_items changes (v.items k)) ≡ modify_edits schema w unit changes k (changed_items changes (w.items k))
      cells =
          ap (λ items. modify_edits schema v unit changes k (changed_items changes items)) all.record_is.items
          ∙ (let items = changed_items changes (w.items k) in
          ap (λ (edits : List CellEdit). calc_edits schema changes k items ++ (edits ++ slot_edit k (ChangeItems items) ∷ (slot_edit k RaiseVersion ∷ []))) (rings items))

-- two views that answer alike where a statement asks have the same plan
pub plan_agrees : (schema : Lists) (v w : StoredFacts) (unit : Unit) (statement : Statement) → is_planned statement ≡ true → SameFor schema v w unit statement
    → plan_of schema v unit statement ≡ plan_of schema w unit statement
plan_agrees schema v w unit (OpenArea a mode) planned same = λ i. unless_refusal (first_cause ((list_any (λ e. conflict e.1 mode) (same i), UsageConflict) ∷ [])) (mode_plan a (EnterUser unit.number mode) (Some mode))
plan_agrees schema v w unit (CloseArea a) planned same = refl
plan_agrees schema v w unit (Find suppress form) planned same = absurd (false≢true planned)
plan_agrees schema v w unit (Get r) planned same =
    current_agrees unit.currency.run_unit (live_checks v) (live_checks w) (λ k. done_plan Same (Some k) (Some (v.items k))) (λ k. done_plan Same (Some k) (Some (w.items k)))
    (λ k is. let record_is = same k is in ((λ i. first_cause ((not (record_is.is_live i), Deleted) ∷ [])), (λ i. done_plan Same (Some k) (Some (record_is.items i)))))
plan_agrees schema v w unit (Store t items suppress) planned same = λ i. unless_refusal (store_checks_agree v w unit schema t items same.numbers same.places i) (storing schema unit items suppress (same.fresh i))
plan_agrees schema v w unit (Insert s) planned same =
    current_agrees unit.currency.run_unit (insert_checks schema v unit s) (insert_checks schema w unit s) (inserting schema v unit s) (inserting schema w unit s)
    (λ k is. let all = same k is in (
      ap first_cause (insert_checks_agree v w unit schema s k all.0 all.1 all.2),
      (λ i. record {
        answer = done_answer;
        cells = joining_edit schema unit s k (key_item schema s k.rtype (all.0.items i)) ∷ slot_edit k (ChangeOwner s (Some (joined_place schema unit s).owner)) ∷ slot_edit k RaiseVersion ∷ [];
        versions = (k, all.0.version i + 1) ∷ [];
        unit = Move s (record { owner = (joined_place schema unit s).owner; at = Some k });
      }),
    ))
plan_agrees schema v w unit (Remove s) planned same =
    current_agrees unit.currency.run_unit (remove_checks v unit s) (remove_checks w unit s) (removing v s) (removing w s)
    (λ k is. let all = same k is in (
      ap first_cause (remove_checks_agree v w unit s k all.0 all.1),
      (λ i. record {
        answer = done_answer;
        cells = ring_edits s (all.1 i) (TakeOut k ∷ []) ++ slot_edit k (ChangeOwner s None) ∷ slot_edit k RaiseVersion ∷ [];
        versions = (k, all.0.version i + 1) ∷ [];
        unit = Leave s;
      }),
    ))
plan_agrees schema v w unit (Modify t changes) planned same =
    current_agrees unit.currency.run_unit (modify_checks schema v unit changes) (modify_checks schema w unit changes) (modifying schema v unit changes) (modifying schema w unit changes)
    (λ k is. let all = same k is in (
      modify_checks_agree v w unit schema changes k all.record_is all.calc all.owners all.rings,
      modifying_agrees schema v w unit changes k all,
    ))
plan_agrees schema v w unit (Delete option) planned same = absurd (false≢true planned)
plan_agrees schema v w unit Keep planned same =
    current_agrees unit.currency.run_unit (live_checks v) (live_checks w) (λ k. done_plan (KeepEdit (noted k (v.version k) unit.kept)) None None) (λ k. done_plan (KeepEdit (noted k (w.version k) unit.kept)) None None)
    (λ k is. let record_is = same k is in ((λ i. first_cause ((not (record_is.is_live i), Deleted) ∷ [])), (λ i. done_plan (KeepEdit (noted k (record_is.version i) unit.kept)) None None)))
plan_agrees schema v w unit (Free true) planned same = refl
plan_agrees schema v w unit (Free false) planned same = refl

-- the slot of a current is named
pub current_slot : (current : Option DbKey) (k : DbKey) → current ≡ Some k → In (slot_name k) (slot_names current)
current_slot current k is = subst (λ (o : Option DbKey). In (slot_name k) (slot_names o)) (sym is) (inl refl)

-- a set that a statement names is the schema's
pub in_sets : (schema : Lists) (s : ℕ) → s < length schema.sets → In s (set_numbers schema)
in_sets schema s below = in_range (length schema.sets) 0 s (omega arith) (omega arith)

-- an INSERT that is not refused at once has a current of its set
pub insert_stands : (schema : Lists) (capacity : ℕ) (unit : Unit) (s : ℕ) → refused_at_once schema capacity unit (Insert s) ≡ None → place_in schema unit s ≡ Some (joined_place schema unit s)
insert_stands schema capacity unit s passes =
    let p = some_from_not_none (place_in schema unit s) (passes_without_cells schema capacity unit (Insert s) passes).placed in
    p.1 ∙ ap Some (sym (ap (λ (q : Option Place). unwrap_or q (record { owner = System; at = None })) p.1))

module _ (schema : Lists) (capacity : ℕ) (unit : Unit) (hands : Hands) (db : Database) (agrees : Agrees schema capacity db hands unit) where
  module _ (s : ℕ) where
    pub insert_slot : MayPlan schema capacity unit hands (Insert s) → refused_at_once schema capacity unit (Insert s) ≡ None → OfCurrent unit (λ k. holds hands.cells (slot_name k) ≡ true)
    insert_slot may passes k is =
        (prepared_has_all schema capacity unit hands (Insert s) passes may.ready db agrees).cells (slot_name k)
        (in_right _ (ring_names s (current_owner schema unit s)) (slot_names unit.currency.run_unit) (current_slot unit.currency.run_unit k is))

    pub insert_ring : MayPlan schema capacity unit hands (Insert s) → refused_at_once schema capacity unit (Insert s) ≡ None → holds hands.cells (Ring s (place_of (joined_place schema unit s).owner)) ≡ true
    insert_ring may passes =
        (prepared_has_all schema capacity unit hands (Insert s) passes may.ready db agrees).cells (Ring s (place_of (joined_place schema unit s).owner))
        (in_left _ (ring_names s (current_owner schema unit s)) (slot_names unit.currency.run_unit)
        (subst (λ (p : Option Place). In (Ring s (place_of (joined_place schema unit s).owner)) (ring_names s (option_map (λ (p : Place). p.owner) p))) (sym (insert_stands schema capacity unit s passes)) (inl refl)))

    pub remove_slot : MayPlan schema capacity unit hands (Remove s) → refused_at_once schema capacity unit (Remove s) ≡ None → OfCurrent unit (λ k. holds hands.cells (slot_name k) ≡ true)
    remove_slot may passes k is =
        (prepared_has_all schema capacity unit hands (Remove s) passes may.ready db agrees).cells (slot_name k)
        (in_right _ (ring_names s (at hands.guesses s)) (slot_names unit.currency.run_unit) (current_slot unit.currency.run_unit k is))

  -- the held cells answer as the database does, where a ready statement asks
  pub alike_in_hand : (statement : Statement) → MayPlan schema capacity unit hands statement → refused_at_once schema capacity unit statement ≡ None
      → SameFor schema (in_hand hands) (whole schema capacity db) unit statement
  alike_in_hand (OpenArea a mode) may passes =
      users_in_hand schema capacity db hands unit agrees a ((prepared_has_all schema capacity unit hands (OpenArea a mode) passes may.ready db agrees).cells _ (inl refl))
  alike_in_hand (CloseArea a) may passes = tt
  alike_in_hand (Find suppress form) may passes = tt
  alike_in_hand (Get r) may passes = λ k is.
      same_record schema capacity db hands unit agrees k ((prepared_has_all schema capacity unit hands (Get r) passes may.ready db agrees).cells (slot_name k) (current_slot unit.currency.run_unit k is))
  alike_in_hand (Store t items suppress) may passes = record {
    numbers = same_numbers schema capacity db hands unit agrees t (extent schema capacity unit hands t items suppress may passes db agrees);
    fresh = key_in_hand schema capacity unit hands t items suppress may passes db agrees;
    places = λ room untaken s i. same_occurrence schema capacity db hands unit agrees s (joined_place schema unit s).owner (joined_held schema capacity unit hands t items suppress may passes db agrees room untaken s i);
  }
  alike_in_hand (Insert s) may passes = λ k is. (
    same_record schema capacity db hands unit agrees k (insert_slot s may passes k is),
    sym (owner_in_hand schema capacity db hands unit agrees k (insert_slot s may passes k is) s (in_sets schema s (ltb-true s (length schema.sets) may.fits))),
    same_occurrence schema capacity db hands unit agrees s (joined_place schema unit s).owner (insert_ring s may passes),
  )
  alike_in_hand (Remove s) may passes = λ k is. (
    same_record schema capacity db hands unit agrees k (remove_slot s may passes k is),
    sym (owner_in_hand schema capacity db hands unit agrees k (remove_slot s may passes k is) s (in_sets schema s (ltb-true s (length schema.sets) may.fits))),
  )
  alike_in_hand (Modify t changes) may passes = λ k is.
      let typed = modify_typed schema capacity db unit hands t changes passes k is in
      let has = subst (λ u. HasAll schema capacity db unit hands (Modify u changes)) (sym typed) (prepared_has_all schema capacity unit hands (Modify t changes) passes may.ready db agrees) in
      let slot = slot_held schema capacity db hands unit agrees changes k is has.cells has.fresh in
      let extent = extent_held schema capacity db hands unit agrees changes k is has.cells has.fresh in
      let rings = rings_held schema capacity db hands unit agrees changes k is has.cells has.fresh in
      let rekeyed = λ (s : ℕ) (i : In s (rekeyed_sets schema k.rtype (map (λ c. c.item) changes))). of_filter (λ s. is_rekeyed schema changes k.rtype s) s (set_numbers schema) i in
      record {
        record_is = same_record schema capacity db hands unit agrees k slot;
        calc = λ named there. same_calc_beside schema capacity db hands unit agrees k.rtype (extent named) k refl (live_in_hand schema capacity db hands unit agrees k slot ∙ there);
        owners = λ s i. sym (owner_in_hand schema capacity db hands unit agrees k slot s (rekeyed s i).0);
        rings = λ s o i there. same_occurrence schema capacity db hands unit agrees s o (rings s o (rekeyed s i).1 there);
      }
  alike_in_hand (Delete option) may passes = tt
  alike_in_hand Keep may passes = λ k is.
      same_record schema capacity db hands unit agrees k ((prepared_has_all schema capacity unit hands Keep passes may.ready db agrees).cells (slot_name k) (current_slot unit.currency.run_unit k is))
  alike_in_hand (Free all) may passes = tt
