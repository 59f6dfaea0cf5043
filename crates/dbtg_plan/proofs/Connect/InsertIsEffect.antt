-- What an INSERT prepares is its effect.
-- k is a key, s a set, o an owner, db a database.
use Rattle.std.proofs.Common.{◌≡◌, refl, sym, ◌∙◌, ap, subst, ℕ, ◌+◌, Bool, true, false, cond, not, List, [], ◌∷◌, ◌++◌, length, Option, Some, None}
use Rattle.std.specs.Prelude.{is_none, is_some, option_map, unwrap_or, slice_set}
use Rattle.std.specs.List.{list_all}
use Rattle.std.proofs.lemmas.Bool.{and_from, eq-eqb, false≢true, not-false, ltb-true, or_left}
use Rattle.dbtg_schema.specs.Lists.{Lists}
use Rattle.dbtg_schema.specs.Lookups.{first_cause, some_and}
use Rattle.dbtg_schema.specs.Structure.{member_clause, order_of, pictures}
use Rattle.dbtg_schema.proofs.Public.{none_is, some_from_none}
use Rattle.dbtg_cells.specs.declared.key.DbKey.{DbKey}
use Rattle.dbtg_cells.specs.declared.key.Owner.TheVariants.{System}
use Rattle.dbtg_cells.specs.declared.cell.Cell.TheVariants.{Ring as RingCell}
use Rattle.dbtg_cells.specs.declared.name.CellName.{CellName}
use Rattle.dbtg_cells.specs.declared.name.CellName.TheVariants.{Ring}
use Rattle.dbtg_cells.specs.declared.ring.Occurrence.{Occurrence}
use Rattle.dbtg_cells.specs.Keys.{key_eq, is_member, owner_eq}
use Rattle.dbtg_cells.specs.Members.{keys_in}
use Rattle.dbtg_cells.proofs.Public.{key_eq_refl, owner_eq_refl}
use Rattle.dbtg_unit.specs.Database.Statements.Checks.{about, own_checks, insert_checks, place_checks, accepts_type, refused_at_once}
use Rattle.dbtg_unit.specs.declared.edit.CellEdit.{CellEdit}
use Rattle.dbtg_unit.specs.declared.edit.Edit.TheVariants.{ChangeOwner}
use Rattle.dbtg_unit.specs.declared.statement.Statement.{Statement}
use Rattle.dbtg_unit.specs.declared.statement.Statement.TheVariants.{Insert}
use Rattle.dbtg_unit.specs.declared.unit.Cause.{Cause}
use Rattle.dbtg_unit.specs.declared.unit.Cause.TheVariants.{AlreadyMember, ChangedByAnother, Deleted}
use Rattle.dbtg_unit.specs.declared.unit.Place.{Place}
use Rattle.dbtg_unit.specs.declared.unit.Unit.{Unit}
use Rattle.dbtg_unit.specs.Database.State.Base.{Database, Record, is_live, items_of, key_item, members_of, owner_of}
use Rattle.dbtg_unit.specs.Hands.CanEdit.{CanPlace}
use Rattle.dbtg_unit.specs.Database.State.CellNames.{place_of, slot_name}
use Rattle.dbtg_unit.specs.Hands.EditsOf.{placed_at}
use Rattle.dbtg_unit.specs.Database.Statements.Effect.{StatementEffect, connected_in, effect, insert_checks, inserted, next_version, place_checks, raised, version_of}
use Rattle.dbtg_unit.specs.Database.Statements.Fits.{values_fit}
use Rattle.dbtg_unit.specs.Hands.Guesses.{guesses_after, noted_guesses}
use Rattle.dbtg_unit.specs.Hands.Hands.{Hands}
use Rattle.dbtg_unit.specs.Hands.InHand.{items_in, occurrence_in, owner_in, stored_in, in_hand}
use Rattle.dbtg_unit.specs.Database.State.Legal.{Legal}
use Rattle.dbtg_unit.specs.Hands.Local.{Agrees, holds}
use Rattle.dbtg_unit.specs.Hands.Making.{CanEditHeld, CanFinish, CanMake, MayPrepare, ShowsTheSame}
use Rattle.dbtg_unit.specs.Hands.Prepared.{IsEffect, IsPrepared, Plan, unit_after, refusal}
use Rattle.dbtg_unit.specs.Inside.Prepared.{unless_refusal}
use Rattle.dbtg_unit.specs.Hands.Reserving.{CanTakeMember, OfHeld}
use Rattle.dbtg_unit.specs.Database.State.Units.{place_in}
use Rattle.dbtg_unit.proofs.Public.{MayPlan, agrees_same, can_make_raised, holds_same, items_in_hand, legal_after, live_in_hand, may_plan, member_connected, member_nowhere, member_owner_found, members_in_hand, occurrence_in_same, owner_in_hand, owner_leaves_version, passes_check, passes_without_cells, same_sym, versions_same}
use Rattle.dbtg_unit.specs.Database.Statements.StoredFacts.{StoredFacts, whole}
use Rattle.dbtg_unit.specs.Hands.PlanOf.{inserting, planned_on_current, joining_edit}
use Rattle.dbtg_unit.specs.Inside.PlanOf.{plan_of}
use Rattle.dbtg_plan.proofs.Plans.EffectIsPlan.{current_plan_is_effect, effect_in_hand, planned_cells}
use Rattle.dbtg_plan.proofs.Plans.SamePlan.{in_sets, insert_ring, insert_slot, insert_stands}
use Rattle.dbtg_unit.specs.Database.Statements.Conditions.{joined_place}
use Rattle.dbtg_plan.specs.Inside.Joining.{joined_occurrence}
use Rattle.dbtg_plan.proofs.Connect.PlacesDecide.{can_join_in_hand}
use Rattle.dbtg_plan.proofs.Plans.IsEffect.{noted_renoted}
use Rattle.dbtg_plan.proofs.Plans.RingEdits.{can_edit_ring, free_owner}

-- what the record's own checks, a test and further checks have passed
pub own_passed : (view : StoredFacts) (unit : Unit) (k : DbKey) (b : Bool) (cause : Cause) (rest : List (Bool × Cause)) → first_cause (own_checks view unit k ++ (b, cause) ∷ rest) ≡ None
    → (view.is_live k ≡ true) × (b ≡ false) × (first_cause rest ≡ None)
own_passed view unit k b cause rest h =
    let there = passes_check _ Deleted _ h in
    let unchanged = passes_check _ ChangedByAnother _ there.1 in
    let apart = passes_check b cause (first_cause rest) unchanged.1 in
    (not-false _ there.0, apart.0, apart.1)

-- the next version of a live record
pub version_raised : (db : Database) (k : DbKey) → is_some (db.records k) ≡ true → version_of (raised (key_eq k) db) k ≡ version_of db k + 1
version_raised db k live =
    ap (λ b. unwrap_or (option_map (λ (r : Record). r.version) (cond b (option_map next_version (db.records k)) (db.records k))) 0) (key_eq_refl k)
    ∙ elim (db.records k) as (λ r. is_some r ≡ true → unwrap_or (option_map (λ (r : Record). r.version) (option_map next_version r)) 0 ≡ unwrap_or (option_map (λ (r : Record). r.version) r) 0 + 1) [
      | None ↦ λ h. absurd (false≢true h)
      | Some r ↦ λ h. refl
    ] live

module _ (schema : Lists) (capacity : ℕ) (unit : Unit) (hands : Hands) (s : ℕ) (may : MayPlan schema capacity unit hands (Insert s)) (passes : refused_at_once schema capacity unit (Insert s) ≡ None) where
  abbrev here : Place
  here = joined_place schema unit s

  stands : place_in schema unit s ≡ Some here
  stands = insert_stands schema capacity unit s passes

  -- the record's type has a member clause in the set
  clause : (k : DbKey) → unit.currency.run_unit ≡ Some k → is_some (member_clause schema s k.rtype) ≡ true
  clause k current =
      not-false _ (ap (λ (r : Option DbKey). some_and (λ t. not (accepts_type schema (Insert s) t)) (option_map (λ (j : DbKey). j.rtype) r)) (sym current) ∙ (passes_without_cells schema capacity unit (Insert s) passes).type_is)

  module _ (db : Database) (agrees : Agrees schema capacity db hands unit) where
    module _ (k : DbKey) (current : unit.currency.run_unit ≡ Some k) (free : first_cause (insert_checks schema (whole schema capacity db) unit s k) ≡ None) where
      abbrev new : Database
      new = (inserted schema db unit s k).database

      own : (is_live db k ≡ true) × (is_some (owner_of schema capacity db s k) ≡ false) × (first_cause (place_checks schema (whole schema capacity db) unit s (key_item schema s k.rtype (items_of db k))) ≡ None)
      own = own_passed (whole schema capacity db) unit k (is_some (owner_of schema capacity db s k)) AlreadyMember (place_checks schema (whole schema capacity db) unit s (key_item schema s k.rtype (items_of db k))) free

      listed : is_some (db.lists s here.owner) ≡ true
      listed = some_from_none (db.lists s here.owner) (passes_check (is_none (db.lists s here.owner)) Deleted _ own.2).0

      -- k is in the list of the current owner
      member : is_member k (members_of new s here.owner) ≡ true
      member =
          member_connected schema db unit (s ∷ []) k s here.owner k
          ∙ or_left _ _ (and_from _ _ (and_from _ _ (and_from _ _ (or_left _ _ (eq-eqb s s refl)) (ap (some_and (λ (p : Place). owner_eq p.owner here.owner)) stands ∙ owner_eq_refl here.owner)) listed) (key_eq_refl k))

      owner_is : effect schema capacity db unit (Insert s) ≡ inserted schema db unit s k → owner_of schema capacity new s k ≡ Some here.owner
      owner_is done =
          member_owner_found schema capacity new (subst (λ (o : StatementEffect). Legal schema capacity o.database) done (legal_after schema capacity db unit hands may.sound may.of_schema may.within (Insert s) may.fits agrees)) s here.owner k member

      unit_is : unit_after schema (inserting schema (whole schema capacity db) unit s k) unit ≡ (inserted schema db unit s k).unit
      unit_is =
          let owner : here.owner ≡ unwrap_or (option_map (λ (place : Place). place.owner) (place_in schema unit s)) System = sym (ap (λ (q : Option Place). unwrap_or (option_map (λ (place : Place). place.owner) q) System) stands) in
          λ i. record unit {
            currency = record unit.currency { sets = slice_set unit.currency.sets s (Some (record { owner = owner i; at = Some k })) };
            kept = noted_renoted k (version_of db k + 1) new (version_raised (connected_in schema db unit (s ∷ []) k) k own.0) unit.kept i;
          }

      guesses_are : effect schema capacity db unit (Insert s) ≡ inserted schema db unit s k → slice_set hands.guesses s (Some here.owner) ≡ guesses_after schema capacity (Insert s) hands.guesses (inserted schema db unit s k)
      guesses_are done =
          ap (slice_set hands.guesses s) (sym (owner_is done))
          ∙ sym (ap (noted_guesses schema capacity new (Insert s) hands.guesses) current)

    pub insert_is_effect : IsEffect schema capacity db unit hands.guesses (Insert s) (plan_of schema (whole schema capacity db) unit (Insert s))
    insert_is_effect =
        current_plan_is_effect schema capacity unit hands (Insert s) may passes db agrees refl (insert_checks schema (whole schema capacity db) unit s) (inserting schema (whole schema capacity db) unit s)
        (inserted schema db unit s) refl refl
        (λ k is free done. record { is_done = refl; answer = refl; unit_is = unit_is k is free; guesses_are = guesses_are k is free done })

  -- what is prepared changes only held cells
  all_held : (db : Database) → Agrees schema capacity db hands unit → list_all (λ (e : CellEdit). holds hands.cells e.name) (plan_of schema (in_hand hands) unit (Insert s)).cells ≡ true
  all_held db agrees =
      planned_cells unit.currency.run_unit (insert_checks schema (in_hand hands) unit s) (inserting schema (in_hand hands) unit s) (λ es. list_all (λ (e : CellEdit). holds hands.cells e.name) es ≡ true) refl
      (λ k current h. let slot = insert_slot schema capacity unit hands db agrees s may passes k current in and_from _ _ (insert_ring schema capacity unit hands db agrees s may passes) (and_from _ _ slot (and_from _ _ slot refl)))

  pub insert_is_prepared : IsPrepared schema capacity unit hands (Insert s) (plan_of schema (in_hand hands) unit (Insert s))
  insert_is_prepared = record { held = all_held; effects = effect_in_hand schema capacity unit hands (Insert s) may passes refl (λ db agrees. insert_is_effect db agrees) }

-- THAT IT CAN BE MADE

-- what is prepared on some hands is prepared on hands that show the same
pub prepared_same : (schema : Lists) (capacity : ℕ) (unit : Unit) (old new : Hands) (statement : Statement) (plan : Plan) → ShowsTheSame old new
    → IsPrepared schema capacity unit old statement plan → IsPrepared schema capacity unit new statement plan
prepared_same schema capacity unit old new statement plan same prepared = record {
  held = λ db agrees. (λ i. list_all (λ (e : CellEdit). holds_same old new same e.name i) plan.cells) ∙ prepared.held db (agrees_same schema capacity db unit new old (same_sym same) agrees);
  effects = λ db agrees.
      subst (λ guesses. IsEffect schema capacity db unit guesses statement plan) (sym same.guesses)
      (prepared.effects db (agrees_same schema capacity db unit new old (same_sym same) agrees));
}

module _ (schema : Lists) (capacity : ℕ) (unit : Unit) (old new : Hands) (s : ℕ) (may : MayPrepare schema capacity unit old (Insert s)) (passes : refused_at_once schema capacity unit (Insert s) ≡ None) (same : ShowsTheSame old new) where
  abbrev ring_cell : CellName
  ring_cell = Ring s (place_of (joined_place schema unit s).owner)

  module _ (k : DbKey) (current : unit.currency.run_unit ≡ Some k) (free : first_cause (insert_checks schema (in_hand old) unit s k) ≡ None) (room : OfHeld ring_cell new.cells (CanTakeMember k)) where
    own_free : (is_some (stored_in old k) ≡ true) × (is_some (owner_in old s k) ≡ false) × (first_cause (place_checks schema (in_hand old) unit s (key_item schema s k.rtype (items_in old k))) ≡ None)
    own_free = own_passed (in_hand old) unit k (is_some (owner_in old s k)) AlreadyMember (place_checks schema (in_hand old) unit s (key_item schema s k.rtype (items_in old k))) free

    occurrence_is : occurrence_in new s (joined_place schema unit s).owner ≡ joined_occurrence schema unit old s
    occurrence_is = occurrence_in_same old new same s (joined_place schema unit s).owner

    module _ (db : Database) (agrees : Agrees schema capacity db old unit) where
      abbrev held_ring : holds old.cells ring_cell ≡ true
      held_ring = insert_ring schema capacity unit old db agrees s (may_plan may) passes

      abbrev held_slot : holds old.cells (slot_name k) ≡ true
      held_slot = insert_slot schema capacity unit old db agrees s (may_plan may) passes k current

      no_member : is_member k (keys_in (joined_occurrence schema unit old s)) ≡ false
      no_member =
          ap (is_member k) (sym (members_in_hand schema capacity db old unit agrees s (joined_place schema unit s).owner held_ring))
          ∙ member_nowhere schema capacity db agrees.legal s k
          (none_is (owner_of schema capacity db s k) (ap is_some (owner_in_hand schema capacity db old unit agrees k held_slot s (in_sets schema s (ltb-true s (length schema.sets) may.fits))) ∙ own_free.1)) (joined_place schema unit s).owner

      can_place_here : CanPlace (order_of schema s) (joined_place schema unit s).at (key_item schema s k.rtype (items_in old k)) (joined_occurrence schema unit old s)
      can_place_here =
          can_join_in_hand schema capacity db old unit agrees s held_ring may.sound k.rtype (items_in old k) (clause schema capacity unit old s (may_plan may) passes k current)
          (ap (values_fit (pictures schema k.rtype)) (sym (items_in_hand schema capacity db old unit agrees k held_slot))
          ∙ agrees.legal.items k (live_in_hand schema capacity db old unit agrees k held_slot ∙ own_free.0))
          own_free.2

      ring_can : CanEditHeld (joining_edit schema unit s k (key_item schema s k.rtype (items_in old k))) new.cells
      ring_can =
          can_edit_ring new s (joined_place schema unit s).owner (placed_at schema s k (key_item schema s k.rtype (items_in old k)) (joined_place schema unit s))
          (ap is_some occurrence_is ∙ some_from_none (joined_occurrence schema unit old s) (passes_check (is_none (joined_occurrence schema unit old s)) Deleted _ own_free.2).0)
          (λ v there is. (
            room (RingCell v) there (ap (λ (o : Option Occurrence). is_member k (keys_in o)) (is ∙ occurrence_is) ∙ no_member),
            subst (CanPlace (order_of schema s) (joined_place schema unit s).at (key_item schema s k.rtype (items_in old k))) (sym (is ∙ occurrence_is)) can_place_here,
          ))

      edits_can_be_made : CanMake (inserting schema (in_hand old) unit s k).cells new.cells
      edits_can_be_made =
          can_make_raised (joining_edit schema unit s k (key_item schema s k.rtype (items_in old k)) ∷ []) (slot_name k) (ChangeOwner s (Some (joined_place schema unit s).owner)) new.cells refl refl
          (ring_can, tt) (λ x there. free_owner s (Some (joined_place schema unit s).owner) x) (owner_leaves_version s (Some (joined_place schema unit s).owner))
          (versions_same old new same may.versions)

    -- an INSERT that nothing refuses
    pub insert_can_finish : CanFinish schema capacity unit new (Insert s) (inserting schema (in_hand old) unit s k)
    insert_can_finish = record {
      prepared = prepared_same schema capacity unit old new (Insert s) (inserting schema (in_hand old) unit s k) same
          (subst (IsPrepared schema capacity unit old (Insert s))
          (ap (λ (r : Option DbKey). unless_refusal (first_cause (about r (insert_checks schema (in_hand old) unit s))) (planned_on_current r (inserting schema (in_hand old) unit s))) current ∙ ap (λ (c : Option Cause). unless_refusal c (inserting schema (in_hand old) unit s k)) free)
          (insert_is_prepared schema capacity unit old s (may_plan may) passes));
      can_make = λ db agrees. edits_can_be_made db (agrees_same schema capacity db unit new old (same_sym same) agrees);
    }

-- an INSERT that is refused
pub refused_insert_can_finish : (schema : Lists) (capacity : ℕ) (unit : Unit) (hands : Hands) (s : ℕ) → MayPrepare schema capacity unit hands (Insert s) → refused_at_once schema capacity unit (Insert s) ≡ None → (cause : Cause)
    → plan_of schema (in_hand hands) unit (Insert s) ≡ refusal cause → CanFinish schema capacity unit hands (Insert s) (refusal cause)
refused_insert_can_finish schema capacity unit hands s may passes cause is =
    record { prepared = subst (IsPrepared schema capacity unit hands (Insert s)) is (insert_is_prepared schema capacity unit hands s (may_plan may) passes); can_make = λ db agrees. tt }
