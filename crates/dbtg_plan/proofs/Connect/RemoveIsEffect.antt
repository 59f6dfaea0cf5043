-- What a REMOVE prepares is its effect.
-- k is a key, s a set, o an owner, db a database.
use Rattle.std.proofs.Common.{◌≡◌, refl, sym, ◌∙◌, ap, subst, ℕ, ◌+◌, Bool, true, false, cond, ◌&&◌, ◌||◌, [], ◌∷◌, ◌++◌, length, Option, Some, None, eqb, inl}
use Rattle.std.specs.Prelude.{is_none, option_map}
use Rattle.std.specs.List.{list_all, list_any}
use Rattle.std.proofs.lemmas.Bool.{and_from, true≢false, not-false, ltb-true, or_parts}
use Rattle.std.proofs.lemmas.List.Folds.{list_all-append}
use Rattle.dbtg_schema.specs.Lists.{Lists}
use Rattle.dbtg_schema.specs.Lookups.{at, first_cause, some_and}
use Rattle.dbtg_cells.specs.declared.key.DbKey.{DbKey}
use Rattle.dbtg_cells.specs.declared.key.Owner.{Owner}
use Rattle.dbtg_cells.specs.declared.name.CellName.TheVariants.{Ring}
use Rattle.dbtg_cells.specs.declared.ring.Occurrence.{Occurrence}
use Rattle.dbtg_cells.specs.Keys.{is_member, owner_eq}
use Rattle.dbtg_cells.specs.Members.{keys_in}
use Rattle.dbtg_cells.proofs.Public.{same_owner}
use Rattle.dbtg_unit.proofs.Public.{In, MayPlan, may_plan, can_make_raised, in_left, listed_in_hand, member_has_list, members_in_hand, owner_has_member, owner_in_hand, owner_leaves_version, prepared_has_all, some_and_value}
use Rattle.dbtg_unit.specs.Database.Statements.Checks.{remove_checks, refused_at_once}
use Rattle.dbtg_unit.specs.declared.edit.CellEdit.{CellEdit}
use Rattle.dbtg_unit.specs.declared.edit.Edit.TheVariants.{ChangeOwner, RaiseVersion, TakeOut}
use Rattle.dbtg_unit.specs.declared.statement.Statement.TheVariants.{Remove}
use Rattle.dbtg_unit.specs.declared.unit.Cause.TheVariants.{NotMember}
use Rattle.dbtg_unit.specs.declared.unit.Unit.{Unit}
use Rattle.dbtg_unit.specs.Database.State.Base.{Database, is_live, members_of, owner_of}
use Rattle.dbtg_unit.specs.Database.State.CellNames.{place_of, slot_name}
use Rattle.dbtg_unit.specs.Hands.EditsOf.{ring_edits, slot_edit}
use Rattle.dbtg_unit.specs.Database.Statements.Effect.{remove_checks, removed, version_of, without}
use Rattle.dbtg_unit.specs.Hands.Guesses.{noted_guesses}
use Rattle.dbtg_unit.specs.Hands.Hands.{Hands}
use Rattle.dbtg_unit.specs.Hands.InHand.{owner_in, in_hand}
use Rattle.dbtg_unit.specs.Hands.Local.{Agrees, holds}
use Rattle.dbtg_unit.specs.Hands.Making.{CanFinish, CanMake, HaveNextVersions, MayPrepare}
use Rattle.dbtg_unit.specs.Hands.Needs.{is_wrong_guess, ring_names, slot_names}
use Rattle.dbtg_unit.specs.Hands.Prepared.{IsEffect, IsPrepared, unit_after}
use Rattle.dbtg_unit.specs.Database.Statements.StoredFacts.{whole}
use Rattle.dbtg_unit.specs.Inside.PlanOf.{plan_of}
use Rattle.dbtg_unit.specs.Hands.PlanOf.{removing}
use Rattle.dbtg_plan.proofs.Plans.EffectIsPlan.{current_plan_is_effect, effect_in_hand, planned_cells}
use Rattle.dbtg_plan.proofs.Plans.SamePlan.{in_sets, remove_slot}
use Rattle.dbtg_plan.proofs.Connect.InsertIsEffect.{own_passed, version_raised}
use Rattle.dbtg_plan.proofs.Plans.IsEffect.{noted_renoted}
use Rattle.dbtg_plan.proofs.Plans.RingEdits.{can_edit_ring, free_owner}

module _ (schema : Lists) (capacity : ℕ) (unit : Unit) (hands : Hands) (s : ℕ) (may : MayPlan schema capacity unit hands (Remove s)) (passes : refused_at_once schema capacity unit (Remove s) ≡ None) where
  module _ (db : Database) (agrees : Agrees schema capacity db hands unit) (k : DbKey) (current : unit.currency.run_unit ≡ Some k) where
    slot_held : holds hands.cells (slot_name k) ≡ true
    slot_held = remove_slot schema capacity unit hands db agrees s may passes k current

    owner_is : owner_of schema capacity db s k ≡ owner_in hands s k
    owner_is = owner_in_hand schema capacity db hands unit agrees k slot_held s (in_sets schema s (ltb-true s (length schema.sets) may.fits))

    pub owner_has : (o : Owner) → owner_in hands s k ≡ Some o → is_member k (members_of db s o) ≡ true
    owner_has o e = owner_has_member schema capacity db s o k (owner_is ∙ e)

    -- the guess is the record's own owner
    guess_is : (o : Owner) → owner_in hands s k ≡ Some o → at hands.guesses s ≡ Some o
    guess_is o e =
        let live = (agrees.legal.members s o k (owner_has o e)).0 in
        let wrong : Bool = is_wrong_guess (owner_of schema capacity db s k) (at hands.guesses s) in
        let fresh : (is_live db k && (wrong || false)) ≡ false =
        sym (ap (λ (r : Option DbKey). some_and (λ j. is_live db j && list_any (λ t. is_wrong_guess (owner_of schema capacity db t j) (at hands.guesses t)) (s ∷ [])) r) current)
        ∙ (prepared_has_all schema capacity unit hands (Remove s) passes may.ready db agrees).fresh in
        let right = (or_parts wrong false (sym (ap (λ b. b && (wrong || false)) live) ∙ fresh)).0 in
        let guess = some_and_value (owner_eq o) (at hands.guesses s) (not-false _ (ap (λ (q : Option Owner). is_wrong_guess q (at hands.guesses s)) (sym (owner_is ∙ e)) ∙ right)) in
        guess.1 ∙ ap Some (sym (same_owner o guess.0 guess.2))

    pub ring_held : (o : Owner) → owner_in hands s k ≡ Some o → holds hands.cells (Ring s (place_of o)) ≡ true
    ring_held o e =
        (prepared_has_all schema capacity unit hands (Remove s) passes may.ready db agrees).cells (Ring s (place_of o))
        (in_left _ (ring_names s (at hands.guesses s)) (slot_names unit.currency.run_unit)
        (subst (λ (g : Option Owner). In (Ring s (place_of o)) (ring_names s g)) (sym (guess_is o e)) (inl refl)))

  module _ (db : Database) (agrees : Agrees schema capacity db hands unit) where
    pub remove_is_effect : IsEffect schema capacity db unit hands.guesses (Remove s) (plan_of schema (whole schema capacity db) unit (Remove s))
    remove_is_effect =
        current_plan_is_effect schema capacity unit hands (Remove s) may passes db agrees refl (remove_checks (whole schema capacity db) unit s) (removing (whole schema capacity db) s) (removed db unit s) refl refl
        (λ k is free done. record { is_done = refl; answer = refl; unit_is = unit_is k free; guesses_are = sym (ap (noted_guesses schema capacity (removed db unit s k).database (Remove s) hands.guesses) is) }) where
          unit_is : (k : DbKey) → first_cause (remove_checks (whole schema capacity db) unit s k) ≡ None → unit_after schema (removing (whole schema capacity db) s k) unit ≡ (removed db unit s k).unit
          unit_is k free =
              let live = (own_passed (whole schema capacity db) unit k (is_none (owner_of schema capacity db s k)) NotMember [] free).0 in
              let raised = version_raised (record db { lists = λ t o. cond (eqb t s) (option_map (without k) (db.lists t o)) (db.lists t o) }) k live in
              λ i. record unit { kept = noted_renoted k (version_of db k + 1) (removed db unit s k).database raised unit.kept i }

  -- what is prepared changes only held cells
  all_held : (db : Database) → Agrees schema capacity db hands unit → list_all (λ (e : CellEdit). holds hands.cells e.name) (plan_of schema (in_hand hands) unit (Remove s)).cells ≡ true
  all_held db agrees = planned_cells unit.currency.run_unit (remove_checks (in_hand hands) unit s) (removing (in_hand hands) s) (λ es. list_all (λ (e : CellEdit). holds hands.cells e.name) es ≡ true) refl by_key where
    ring_held_by : (k : DbKey) → unit.currency.run_unit ≡ Some k → (q : Option Owner) → owner_in hands s k ≡ q → list_all (λ (e : CellEdit). holds hands.cells e.name) (ring_edits s q (TakeOut k ∷ [])) ≡ true
    ring_held_by k current None e = refl
    ring_held_by k current (Some o) e = and_from _ _ (ring_held db agrees k current o e) refl

    by_key : (k : DbKey) → unit.currency.run_unit ≡ Some k → first_cause (remove_checks (in_hand hands) unit s k) ≡ None → list_all (λ (e : CellEdit). holds hands.cells e.name) (removing (in_hand hands) s k).cells ≡ true
    by_key k current h =
        let slot = slot_held db agrees k current in
        list_all-append (λ (e : CellEdit). holds hands.cells e.name) (ring_edits s (owner_in hands s k) (TakeOut k ∷ [])) (slot_edit k (ChangeOwner s None) ∷ slot_edit k RaiseVersion ∷ [])
        ∙ and_from _ _ (ring_held_by k current (owner_in hands s k) refl) (and_from _ _ slot (and_from _ _ slot refl))

  pub remove_is_prepared : IsPrepared schema capacity unit hands (Remove s) (plan_of schema (in_hand hands) unit (Remove s))
  remove_is_prepared = record { held = all_held; effects = effect_in_hand schema capacity unit hands (Remove s) may passes refl (λ db agrees. remove_is_effect db agrees) }

  -- THAT IT CAN BE MADE

  module _ (versions : HaveNextVersions hands.cells) (k : DbKey) (current : unit.currency.run_unit ≡ Some k) (free : first_cause (remove_checks (in_hand hands) unit s k) ≡ None) where
    edits_can_be_made : (db : Database) → Agrees schema capacity db hands unit → CanMake (removing (in_hand hands) s k).cells hands.cells
    edits_can_be_made db agrees = by_owner (owner_in hands s k) refl where
      by_owner : (q : Option Owner) → owner_in hands s k ≡ q
          → CanMake (ring_edits s q (TakeOut k ∷ []) ++ slot_edit k (ChangeOwner s None) ∷ slot_edit k RaiseVersion ∷ []) hands.cells
      by_owner None e = absurd (true≢false (ap is_none (sym e) ∙ (own_passed (in_hand hands) unit k (is_none (owner_in hands s k)) NotMember [] free).1))
      by_owner (Some o) e =
          can_make_raised (record { name = Ring s (place_of o); edit = TakeOut k } ∷ []) (slot_name k) (ChangeOwner s None) hands.cells refl refl (
            can_edit_ring hands s o (TakeOut k) (sym (listed_in_hand schema capacity db hands unit agrees s o (ring_held db agrees k current o e)) ∙ member_has_list (db.lists s o) k (owner_has db agrees k current o e)) (λ v there is.
                ap (λ (r : Option Occurrence). is_member k (keys_in r)) is
                ∙ ap (is_member k) (sym (members_in_hand schema capacity db hands unit agrees s o (ring_held db agrees k current o e)))
                ∙ owner_has db agrees k current o e),
            tt,
          )
          (λ x there. free_owner s None x) (owner_leaves_version s None) versions

-- a REMOVE, done or refused, can be finished by what is planned from the held cells
pub remove_finishes : (schema : Lists) (capacity : ℕ) (unit : Unit) (hands : Hands) (s : ℕ) → refused_at_once schema capacity unit (Remove s) ≡ None → MayPrepare schema capacity unit hands (Remove s)
    → CanFinish schema capacity unit hands (Remove s) (plan_of schema (in_hand hands) unit (Remove s))
remove_finishes schema capacity unit hands s passes may = record {
  prepared = remove_is_prepared schema capacity unit hands s (may_plan may) passes;
  can_make = λ db agrees.
      planned_cells unit.currency.run_unit (remove_checks (in_hand hands) unit s) (removing (in_hand hands) s) (λ es. CanMake es hands.cells) tt
      (λ k current free. edits_can_be_made schema capacity unit hands s (may_plan may) passes may.versions k current free db agrees);
}
