-- What a MODIFY plans is its effect, and can be made once it is ready.
use Rattle.std.proofs.Common.{◌≡◌, refl, sym, ◌∙◌, ap, subst, ℕ, ◌+◌, true, false, cond, not, ◌&&◌, List, Option, Some, None, eqb}
use Rattle.std.specs.Prelude.{is_some, option_and_then, option_map, unwrap_or}
use Rattle.std.specs.List.{list_all}
use Rattle.std.proofs.lemmas.Bool.{and_parts, false≢true, not-false}
use Rattle.dbtg_schema.specs.Lists.{Lists}
use Rattle.dbtg_schema.specs.Lookups.{first_cause, some_and}
use Rattle.dbtg_schema.specs.Structure.{pictures}
use Rattle.dbtg_cells.specs.declared.extent.Number.{Number}
use Rattle.dbtg_cells.specs.declared.key.DbKey.{DbKey}
use Rattle.dbtg_cells.specs.declared.key.Owner.{Owner}
use Rattle.dbtg_cells.specs.declared.key.Value.{Value}
use Rattle.dbtg_cells.specs.declared.name.CellName.TheVariants.{Extent, Ring}
use Rattle.dbtg_cells.specs.Numbers.{entry_of, is_used}
use Rattle.dbtg_cells.proofs.Public.{key_eq_refl}
use Rattle.dbtg_unit.specs.declared.edit.CellEdit.{CellEdit}
use Rattle.dbtg_unit.specs.declared.statement.Change.{Change}
use Rattle.dbtg_unit.specs.declared.statement.Statement.TheVariants.{Modify}
use Rattle.dbtg_unit.specs.declared.unit.Cause.TheVariants.{Deleted}
use Rattle.dbtg_unit.specs.declared.unit.Unit.{Unit}
use Rattle.dbtg_unit.specs.Database.State.Base.{Database, Record, is_live, items_of, owner_of}
use Rattle.dbtg_unit.specs.Database.State.CellNames.{place_of, slot_name}
use Rattle.dbtg_unit.specs.Database.Statements.Checks.{modify_checks, refused_at_once}
use Rattle.dbtg_unit.specs.Database.Statements.Conditions.{changed_items, names_calc}
use Rattle.dbtg_unit.specs.Database.Statements.Effect.{modified, next_version, version_of, with_its_items}
use Rattle.dbtg_unit.specs.Database.Statements.Fits.{change_fits, distinct_items, is_type, values_fit}
use Rattle.dbtg_unit.specs.Hands.Hands.{Hands}
use Rattle.dbtg_unit.specs.Hands.InHand.{in_hand, items_in, numbers_in, stored_in}
use Rattle.dbtg_unit.specs.Hands.Local.{Agrees, holds}
use Rattle.dbtg_unit.specs.Hands.Making.{CanFinish, CanMake, HaveNextVersions, MayPrepare}
use Rattle.dbtg_unit.specs.Hands.Prepared.{IsEffect, unit_after}
use Rattle.dbtg_unit.specs.Database.Statements.StoredFacts.{whole}
use Rattle.dbtg_unit.proofs.Public.{HasAll, MayPlan, changed_fit, items_in_hand, live_by_extent, live_in_hand, may_plan, modify_typed, numbers_in_hand, owner_in_hand, passes_check, prepared_has_all}
use Rattle.dbtg_plan.specs.Inside.Modifying.{is_rekeyed}
use Rattle.dbtg_plan.proofs.Plans.EffectIsPlan.{current_plan_is_effect, effect_in_hand, planned_cells}
use Rattle.dbtg_plan.proofs.Modify.ModifyMaking.{edits_can, edits_held}
use Rattle.dbtg_plan.proofs.Plans.ModifyHolds.{extent_held, rekeyed_number, rings_held, slot_held}
use Rattle.dbtg_plan.proofs.Plans.IsEffect.{noted_renoted}
use Rattle.dbtg_unit.specs.Hands.PlanOf.{modifying}
use Rattle.dbtg_unit.specs.Inside.PlanOf.{plan_of}

-- the number of a live record is in use
used : (generation : ℕ) (o : Option Number) → is_some (option_and_then (λ (e : Number). cond (eqb e.last generation) e.calc None) o) ≡ true → some_and is_used o ≡ true
used generation None h = h
used generation (Some e) h = (elim (eqb e.last generation) as (λ b. is_some (cond b e.calc None) ≡ true → is_some e.calc ≡ true) [ true ↦ λ h. h | false ↦ λ h. absurd (false≢true h) ]) h

module _ (schema : Lists) (capacity : ℕ) (unit : Unit) (hands : Hands) (t : ℕ) (changes : List Change)
    (may : MayPlan schema capacity unit hands (Modify t changes)) (passes : refused_at_once schema capacity unit (Modify t changes) ≡ None) where
  module _ (db : Database) (agrees : Agrees schema capacity db hands unit) where
    version_now : (k : DbKey) → is_live db k ≡ true → version_of (modified schema capacity db unit changes k).database k ≡ version_of db k + 1
    version_now k live =
        ap (λ b. unwrap_or (option_map (λ (r : Record). r.version) (cond b (option_map next_version (cond b (option_map (with_its_items (changed_items changes (items_of db k))) (db.records k)) (db.records k))) (cond b (option_map (with_its_items (changed_items changes (items_of db k))) (db.records k)) (db.records k)))) 0) (key_eq_refl k)
        ∙ of_record (db.records k) live where
          of_record : (r : Option Record) → is_some r ≡ true → unwrap_or (option_map (λ (r : Record). r.version) (option_map next_version (option_map (with_its_items (changed_items changes (items_of db k))) r))) 0 ≡ unwrap_or (option_map (λ (r : Record). r.version) r) 0 + 1
          of_record None h = absurd (false≢true h)
          of_record (Some r) h = refl

    unit_is : (k : DbKey) → is_live db k ≡ true → unit_after schema (modifying schema (whole schema capacity db) unit changes k) unit ≡ (modified schema capacity db unit changes k).unit
    unit_is k live = ap (λ (kept : List (DbKey × ℕ)). record unit { kept = kept }) (noted_renoted k (version_of db k + 1) (modified schema capacity db unit changes k).database (version_now k live) unit.kept)

    -- the plan is the effect
    pub modify_is_effect : IsEffect schema capacity db unit hands.guesses (Modify t changes) (plan_of schema (whole schema capacity db) unit (Modify t changes))
    modify_is_effect =
        current_plan_is_effect schema capacity unit hands (Modify t changes) may passes db agrees refl (modify_checks schema (whole schema capacity db) unit changes) (modifying schema (whole schema capacity db) unit changes)
        (modified schema capacity db unit changes) refl refl
        (λ k is free done. record { is_done = refl; answer = refl; unit_is = unit_is k (not-false _ (passes_check (not (is_live db k)) Deleted _ free).0); guesses_are = refl })

    -- WHAT IS HELD

    module _ (k : DbKey) (current : unit.currency.run_unit ≡ Some k) where
      typed : k.rtype ≡ t
      typed = modify_typed schema capacity db unit hands t changes passes k current

      has : HasAll schema capacity db unit hands (Modify k.rtype changes)
      has = subst (λ u. HasAll schema capacity db unit hands (Modify u changes)) (sym typed) (prepared_has_all schema capacity unit hands (Modify t changes) passes may.ready db agrees)

      slot : holds hands.cells (slot_name k) ≡ true
      slot = slot_held schema capacity db hands unit agrees changes k current has.cells has.fresh

      extent : names_calc schema k.rtype changes ≡ true → holds hands.cells (Extent k.rtype) ≡ true
      extent = extent_held schema capacity db hands unit agrees changes k current has.cells has.fresh

      rings : (s : ℕ) (o : Owner) → is_rekeyed schema changes k.rtype s ≡ true → owner_of schema capacity db s k ≡ Some o → holds hands.cells (Ring s (place_of o)) ≡ true
      rings = rings_held schema capacity db hands unit agrees changes k current has.cells has.fresh

      abbrev items_now : List Value
      items_now = changed_items changes (items_in hands k)

      are_held : list_all (λ (e : CellEdit). holds hands.cells e.name) (modifying schema (in_hand hands) unit changes k).cells ≡ true
      are_held =
          edits_held schema hands unit changes k items_now slot extent
          (λ s o named is. rings s o named (owner_in_hand schema capacity db hands unit agrees k slot s (rekeyed_number schema changes k.rtype s named) ∙ is))

      module _ (free : first_cause (modify_checks schema (in_hand hands) unit changes k) ≡ None) where
        live : is_live db k ≡ true
        live = live_in_hand schema capacity db hands unit agrees k slot ∙ not-false _ (passes_check (not (is_some (stored_in hands k))) Deleted _ free).0

        -- its number is in use
        numbered : names_calc schema k.rtype changes ≡ true → some_and is_used (entry_of k.number (numbers_in hands k.rtype)) ≡ true
        numbered named =
            let numbers = numbers_in hands k.rtype in
            let are = numbers_in_hand schema capacity db hands unit agrees k.rtype (extent named) in
            used k.generation (entry_of k.number numbers) (sym (live_by_extent schema capacity db agrees.legal k.rtype numbers are k refl) ∙ live)

        -- the new items are of their pictures
        items_fit : values_fit (pictures schema k.rtype) items_now ≡ true
        items_fit =
            let fit = and_parts (is_type schema t && distinct_items changes) (list_all (change_fits schema t) changes) may.fits in
            ap (λ items. values_fit (pictures schema k.rtype) (changed_items changes items)) (sym (items_in_hand schema capacity db hands unit agrees k slot))
            ∙ changed_fit schema k.rtype changes (items_of db k) (subst (λ u. list_all (change_fits schema u) changes ≡ true) (sym typed) fit.1) (agrees.legal.items k live)

        can_make : HaveNextVersions hands.cells → CanMake (modifying schema (in_hand hands) unit changes k).cells hands.cells
        can_make versions = edits_can schema capacity db hands unit agrees changes k items_now may.sound items_fit slot rings versions numbered

-- a MODIFY, done or refused, can be finished by what is planned from the held cells
pub modify_finishes : (schema : Lists) (capacity : ℕ) (unit : Unit) (hands : Hands) (t : ℕ) (changes : List Change) → refused_at_once schema capacity unit (Modify t changes) ≡ None
    → MayPrepare schema capacity unit hands (Modify t changes) → CanFinish schema capacity unit hands (Modify t changes) (plan_of schema (in_hand hands) unit (Modify t changes))
modify_finishes schema capacity unit hands t changes passes may = record {
  prepared = record {
    held = λ db agrees.
        planned_cells unit.currency.run_unit (modify_checks schema (in_hand hands) unit changes) (modifying schema (in_hand hands) unit changes) (λ es. list_all (λ (e : CellEdit). holds hands.cells e.name) es ≡ true) refl
        (λ k current free. are_held schema capacity unit hands t changes (may_plan may) passes db agrees k current);
    effects = effect_in_hand schema capacity unit hands (Modify t changes) (may_plan may) passes refl (λ db agrees. modify_is_effect schema capacity unit hands t changes (may_plan may) passes db agrees);
  };
  can_make = λ db agrees.
      planned_cells unit.currency.run_unit (modify_checks schema (in_hand hands) unit changes) (modifying schema (in_hand hands) unit changes) (λ es. CanMake es hands.cells) tt
      (λ k current free. can_make schema capacity unit hands t changes (may_plan may) passes db agrees k current free may.versions);
}
