-- What STORE plans on a database is its effect there, and so is what it plans by the held cells.
-- k is the key of the new record, t its record type.
use Rattle.std.proofs.Common.{◌≡◌, refl, sym, ap, subst, ℕ, List, Option, None}
use Rattle.std.specs.Prelude.{unwrap_or}
use Rattle.dbtg_schema.specs.Lists.{Lists}
use Rattle.dbtg_schema.specs.Lookups.{first_cause}
use Rattle.dbtg_schema.specs.Structure.{automatic_sets}
use Rattle.dbtg_cells.specs.declared.key.DbKey.{DbKey}
use Rattle.dbtg_cells.specs.declared.key.Owner.{Owner}
use Rattle.dbtg_cells.specs.declared.key.Value.{Value}
use Rattle.dbtg_unit.specs.declared.statement.Statement.TheVariants.{Store}
use Rattle.dbtg_unit.specs.declared.statement.Suppress.{Suppress}
use Rattle.dbtg_unit.specs.declared.unit.Unit.{Unit}
use Rattle.dbtg_unit.specs.Database.State.Base.{Database}
use Rattle.dbtg_unit.specs.Database.State.Legal.{Legal}
use Rattle.dbtg_unit.specs.Database.State.Units.{owners_of, seen_with}
use Rattle.dbtg_unit.specs.Database.Statements.Checks.{refused_at_once, store_checks}
use Rattle.dbtg_unit.specs.Database.Statements.Effect.{StatementEffect, connected_in, effect, free_number, new_key, stored, with_new}
use Rattle.dbtg_unit.specs.Database.Statements.StoredFacts.{whole}
use Rattle.dbtg_unit.specs.Hands.EditsOf.{first_owners}
use Rattle.dbtg_unit.specs.Hands.Hands.{Hands}
use Rattle.dbtg_unit.specs.Hands.InHand.{in_hand}
use Rattle.dbtg_unit.specs.Hands.Local.{Agrees}
use Rattle.dbtg_unit.specs.Inside.PlanOf.{plan_of}
use Rattle.dbtg_unit.specs.Hands.PlanOf.{storing}
use Rattle.dbtg_unit.specs.Hands.Prepared.{IsEffect}
use Rattle.dbtg_unit.proofs.Public.{MayPlan, legal_after, owners_first, store_found}
use Rattle.dbtg_plan.proofs.Plans.EffectIsPlan.{behind_checks, effect_in_hand, tells_effect}
use Rattle.dbtg_plan.proofs.Plans.IsEffect.{effect_is_on_cells}
use Rattle.dbtg_plan.proofs.Plans.StoreHolds.{has_places}

module _ (schema : Lists) (capacity : ℕ) (unit : Unit) (hands : Hands) (t : ℕ) (items : List Value) (suppress : Suppress)
    (may : MayPlan schema capacity unit hands (Store t items suppress)) (passes : refused_at_once schema capacity unit (Store t items suppress) ≡ None) where
  module _ (db : Database) (agrees : Agrees schema capacity db hands unit) where
    abbrev k : DbKey
    k = new_key db t (unwrap_or (free_number capacity db t) 0)

    abbrev outcome : StatementEffect
    outcome = stored schema capacity db unit k items suppress

    -- the owners of the new record are those in which it is connected
    owners : first_cause (store_checks schema (whole schema capacity db) unit t items) ≡ None → effect schema capacity db unit (Store t items suppress) ≡ outcome
        → owners_of schema capacity (connected_in schema (with_new schema db k items) unit (automatic_sets schema t) k) k ≡ first_owners schema unit t
    owners free is =
        let found = store_found schema capacity db unit agrees.legal t items (has_places schema capacity unit hands t items suppress may passes db agrees) free in
        let legal_new : Legal schema capacity outcome.database = subst (λ (o : StatementEffect). Legal schema capacity o.database) is (legal_after schema capacity db unit hands may.sound may.of_schema may.within (Store t items suppress) may.fits agrees) in
        owners_first schema capacity db unit k items agrees.legal found.counted refl found.unused found.stands legal_new

    store_is_effect : IsEffect schema capacity db unit hands.guesses (Store t items suppress) (plan_of schema (whole schema capacity db) unit (Store t items suppress))
    store_is_effect =
        behind_checks schema capacity unit hands (Store t items suppress) may passes db agrees refl (storing schema unit items suppress k) outcome (first_cause (store_checks schema (whole schema capacity db) unit t items))
        (effect_is_on_cells schema capacity db unit (Store t items suppress) passes)
        (λ free is.
        tells_effect schema capacity unit hands (Store t items suppress) may passes db agrees refl (storing schema unit items suppress k) outcome is refl (record {
          is_done = refl;
          answer = refl;
          unit_is = ap (λ (os : List (Option Owner)). seen_with schema unit k os suppress) (sym (owners free is));
          guesses_are = sym (owners free is);
        }))

  -- the plan is the effect
  pub plan_is_effect : (db : Database) → Agrees schema capacity db hands unit → IsEffect schema capacity db unit hands.guesses (Store t items suppress) (plan_of schema (in_hand hands) unit (Store t items suppress))
  plan_is_effect = effect_in_hand schema capacity unit hands (Store t items suppress) may passes refl store_is_effect
