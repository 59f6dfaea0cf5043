-- What is planned over a view is a statement's effect: on each database that agrees with the held cells, by those cells.
-- k is a key, s a set, db a database.
use Rattle.std.proofs.Common.{◌≡◌, refl, sym, ◌∙◌, ap, subst, ℕ, Bool, true, false, List, [], Option, Some, None}
use Rattle.dbtg_schema.specs.Lists.{Lists}
use Rattle.dbtg_schema.specs.Lookups.{first_cause}
use Rattle.dbtg_cells.specs.declared.key.DbKey.{DbKey}
use Rattle.dbtg_unit.specs.declared.edit.CellEdit.{CellEdit}
use Rattle.dbtg_unit.specs.declared.statement.Statement.{Statement}
use Rattle.dbtg_unit.specs.declared.unit.Cause.{Cause}
use Rattle.dbtg_unit.specs.declared.unit.Cause.TheVariants.{NoCurrentOfRunUnit}
use Rattle.dbtg_unit.specs.declared.unit.Status.TheVariants.{Done}
use Rattle.dbtg_unit.specs.declared.unit.Unit.{Unit}
use Rattle.dbtg_unit.specs.Database.State.Base.{Database}
use Rattle.dbtg_unit.specs.Database.Statements.Checks.{about, refused_at_once}
use Rattle.dbtg_unit.specs.Database.Statements.Effect.{StatementEffect, done_on_current, effect, effect_on_cells, unless_refused}
use Rattle.dbtg_unit.specs.Database.Statements.StoredFacts.{whole}
use Rattle.dbtg_unit.specs.Hands.EditsOf.{edits_of, is_delete}
use Rattle.dbtg_unit.specs.Hands.Guesses.{guesses_after}
use Rattle.dbtg_unit.specs.Hands.Hands.{Hands}
use Rattle.dbtg_unit.specs.Hands.InHand.{in_hand}
use Rattle.dbtg_unit.specs.Hands.Local.{Agrees}
use Rattle.dbtg_unit.specs.Hands.PlanOf.{planned_on_current}
use Rattle.dbtg_unit.specs.Inside.PlanOf.{plan_of}
use Rattle.dbtg_unit.specs.Hands.Prepared.{IsEffect, Plan, guesses_edited, unit_after}
use Rattle.dbtg_unit.specs.Inside.Prepared.{unless_refusal}
use Rattle.dbtg_unit.proofs.Public.{MayPlan}
use Rattle.dbtg_plan.proofs.Plans.IsEffect.{done_is_effect, effect_is_on_cells, refusal_is_effect}
use Rattle.dbtg_plan.proofs.Plans.SamePlan.{alike_in_hand, is_planned, plan_agrees}

module _ (schema : Lists) (capacity : ℕ) (unit : Unit) (hands : Hands) (statement : Statement) (may : MayPlan schema capacity unit hands statement) (passes : refused_at_once schema capacity unit statement ≡ None) where
  module _ (db : Database) (agrees : Agrees schema capacity db hands unit) (other : is_delete statement ≡ false) where
    -- a plan tells what an outcome does, but for the cells
    pub record Tells (plan : Plan) (outcome : StatementEffect) : Type 0 where
      pub is_done : plan.answer.status ≡ Done
      pub answer : plan.answer ≡ outcome.answer
      pub unit_is : unit_after schema plan unit ≡ outcome.unit
      pub guesses_are : guesses_edited plan.unit hands.guesses ≡ guesses_after schema capacity statement hands.guesses outcome

    pub tells_effect : (plan : Plan) (outcome : StatementEffect) → effect schema capacity db unit statement ≡ outcome → plan.cells ≡ edits_of schema capacity db unit statement → Tells plan outcome
        → IsEffect schema capacity db unit hands.guesses statement plan
    tells_effect plan outcome e edits tells =
        done_is_effect schema capacity db unit hands statement plan other may agrees tells.is_done (tells.answer ∙ sym (ap (λ (o : StatementEffect). o.answer) e)) edits
        (tells.unit_is ∙ sym (ap (λ (o : StatementEffect). o.unit) e)) (tells.guesses_are ∙ sym (ap (guesses_after schema capacity statement hands.guesses) e))

    -- the checks stand before the plan as before the effect
    pub behind_checks : (plan : Plan) (outcome : StatementEffect) (check : Option Cause) → effect schema capacity db unit statement ≡ unless_refused db unit check outcome
        → (check ≡ None → effect schema capacity db unit statement ≡ outcome → IsEffect schema capacity db unit hands.guesses statement plan)
        → IsEffect schema capacity db unit hands.guesses statement (unless_refusal check plan)
    behind_checks plan outcome (Some cause) e h = refusal_is_effect schema capacity db unit hands.guesses statement cause e
    behind_checks plan outcome None e h = h refl e

    -- a statement about the current of run-unit
    pub current_plan_is_effect : (checks : DbKey → List (Bool × Cause)) (plan : DbKey → Plan) (outcome : DbKey → StatementEffect)
        → effect_on_cells schema capacity db unit statement ≡ unless_refused db unit (first_cause (about unit.currency.run_unit checks)) (done_on_current db unit unit.currency.run_unit outcome)
        → (planned_on_current unit.currency.run_unit plan).cells ≡ edits_of schema capacity db unit statement
        → ((k : DbKey) → unit.currency.run_unit ≡ Some k → first_cause (checks k) ≡ None → effect schema capacity db unit statement ≡ outcome k → Tells (plan k) (outcome k))
        → IsEffect schema capacity db unit hands.guesses statement (unless_refusal (first_cause (about unit.currency.run_unit checks)) (planned_on_current unit.currency.run_unit plan))
    current_plan_is_effect checks plan outcome is edits tells = by_current unit.currency.run_unit refl where
      there : (r : Option DbKey) → unit.currency.run_unit ≡ r → effect schema capacity db unit statement ≡ unless_refused db unit (first_cause (about r checks)) (done_on_current db unit r outcome)
      there r e = effect_is_on_cells schema capacity db unit statement passes ∙ is ∙ ap (λ (r : Option DbKey). unless_refused db unit (first_cause (about r checks)) (done_on_current db unit r outcome)) e

      by_current : (r : Option DbKey) → unit.currency.run_unit ≡ r → IsEffect schema capacity db unit hands.guesses statement (unless_refusal (first_cause (about r checks)) (planned_on_current r plan))
      by_current None e = refusal_is_effect schema capacity db unit hands.guesses statement NoCurrentOfRunUnit (there None e)
      by_current (Some k) e =
          behind_checks (plan k) (outcome k) (first_cause (checks k)) (there (Some k) e)
          (λ free done. tells_effect (plan k) (outcome k) done (ap (λ (r : Option DbKey). (planned_on_current r plan).cells) (sym e) ∙ edits) (tells k e free done))

  -- where what is planned by each database that agrees is the effect on it, so is what is planned by the held cells
  pub effect_in_hand : is_planned statement ≡ true
      → ((db : Database) → Agrees schema capacity db hands unit → IsEffect schema capacity db unit hands.guesses statement (plan_of schema (whole schema capacity db) unit statement))
      → (db : Database) → Agrees schema capacity db hands unit → IsEffect schema capacity db unit hands.guesses statement (plan_of schema (in_hand hands) unit statement)
  effect_in_hand planned effects db agrees =
      subst (IsEffect schema capacity db unit hands.guesses statement)
      (sym (plan_agrees schema (in_hand hands) (whole schema capacity db) unit statement planned (alike_in_hand schema capacity unit hands db agrees statement may passes))) (effects db agrees)

-- what holds of no edits, and of those that are made once the checks pass, holds of those that are planned
pub planned_cells : (current : Option DbKey) (checks : DbKey → List (Bool × Cause)) (plan : DbKey → Plan) (P : List CellEdit → Type 0) → P []
    → ((k : DbKey) → current ≡ Some k → first_cause (checks k) ≡ None → P (plan k).cells) → P (unless_refusal (first_cause (about current checks)) (planned_on_current current plan)).cells
planned_cells None checks plan P none h = none
planned_cells (Some k) checks plan P none h = by_checks (first_cause (checks k)) (h k refl) where
  by_checks : (c : Option Cause) → (c ≡ None → P (plan k).cells) → P (unless_refusal c (plan k)).cells
  by_checks (Some cause) h = none
  by_checks None h = h refl
