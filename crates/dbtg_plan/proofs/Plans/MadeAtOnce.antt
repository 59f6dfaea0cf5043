-- Statements that are made without a plan make what their plans make.
-- k is a key.
use Rattle.std.proofs.Common.{◌≡◌, refl, sym, ◌∙◌, ap, subst, ℕ, Bool, List, Option, Some, None}
use Rattle.std.specs.Prelude.{Result, Ok, Err, IfOk}
use Rattle.dbtg_schema.specs.Lists.{Lists}
use Rattle.dbtg_schema.specs.Lookups.{first_cause}
use Rattle.dbtg_cells.specs.declared.key.DbKey.{DbKey}
use Rattle.dbtg_unit.specs.declared.statement.Form.{Form}
use Rattle.dbtg_unit.specs.declared.statement.Statement.{Statement}
use Rattle.dbtg_unit.specs.declared.statement.Statement.TheVariants.{Find, Get}
use Rattle.dbtg_unit.specs.declared.statement.Suppress.{Suppress}
use Rattle.dbtg_unit.specs.declared.unit.Answer.{Answer}
use Rattle.dbtg_unit.specs.declared.unit.Cause.{Cause}
use Rattle.dbtg_unit.specs.declared.unit.Cause.TheVariants.{NoCurrentOfRunUnit}
use Rattle.dbtg_unit.specs.declared.unit.Unit.{Unit}
use Rattle.dbtg_unit.specs.Database.Statements.Checks.{about, refused_at_once}
use Rattle.dbtg_unit.specs.Hands.Hands.{Hands}
use Rattle.dbtg_unit.specs.Hands.InHand.{in_hand}
use Rattle.dbtg_unit.specs.Hands.Locality.{IsMadeOnEach, Made, made_by, seen}
use Rattle.dbtg_unit.specs.Hands.Making.{CanFinish, MayPrepare}
use Rattle.dbtg_unit.specs.Hands.PlanOf.{planned_on_current}
use Rattle.dbtg_unit.specs.Hands.Prepared.{Plan, edited_values, guesses_edited, refusal, unit_after, values_of}
use Rattle.dbtg_unit.specs.Inside.PlanOf.{plan_of}
use Rattle.dbtg_unit.specs.Inside.Prepared.{unless_refusal}
use Rattle.dbtg_unit.proofs.Public.{may_plan, plan_makes}
use Rattle.dbtg_plan.specs.Inside.Finding.{found_in, plan_of_found}
use Rattle.dbtg_plan.proofs.Find.FindPlans.{find_can_finish}
use Rattle.dbtg_plan.proofs.Plans.GetKeepFree.{get_finishes, get_only_answers}
use Rattle.dbtg_plan.proofs.Plans.PartByPart.{refused_finishes}

-- what is seen after the edits of a plan, and with its unit and its guesses, is what the plan makes
pub seen_by_plan : (schema : Lists) (unit unit' : Unit) (old new : Hands) (plan : Plan) (answer : Answer) → answer ≡ plan.answer → unit' ≡ unit_after schema plan unit → new.areas ≡ old.areas
    → values_of new.cells ≡ edited_values plan.cells (values_of old.cells) → new.guesses ≡ guesses_edited plan.unit old.guesses → seen answer unit' new ≡ made_by schema unit old plan
seen_by_plan schema unit unit' old new plan answer answers units areas cells guesses = λ i. record { answer = answers i; unit = units i; areas = areas i; cells = cells i; guesses = guesses i }

-- WHAT IS PLANNED ABOUT THE CURRENT OF RUN-UNIT

module _ (checks : DbKey → List (Bool × Cause)) (plan : DbKey → Plan) where
  abbrev planned : Option DbKey → Plan
  planned current = unless_refusal (first_cause (about current checks)) (planned_on_current current plan)

  pub planned_none : (current : Option DbKey) → current ≡ None → planned current ≡ refusal NoCurrentOfRunUnit
  planned_none current none = ap planned none

  pub planned_refused : (current : Option DbKey) (k : DbKey) (cause : Cause) → current ≡ Some k → first_cause (checks k) ≡ Some cause → planned current ≡ refusal cause
  planned_refused current k cause some refused = ap planned some ∙ ap (λ (c : Option Cause). unless_refusal c (plan k)) refused

  pub planned_done : (current : Option DbKey) (k : DbKey) → current ≡ Some k → first_cause (checks k) ≡ None → planned current ≡ plan k
  planned_done current k some free = ap planned some ∙ ap (λ (c : Option Cause). unless_refusal c (plan k)) free

-- MADE

module _ (schema : Lists) (unit : Unit) (hands : Hands) where
  module _ (capacity : ℕ) where
    -- what a plan that can be finished makes is made
    pub plan_is_made : (statement : Statement) (plan : Plan) → MayPrepare schema capacity unit hands statement → CanFinish schema capacity unit hands statement plan → IsMadeOnEach schema capacity unit hands statement (made_by schema unit hands plan)
    plan_is_made statement plan may can = plan_makes schema capacity unit statement plan hands hands may (record { areas = refl; cells = refl; guesses = refl }) can

    -- where a plan that makes the statement is a refusal, its answer makes it
    pub refused_is_made : (statement : Statement) (plan : Plan) (cause : Cause) (answer : Answer) → IsMadeOnEach schema capacity unit hands statement (made_by schema unit hands plan) → plan ≡ refusal cause → answer ≡ (refusal cause).answer
        → IsMadeOnEach schema capacity unit hands statement (seen answer unit hands)
    refused_is_made statement plan cause answer made is answers =
        subst (IsMadeOnEach schema capacity unit hands statement) (ap (made_by schema unit hands) is ∙ ap (λ (a : Answer). seen a unit hands) (sym answers)) made

    -- and so does what an equal plan makes
    pub done_is_made : (statement : Statement) (plan plan' : Plan) (made : Made) → IsMadeOnEach schema capacity unit hands statement (made_by schema unit hands plan) → plan ≡ plan' → made ≡ made_by schema unit hands plan'
        → IsMadeOnEach schema capacity unit hands statement made
    done_is_made statement plan plan' made makes same is = subst (IsMadeOnEach schema capacity unit hands statement) (ap (made_by schema unit hands) same ∙ sym is) makes

    pub refusal_is_made : (statement : Statement) (cause : Cause) → MayPrepare schema capacity unit hands statement → refused_at_once schema capacity unit statement ≡ Some cause
        → IsMadeOnEach schema capacity unit hands statement (seen (refusal cause).answer unit hands)
    refusal_is_made statement cause may e = plan_is_made statement (refusal cause) may (refused_finishes schema capacity unit hands statement cause e)

    pub find_is_made : (form : Form) (suppress : Suppress) → MayPrepare schema capacity unit hands (Find suppress form) → refused_at_once schema capacity unit (Find suppress form) ≡ None
        → IsMadeOnEach schema capacity unit hands (Find suppress form) (made_by schema unit hands (plan_of_found hands suppress (found_in schema unit hands form)))
    find_is_made form suppress may passes = plan_is_made (Find suppress form) _ may (find_can_finish schema capacity unit hands form suppress (may_plan may) passes)

    pub get_is_made : {E : Type 0} (r : Option ℕ) → MayPrepare schema capacity unit hands (Get r) → refused_at_once schema capacity unit (Get r) ≡ None
        → (answered : Result Answer E) → IfOk answered (λ answer. answer ≡ (plan_of schema (in_hand hands) unit (Get r)).answer)
        → IfOk answered (λ answer. IsMadeOnEach schema capacity unit hands (Get r) (seen answer unit hands))
    get_is_made r may passes (Err e) is = tt
    get_is_made r may passes (Ok answer) is =
        subst (IsMadeOnEach schema capacity unit hands (Get r)) (ap (made_by schema unit hands) (get_only_answers schema unit hands r) ∙ ap (λ a. seen a unit hands) (sym is))
        (plan_is_made (Get r) (plan_of schema (in_hand hands) unit (Get r)) may (get_finishes schema capacity unit hands r passes may))
