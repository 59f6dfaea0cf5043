-- A plan makes an outcome, part by part.
-- k is a key, c the name of a cell.
use Rattle.std.proofs.Common.{◌≡◌, refl, sym, ◌∙◌, ap, subst, ℕ, true, List, [], Option, Some, None}
use Rattle.std.specs.Prelude.{Result, Ok, Err, IfOk}
use Rattle.std.specs.List.{list_all}
use Rattle.dbtg_schema.specs.Lists.{Lists}
use Rattle.dbtg_cells.specs.declared.key.DbKey.{DbKey}
use Rattle.dbtg_cells.specs.declared.key.Owner.{Owner}
use Rattle.dbtg_cells.specs.declared.key.Value.{Value}
use Rattle.dbtg_cells.specs.declared.name.CellName.{CellName}
use Rattle.dbtg_unit.specs.declared.edit.CellEdit.{CellEdit}
use Rattle.dbtg_unit.specs.declared.edit.UnitEdit.{UnitEdit}
use Rattle.dbtg_unit.specs.declared.statement.Statement.{Statement}
use Rattle.dbtg_unit.specs.declared.unit.Cause.{Cause}
use Rattle.dbtg_unit.specs.declared.unit.Status.TheVariants.{Done}
use Rattle.dbtg_unit.specs.declared.unit.Unit.{Unit}
use Rattle.dbtg_unit.specs.Database.State.Base.{Database}
use Rattle.dbtg_unit.specs.Database.State.Cells.{cell}
use Rattle.dbtg_unit.specs.Database.Statements.Checks.{refused_at_once}
use Rattle.dbtg_unit.specs.Hands.Edits.{edited_at}
use Rattle.dbtg_unit.specs.Database.Statements.Effect.{StatementEffect, done, effect, effect_on_cells, refused, unless_refused}
use Rattle.dbtg_unit.specs.Hands.Guesses.{guesses_after}
use Rattle.dbtg_unit.specs.Hands.Hands.{Hands}
use Rattle.dbtg_unit.specs.Hands.Local.{Agrees, holds}
use Rattle.dbtg_unit.specs.Hands.Locality.{IsMadeOnEach, made_by}
use Rattle.dbtg_unit.specs.Hands.Making.{CanFinish, CanMake, MayPrepare, ShowsTheSame}
use Rattle.dbtg_unit.specs.Hands.Prepared.{IsEffect, Plan, guesses_edited, unit_after, unit_edited, refusal}
use Rattle.dbtg_unit.specs.Hands.PlanOf.{done_plan}
use Rattle.dbtg_unit.proofs.Public.{plan_makes}
use Rattle.dbtg_plan.proofs.Plans.IsEffect.{effect_is_on_cells, refusal_is_effect}

module _ (schema : Lists) (capacity : ℕ) (db : Database) (unit : Unit) (guesses : List (Option Owner)) (statement : Statement) where
  -- answer, unit, guesses and each cell are those of the outcome
  pub record Makes (plan : Plan) (outcome : StatementEffect) : Type 0 where
    pub answer : plan.answer ≡ outcome.answer
    pub unit_is : unit_after schema plan unit ≡ outcome.unit
    pub guesses_are : guesses_edited plan.unit guesses ≡ guesses_after schema capacity statement guesses outcome
    pub cells : (c : CellName) → cell schema capacity outcome.database c ≡ edited_at c plan.cells (cell schema capacity db c)

  pub makes_refusal : (cause : Cause) → Makes (refusal cause) (refused db unit cause)
  makes_refusal cause = record { answer = refl; unit_is = refl; guesses_are = refl; cells = λ c. refl }

  -- what is done with the unit alone
  pub makes_done : (change : UnitEdit) (key : Option DbKey) (items items' : Option (List Value)) (after : Unit) → items ≡ items' → unit_edited schema change unit ≡ after
      → guesses_edited change guesses ≡ guesses_after schema capacity statement guesses (done db after key items') → Makes (done_plan change key items) (done db after key items')
  makes_done change key items items' after same is guesses_are = record { answer = λ i. record { status = Done; key = key; items = same i }; unit_is = is; guesses_are = guesses_are; cells = λ c. refl }

  -- a plan that makes the outcome of a statement is its effect
  pub makes_is : (plan : Plan) (outcome : StatementEffect) → effect schema capacity db unit statement ≡ outcome → Makes plan outcome → IsEffect schema capacity db unit guesses statement plan
  makes_is plan outcome e makes = record {
    answer = makes.answer ∙ sym (ap (λ (o : StatementEffect). o.answer) e);
    unit_is = makes.unit_is ∙ sym (ap (λ (o : StatementEffect). o.unit) e);
    guesses_are = makes.guesses_are ∙ sym (ap (guesses_after schema capacity statement guesses) e);
    cells = λ c. ap (λ (o : StatementEffect). cell schema capacity o.database c) e ∙ makes.cells c;
  }

  -- so is one that makes the outcome on the cells, where no check without cells refuses
  pub makes_effect : refused_at_once schema capacity unit statement ≡ None → (plan : Plan) → Makes plan (effect_on_cells schema capacity db unit statement) → IsEffect schema capacity db unit guesses statement plan
  makes_effect passes plan = makes_is plan (effect_on_cells schema capacity db unit statement) (effect_is_on_cells schema capacity db unit statement passes)

-- PLANS THAT CHANGE NO CELL

-- such a plan can be finished where it is the effect on every database that agrees
pub no_cells_can_finish : (schema : Lists) (capacity : ℕ) (unit : Unit) (hands : Hands) (statement : Statement) (plan : Plan) → plan.cells ≡ []
    → ((db : Database) → Agrees schema capacity db hands unit → IsEffect schema capacity db unit hands.guesses statement plan) → CanFinish schema capacity unit hands statement plan
no_cells_can_finish schema capacity unit hands statement plan none effects = record {
  prepared = record { held = λ db agrees. subst (λ (es : List CellEdit). list_all (λ (e : CellEdit). holds hands.cells e.name) es ≡ true) (sym none) refl; effects = effects };
  can_make = λ db agrees. subst (λ (es : List CellEdit). CanMake es hands.cells) (sym none) tt;
}

-- REFUSALS AT ONCE

effect_refused : (schema : Lists) (capacity : ℕ) (db : Database) (unit : Unit) (statement : Statement) (cause : Cause) → refused_at_once schema capacity unit statement ≡ Some cause
    → effect schema capacity db unit statement ≡ refused db unit cause
unfolding effect
effect_refused schema capacity db unit statement cause e = ap (λ (o : Option Cause). unless_refused db unit o (effect_on_cells schema capacity db unit statement)) e

-- the refusal of a statement that is refused at once can be finished
pub refused_finishes : (schema : Lists) (capacity : ℕ) (unit : Unit) (hands : Hands) (statement : Statement) (cause : Cause) → refused_at_once schema capacity unit statement ≡ Some cause
    → CanFinish schema capacity unit hands statement (refusal cause)
refused_finishes schema capacity unit hands statement cause e =
    no_cells_can_finish schema capacity unit hands statement (refusal cause) refl
    (λ db agrees. refusal_is_effect schema capacity db unit hands.guesses statement cause (effect_refused schema capacity db unit statement cause e))

-- what equals a plan that can be finished can be finished, for a statement that equals its own
pub finishes_as_plan : {E : Type 0} (schema : Lists) (capacity : ℕ) (unit : Unit) (hands : Hands) (statement same : Statement) (plan : Plan) → statement ≡ same → CanFinish schema capacity unit hands same plan
    → (prepared : Result Plan E) → IfOk prepared (λ p. p ≡ plan) → IfOk prepared (λ p. CanFinish schema capacity unit hands statement p)
finishes_as_plan schema capacity unit hands statement same plan e can (Ok p) is =
    subst (λ (s : Statement). CanFinish schema capacity unit hands s p) (sym e) (subst (CanFinish schema capacity unit hands same) (sym is) can)
finishes_as_plan schema capacity unit hands statement same plan e can (Err x) is = tt

-- WHAT IS MADE

-- a plan that can be finished, if memory was found for it, makes the statement
pub makes_if_ok : {E : Type 0} (schema : Lists) (capacity : ℕ) (unit : Unit) (old new : Hands) (statement : Statement) → MayPrepare schema capacity unit old statement → ShowsTheSame old new
    → (prepared : Result Plan E) → IfOk prepared (λ plan. CanFinish schema capacity unit new statement plan) → IfOk prepared (λ plan. IsMadeOnEach schema capacity unit old statement (made_by schema unit new plan))
makes_if_ok schema capacity unit old new statement may same (Ok plan) can = plan_makes schema capacity unit statement plan old new may same can
makes_if_ok schema capacity unit old new statement may same (Err e) can = tt
