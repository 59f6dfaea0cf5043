-- GET, KEEP and FREE by the held cells are those of each database that agrees.
-- k is a key.
use Rattle.std.proofs.Common.{◌≡◌, refl, ℕ, Bool, true, false, [], Option, Some, None}
use Rattle.dbtg_schema.specs.Lists.{Lists}
use Rattle.dbtg_cells.specs.declared.key.DbKey.{DbKey}
use Rattle.dbtg_unit.specs.declared.edit.UnitEdit.TheVariants.{Same, Keep as KeepEdit, Forget, ForgetAll}
use Rattle.dbtg_unit.specs.declared.statement.Statement.TheVariants.{Get, Keep, Free}
use Rattle.dbtg_schema.specs.Lookups.{first_cause}
use Rattle.dbtg_unit.specs.declared.unit.Answer.{Answer}
use Rattle.dbtg_unit.specs.declared.unit.Cause.{Cause}
use Rattle.dbtg_unit.specs.declared.unit.Cause.TheVariants.{NoCurrentOfRunUnit}
use Rattle.dbtg_unit.specs.declared.unit.Unit.{Unit}
use Rattle.dbtg_unit.specs.Database.State.Base.{Database, items_of}
use Rattle.dbtg_unit.specs.Database.Statements.Checks.{about, live_checks, refused_at_once}
use Rattle.dbtg_unit.specs.Database.Statements.Effect.{done, done_on_current, version_of}
use Rattle.dbtg_unit.specs.Hands.Hands.{Hands}
use Rattle.dbtg_unit.specs.Hands.InHand.{in_hand}
use Rattle.dbtg_unit.specs.Hands.Local.{Agrees}
use Rattle.dbtg_unit.specs.Hands.Making.{CanFinish, MayPrepare}
use Rattle.dbtg_unit.specs.Hands.PlanOf.{done_plan, planned_on_current}
use Rattle.dbtg_unit.specs.Inside.PlanOf.{plan_of}
use Rattle.dbtg_unit.specs.Hands.Prepared.{IsEffect, Plan}
use Rattle.dbtg_unit.specs.Inside.Prepared.{unless_refusal}
use Rattle.dbtg_unit.specs.Database.State.Units.{forgotten, noted}
use Rattle.dbtg_unit.specs.Database.Statements.StoredFacts.{whole}
use Rattle.dbtg_unit.proofs.Public.{MayPlan, may_plan}
use Rattle.dbtg_plan.proofs.Plans.EffectIsPlan.{current_plan_is_effect, effect_in_hand, planned_cells}
use Rattle.dbtg_plan.proofs.Plans.PartByPart.{Makes, makes_done, makes_effect, makes_refusal, no_cells_can_finish}

-- a plan that only answers
abbrev pub answering : Answer → Plan
answering answer = record { answer = answer; cells = []; versions = []; unit = Same }

pub get_only_answers : (schema : Lists) (unit : Unit) (hands : Hands) (r : Option ℕ) → plan_of schema (in_hand hands) unit (Get r) ≡ answering (plan_of schema (in_hand hands) unit (Get r)).answer
get_only_answers schema unit hands r = about_current unit.currency.run_unit where
  getting : DbKey → Plan
  getting k = done_plan Same (Some k) (Some ((in_hand hands).items k))

  unless : (c : Option Cause) (k : DbKey) → unless_refusal c (getting k) ≡ answering (unless_refusal c (getting k)).answer
  unless (Some cause) k = refl
  unless None k = refl

  planned : Option DbKey → Plan
  planned current = unless_refusal (first_cause (about current (live_checks (in_hand hands)))) (planned_on_current current getting)

  about_current : (current : Option DbKey) → planned current ≡ answering (planned current).answer
  about_current None = refl
  about_current (Some k) = unless (first_cause (live_checks (in_hand hands) k)) k

module _ (schema : Lists) (capacity : ℕ) (unit : Unit) (hands : Hands) where
  module _ (r : Option ℕ) (passes : refused_at_once schema capacity unit (Get r) ≡ None) (may : MayPlan schema capacity unit hands (Get r)) where
    pub get_is_effect : (db : Database) → Agrees schema capacity db hands unit → IsEffect schema capacity db unit hands.guesses (Get r) (plan_of schema (whole schema capacity db) unit (Get r))
    get_is_effect db agrees =
        current_plan_is_effect schema capacity unit hands (Get r) may passes db agrees refl (live_checks (whole schema capacity db)) (λ k. done_plan Same (Some k) (Some (items_of db k)))
        (λ k. done db unit (Some k) (Some (items_of db k))) refl refl (λ k is free done. record { is_done = refl; answer = refl; unit_is = refl; guesses_are = refl })

  pub get_finishes : (r : Option ℕ) → refused_at_once schema capacity unit (Get r) ≡ None → MayPrepare schema capacity unit hands (Get r) → CanFinish schema capacity unit hands (Get r) (plan_of schema (in_hand hands) unit (Get r))
  get_finishes r passes may =
      no_cells_can_finish schema capacity unit hands (Get r) (plan_of schema (in_hand hands) unit (Get r))
      (planned_cells unit.currency.run_unit (live_checks (in_hand hands)) (λ k. done_plan Same (Some k) (Some ((in_hand hands).items k))) (λ es. es ≡ []) refl (λ k is free. refl))
      (effect_in_hand schema capacity unit hands (Get r) (may_plan may) passes refl (get_is_effect r passes (may_plan may)))

  module _ (passes : refused_at_once schema capacity unit Keep ≡ None) (may : MayPlan schema capacity unit hands Keep) where
    pub keep_is_effect : (db : Database) → Agrees schema capacity db hands unit → IsEffect schema capacity db unit hands.guesses Keep (plan_of schema (whole schema capacity db) unit Keep)
    keep_is_effect db agrees =
        current_plan_is_effect schema capacity unit hands Keep may passes db agrees refl (live_checks (whole schema capacity db)) (λ k. done_plan (KeepEdit (noted k (version_of db k) unit.kept)) None None)
        (λ k. done db (record unit { kept = noted k (version_of db k) unit.kept }) None None) refl refl (λ k is free done. record { is_done = refl; answer = refl; unit_is = refl; guesses_are = refl })

  pub keep_finishes : refused_at_once schema capacity unit Keep ≡ None → MayPrepare schema capacity unit hands Keep → CanFinish schema capacity unit hands Keep (plan_of schema (in_hand hands) unit Keep)
  keep_finishes passes may =
      no_cells_can_finish schema capacity unit hands Keep (plan_of schema (in_hand hands) unit Keep)
      (planned_cells unit.currency.run_unit (live_checks (in_hand hands)) (λ k. done_plan (KeepEdit (noted k ((in_hand hands).version k) unit.kept)) None None) (λ es. es ≡ []) refl (λ k is free. refl))
      (effect_in_hand schema capacity unit hands Keep (may_plan may) passes refl (keep_is_effect passes (may_plan may)))

  pub free_is_effect : (all : Bool) → refused_at_once schema capacity unit (Free all) ≡ None → (db : Database) → IsEffect schema capacity db unit hands.guesses (Free all) (plan_of schema (whole schema capacity db) unit (Free all))
  free_is_effect true passes db =
      makes_effect schema capacity db unit hands.guesses (Free true) passes (done_plan ForgetAll None None)
      (makes_done schema capacity db unit hands.guesses (Free true) ForgetAll None None None (record unit { kept = [] }) refl refl refl)
  free_is_effect false passes db = makes_effect schema capacity db unit hands.guesses (Free false) passes _ (forgets unit.currency.run_unit) where
    forgets : (current : Option DbKey)
        → Makes schema capacity db unit hands.guesses (Free false) (planned_on_current current (λ k. done_plan (Forget k) None None)) (done_on_current db unit current (λ k. done db (record unit { kept = forgotten k unit.kept }) None None))
    forgets None = makes_refusal schema capacity db unit hands.guesses (Free false) NoCurrentOfRunUnit
    forgets (Some k) = makes_done schema capacity db unit hands.guesses (Free false) (Forget k) None None None (record unit { kept = forgotten k unit.kept }) refl refl refl

  pub free_finishes : (all : Bool) → refused_at_once schema capacity unit (Free all) ≡ None → CanFinish schema capacity unit hands (Free all) (plan_of schema (in_hand hands) unit (Free all))
  free_finishes all passes = no_cells_can_finish schema capacity unit hands (Free all) (plan_of schema (in_hand hands) unit (Free all)) (no_cells all) (λ db agrees. by_view all passes db) where
    no_cells : (all : Bool) → (plan_of schema (in_hand hands) unit (Free all)).cells ≡ []
    no_cells true = refl
    no_cells false = by_current unit.currency.run_unit where
      by_current : (current : Option DbKey) → (planned_on_current current (λ k. done_plan (Forget k) None None)).cells ≡ []
      by_current None = refl
      by_current (Some k) = refl

    by_view : (all : Bool) → refused_at_once schema capacity unit (Free all) ≡ None → (db : Database) → IsEffect schema capacity db unit hands.guesses (Free all) (plan_of schema (in_hand hands) unit (Free all))
    by_view true passes db = free_is_effect true passes db
    by_view false passes db = free_is_effect false passes db
