-- What a statement holds determines what it does: one plan is its effect on each database that agrees.
use Rattle.std.proofs.Common.{◌≡◌, refl, sym, ◌∙◌, ℕ, true, false, not, Option, Some, None}
use Rattle.std.specs.Prelude.{◌==◌}
use Rattle.std.specs.List.{find, list_any}
use Rattle.std.proofs.lemmas.Bool.{and_parts, false≢true}
use Rattle.dbtg_schema.specs.Lists.{Lists}
use Rattle.dbtg_schema.specs.Sound.{IsSound}
use Rattle.dbtg_cells.specs.declared.name.CellName.{CellName}
use Rattle.dbtg_unit.specs.declared.held.Need.{Need}
use Rattle.dbtg_unit.specs.declared.held.Need.TheVariants.{Ready}
use Rattle.dbtg_unit.specs.declared.statement.Statement.{Statement}
use Rattle.dbtg_unit.specs.declared.statement.Statement.TheVariants.{OpenArea, CloseArea, Find, Get, Store, Insert, Remove, Modify, Delete, Keep, Free}
use Rattle.dbtg_unit.specs.declared.unit.Cause.{Cause}
use Rattle.dbtg_unit.specs.declared.unit.Unit.{Unit}
use Rattle.dbtg_unit.specs.Database.State.Base.{Database}
use Rattle.dbtg_unit.specs.Database.State.Belongs.{IsUnitOf, IsWithin}
use Rattle.dbtg_unit.specs.Database.Statements.Checks.{refused_at_once}
use Rattle.dbtg_unit.specs.Hands.EditsOf.{is_delete}
use Rattle.dbtg_unit.specs.Database.Statements.Effect.{effect}
use Rattle.dbtg_unit.specs.Database.Statements.Fits.{fits, form_fits, suppress_fits}
use Rattle.dbtg_unit.specs.Hands.Hands.{Hands}
use Rattle.dbtg_unit.specs.Hands.InHand.{in_hand}
use Rattle.dbtg_unit.specs.Hands.Local.{Agrees}
use Rattle.dbtg_unit.specs.Hands.Locality.{DoTheSame}
use Rattle.dbtg_unit.specs.Hands.Needs.{areas_in_order, cells_of, first_missing, need}
use Rattle.dbtg_unit.proofs.Public.{HasPlan, MayPlan, one_plan_does_the_same}
use Rattle.dbtg_unit.specs.Hands.Prepared.{refusal}
use Rattle.dbtg_plan.specs.Inside.Finding.{found_in, plan_of_found}
use Rattle.dbtg_plan.specs.Locality.{EachIsDetermined}
use Rattle.dbtg_unit.specs.Inside.PlanOf.{plan_of}
use Rattle.dbtg_plan.proofs.Plans.EffectIsPlan.{effect_in_hand}
use Rattle.dbtg_plan.proofs.Find.FindPlans.{find_is_effect, next_cell_is}
use Rattle.dbtg_plan.proofs.Connect.InsertIsEffect.{insert_is_effect}
use Rattle.dbtg_plan.proofs.Plans.GetKeepFree.{free_is_effect, get_is_effect, keep_is_effect}
use Rattle.dbtg_plan.proofs.Modify.ModifyReady.{modify_is_effect}
use Rattle.dbtg_plan.proofs.Plans.OpenClose.{close_is_effect, open_is_effect}
use Rattle.dbtg_plan.proofs.Plans.PartByPart.{refused_finishes}
use Rattle.dbtg_plan.proofs.Connect.RemoveIsEffect.{remove_is_effect}
use Rattle.dbtg_plan.proofs.Needs.WrongGuesses.{area_needed, cell_needed, guesses_needed, refused_needs}
use Rattle.dbtg_plan.proofs.Plans.StoreHolds.{missing_in_hand}
use Rattle.dbtg_plan.proofs.Store.StoreIsEffect.{plan_is_effect}

-- a statement that wants the same first cell on two databases needs the same on both
module _ (schema : Lists) (capacity : ℕ) (db eb : Database) (hands : Hands) (unit : Unit) (statement : Statement) (fit : fits schema statement ≡ true)
    (agrees : Agrees schema capacity db hands unit) (agrees_too : Agrees schema capacity eb hands unit)
    (wanted : first_missing hands (cells_of schema capacity db unit hands.guesses statement) ≡ first_missing hands (cells_of schema capacity eb unit hands.guesses statement)) where
  abbrev needed : Database → Need
  needed d = need schema capacity d unit hands statement

  module _ (passes : refused_at_once schema capacity unit statement ≡ None) where
    by_cell : find (λ a. not (list_any (λ b. b == a) hands.areas)) (areas_in_order schema unit statement) ≡ None
        → (c : Option CellName) → first_missing hands (cells_of schema capacity db unit hands.guesses statement) ≡ c → needed db ≡ needed eb
    by_cell areas (Some c) cells =
        cell_needed schema capacity db hands unit statement passes areas c cells ∙ sym (cell_needed schema capacity eb hands unit statement passes areas c (sym wanted ∙ cells))
    by_cell areas None cells =
        guesses_needed schema capacity db hands unit statement passes fit agrees areas cells
        ∙ sym (guesses_needed schema capacity eb hands unit statement passes fit agrees_too areas (sym wanted ∙ cells))

    by_area : (a : Option ℕ) → find (λ a. not (list_any (λ b. b == a) hands.areas)) (areas_in_order schema unit statement) ≡ a → needed db ≡ needed eb
    by_area (Some a) areas = area_needed schema capacity db hands unit statement passes a areas ∙ sym (area_needed schema capacity eb hands unit statement passes a areas)
    by_area None areas = by_cell areas (first_missing hands (cells_of schema capacity db unit hands.guesses statement)) refl

  by_check : (o : Option Cause) → refused_at_once schema capacity unit statement ≡ o → needed db ≡ needed eb
  by_check (Some cause) e = refused_needs schema capacity db hands unit statement cause e ∙ sym (refused_needs schema capacity eb hands unit statement cause e)
  by_check None e = by_area e (find (λ a. not (list_any (λ b. b == a) hands.areas)) (areas_in_order schema unit statement)) refl

  same_need : needed db ≡ needed eb
  same_need = by_check (refused_at_once schema capacity unit statement) refl

module _ (schema : Lists) (capacity : ℕ) (db eb : Database) (hands : Hands) (unit : Unit) (sound : IsSound schema) (of_schema : IsUnitOf schema unit) (within : IsWithin capacity unit)
    (agrees : Agrees schema capacity db hands unit) (agrees_too : Agrees schema capacity eb hands unit) where
  abbrev Determined : Statement → Type 0
  Determined statement = need schema capacity db unit hands statement ≡ Ready → DoTheSame schema capacity hands (effect schema capacity db unit statement) (effect schema capacity eb unit statement)

  -- it wants the same first cell on each database that agrees
  abbrev WantsTheSame : Statement → Type 0
  WantsTheSame statement = (other : Database) → Agrees schema capacity other hands unit
      → first_missing hands (cells_of schema capacity db unit hands.guesses statement) ≡ first_missing hands (cells_of schema capacity other unit hands.guesses statement)

  -- a refusal is a plan; a statement that is ready on one database that agrees is ready on each
  by_plan : (statement : Statement) → fits schema statement ≡ true → WantsTheSame statement
      → (refused_at_once schema capacity unit statement ≡ None → MayPlan schema capacity unit hands statement → HasPlan schema capacity unit hands statement) → Determined statement
  by_plan statement fit wanted plan ready = one_plan_does_the_same schema capacity db eb hands unit statement (by_check (refused_at_once schema capacity unit statement) refl) agrees agrees_too where
    by_check : (o : Option Cause) → refused_at_once schema capacity unit statement ≡ o → HasPlan schema capacity unit hands statement
    by_check (Some cause) e = (refusal cause, (refused_finishes schema capacity unit hands statement cause e).prepared.effects)
    by_check None e = plan e (record {
      sound = sound;
      fits = fit;
      of_schema = of_schema;
      within = within;
      ready = λ other there. sym (same_need schema capacity db other hands unit statement fit agrees there (wanted other there)) ∙ ready;
    })

  of_each : (statement : Statement) → fits schema statement ≡ true → is_delete statement ≡ false → Determined statement
  of_each (OpenArea a mode) fit other = by_plan (OpenArea a mode) fit (λ o there. refl) (λ passes may. (plan_of schema (in_hand hands) unit (OpenArea a mode), effect_in_hand schema capacity unit hands (OpenArea a mode) may passes refl (λ d there. open_is_effect schema capacity unit a mode hands passes may d there)))
  of_each (CloseArea a) fit other = by_plan (CloseArea a) fit (λ o there. refl) (λ passes may. (plan_of schema (in_hand hands) unit (CloseArea a), effect_in_hand schema capacity unit hands (CloseArea a) may passes refl (λ d there. close_is_effect schema capacity unit a hands passes may d there)))
  of_each (Find suppress form) fit other =
      let named = (and_parts (form_fits schema form) (suppress_fits schema suppress) fit).0 in
      by_plan (Find suppress form) fit
      (λ o there. sym (next_cell_is schema capacity db hands unit agrees of_schema form named) ∙ next_cell_is schema capacity o hands unit there of_schema form named)
      (λ passes may. (plan_of_found hands suppress (found_in schema unit hands form), find_is_effect schema capacity unit hands form suppress may passes))
  of_each (Get r) fit other = by_plan (Get r) fit (λ o there. refl) (λ passes may. (plan_of schema (in_hand hands) unit (Get r), effect_in_hand schema capacity unit hands (Get r) may passes refl (λ d there. get_is_effect schema capacity unit hands r passes may d there)))
  of_each (Store t items suppress) fit other =
      by_plan (Store t items suppress) fit
      (λ o there. sym (missing_in_hand schema capacity unit hands t items db agrees hands.guesses suppress) ∙ missing_in_hand schema capacity unit hands t items o there hands.guesses suppress)
      (λ passes may. (plan_of schema (in_hand hands) unit (Store t items suppress), plan_is_effect schema capacity unit hands t items suppress may passes))
  of_each (Insert s) fit other = by_plan (Insert s) fit (λ o there. refl) (λ passes may. (plan_of schema (in_hand hands) unit (Insert s), effect_in_hand schema capacity unit hands (Insert s) may passes refl (λ d there. insert_is_effect schema capacity unit hands s may passes d there)))
  of_each (Remove s) fit other = by_plan (Remove s) fit (λ o there. refl) (λ passes may. (plan_of schema (in_hand hands) unit (Remove s), effect_in_hand schema capacity unit hands (Remove s) may passes refl (λ d there. remove_is_effect schema capacity unit hands s may passes d there)))
  of_each (Modify t changes) fit other = by_plan (Modify t changes) fit (λ o there. refl) (λ passes may. (plan_of schema (in_hand hands) unit (Modify t changes), effect_in_hand schema capacity unit hands (Modify t changes) may passes refl (λ d there. modify_is_effect schema capacity unit hands t changes may passes d there)))
  of_each (Delete option) fit other = absurd (false≢true (sym other))
  of_each Keep fit other = by_plan Keep fit (λ o there. refl) (λ passes may. (plan_of schema (in_hand hands) unit (Keep), effect_in_hand schema capacity unit hands (Keep) may passes refl (λ d there. keep_is_effect schema capacity unit hands passes may d there)))
  of_each (Free all) fit other = by_plan (Free all) fit (λ o there. refl) (λ passes may. (plan_of schema (in_hand hands) unit (Free all), effect_in_hand schema capacity unit hands (Free all) may passes refl (λ d there. free_is_effect schema capacity unit hands all passes d)))

pub each_is_determined : EachIsDetermined
each_is_determined schema capacity db eb hands unit statement sound of_schema within fit other agrees agrees_too =
    of_each schema capacity db eb hands unit sound of_schema within agrees agrees_too statement fit other
