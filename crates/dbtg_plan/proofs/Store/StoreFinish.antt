-- What a STORE has prepared is its effect, and can be finished.
use Rattle.std.proofs.Common.{◌≡◌, refl, sym, ◌∙◌, ap, subst, ℕ, ◌&&◌, true, List, Option, Some, None}
use Rattle.std.specs.Prelude.{IfOk, Result, Ok, Err, unwrap_or}
use Rattle.std.specs.declared.alloc.AllocError.{AllocError}
use Rattle.std.specs.List.{list_all}
use Rattle.std.proofs.lemmas.Bool.{and_parts}
use Rattle.dbtg_schema.specs.Lists.{Lists}
use Rattle.dbtg_schema.specs.Lookups.{first_cause}
use Rattle.dbtg_schema.specs.Structure.{pictures}
use Rattle.dbtg_cells.specs.declared.key.DbKey.{DbKey}
use Rattle.dbtg_cells.specs.declared.key.Owner.{Owner}
use Rattle.dbtg_cells.specs.declared.key.Value.{Value}
use Rattle.dbtg_unit.specs.declared.edit.CellEdit.{CellEdit}
use Rattle.dbtg_unit.specs.declared.statement.Statement.TheVariants.{Store}
use Rattle.dbtg_unit.specs.declared.statement.Suppress.{Suppress}
use Rattle.dbtg_unit.specs.declared.unit.Cause.{Cause}
use Rattle.dbtg_unit.specs.declared.unit.Unit.{Unit}
use Rattle.dbtg_unit.specs.Database.State.Base.{Database}
use Rattle.dbtg_unit.specs.Database.Statements.Checks.{refused_at_once, store_checks}
use Rattle.dbtg_unit.specs.Database.Statements.Effect.{free_number, new_key}
use Rattle.dbtg_unit.specs.Database.Statements.Fits.{is_type, suppress_fits, values_fit}
use Rattle.dbtg_unit.specs.Hands.Hands.{Hands}
use Rattle.dbtg_unit.specs.Hands.InHand.{in_hand}
use Rattle.dbtg_unit.specs.Hands.Local.{Agrees, holds}
use Rattle.dbtg_unit.specs.Hands.Making.{CanFinish, CanMake, MayPrepare, ShowsTheSame}
use Rattle.dbtg_unit.specs.Inside.PlanOf.{plan_of}
use Rattle.dbtg_unit.specs.Hands.PlanOf.{storing}
use Rattle.dbtg_unit.specs.Hands.Prepared.{IsEffect, IsPrepared, Plan, refusal}
use Rattle.dbtg_unit.specs.Inside.Prepared.{unless_refusal}
use Rattle.dbtg_unit.proofs.Public.{agrees_same, holds_same, may_plan, same_sym, some_from_not_none}
use Rattle.dbtg_plan.specs.Inside.Store.{HasRoom}
use Rattle.dbtg_plan.proofs.Plans.StoreHolds.{checks_in_hand, has_places, key_in_hand, number, passed_held}
use Rattle.dbtg_plan.proofs.Store.StoreIsEffect.{plan_is_effect}
use Rattle.dbtg_plan.proofs.Store.StoreMaking.{edits_held, store_can_make}

module _ (schema : Lists) (capacity : ℕ) (unit : Unit) (old new : Hands) (t : ℕ) (items : List Value) (suppress : Suppress)
    (may : MayPrepare schema capacity unit old (Store t items suppress)) (passes : refused_at_once schema capacity unit (Store t items suppress) ≡ None) (same : ShowsTheSame old new) where
  abbrev checked : Option Cause
  checked = first_cause (store_checks schema (in_hand old) unit t items)

  -- what holds of a refusal, and of what is stored where no check refuses, holds of the plan
  by_cause : (P : Plan → Type 0) (k : DbKey) → (in_hand old).fresh t ≡ k → ((cause : Cause) → P (refusal cause)) → (checked ≡ None → P (storing schema unit items suppress k)) → P (plan_of schema (in_hand old) unit (Store t items suppress))
  by_cause P k is none stored = subst (λ (key : DbKey). P (unless_refusal checked (storing schema unit items suppress key))) (sym is) (of checked refl) where
    of : (o : Option Cause) → checked ≡ o → P (unless_refusal o (storing schema unit items suppress k))
    of (Some cause) e = none cause
    of None e = stored e

  module _ (db : Database) (agrees : Agrees schema capacity db new unit) where
    agrees_old : Agrees schema capacity db old unit
    agrees_old = agrees_same schema capacity db unit new old (same_sym same) agrees

    abbrev k : DbKey
    k = new_key db t (number schema capacity unit old t items suppress (may_plan may) passes db agrees_old)

    key : (in_hand old).fresh t ≡ k
    key = key_in_hand schema capacity unit old t items suppress (may_plan may) passes db agrees_old

    -- the plan changes only held cells
    all_held : list_all (λ (e : CellEdit). holds old.cells e.name) (plan_of schema (in_hand old) unit (Store t items suppress)).cells ≡ true
    all_held =
        by_cause (λ (plan : Plan). list_all (λ (e : CellEdit). holds old.cells e.name) plan.cells ≡ true) k key (λ cause. refl)
        (λ e. edits_held schema unit k items old (passed_held schema capacity unit old t items suppress (may_plan may) passes db agrees_old e).1)

    fit : values_fit (pictures schema t) items ≡ true
    fit = (and_parts (is_type schema t) (values_fit (pictures schema t) items) (and_parts (is_type schema t && values_fit (pictures schema t) items) (suppress_fits schema suppress) may.fits).0).1

    made : ((k : DbKey) (s : ℕ) → (plan_of schema (in_hand old) unit (Store t items suppress)).answer.key ≡ Some k → HasRoom schema unit new k s) → CanMake (plan_of schema (in_hand old) unit (Store t items suppress)).cells new.cells
    made =
        by_cause (λ (plan : Plan). ((k : DbKey) (s : ℕ) → plan.answer.key ≡ Some k → HasRoom schema unit new k s) → CanMake plan.cells new.cells) k key (λ cause rooms. tt)
        (λ e rooms.
        let n = some_from_not_none (free_number capacity db t) (passed_held schema capacity unit old t items suppress (may_plan may) passes db agrees_old e).0 in
        let is : n.0 ≡ unwrap_or (free_number capacity db t) 0 = ap (λ (o : Option ℕ). unwrap_or o 0) (sym n.1) in
        store_can_make schema capacity db new unit agrees t (unwrap_or (free_number capacity db t) 0) items (n.1 ∙ ap Some is) (has_places schema capacity unit old t items suppress (may_plan may) passes db agrees_old)
        (sym (checks_in_hand schema capacity unit old t items suppress (may_plan may) passes db agrees_old) ∙ e) may.sound fit (λ s. rooms k s refl))

  -- what is prepared is the effect
  pub store_prepared : IsPrepared schema capacity unit new (Store t items suppress) (plan_of schema (in_hand old) unit (Store t items suppress))
  store_prepared =
      record {
        held = λ db agrees. (λ i. list_all (λ (e : CellEdit). holds_same old new same e.name i) (plan_of schema (in_hand old) unit (Store t items suppress)).cells) ∙ all_held db agrees;
        effects = λ db agrees.
            subst (λ (guesses : List (Option Owner)). IsEffect schema capacity db unit guesses (Store t items suppress) (plan_of schema (in_hand old) unit (Store t items suppress))) (sym same.guesses)
            (plan_is_effect schema capacity unit old t items suppress (may_plan may) passes db (agrees_old db agrees));
      }

  -- and can be finished, where there is a place for the new record
  pub store_finishes : ((k : DbKey) (s : ℕ) → (plan_of schema (in_hand old) unit (Store t items suppress)).answer.key ≡ Some k → HasRoom schema unit new k s)
      → CanFinish schema capacity unit new (Store t items suppress) (plan_of schema (in_hand old) unit (Store t items suppress))
  store_finishes rooms = record { prepared = store_prepared; can_make = λ db agrees. made db agrees rooms }

  -- the same of what was prepared, if memory was found
  pub finishes_if_ok : (prepared : Result Plan AllocError) → IfOk prepared (λ plan. plan ≡ plan_of schema (in_hand old) unit (Store t items suppress))
      → IfOk prepared (λ plan. (k : DbKey) (s : ℕ) → plan.answer.key ≡ Some k → HasRoom schema unit new k s)
      → IfOk prepared (λ plan. CanFinish schema capacity unit new (Store t items suppress) plan)
  finishes_if_ok (Ok plan) is rooms = subst (CanFinish schema capacity unit new (Store t items suppress)) (sym is) (store_finishes (λ k s h. rooms k s (ap (λ (p : Plan). p.answer.key) is ∙ h)))
  finishes_if_ok (Err e) is rooms = tt
