-- OPEN and CLOSE by the held cells are those of each database that agrees.
-- a is an area, c the name of a cell, x and y cells.
use Rattle.std.proofs.Common.{◌≡◌, refl, ◌∙◌, ap, subst, ℕ, Bool, true, false, [], ◌∷◌, Some, None, inl}
use Rattle.std.specs.List.{list_any}
use Rattle.std.proofs.lemmas.Bool.{and_from}
use Rattle.dbtg_schema.specs.Lists.{Lists}
use Rattle.dbtg_schema.specs.Lookups.{first_cause}
use Rattle.dbtg_cells.specs.declared.cell.Cell.{Cell}
use Rattle.dbtg_cells.specs.declared.cell.Cell.TheVariants.{Usage as UsageCell, Extent as ExtentCell, Ring as RingCell, Slot as SlotCell}
use Rattle.dbtg_cells.specs.declared.name.CellName.TheVariants.{Usage}
use Rattle.dbtg_cells.specs.declared.usage.Mode.{Mode}
use Rattle.dbtg_unit.specs.declared.edit.Edit.TheVariants.{EnterUser, LeaveUser}
use Rattle.dbtg_unit.specs.declared.statement.Statement.TheVariants.{OpenArea, CloseArea}
use Rattle.dbtg_unit.specs.declared.unit.Cause.TheVariants.{UsageConflict}
use Rattle.dbtg_unit.specs.declared.unit.Unit.{Unit}
use Rattle.dbtg_unit.specs.Database.State.Base.{Database}
use Rattle.dbtg_unit.specs.Hands.CanEdit.{CanEdit}
use Rattle.dbtg_unit.specs.Database.Statements.Checks.{open_checks, refused_at_once}
use Rattle.dbtg_unit.specs.Database.Statements.Effect.{conflict, done_on_cells}
use Rattle.dbtg_unit.specs.Hands.Hands.{Hands}
use Rattle.dbtg_unit.specs.Hands.InHand.{in_hand, users_in}
use Rattle.dbtg_unit.specs.Hands.Local.{Agrees, holds}
use Rattle.dbtg_unit.specs.Hands.Making.{CanFinish, MayPrepare, ShowsTheSame}
use Rattle.dbtg_unit.specs.Hands.Prepared.{IsEffect, refusal}
use Rattle.dbtg_unit.specs.Inside.Prepared.{unless_refusal}
use Rattle.dbtg_unit.specs.Hands.Reserving.{CanTakeUser, OfHeld}
use Rattle.dbtg_unit.proofs.Public.{MayPlan, may_plan, may_prepare_same, prepared_has_all, users_in_same}
use Rattle.dbtg_unit.specs.Database.Statements.StoredFacts.{whole}
use Rattle.dbtg_unit.specs.Hands.PlanOf.{mode_plan}
use Rattle.dbtg_unit.specs.Inside.PlanOf.{plan_of}
use Rattle.dbtg_plan.proofs.Plans.EffectIsPlan.{behind_checks, effect_in_hand, tells_effect}
use Rattle.dbtg_plan.proofs.Plans.IsEffect.{effect_is_on_cells}
use Rattle.dbtg_plan.proofs.Plans.PartByPart.{no_cells_can_finish}

-- EDITS OF A USAGE CELL

can_enter : (number : ℕ) (mode : Mode) (x : Cell) → CanTakeUser x → CanEdit (EnterUser number mode) x
can_enter number mode (UsageCell v) room = room
can_enter number mode (ExtentCell v) room = tt
can_enter number mode (RingCell v) room = tt
can_enter number mode (SlotCell v) room = tt

can_leave : (number : ℕ) (x : Cell) → CanEdit (LeaveUser number) x
can_leave number (UsageCell v) = tt
can_leave number (ExtentCell v) = tt
can_leave number (RingCell v) = tt
can_leave number (SlotCell v) = tt

-- THE STATEMENTS

module _ (schema : Lists) (capacity : ℕ) (unit : Unit) (a : ℕ) where
  module _ (mode : Mode) (hands : Hands) (passes : refused_at_once schema capacity unit (OpenArea a mode) ≡ None) (may : MayPlan schema capacity unit hands (OpenArea a mode)) where
    usage_held : (db : Database) → Agrees schema capacity db hands unit → holds hands.cells (Usage a) ≡ true
    usage_held db agrees = (prepared_has_all schema capacity unit hands (OpenArea a mode) passes may.ready db agrees).cells (Usage a) (inl refl)

    -- the plan by the users of the database
    pub open_is_effect : (db : Database) → Agrees schema capacity db hands unit → IsEffect schema capacity db unit hands.guesses (OpenArea a mode) (plan_of schema (whole schema capacity db) unit (OpenArea a mode))
    open_is_effect db agrees =
        behind_checks schema capacity unit hands (OpenArea a mode) may passes db agrees refl (mode_plan a (EnterUser unit.number mode) (Some mode)) (done_on_cells schema capacity db unit (OpenArea a mode))
        (first_cause (open_checks (whole schema capacity db) a mode)) (effect_is_on_cells schema capacity db unit (OpenArea a mode) passes)
        (λ free done. tells_effect schema capacity unit hands (OpenArea a mode) may passes db agrees refl _ _ done refl (record { is_done = refl; answer = refl; unit_is = refl; guesses_are = refl }))

    open_by : (b : Bool) → list_any (λ e. conflict e.1 mode) (users_in hands a) ≡ b → (db : Database) → Agrees schema capacity db hands unit
        → IsEffect schema capacity db unit hands.guesses (OpenArea a mode) (unless_refusal (first_cause ((b, UsageConflict) ∷ [])) (mode_plan a (EnterUser unit.number mode) (Some mode)))
    open_by b h db agrees =
        subst (λ t. IsEffect schema capacity db unit hands.guesses (OpenArea a mode) (unless_refusal (first_cause ((t, UsageConflict) ∷ [])) (mode_plan a (EnterUser unit.number mode) (Some mode)))) h
        (effect_in_hand schema capacity unit hands (OpenArea a mode) may passes refl open_is_effect db agrees)

    -- refused where another mode conflicts
    pub open_refused : list_any (λ e. conflict e.1 mode) (users_in hands a) ≡ true → CanFinish schema capacity unit hands (OpenArea a mode) (refusal UsageConflict)
    open_refused h = no_cells_can_finish schema capacity unit hands (OpenArea a mode) (refusal UsageConflict) refl (open_by true h)

  module _ (mode : Mode) (passes : refused_at_once schema capacity unit (OpenArea a mode) ≡ None) where
    -- otherwise done, once there is room for its entry
    pub open_finishes : (old new : Hands) → MayPrepare schema capacity unit old (OpenArea a mode) → list_any (λ e. conflict e.1 mode) (users_in old a) ≡ false
        → ShowsTheSame old new → OfHeld (Usage a) new.cells CanTakeUser → CanFinish schema capacity unit new (OpenArea a mode) (mode_plan a (EnterUser unit.number mode) (Some mode))
    open_finishes old new may h same room =
        let can = may_plan (may_prepare_same schema capacity unit old new (OpenArea a mode) same may) in
        record {
          prepared = record {
            held = λ db agrees. and_from _ _ (usage_held mode new passes can db agrees) refl;
            effects = open_by mode new passes can false (ap (list_any (λ e. conflict e.1 mode)) (users_in_same old new same a) ∙ h);
          };
          can_make = λ db agrees. (λ x cell_is. can_enter unit.number mode x (room x cell_is), λ y shows. tt);
        }

  module _ (hands : Hands) (passes : refused_at_once schema capacity unit (CloseArea a) ≡ None) (may : MayPlan schema capacity unit hands (CloseArea a)) where
    pub close_is_effect : (db : Database) → Agrees schema capacity db hands unit → IsEffect schema capacity db unit hands.guesses (CloseArea a) (plan_of schema (whole schema capacity db) unit (CloseArea a))
    close_is_effect db agrees =
        tells_effect schema capacity unit hands (CloseArea a) may passes db agrees refl (mode_plan a (LeaveUser unit.number) None) (done_on_cells schema capacity db unit (CloseArea a))
        (effect_is_on_cells schema capacity db unit (CloseArea a) passes) refl (record { is_done = refl; answer = refl; unit_is = refl; guesses_are = refl })

    pub close_finishes : CanFinish schema capacity unit hands (CloseArea a) (plan_of schema (in_hand hands) unit (CloseArea a))
    close_finishes = record {
      prepared = record {
        held = λ db agrees. and_from _ _ ((prepared_has_all schema capacity unit hands (CloseArea a) passes may.ready db agrees).cells (Usage a) (inl refl)) refl;
        effects = close_is_effect;
      };
      can_make = λ db agrees. (λ x cell_is. can_leave unit.number x, λ y shows. tt);
    }

-- a CLOSE can be finished by what is planned from the held cells
pub close_can_finish : (schema : Lists) (capacity : ℕ) (unit : Unit) (hands : Hands) (a : ℕ) → refused_at_once schema capacity unit (CloseArea a) ≡ None → MayPrepare schema capacity unit hands (CloseArea a)
    → CanFinish schema capacity unit hands (CloseArea a) (plan_of schema (in_hand hands) unit (CloseArea a))
close_can_finish schema capacity unit hands a passes may = close_finishes schema capacity unit a hands passes (may_plan may)
