-- What a DELETE holds determines what it does: one plan is its effect on each database that agrees.
use Rattle.std.proofs.Common.{◌≡◌, refl, sym, ◌∙◌, ℕ, not, Option, Some, None}
use Rattle.std.specs.Prelude.{◌==◌}
use Rattle.std.specs.List.{find, list_any}
use Rattle.dbtg_schema.specs.Lists.{Lists}
use Rattle.dbtg_unit.specs.declared.held.Need.{Need}
use Rattle.dbtg_unit.specs.declared.statement.Erase.{Erase}
use Rattle.dbtg_unit.specs.declared.statement.Statement.TheVariants.{Delete}
use Rattle.dbtg_unit.specs.declared.unit.Cause.{Cause}
use Rattle.dbtg_unit.specs.declared.unit.Unit.{Unit}
use Rattle.dbtg_unit.specs.Database.State.Base.{Database}
use Rattle.dbtg_unit.specs.Database.Statements.Checks.{refused_at_once}
use Rattle.dbtg_unit.specs.Hands.Hands.{Hands}
use Rattle.dbtg_unit.specs.Hands.Local.{Agrees}
use Rattle.dbtg_unit.specs.Hands.Needs.{areas_in_order, need}
use Rattle.dbtg_unit.proofs.Public.{one_plan_does_the_same}
use Rattle.dbtg_erase.specs.Inside.ErasePlan.{whole_plan}
use Rattle.dbtg_erase.specs.Locality.{DeleteIsDetermined}
use Rattle.dbtg_erase.proofs.NextNeed.{area_wanted, cell_wanted, ready_refused}
use Rattle.dbtg_erase.proofs.PlanIsEffect.{plan_is_effect}

-- on two databases that agree with what is held, a DELETE needs the same
module _ (schema : Lists) (capacity : ℕ) (unit : Unit) (option : Erase) (hands : Hands) (db eb : Database) (agrees : Agrees schema capacity db hands unit) (agrees_too : Agrees schema capacity eb hands unit) where
  abbrev needed : Database → Need
  needed d = need schema capacity d unit hands (Delete option)

  by_area : refused_at_once schema capacity unit (Delete option) ≡ None
      → (a : Option ℕ) → find (λ a. not (list_any (λ b. b == a) hands.areas)) (areas_in_order schema unit (Delete option)) ≡ a → needed db ≡ needed eb
  by_area passes (Some a) areas = sym (area_wanted schema capacity unit option hands db a passes areas) ∙ area_wanted schema capacity unit option hands eb a passes areas
  by_area passes None areas = sym (cell_wanted schema capacity unit option hands db agrees passes areas) ∙ cell_wanted schema capacity unit option hands eb agrees_too passes areas

  by_check : (o : Option Cause) → refused_at_once schema capacity unit (Delete option) ≡ o → needed db ≡ needed eb
  by_check (Some cause) e = sym (ready_refused schema capacity unit option hands db cause e) ∙ ready_refused schema capacity unit option hands eb cause e
  by_check None e = by_area e (find (λ a. not (list_any (λ b. b == a) hands.areas)) (areas_in_order schema unit (Delete option))) refl

  same_need : needed db ≡ needed eb
  same_need = by_check (refused_at_once schema capacity unit (Delete option)) refl

pub delete_is_determined : DeleteIsDetermined
delete_is_determined schema capacity db eb hands unit option sound of_schema within agrees agrees_too ready =
    one_plan_does_the_same schema capacity db eb hands unit (Delete option) (
      whole_plan schema capacity hands unit option,
      plan_is_effect schema capacity unit hands option (record {
        sound = sound;
        fits = refl;
        of_schema = of_schema;
        within = within;
        ready = λ other agrees_there. sym (same_need schema capacity unit option hands db other agrees agrees_there) ∙ ready;
      }),
    )
    agrees agrees_too
