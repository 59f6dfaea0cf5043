-- A DELETE that needs nothing more prepares its effect, whatever database agrees with the held cells.
use Rattle.std.proofs.Common.{◌≡◌, refl, sym, ◌∙◌, ap, subst, ℕ, true, false, not, ◌&&◌, List, [], ◌∷◌, Option, Some, None}
use Rattle.std.specs.List.{list_all}
use Rattle.std.proofs.lemmas.Bool.{not-false}
use Rattle.dbtg_schema.specs.Lists.{Lists}
use Rattle.dbtg_schema.specs.Lookups.{first_cause}
use Rattle.dbtg_cells.specs.declared.key.DbKey.{DbKey}
use Rattle.dbtg_cells.specs.declared.key.Owner.{Owner}
use Rattle.dbtg_cells.specs.declared.name.CellName.{CellName}
use Rattle.dbtg_unit.specs.Database.Statements.StoredFacts.{whole}
use Rattle.dbtg_unit.specs.declared.edit.CellEdit.{CellEdit}
use Rattle.dbtg_unit.specs.declared.statement.Erase.{Erase}
use Rattle.dbtg_unit.specs.declared.statement.Statement.{Statement}
use Rattle.dbtg_unit.specs.declared.statement.Statement.TheVariants.{Delete}
use Rattle.dbtg_unit.specs.declared.unit.Cause.{Cause}
use Rattle.dbtg_unit.specs.declared.unit.Cause.TheVariants.{Deleted, NoCurrentOfRunUnit, OwnerHasMembers}
use Rattle.dbtg_unit.specs.declared.unit.Unit.{Unit}
use Rattle.dbtg_unit.specs.Database.State.Base.{Database, is_live}
use Rattle.dbtg_unit.specs.Database.State.Cells.{cell}
use Rattle.dbtg_unit.specs.Database.Statements.Checks.{delete_checks, own_checks, refused_at_once}
use Rattle.dbtg_unit.specs.Database.Statements.Conditions.{has_members, is_plain}
use Rattle.dbtg_unit.specs.Hands.Edits.{edited_at}
use Rattle.dbtg_unit.specs.Hands.EditsOf.{delete_edits, edits_of_current}
use Rattle.dbtg_unit.specs.Database.Statements.Effect.{StatementEffect, deleted, effect, effect_on_cells, refused, unless_refused}
use Rattle.dbtg_unit.proofs.Public.{In, MayPlan, every_effect_is_its_edits, first_check_passes, legal_after, on_current, passes_append, passes_check, prepared_has_all}
use Rattle.dbtg_unit.specs.Hands.Erasing.{delete_cells, delete_cells_of}
use Rattle.dbtg_unit.specs.Hands.Guesses.{guesses_after}
use Rattle.dbtg_unit.specs.Hands.Hands.{Hands}
use Rattle.dbtg_unit.specs.Hands.Local.{Agrees, holds}
use Rattle.dbtg_unit.specs.Hands.Prepared.{IsEffect, IsPrepared, Plan, refusal}
use Rattle.dbtg_unit.specs.Inside.Prepared.{unless_refusal}
use Rattle.dbtg_unit.specs.Database.State.Units.{forgotten}
use Rattle.dbtg_erase.specs.Inside.ErasePlan.{delete_plan, erasing_plan, whole_plan}
use Rattle.dbtg_erase.specs.WorkList.{gone_in}
use Rattle.dbtg_erase.proofs.ErasePlan.{checks_are, edits_are, edits_held, kept_are}

refusal_is_effect : (schema : Lists) (capacity : ℕ) (db : Database) (unit : Unit) (guesses : List (Option Owner)) (statement : Statement) (cause : Cause)
    → effect schema capacity db unit statement ≡ refused db unit cause → IsEffect schema capacity db unit guesses statement (refusal cause)
refusal_is_effect schema capacity db unit guesses statement cause e = record {
  answer = sym (ap (λ (o : StatementEffect). o.answer) e);
  unit_is = sym (ap (λ (o : StatementEffect). o.unit) e);
  guesses_are = sym (ap (guesses_after schema capacity statement guesses) e);
  cells = λ c. ap (λ (o : StatementEffect). cell schema capacity o.database c) e;
}

effect_is : (schema : Lists) (capacity : ℕ) (db : Database) (unit : Unit) (statement : Statement)
    → effect schema capacity db unit statement ≡ unless_refused db unit (refused_at_once schema capacity unit statement) (effect_on_cells schema capacity db unit statement)
unfolding effect
effect_is schema capacity db unit statement = refl

-- the record that goes is there, and its form may take it
pub record Passed (schema : Lists) (capacity : ℕ) (db : Database) (unit : Unit) (option : Erase) (k : DbKey) : Type 0 where
  pub own : first_cause (own_checks (whole schema capacity db) unit k) ≡ None
  pub none : (is_plain option && has_members schema (whole schema capacity db) k) ≡ false
  pub live : is_live db k ≡ true

pub passed : (schema : Lists) (capacity : ℕ) (db : Database) (unit : Unit) (option : Erase) (k : DbKey) → first_cause (delete_checks schema (whole schema capacity db) unit option k) ≡ None → Passed schema capacity db unit option k
passed schema capacity db unit option k h =
    let parts = passes_append (own_checks (whole schema capacity db) unit k) ((is_plain option && has_members schema (whole schema capacity db) k, OwnerHasMembers) ∷ []) h in
    record {
      own = parts.0;
      none = (first_check_passes (is_plain option && has_members schema (whole schema capacity db) k, OwnerHasMembers) [] parts.1).0;
      live = not-false _ (passes_check (not (is_live db k)) Deleted _ parts.0).0;
    }

module _ (schema : Lists) (capacity : ℕ) (unit : Unit) (hands : Hands) (option : Erase) (may : MayPlan schema capacity unit hands (Delete option)) where
  module _ (db : Database) (agrees : Agrees schema capacity db hands unit) where
    abbrev result : StatementEffect
    result = effect schema capacity db unit (Delete option)

    done_is_effect : (k : DbKey) → unit.currency.run_unit ≡ Some k → result ≡ deleted schema capacity db unit option k
        → ((c : CellName) → In c (delete_cells_of schema capacity db unit option (Some k)) → holds hands.cells c ≡ true) → Passed schema capacity db unit option k
        → IsEffect schema capacity db unit hands.guesses (Delete option) (erasing_plan schema hands (gone_in schema capacity hands option k) k)
    done_is_effect k current e has p = record {
      answer = sym (ap (λ (o : StatementEffect). o.answer) e);
      unit_is =
          ap (λ kept. record unit { currency = record unit.currency { run_unit = None }; kept = forgotten k kept }) (kept_are schema capacity db hands unit agrees option k has p.own p.none p.live)
          ∙ sym (ap (λ (o : StatementEffect). o.unit) e);
      guesses_are = sym (ap (guesses_after schema capacity (Delete option) hands.guesses) e);
      cells = λ c.
          every_effect_is_its_edits schema capacity db unit (Delete option) agrees.legal
          (legal_after schema capacity db unit hands may.sound may.of_schema may.within (Delete option) may.fits agrees)
          (ap (λ (o : StatementEffect). o.answer.status) e) c
          ∙ ap (λ r. edited_at c (edits_of_current r (delete_edits schema capacity db option)) (cell schema capacity db c)) current
          ∙ ap (λ es. edited_at c es (cell schema capacity db c)) (edits_are schema capacity db hands unit agrees option k has p.own p.none p.live);
    }

    -- what holds of a refusal, where it is the effect, and of what is prepared of a record that passes its checks, holds of the plan
    pub plan_by : (P : Plan → Type 0) → ((cause : Cause) → result ≡ refused db unit cause → P (refusal cause))
        → ((k : DbKey) → unit.currency.run_unit ≡ Some k → result ≡ deleted schema capacity db unit option k → ((c : CellName) → In c (delete_cells schema capacity db unit option k) → holds hands.cells c ≡ true)
        → Passed schema capacity db unit option k → P (erasing_plan schema hands (gone_in schema capacity hands option k) k))
        → P (whole_plan schema capacity hands unit option)
    plan_by P refusals done = at_once (refused_at_once schema capacity unit (Delete option)) refl where
      of_key : (k : DbKey) → unit.currency.run_unit ≡ Some k → ((c : CellName) → In c (delete_cells schema capacity db unit option k) → holds hands.cells c ≡ true)
          → (o : Option Cause) → first_cause (delete_checks schema (whole schema capacity db) unit option k) ≡ o → result ≡ unless_refused db unit o (deleted schema capacity db unit option k)
          → P (delete_plan schema capacity hands unit option (Some k))
      of_key k current has (Some cause) h e =
          subst (λ (o : Option Cause). P (unless_refusal o (erasing_plan schema hands (gone_in schema capacity hands option k) k))) (sym (checks_are schema capacity db hands unit agrees option k has ∙ h)) (refusals cause e)
      of_key k current has None h e =
          subst (λ (o : Option Cause). P (unless_refusal o (erasing_plan schema hands (gone_in schema capacity hands option k) k))) (sym (checks_are schema capacity db hands unit agrees option k has ∙ h))
          (done k current e has (passed schema capacity db unit option k h))

      on_cells : (r : Option DbKey) → unit.currency.run_unit ≡ r → result ≡ on_current db unit r (delete_checks schema (whole schema capacity db) unit option) (deleted schema capacity db unit option)
          → ((c : CellName) → In c (delete_cells_of schema capacity db unit option r) → holds hands.cells c ≡ true) → P (delete_plan schema capacity hands unit option r)
      on_cells None current e has = refusals NoCurrentOfRunUnit e
      on_cells (Some k) current e has =
          of_key k current has (first_cause (delete_checks schema (whole schema capacity db) unit option k)) refl e

      at_once : (o : Option Cause) → refused_at_once schema capacity unit (Delete option) ≡ o → P (whole_plan schema capacity hands unit option)
      at_once (Some cause) h =
          subst (λ (o : Option Cause). P (unless_refusal o (delete_plan schema capacity hands unit option unit.currency.run_unit))) (sym h)
          (refusals cause (effect_is schema capacity db unit (Delete option) ∙ ap (λ o. unless_refused db unit o (effect_on_cells schema capacity db unit (Delete option))) h))
      at_once None h =
          subst (λ (o : Option Cause). P (unless_refusal o (delete_plan schema capacity hands unit option unit.currency.run_unit))) (sym h)
          (on_cells unit.currency.run_unit refl
          (effect_is schema capacity db unit (Delete option) ∙ ap (λ o. unless_refused db unit o (effect_on_cells schema capacity db unit (Delete option))) h)
          (prepared_has_all schema capacity unit hands (Delete option) h may.ready db agrees).cells)

    pub plan_is_effect : IsEffect schema capacity db unit hands.guesses (Delete option) (whole_plan schema capacity hands unit option)
    plan_is_effect =
        plan_by (IsEffect schema capacity db unit hands.guesses (Delete option)) (refusal_is_effect schema capacity db unit hands.guesses (Delete option))
        (λ k current e has p. done_is_effect k current e has p)

    -- each edit is of a held cell
    all_held : list_all (λ (e : CellEdit). holds hands.cells e.name) (whole_plan schema capacity hands unit option).cells ≡ true
    all_held =
        plan_by (λ (plan : Plan). list_all (λ (e : CellEdit). holds hands.cells e.name) plan.cells ≡ true) (λ cause e. refl)
        (λ k current e has p. subst (λ es. list_all (λ (e : CellEdit). holds hands.cells e.name) es ≡ true) (edits_are schema capacity db hands unit agrees option k has p.own p.none p.live)
        (edits_held schema capacity db hands unit agrees option k has p.own p.none p.live))

  pub is_prepared : IsPrepared schema capacity unit hands (Delete option) (whole_plan schema capacity hands unit option)
  is_prepared = record { held = all_held; effects = plan_is_effect }
