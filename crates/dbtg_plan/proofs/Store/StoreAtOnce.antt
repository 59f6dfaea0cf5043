-- A STORE that is made at once makes what its plan would.
-- k is the key of the new record, s a set, t its record type.
use Rattle.std.proofs.Common.{◌≡◌, refl, sym, ◌∙◌, ap, subst, ℕ, List, Option, None}
use Rattle.std.specs.Prelude.{Result, Ok, Err, IfOk, unwrap_or}
use Rattle.dbtg_schema.specs.Lists.{Lists}
use Rattle.dbtg_cells.specs.declared.key.DbKey.{DbKey}
use Rattle.dbtg_cells.specs.declared.key.Value.{Value}
use Rattle.dbtg_unit.specs.declared.statement.Statement.TheVariants.{Store}
use Rattle.dbtg_unit.specs.declared.statement.Suppress.{Suppress}
use Rattle.dbtg_unit.specs.declared.unit.Answer.{Answer}
use Rattle.dbtg_unit.specs.declared.unit.Cause.{Cause}
use Rattle.dbtg_unit.specs.declared.unit.Unit.{Unit}
use Rattle.dbtg_unit.specs.Database.State.Base.{Database}
use Rattle.dbtg_unit.specs.Database.Statements.Checks.{refused_at_once}
use Rattle.dbtg_unit.specs.Hands.EditsOf.{store_edits}
use Rattle.dbtg_unit.specs.Hands.Hands.{Hands}
use Rattle.dbtg_unit.specs.Hands.InHand.{in_hand}
use Rattle.dbtg_unit.specs.Hands.Local.{Agrees}
use Rattle.dbtg_unit.specs.Hands.Locality.{IsMadeOnEach, Made, made_by, seen}
use Rattle.dbtg_unit.specs.Hands.Making.{CanMake, MayPrepare, ShowsTheSame}
use Rattle.dbtg_unit.specs.Hands.Prepared.{Plan}
use Rattle.dbtg_unit.specs.Inside.PlanOf.{plan_of}
use Rattle.dbtg_unit.proofs.Public.{agrees_same, prepared_makes}
use Rattle.dbtg_plan.specs.Inside.Store.{HasRoom, plan_of_judged}
use Rattle.dbtg_plan.proofs.Store.StoreFinish.{store_finishes, store_prepared}

module _ (schema : Lists) (capacity : ℕ) (unit : Unit) (hands : Hands) (t : ℕ) (items : List Value) (suppress : Suppress)
    (may : MayPrepare schema capacity unit hands (Store t items suppress)) (passes : refused_at_once schema capacity unit (Store t items suppress) ≡ None) where
  -- the plan makes the statement
  plan_is_made : IsMadeOnEach schema capacity unit hands (Store t items suppress) (made_by schema unit hands (plan_of schema (in_hand hands) unit (Store t items suppress)))
  plan_is_made =
      let same : ShowsTheSame hands hands = record { areas = refl; cells = refl; guesses = refl } in
      prepared_makes schema capacity unit (Store t items suppress) (plan_of schema (in_hand hands) unit (Store t items suppress)) hands hands may same (store_prepared schema capacity unit hands hands t items suppress may passes same)

  module _ (judged : Result DbKey Cause) (is : (x : Suppress) → plan_of schema (in_hand hands) unit (Store t items x) ≡ plan_of_judged schema unit items x judged) where
    -- so does what makes what is planned for what was judged
    pub judged_is_made : (made : Made) → made ≡ made_by schema unit hands (plan_of_judged schema unit items suppress judged) → IsMadeOnEach schema capacity unit hands (Store t items suppress) made
    judged_is_made made makes = subst (IsMadeOnEach schema capacity unit hands (Store t items suppress)) (ap (made_by schema unit hands) (is suppress) ∙ sym makes) plan_is_made

    pub stored_if_ok : {E : Type 0} (answered : Result Answer E) (unit' : Unit) (new : Hands) → IfOk answered (λ answer. seen answer unit' new ≡ made_by schema unit hands (plan_of_judged schema unit items suppress judged))
        → IfOk answered (λ answer. IsMadeOnEach schema capacity unit hands (Store t items suppress) (seen answer unit' new))
    stored_if_ok (Ok answer) unit' new makes = judged_is_made (seen answer unit' new) makes
    stored_if_ok (Err e) unit' new makes = tt

    -- the edits of a record that gets a key can be made, once there is a place for it
    pub stored_can_make : (db : Database) → Agrees schema capacity db hands unit → (k : DbKey) → judged ≡ Ok k → (new : Hands) → ShowsTheSame hands new → ((s : ℕ) → HasRoom schema unit new k s) → CanMake (store_edits schema unit k items) new.cells
    stored_can_make db agrees k ok new same rooms =
        let planned : plan_of schema (in_hand hands) unit (Store t items suppress) ≡ plan_of_judged schema unit items suppress (Ok k) = is suppress ∙ ap (plan_of_judged schema unit items suppress) ok in
        subst (λ (p : Plan). CanMake p.cells new.cells) planned
        ((store_finishes schema capacity unit hands new t items suppress may passes same
        (λ k' s h. subst (λ (key : DbKey). HasRoom schema unit new key s) (ap (λ (o : Option DbKey). unwrap_or o k) (sym (ap (λ (p : Plan). p.answer.key) planned) ∙ h)) (rooms s))).can_make
        db (agrees_same schema capacity db unit hands new same agrees))
