-- When what is prepared is a statement's effect.
-- k is a key, v a version, c the name of a cell.
use Rattle.std.proofs.Common.{◌≡◌, refl, sym, ◌∙◌, ap, ℕ, false, cond, List, [], ◌∷◌, Option, None, map, inl, inr}
use Rattle.std.specs.Prelude.{if◌then◌else◌}
use Rattle.std.proofs.lemmas.Bool.{cases_Bool}
use Rattle.dbtg_schema.specs.Lists.{Lists}
use Rattle.dbtg_cells.specs.declared.key.DbKey.{DbKey}
use Rattle.dbtg_cells.specs.declared.key.Owner.{Owner}
use Rattle.dbtg_cells.specs.Keys.{key_eq}
use Rattle.dbtg_cells.proofs.Public.{same_key}
use Rattle.dbtg_unit.specs.declared.statement.Statement.{Statement}
use Rattle.dbtg_unit.specs.declared.unit.Cause.{Cause}
use Rattle.dbtg_unit.specs.declared.unit.Status.TheVariants.{Done}
use Rattle.dbtg_unit.specs.declared.unit.Unit.{Unit}
use Rattle.dbtg_unit.specs.Database.State.Base.{Database}
use Rattle.dbtg_unit.specs.Database.State.Cells.{cell}
use Rattle.dbtg_unit.specs.Database.Statements.Checks.{refused_at_once}
use Rattle.dbtg_unit.specs.Hands.Edits.{edited_at}
use Rattle.dbtg_unit.specs.Hands.EditsOf.{edits_of, is_delete}
use Rattle.dbtg_unit.specs.Database.Statements.Effect.{StatementEffect, effect, effect_on_cells, refused, unless_refused, version_of}
use Rattle.dbtg_unit.specs.Hands.Guesses.{guesses_after}
use Rattle.dbtg_unit.specs.Hands.Hands.{Hands}
use Rattle.dbtg_unit.specs.Database.State.Kept.{renoted_entry, noted_again}
use Rattle.dbtg_unit.specs.Hands.Local.{Agrees}
use Rattle.dbtg_unit.specs.Hands.Prepared.{IsEffect, Plan, guesses_edited, unit_after, refusal}
use Rattle.dbtg_unit.proofs.Public.{MayPlan, effect_is_its_edits, legal_after}

-- where no check without cells refuses, the effect is that on the cells
pub effect_is_on_cells : (schema : Lists) (capacity : ℕ) (db : Database) (unit : Unit) (statement : Statement) → refused_at_once schema capacity unit statement ≡ None
    → effect schema capacity db unit statement ≡ effect_on_cells schema capacity db unit statement
unfolding effect
effect_is_on_cells schema capacity db unit statement passes = ap (λ (o : Option Cause). unless_refused db unit o (effect_on_cells schema capacity db unit statement)) passes

-- a refusal is the effect of a statement that is refused for its cause
pub refusal_is_effect : (schema : Lists) (capacity : ℕ) (db : Database) (unit : Unit) (guesses : List (Option Owner)) (statement : Statement) (cause : Cause)
    → effect schema capacity db unit statement ≡ refused db unit cause → IsEffect schema capacity db unit guesses statement (refusal cause)
refusal_is_effect schema capacity db unit guesses statement cause e = record {
  answer = sym (ap (λ (o : StatementEffect). o.answer) e);
  unit_is = sym (ap (λ (o : StatementEffect). o.unit) e);
  guesses_are = sym (ap (guesses_after schema capacity statement guesses) e);
  cells = λ c. ap (λ (o : StatementEffect). cell schema capacity o.database c) e;
}

-- a plan is the effect of a statement that is done, where its edits are the statement's
pub done_is_effect : (schema : Lists) (capacity : ℕ) (db : Database) (unit : Unit) (hands : Hands) (statement : Statement) (plan : Plan) → is_delete statement ≡ false
    → MayPlan schema capacity unit hands statement → Agrees schema capacity db hands unit
    → plan.answer.status ≡ Done → plan.answer ≡ (effect schema capacity db unit statement).answer → plan.cells ≡ edits_of schema capacity db unit statement
    → unit_after schema plan unit ≡ (effect schema capacity db unit statement).unit
    → guesses_edited plan.unit hands.guesses ≡ guesses_after schema capacity statement hands.guesses (effect schema capacity db unit statement)
    → IsEffect schema capacity db unit hands.guesses statement plan
done_is_effect schema capacity db unit hands statement plan other may agrees is_done answer cells unit_is guesses_are = record {
  answer = answer;
  unit_is = unit_is;
  guesses_are = guesses_are;
  cells = λ c.
      effect_is_its_edits schema capacity db unit statement other agrees.legal
      (legal_after schema capacity db unit hands may.sound may.of_schema may.within statement may.fits agrees)
      (ap (λ a. a.status) (sym answer) ∙ is_done) c
      ∙ ap (λ es. edited_at c es (cell schema capacity db c)) (sym cells);
}

-- a kept list in which k is noted at its version
pub noted_renoted : (k : DbKey) (v : ℕ) (db : Database) → version_of db k ≡ v → (kept : List (DbKey × ℕ)) → noted_again k v kept ≡ map (λ e. if key_eq k e.0 then (e.0, version_of db e.0) else e) kept
noted_renoted k v db is [] = refl
noted_renoted k v db is (e ∷ es) = λ i. noted e i ∷ noted_renoted k v db is es i where
  noted : (e : DbKey × ℕ) → renoted_entry k v e ≡ (if key_eq k e.0 then (e.0, version_of db e.0) else e)
  noted e =
      elim (cases_Bool (key_eq k e.0)) [
        | inl same ↦ ap (λ n. if key_eq k e.0 then (e.0, n) else e) (sym is ∙ ap (version_of db) (same_key k e.0 same))
        | inr apart ↦ ap (λ b. cond b (e.0, v) e) apart ∙ sym (ap (λ b. cond b (e.0, version_of db e.0) e) apart)
      ]
