-- An outcome is a refusal, or what the statement does.
use Rattle.std.proofs.Common.{◌≡◌, refl, ℕ, Bool, List, Option, Some, None}
use Rattle.std.specs.Prelude.{Result, Ok, Err}
use Rattle.dbtg_schema.specs.Lists.{Lists}
use Rattle.dbtg_schema.specs.Lookups.{first_cause}
use Rattle.dbtg_cells.specs.declared.key.DbKey.{DbKey}
use Rattle.dbtg_unit.specs.declared.statement.Statement.{Statement}
use Rattle.dbtg_unit.specs.declared.unit.Unit.{Unit}
use Rattle.dbtg_unit.specs.declared.unit.Cause.{Cause}
use Rattle.dbtg_unit.specs.Database.State.Base.{Database}
use Rattle.dbtg_unit.specs.Database.Statements.Checks.{about, refused_at_once}
use Rattle.dbtg_unit.specs.Database.Statements.Effect.{StatementEffect, effect, effect_on_cells, done, done_on_current, refused, unless_refused, finding}

-- the outcome of a statement about a current, which passes these checks
abbrev pub on_current : Database → Unit → Option DbKey → (DbKey → List (Bool × Cause)) → (DbKey → StatementEffect) → StatementEffect
on_current db unit current checks outcome = unless_refused db unit (first_cause (about current checks)) (done_on_current db unit current outcome)

module _ (db : Database) (unit : Unit) (P : StatementEffect → Type 0) (refusal : (cause : Cause) → P (refused db unit cause)) where
  pub of_unless : (check : Option Cause) (outcome : StatementEffect) → (check ≡ None → P outcome) → P (unless_refused db unit check outcome)
  of_unless (Some cause) outcome h = refusal cause
  of_unless None outcome h = h refl

  pub of_done : (current : Option DbKey) (outcome : DbKey → StatementEffect) → ((k : DbKey) → current ≡ Some k → P (outcome k)) → P (done_on_current db unit current outcome)
  of_done None outcome h = refusal _
  of_done (Some k) outcome h = h k refl

  pub of_current : (current : Option DbKey) (checks : DbKey → List (Bool × Cause)) (outcome : DbKey → StatementEffect)
      → ((k : DbKey) → current ≡ Some k → first_cause (checks k) ≡ None → P (outcome k)) → P (on_current db unit current checks outcome)
  of_current None checks outcome h = refusal _
  of_current (Some k) checks outcome h = of_unless (first_cause (checks k)) (outcome k) (h k refl)

  pub of_finding : (result : Result DbKey Cause) (after : DbKey → Unit) → ((k : DbKey) → result ≡ Ok k → P (done db (after k) (Some k) None)) → P (finding db unit result after)
  of_finding (Ok k) after h = h k refl
  of_finding (Err cause) after h = refusal cause

  pub of_effect : (schema : Lists) (capacity : ℕ) (statement : Statement)
      → (refused_at_once schema capacity unit statement ≡ None → P (effect_on_cells schema capacity db unit statement)) → P (effect schema capacity db unit statement)
  unfolding effect
  of_effect schema capacity statement h = of_unless (refused_at_once schema capacity unit statement) (effect_on_cells schema capacity db unit statement) h
