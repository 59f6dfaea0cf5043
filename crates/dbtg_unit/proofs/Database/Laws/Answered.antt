-- A refusal gives back database and unit, and answers have a key and items where they should.
use Rattle.std.proofs.Common.{◌≡◌, refl, ℕ, Bool, true, false, List, [], ◌∷◌, Option, Some, None}
use Rattle.std.specs.Prelude.{◌==◌, ◌++◌, is_some, unwrap_or, slice_set, if◌then◌else◌}
use Rattle.dbtg_schema.specs.Lists.{Lists}
use Rattle.dbtg_schema.specs.Lookups.{first_cause}
use Rattle.dbtg_cells.specs.declared.key.DbKey.{DbKey}
use Rattle.dbtg_cells.specs.declared.key.Value.{Value}
use Rattle.dbtg_unit.specs.declared.statement.Statement.{Statement}
use Rattle.dbtg_unit.specs.declared.statement.Statement.TheVariants.{OpenArea, CloseArea, Find, Get, Store, Insert, Remove, Modify, Delete, Keep, Free}
use Rattle.dbtg_unit.specs.declared.unit.Unit.{Unit}
use Rattle.dbtg_unit.specs.declared.unit.Cause.{Cause}
use Rattle.dbtg_unit.specs.declared.unit.Status.TheVariants.{Done, Refused}
use Rattle.dbtg_unit.specs.Database.State.Base.{Database}
use Rattle.dbtg_unit.specs.Database.Statements.Effect.{StatementEffect, effect, effect_on_cells, done, refused, store_checks, stored, new_key, free_number}
use Rattle.dbtg_unit.specs.Database.Statements.Checks.{open_checks}
use Rattle.dbtg_unit.specs.Database.Statements.StoredFacts.{whole}
use Rattle.dbtg_unit.proofs.Database.Legal.Outcomes.{of_current, of_done as of_done_current, of_effect, of_finding, of_unless, on_current}
use Rattle.dbtg_unit.specs.Database.Statements.Found.{found}
use Rattle.dbtg_unit.specs.Database.Laws.Answering.{gives_key, gives_items, IsAnswered}

not_refused : {X : Type 0} {cause : Cause} → Done ≡ Refused cause → X
not_refused h = cc

module _ (db : Database) (unit : Unit) (statement : Statement) where
  of_refused : (cause : Cause) → IsAnswered db unit statement (refused db unit cause)
  of_refused cause = record { refusal = λ c h. (refl, refl); key = refl; items = refl }

  of_done : (new : Database) (after : Unit) (key : Option DbKey) (items : Option (List Value)) → is_some key ≡ gives_key statement → is_some items ≡ gives_items statement
      → IsAnswered db unit statement (done new after key items)
  of_done new after key items h g = record { refusal = λ c e. not_refused e; key = h; items = g }

  abbrev Answers : StatementEffect → Type 0
  Answers = IsAnswered db unit statement

  of_statement_about : (current : Option DbKey) (checks : DbKey → List (Bool × Cause)) (outcome : DbKey → StatementEffect) → ((k : DbKey) → Answers (outcome k)) → Answers (on_current db unit current checks outcome)
  of_statement_about current checks outcome h = of_current db unit Answers of_refused current checks outcome (λ k e free. h k)

module _ (schema : Lists) (capacity : ℕ) (db : Database) (unit : Unit) where
  on_cells : (statement : Statement) → IsAnswered db unit statement (effect_on_cells schema capacity db unit statement)
  on_cells (OpenArea a mode) =
      of_unless db unit (IsAnswered db unit (OpenArea a mode)) (of_refused db unit (OpenArea a mode)) (first_cause (open_checks (whole schema capacity db) a mode))
      (done (record db { usage = λ b. if b == a then db.usage b ++ (unit.number, mode) ∷ [] else db.usage b }) (record unit { modes = slice_set unit.modes a (Some mode) }) None None)
      (λ free. record { refusal = λ c e. not_refused e; key = refl; items = refl })
  on_cells (CloseArea a) = of_done db unit (CloseArea a) _ _ None None refl refl
  on_cells (Find suppress form) = of_finding db unit (IsAnswered db unit (Find suppress form)) (of_refused db unit (Find suppress form)) (found schema capacity db unit form) _ (λ k e. of_done db unit (Find suppress form) _ _ _ _ refl refl)
  on_cells (Get r) = of_statement_about db unit (Get r) unit.currency.run_unit _ _ (λ k. of_done db unit (Get r) _ _ _ _ refl refl)
  on_cells (Store t items suppress) =
      of_unless db unit (IsAnswered db unit (Store t items suppress)) (of_refused db unit (Store t items suppress)) (first_cause (store_checks schema (whole schema capacity db) unit t items))
      (stored schema capacity db unit (new_key db t (unwrap_or (free_number capacity db t) 0)) items suppress) (λ free. record { refusal = λ c e. not_refused e; key = refl; items = refl })
  on_cells (Insert s) = of_statement_about db unit (Insert s) unit.currency.run_unit _ _ (λ k. of_done db unit (Insert s) _ _ _ _ refl refl)
  on_cells (Remove s) = of_statement_about db unit (Remove s) unit.currency.run_unit _ _ (λ k. of_done db unit (Remove s) _ _ _ _ refl refl)
  on_cells (Modify t changes) = of_statement_about db unit (Modify t changes) unit.currency.run_unit _ _ (λ k. of_done db unit (Modify t changes) _ _ _ _ refl refl)
  on_cells (Delete option) = of_statement_about db unit (Delete option) unit.currency.run_unit _ _ (λ k. of_done db unit (Delete option) _ _ _ _ refl refl)
  on_cells Keep = of_statement_about db unit Keep unit.currency.run_unit _ _ (λ k. of_done db unit Keep _ _ _ _ refl refl)
  on_cells (Free true) = of_done db unit (Free true) _ _ None None refl refl
  on_cells (Free false) = of_done_current db unit (IsAnswered db unit (Free false)) (of_refused db unit (Free false)) unit.currency.run_unit _ (λ k e. of_done db unit (Free false) _ _ _ _ refl refl)

  pub each_is_answered : (statement : Statement) → IsAnswered db unit statement (effect schema capacity db unit statement)
  each_is_answered statement = of_effect db unit (IsAnswered db unit statement) (of_refused db unit statement) schema capacity statement (λ passes. on_cells statement)
