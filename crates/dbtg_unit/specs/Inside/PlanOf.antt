-- A word beside `PlanOf` that private functions and lemmas use.
use Rattle.dbtg_schema.specs.Lists.{Lists}
use Rattle.dbtg_schema.specs.Lookups.{first_cause}
use Rattle.dbtg_unit.specs.declared.statement.Statement.{Statement}
use Rattle.dbtg_unit.specs.declared.unit.Unit.{Unit}
use Rattle.dbtg_unit.specs.Database.Statements.Checks.{checks_on_cells}
use Rattle.dbtg_unit.specs.Database.Statements.StoredFacts.{StoredFacts}
use Rattle.dbtg_unit.specs.Hands.Prepared.{Plan}
use Rattle.dbtg_unit.specs.Inside.Prepared.{unless_refusal}
use Rattle.dbtg_unit.specs.Hands.PlanOf.{done_plan_of}

-- the plan of a statement that no check without cells refuses
abbrev pub plan_of : Lists → StoredFacts → Unit → Statement → Plan
plan_of schema view unit statement = unless_refusal (first_cause (checks_on_cells schema view unit statement)) (done_plan_of schema view unit statement)
