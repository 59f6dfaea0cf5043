-- A legal database with all its units.
use Rattle.std.specs.Prelude.{◌≡◌, ℕ, suc, true, ◌&&◌, nat_lt, nat_le, List, Some, length, slice_get}
use Rattle.std.specs.List.{list_all}
use Rattle.dbtg_schema.specs.Lists.{Lists}
use Rattle.dbtg_unit.specs.declared.unit.Unit.{Unit}
use Rattle.dbtg_unit.specs.Database.State.Base.{Database}
use Rattle.dbtg_unit.specs.Database.State.Belongs.{IsUnitOf, IsWithin}
use Rattle.dbtg_unit.specs.Database.State.Legal.{Legal, UsageAgrees}

-- the unit with this number: of the schema, its keys within the capacity, its modes its entries in the usage lists
pub record IsUnitIn (schema : Lists) (capacity : ℕ) (db : Database) (number : ℕ) (unit : Unit) : Type 0 where
  pub number_is : unit.number ≡ number
  pub of_schema : IsUnitOf schema unit
  pub within : IsWithin capacity unit
  pub usage : UsageAgrees db unit

-- the database is legal; the units, in their order, are its units from 1 on; and no other has an area open
pub record LegalWith (schema : Lists) (capacity : ℕ) (db : Database) (units : List Unit) : Type 0 where
  pub legal : Legal schema capacity db
  pub each : (i : ℕ) (unit : Unit) → slice_get units i ≡ Some unit → IsUnitIn schema capacity db (suc i) unit
  pub users : (a : ℕ) → list_all (λ e. nat_lt 0 e.0 && nat_le e.0 (length units)) (db.usage a) ≡ true
