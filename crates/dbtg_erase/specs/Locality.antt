-- What a DELETE holds determines what it does.
use Rattle.std.specs.Prelude.{◌≡◌, ℕ}
use Rattle.dbtg_schema.specs.Lists.{Lists}
use Rattle.dbtg_schema.specs.Sound.{IsSound}
use Rattle.dbtg_unit.specs.declared.held.Need.TheVariants.{Ready}
use Rattle.dbtg_unit.specs.declared.statement.Erase.{Erase}
use Rattle.dbtg_unit.specs.declared.statement.Statement.TheVariants.{Delete}
use Rattle.dbtg_unit.specs.declared.unit.Unit.{Unit}
use Rattle.dbtg_unit.specs.Database.State.Base.{Database}
use Rattle.dbtg_unit.specs.Database.State.Belongs.{IsUnitOf, IsWithin}
use Rattle.dbtg_unit.specs.Database.Statements.Effect.{effect}
use Rattle.dbtg_unit.specs.Hands.Hands.{Hands}
use Rattle.dbtg_unit.specs.Hands.Local.{Agrees}
use Rattle.dbtg_unit.specs.Hands.Locality.{DoTheSame}
use Rattle.dbtg_unit.specs.Hands.Needs.{need}

-- what a DELETE holds, once it is ready, determines its answer, its unit and the held cells
abbrev pub DeleteIsDetermined : Type 0
DeleteIsDetermined =
    (schema : Lists) (capacity : ℕ) (db eb : Database) (hands : Hands) (unit : Unit) (option : Erase)
    → IsSound schema → IsUnitOf schema unit → IsWithin capacity unit → Agrees schema capacity db hands unit → Agrees schema capacity eb hands unit
    → need schema capacity db unit hands (Delete option) ≡ Ready → DoTheSame schema capacity hands (effect schema capacity db unit (Delete option)) (effect schema capacity eb unit (Delete option))
