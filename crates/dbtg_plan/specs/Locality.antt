-- What a statement holds determines what it does.
use Rattle.std.specs.Prelude.{◌≡◌, ℕ, true, false}
use Rattle.dbtg_schema.specs.Lists.{Lists}
use Rattle.dbtg_schema.specs.Sound.{IsSound}
use Rattle.dbtg_unit.specs.declared.held.Need.TheVariants.{Ready}
use Rattle.dbtg_unit.specs.declared.statement.Statement.{Statement}
use Rattle.dbtg_unit.specs.declared.unit.Unit.{Unit}
use Rattle.dbtg_unit.specs.Database.State.Base.{Database}
use Rattle.dbtg_unit.specs.Database.State.Belongs.{IsUnitOf, IsWithin}
use Rattle.dbtg_unit.specs.Hands.EditsOf.{is_delete}
use Rattle.dbtg_unit.specs.Database.Statements.Effect.{effect}
use Rattle.dbtg_unit.specs.Database.Statements.Fits.{fits}
use Rattle.dbtg_unit.specs.Hands.Hands.{Hands}
use Rattle.dbtg_unit.specs.Hands.Local.{Agrees}
use Rattle.dbtg_unit.specs.Hands.Locality.{DoTheSame}
use Rattle.dbtg_unit.specs.Hands.Needs.{need}

-- what a statement that fits holds, once it is ready, determines its answer, its unit and the held cells
abbrev pub EachIsDetermined : Type 0
EachIsDetermined =
    (schema : Lists) (capacity : ℕ) (db eb : Database) (hands : Hands) (unit : Unit) (statement : Statement)
    → IsSound schema → IsUnitOf schema unit → IsWithin capacity unit → fits schema statement ≡ true → is_delete statement ≡ false
    → Agrees schema capacity db hands unit → Agrees schema capacity eb hands unit
    → need schema capacity db unit hands statement ≡ Ready → DoTheSame schema capacity hands (effect schema capacity db unit statement) (effect schema capacity eb unit statement)
