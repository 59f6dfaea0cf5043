use Rattle.std.specs.Prelude.{ℕ, List}
use Rattle.dbtg_schema.specs.declared.shape.Area.{Area}
use Rattle.dbtg_schema.specs.declared.shape.RecordType.{RecordType}
use Rattle.dbtg_schema.specs.declared.shape.SetType.{SetType}

-- what a schema says: its name, its areas, its record types and its sets, each in the order of the text
pub record Lists : Type 0 where
  pub name : List ℕ
  pub areas : List Area
  pub types : List RecordType
  pub sets : List SetType
