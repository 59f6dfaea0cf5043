-- Words beside `SequentialDatabase` that private functions and lemmas use.
use Rattle.std.specs.Prelude.{ℕ, ◌≡◌, List}
use Rattle.dbtg_step.specs.Machine.SequentialDatabase.{Agrees, HeldCells, In, MayMake, NamesCells, NeedsCell, NeedsNothing, NotAmong, SequentialDatabase, with_unit_at}

-- a statement leaves the database legal and changes only held cells
pub record IsLocal (D : SequentialDatabase) (db : D.Db) (units : List D.Unit) (u : ℕ) (unit : D.Unit) (x : D.Statement) (cells : HeldCells D) : Type 0 where
  pub legal : D.Legal (D.effect db unit x).database (with_unit_at units u (D.effect db unit x).unit)
  pub others : (c : D.Cell) → NotAmong D c cells → D.cell (D.effect db unit x).database c ≡ D.cell db c

-- what has to be proved of a database, so that each event of the machine keeps every state lawful
pub record IsSequentialDatabase (D : SequentialDatabase) : Type 0 where
  pub names : NamesCells D
  -- a cell that is needed lies in an area that is held
  pub in_area : (db : D.Db) (units : List D.Unit) (u : ℕ) (unit : D.Unit) (x : D.Statement) (g : D.Guesses) (areas : List ℕ) (cells : HeldCells D) (c : D.Cell) →
      MayMake D db units u unit x → D.need db unit x g areas cells ≡ NeedsCell c → In (D.area c) areas
  -- a statement that needs nothing more is local
  pub local : (db : D.Db) (units : List D.Unit) (u : ℕ) (unit : D.Unit) (x : D.Statement) (g : D.Guesses) (areas : List ℕ) (cells : HeldCells D) →
      MayMake D db units u unit x → Agrees D db cells → D.need db unit x g areas cells ≡ NeedsNothing → IsLocal D db units u unit x cells
