-- What the machine of events knows of a sequential database: its types, the effect of a statement, and what a statement
-- has to hold. The network database is an instance (Network.antt).
use Rattle.std.specs.Prelude.{ℕ, zero, suc, ◌≡◌, ◌≢◌, Bool, true, List, [], ◌∷◌, Option, Some, None, slice_get, slice_set, ◌⊎◌}

-- a cell that a unit holds: before its ticket with the value as taken, from the ticket on with its new value
pub record HeldCell (C V : Type 0) : Type 0 where
  pub name : C
  pub value : V

-- what a statement needs next: an area, a cell, to turn back with other guesses, or nothing more
pub data NextNeed (C G : Type 0) : Type 0 where
  NeedsArea : ℕ → NextNeed C G
  NeedsCell : C → NextNeed C G
  StaleGuesses : G → NextNeed C G
  NeedsNothing : NextNeed C G

-- what a statement gives
pub record Effect (D U A : Type 0) : Type 0 where
  pub database : D
  pub unit : U
  pub answer : A

-- x is in the list
abbrev pub In : {X : Type 0} → X → List X → Type 0
In x [] = ⊥
In x (y ∷ ys) = (x ≡ y) ⊎ In x ys

-- units are numbered from 1: the one with this number, and none for 0 or past the end
unfoldable pub unit_at : {X : Type 0} → List X → ℕ → Option X
unit_at xs zero = None
unit_at xs (suc n) = slice_get xs n

-- the list with another one at this number
unfoldable pub with_unit_at : {X : Type 0} → List X → ℕ → X → List X
with_unit_at xs zero x = xs
with_unit_at xs (suc n) x = slice_set xs n x

-- a sequential database, and what a statement needs of it
pub record SequentialDatabase : Type 1 where
  pub Db : Type 0
  pub Cell : Type 0
  pub Value : Type 0
  pub Unit : Type 0
  pub Statement : Type 0
  pub Answer : Type 0
  pub Guesses : Type 0
  -- two names are equal
  pub same_name : Cell → Cell → Bool
  -- the area in which a cell lies
  pub area : Cell → ℕ
  -- what a cell holds
  pub cell : Db → Cell → Value
  -- what the statement does to the database and the unit, and its answer
  pub effect : Db → Unit → Statement → Effect Db Unit Answer
  -- the guesses once the statement has its ticket
  pub guesses_after : Db → Unit → Statement → Guesses → Guesses
  -- what the statement needs next, where the unit holds these areas and cells
  pub need : Db → Unit → Statement → Guesses → List ℕ → List (HeldCell Cell Value) → NextNeed Cell Guesses
  -- a statement that takes its areas exclusively
  pub is_exclusive : Statement → Bool
  -- a statement that the schema has
  pub Fits : Statement → Type 0
  -- a database that statements make, with all its units
  pub Legal : Db → List Unit → Type 0

-- cells that a unit holds, the newest first
abbrev pub HeldCells : SequentialDatabase → Type 0
HeldCells D = List (HeldCell D.Cell D.Value)

-- each held cell has the value that it has in db
abbrev pub Agrees : (D : SequentialDatabase) → D.Db → HeldCells D → Type 0
Agrees D db cells = (h : HeldCell D.Cell D.Value) → In h cells → h.value ≡ D.cell db h.name

-- c is the name of none of them
abbrev pub NotAmong : (D : SequentialDatabase) → D.Cell → HeldCells D → Type 0
NotAmong D c cells = (h : HeldCell D.Cell D.Value) → In h cells → h.name ≢ c

-- unit u of a legal database is about to make a statement that fits
pub record MayMake (D : SequentialDatabase) (db : D.Db) (units : List D.Unit) (u : ℕ) (unit : D.Unit) (x : D.Statement) : Type 0 where
  pub legal : D.Legal db units
  pub found : unit_at units u ≡ Some unit
  pub fits : D.Fits x

-- names tell cells apart, and a cell that is needed isn't held
pub record NamesCells (D : SequentialDatabase) : Type 0 where
  pub same_is : (c d : D.Cell) → D.same_name c d ≡ true → c ≡ d
  pub same_self : (c : D.Cell) → D.same_name c c ≡ true
  pub fresh : (db : D.Db) (unit : D.Unit) (x : D.Statement) (g : D.Guesses) (areas : List ℕ) (cells : HeldCells D) (c : D.Cell) →
      D.need db unit x g areas cells ≡ NeedsCell c → NotAmong D c cells
