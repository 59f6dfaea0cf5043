-- What keeps units from waiting for one another for ever: areas are taken in ascending order, then cells in theirs.
use Rattle.std.specs.Prelude.{ℕ, ◌≡◌, ◌<◌, Bool, true, false, List, [], ◌∷◌, Some}
use Rattle.dbtg_step.specs.Machine.SequentialDatabase.{HeldCells, HeldCell, NeedsArea, NeedsCell, SequentialDatabase, In, Agrees, MayMake, unit_at}
use Rattle.dbtg_step.specs.Machine.Machine.{StatementProgress, UnitState, State, SequentialState}
use Rattle.dbtg_step.specs.Machine.Step.{step, MovedTo}

module _ (D : SequentialDatabase) where
  -- some unit's next step is an event
  pub record SomeUnitMoves (opening : SequentialState D) (s : State D) : Type 0 where
    pub who : ℕ
    pub after : State D
    pub moves : step D opening s who ≡ MovedTo after

  -- if a unit is in mid-statement, some unit's next step is an event
  abbrev pub IsNotStuck : SequentialState D → State D → Type 0
  IsNotStuck opening s = (u : ℕ) (state : UnitState D) (w : StatementProgress D) → unit_at s.units u ≡ Some state → state.progress ≡ Some w → SomeUnitMoves opening s

module _ (D : SequentialDatabase) (below : D.Cell → D.Cell → Bool) where
  -- unit u of a legal database, in which the held cells have their values, may make the statement
  pub record MayGoOn (db : D.Db) (unit : D.Unit) (x : D.Statement) (cells : HeldCells D) : Type 0 where
    pub units : List D.Unit
    pub u : ℕ
    pub may : MayMake D db units u unit x
    pub agrees : Agrees D db cells

  -- the areas and cells that are held were taken one after another, each where it was needed next. The database may have
  -- changed between, but not in the cells that are held
  pub data TakenInTurn (unit : D.Unit) (x : D.Statement) (g : D.Guesses) : List ℕ → HeldCells D → Type 0 where
    NoneYet : TakenInTurn unit x g [] []
    AreaNext : {areas : List ℕ} {a : ℕ} (db : D.Db) → TakenInTurn unit x g areas [] →
        D.need db unit x g areas [] ≡ NeedsArea a → TakenInTurn unit x g (a ∷ areas) []
    CellNext : {areas : List ℕ} {cells : HeldCells D} {h : HeldCell D.Cell D.Value} (db : D.Db) → TakenInTurn unit x g areas cells →
        MayGoOn db unit x (h ∷ cells) → D.need db unit x g areas cells ≡ NeedsCell h.name → TakenInTurn unit x g areas (h ∷ cells)

  -- what `need` has to promise
  pub record NeedsInOrder : Type 0 where
    -- if everything was taken in turn, an area that is needed is above all that are held, and no cell is held
    pub area_above : (db : D.Db) (unit : D.Unit) (x : D.Statement) (g : D.Guesses) (areas : List ℕ) (cells : HeldCells D) (a : ℕ) →
        TakenInTurn unit x g areas cells → D.need db unit x g areas cells ≡ NeedsArea a → ((b : ℕ) → In b areas → b < a) × (cells ≡ [])
    -- and a cell that is needed is above all that are held, unless the areas are held exclusively
    pub cell_above : (db : D.Db) (unit : D.Unit) (x : D.Statement) (g : D.Guesses) (areas : List ℕ) (cells : HeldCells D) (c : D.Cell) →
        D.is_exclusive x ≡ false → TakenInTurn unit x g areas cells → MayGoOn db unit x cells → D.need db unit x g areas cells ≡ NeedsCell c →
        (h : HeldCell D.Cell D.Value) → In h cells → below h.name c ≡ true
    -- the areas do not depend on the guesses
    pub areas_stay : (unit : D.Unit) (x : D.Statement) (g g' : D.Guesses) (areas : List ℕ) (cells : HeldCells D) →
        TakenInTurn unit x g areas cells → TakenInTurn unit x g' areas []
