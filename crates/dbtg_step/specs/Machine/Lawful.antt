-- What holds of every state that is reached, and what a state shows of each cell.
use Rattle.std.specs.Prelude.{◌⊎◌, ℕ, suc, ◌≡◌, ◌≢◌, ◌<◌, false, List, [], ◌∷◌, ◌++◌, length, take, map, Option, Some, None, slice_get}
use Rattle.dbtg_step.specs.Machine.SequentialDatabase.{HeldCells, HeldCell, SequentialDatabase, In, Agrees, NotAmong, unit_at}
use Rattle.dbtg_step.specs.Machine.Machine.{CellLocation, Home, HeldBy, StatementProgress, UnitState, HistoryEntry, State, SequentialState, replay, AnswersHold, statements_of, held_cells, held_areas, holds_exclusively, ticket_of}

module _ (D : SequentialDatabase) where
  -- no cell is held twice
  unfoldable pub AreDistinct : HeldCells D → Type 0
  AreDistinct [] = Unit {0}
  AreDistinct (h ∷ hs) = NotAmong D h.name hs × AreDistinct hs

  -- what unit u holds after this history
  pub record Holding (opening : SequentialState D) (location : D.Cell → CellLocation D.Value) (past : List (HistoryEntry D)) (u : ℕ) (progress : Option (StatementProgress D)) : Type 0 where
    pub held : (h : HeldCell D.Cell D.Value) → In h (held_cells D progress) → location h.name ≡ HeldBy u
    pub values : Agrees D (replay D opening past).database (held_cells D progress)
    pub in_area : (h : HeldCell D.Cell D.Value) → In h (held_cells D progress) → In (D.area h.name) (held_areas D progress)
    pub distinct : AreDistinct (held_cells D progress)
    -- a ticket is in the history, and the held cells have their new values: those after the history up to the ticket
    pub ticket : (t : ℕ) → ticket_of D progress ≡ Some t → t < length past
    pub due : (t : ℕ) → ticket_of D progress ≡ Some t → Agrees D (replay D opening (take (suc t) past)).database (held_cells D progress)

  -- the unit's entries are the beginning of its script, whose statements fit
  pub record UnitLawful (opening : SequentialState D) (location : D.Cell → CellLocation D.Value) (past : List (HistoryEntry D)) (u : ℕ) (state : UnitState D) : Type 0 where
    pub script : statements_of D u past ++ state.remaining ≡ state.script
    pub fits : (x : D.Statement) → In x state.script → D.Fits x
    pub holding : Holding opening location past u state.progress

  -- two units that hold an area share it
  abbrev pub AreasShared : Option (StatementProgress D) → Option (StatementProgress D) → Type 0
  AreasShared v w = (a : ℕ) → In a (held_areas D v) → In a (held_areas D w) → (holds_exclusively D v ≡ false) × (holds_exclusively D w ≡ false)

  -- cell c is held
  pub record HoldsCell (progress : Option (StatementProgress D)) (c : D.Cell) : Type 0 where
    pub which : HeldCell D.Cell D.Value
    pub is_in : In which (held_cells D progress)
    pub name : which.name ≡ c

  -- unit u holds cell c
  pub record IsHolder (units : List (UnitState D)) (u : ℕ) (c : D.Cell) : Type 0 where
    pub state : UnitState D
    pub found : unit_at units u ≡ Some state
    pub holds : HoldsCell state.progress c

  -- a state that events can reach: the history replays on the sequential database, whose cells are those at home and those
  -- that are held, and whose units are the units
  pub record Lawful (opening : SequentialState D) (s : State D) : Type 0 where
    -- the history is one of the sequential database, with tickets in order, and the units are those to which it leads
    pub counter : s.counter ≡ length s.history
    pub tickets : (k : ℕ) (e : HistoryEntry D) → slice_get s.history k ≡ Some e → e.ticket ≡ k
    pub answers : AnswersHold D opening s.history
    pub units : map (λ state. state.unit) s.units ≡ (replay D opening s.history).units
    pub legal : D.Legal (replay D opening s.history).database (replay D opening s.history).units
    -- each unit is lawful, and no two hold an area in a way that conflicts
    pub each : (u : ℕ) (state : UnitState D) → unit_at s.units u ≡ Some state → UnitLawful opening s.location s.history u state
    pub apart : (u w : ℕ) (a b : UnitState D) → u ≢ w → unit_at s.units u ≡ Some a → unit_at s.units w ≡ Some b → AreasShared a.progress b.progress
    -- a cell at home has the value that the database of the history has, and another is with its holder
    pub home : (c : D.Cell) (v : D.Value) → s.location c ≡ Home v → v ≡ D.cell (replay D opening s.history).database c
    pub holder : (c : D.Cell) (u : ℕ) → s.location c ≡ HeldBy u → IsHolder s.units u c

  -- what a held cell shows: without a ticket what was taken; with one its new value, after the history up to the ticket
  unfoldable pub ShownAs : SequentialState D → List (HistoryEntry D) → Option ℕ → HeldCell D.Cell D.Value → D.Value → Type 0
  ShownAs opening past None h v = v ≡ h.value
  ShownAs opening past (Some t) h v = v ≡ D.cell (replay D opening (take (suc t) past)).database h.name

  -- the unit that holds c shows v for it
  pub record ShownByHolder (opening : SequentialState D) (s : State D) (c : D.Cell) (v : D.Value) : Type 0 where
    pub who : ℕ
    pub state : UnitState D
    pub found : unit_at s.units who ≡ Some state
    pub holds : HoldsCell state.progress c
    pub shown : ShownAs opening s.history (ticket_of D state.progress) holds.which v

  -- the image of the state has v for cell c
  abbrev pub ImageHas : SequentialState D → State D → D.Cell → D.Value → Type 0
  ImageHas opening s c v = (s.location c ≡ Home v) ⊎ ShownByHolder opening s c v

  -- nothing has happened yet: all cells are at home, all units are before their scripts, which fit
  pub record IsOpening (opening : SequentialState D) (s : State D) : Type 0 where
    pub location : (c : D.Cell) → s.location c ≡ Home (D.cell opening.database c)
    pub history : s.history ≡ []
    pub counter : s.counter ≡ 0
    pub units : map (λ state. state.unit) s.units ≡ opening.units
    pub legal : D.Legal opening.database opening.units
    pub idle : (u : ℕ) (state : UnitState D) → unit_at s.units u ≡ Some state → (state.progress ≡ None) × (state.remaining ≡ state.script)
    pub fits : (u : ℕ) (state : UnitState D) (x : D.Statement) → unit_at s.units u ≡ Some state → In x state.script → D.Fits x
