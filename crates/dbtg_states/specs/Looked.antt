-- A statement looks at its unit and at the cells that it holds: where these are alike, it does the same.
-- n is the number of units, u one of them, i the place of a unit among them from 0, c the name of a cell; db and eb are databases.
use Rattle.std.specs.Prelude.{◌≡◌, ℕ, ◌-◌, true, false, List, Some, length, slice_get}
use Rattle.std.specs.List.{list_all}
use Rattle.dbtg_schema.specs.Lists.{Lists}
use Rattle.dbtg_schema.specs.Sound.{IsSound}
use Rattle.dbtg_cells.specs.CellNumbers.{is_cell}
use Rattle.dbtg_cells.specs.declared.name.CellName.{CellName}
use Rattle.dbtg_unit.specs.declared.held.Need.TheVariants.{Ready}
use Rattle.dbtg_unit.specs.declared.statement.Statement.{Statement}
use Rattle.dbtg_unit.specs.declared.unit.Unit.{Unit}
use Rattle.dbtg_unit.specs.Database.State.Base.{Database}
use Rattle.dbtg_unit.specs.Database.State.Cells.{cell}
use Rattle.dbtg_unit.specs.Database.Statements.Effect.{StatementEffect, effect}
use Rattle.dbtg_unit.specs.Database.Statements.Fits.{fits}
use Rattle.dbtg_unit.specs.Database.Laws.Replay.{State}
use Rattle.dbtg_unit.specs.Database.Laws.StaysLegal.{IsLegalState}
use Rattle.dbtg_unit.specs.Hands.Hands.{Hands}
use Rattle.dbtg_unit.specs.Hands.Local.{Agrees, AllAgree, holds, names_of}
use Rattle.dbtg_unit.specs.Hands.Needs.{need}
use Rattle.dbtg_states.specs.Parts.{shown_numbers}

-- what a cell of a database says, but for the order in which units opened an area
abbrev pub says : Lists → ℕ → ℕ → Database → CellName → List ℕ
says schema capacity n db c = shown_numbers true n (cell schema capacity db c)

-- two databases say the same in each held cell
abbrev pub HeldSayTheSame : Lists → ℕ → ℕ → Hands → Database → Database → Type 0
HeldSayTheSame schema capacity n hands db eb = (c : CellName) → holds hands.cells c ≡ true → says schema capacity n db c ≡ says schema capacity n eb c

-- a legal state with this number of units, and this unit at its place
pub record IsStateWith (schema : Lists) (capacity n i : ℕ) (unit : Unit) (state : State) : Type 0 where
  pub legal : IsLegalState schema capacity state
  pub count : length state.units ≡ n
  pub stands : slice_get state.units i ≡ Some unit

-- the statement needs no more than these cells, which the database has alike; nor would it on any database that has them alike
pub record HoldsAll (schema : Lists) (capacity : ℕ) (db : Database) (hands : Hands) (unit : Unit) (x : Statement) : Type 0 where
  pub agree : AllAgree schema capacity db hands.cells
  pub ready : (eb : Database) → Agrees schema capacity eb hands unit → need schema capacity eb unit hands x ≡ Ready

-- so it is with cells of these names
pub record IsReadyWith (schema : Lists) (capacity : ℕ) (db : Database) (unit : Unit) (x : Statement) (names : List CellName) : Type 0 where
  pub hands : Hands
  pub names_are : names_of hands.cells ≡ names
  pub holds_all : HoldsAll schema capacity db hands unit x

-- unit u's statement x, where it is made in this state, looks at these cells of the schema beside its unit
pub record AreLookedAt (schema : Lists) (capacity : ℕ) (state : State) (u : ℕ) (x : Statement) (names : List CellName) : Type 0 where
  pub are_cells : list_all (is_cell schema capacity) names ≡ true
  pub ready : (unit : Unit) → slice_get state.units (u - 1) ≡ Some unit → IsReadyWith schema capacity state.database unit x names

-- two outcomes have one answer and one unit, and say the same in the held cells; and one of them says in all other cells what its
-- database said before
pub record LookAlike (schema : Lists) (capacity n : ℕ) (hands : Hands) (before : Database) (o p : StatementEffect) : Type 0 where
  pub answer : o.answer ≡ p.answer
  pub unit : o.unit ≡ p.unit
  pub held : HeldSayTheSame schema capacity n hands o.database p.database
  pub others : (c : CellName) → holds hands.cells c ≡ false → says schema capacity n p.database c ≡ says schema capacity n before c

-- a statement that fits and holds all that it needs does the same to each legal state that has its unit and says the same in the held cells
abbrev pub LookedAtDetermines : Type 0
LookedAtDetermines =
    (schema : Lists) (capacity n i : ℕ) (hands : Hands) (unit : Unit) (x : Statement) (one other : State)
    → IsSound schema → fits schema x ≡ true → IsStateWith schema capacity n i unit one → IsStateWith schema capacity n i unit other
    → HoldsAll schema capacity one.database hands unit x → HeldSayTheSame schema capacity n hands one.database other.database
    → LookAlike schema capacity n hands other.database (effect schema capacity one.database unit x) (effect schema capacity other.database unit x)
