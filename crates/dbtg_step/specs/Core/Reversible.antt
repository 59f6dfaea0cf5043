-- A database on which each statement is made whole, and of which the last statements can be taken back.
-- c is the name of a cell, t a record type, n a number.
use Rattle.std.specs.Prelude.{ℕ, ◌-◌, ◌≡◌, Bool, false, List, length, take}
use Rattle.std.specs.List.{list_any}
use Rattle.dbtg_schema.specs.Lists.{Lists}
use Rattle.dbtg_cells.specs.Names.{name_eq}
use Rattle.dbtg_cells.specs.declared.name.CellName.{CellName}
use Rattle.dbtg_cells.specs.declared.name.CellName.TheVariants.{Slot}
use Rattle.dbtg_unit.specs.Database.State.Base.{Database}
use Rattle.dbtg_unit.specs.Database.State.Cells.{cell}
use Rattle.dbtg_step.specs.Core.Whole.{Making, state_now}

-- WHAT A CALLER SEES

-- the database; and how many of its first statements stay, since they were made before it could be taken back
pub record Reversible : Type 0 where
  pub making : Making
  pub stays : ℕ

-- its first statements alone, as many as this
abbrev pub made_first : ℕ → Making → Making
made_first count m = record m { history = take count m.history }

-- the name is among these
abbrev pub is_named : List CellName → CellName → Bool
is_named names c = list_any (name_eq c) names

-- only these cells show another value after than before, and only numbers of slots among them have another last generation
pub record OnlyChanged (schema : Lists) (capacity : ℕ) (names : List CellName) (before after : Database) : Type 0 where
  pub cells : (c : CellName) → is_named names c ≡ false → cell schema capacity after c ≡ cell schema capacity before c
  pub last : (t n : ℕ) → is_named names (Slot t n) ≡ false → after.last t n ≡ before.last t n

-- the last statement changed only these cells
abbrev pub OnlyLastChanged : Making → List CellName → Type 0
OnlyLastChanged m names = OnlyChanged m.schema m.capacity names (state_now (made_first (length m.history - 1) m)).database (state_now m).database
