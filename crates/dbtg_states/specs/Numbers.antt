-- States by numbers. What each part of a state says is kept once, under a number; a state has the number of the array of its parts' numbers.
-- p stands for the parts of a state, u a unit, c the name of a cell, n the number of a state, i a place in its array.
use Rattle.std.specs.Prelude.{ℕ, ◌≡◌, ◌≢◌, ◌+◌, ◌-◌, ◌<◌, ◌≤◌, false, List, [], Option, Some, option_and_then, slice_get}
use Rattle.dbtg_interned.specs.Kept.{IsContents, Keeps}
use Rattle.dbtg_interned.specs.Arrays.{AreArrays, Grows, IsArray, KeptArrays, elements, size}
use Rattle.dbtg_cells.specs.CellNumbers.{cell_count, cell_number}
use Rattle.dbtg_cells.specs.declared.name.CellName.{CellName}
use Rattle.dbtg_step.specs.Core.Reversible.{is_named}
use Rattle.dbtg_states.specs.Parts.{Parts}

-- what parts say, by number; and the arrays
pub record Numbers : Type 0 where
  pub contents : List (List ℕ)
  pub arrays : KeptArrays

-- each stands once
pub record AreNumbers (kept : Numbers) : Type 0 where
  pub contents : IsContents kept.contents
  pub arrays : AreArrays kept.arrays

-- what was kept stays, at its number
pub record Grow (old new : Numbers) : Type 0 where
  pub contents : Keeps old.contents new.contents
  pub arrays : Grows old.arrays new.arrays

-- what the part at a place says
abbrev pub content_at : Numbers → ℕ → ℕ → Option (List ℕ)
content_at kept n i = option_and_then (slice_get kept.contents) (slice_get (elements kept.arrays n) i)

-- n is the number of a state with these parts, but for the units behind the first, which are this many, and for the pending cells. The
-- units come first in the array, then the cells; behind them are zeros
pub record IsNumberBut (p : Parts) (kept : Numbers) (units : ℕ) (pending : List CellName) (n : ℕ) : Type 0 where
  pub kept_once : AreNumbers kept
  pub room : p.count + cell_count p.schema p.capacity ≤ size kept.arrays
  pub is_array : IsArray kept.arrays n
  pub units_are : (u : ℕ) → 0 < u → u ≤ units → content_at kept n (u - 1) ≡ Some (p.unit u)
  pub cells_are : (c : CellName) (k : ℕ) → cell_number p.schema p.capacity c ≡ Some k → is_named pending c ≡ false → content_at kept n (p.count + k) ≡ Some (p.cell c)
  pub zeros : (i : ℕ) → p.count + cell_count p.schema p.capacity ≤ i → i < size kept.arrays → slice_get (elements kept.arrays n) i ≡ Some 0

-- n is the number of a state with these parts
abbrev pub NumbersState : Parts → Numbers → ℕ → Type 0
NumbersState p kept n = IsNumberBut p kept p.count [] n

-- n is the number of the array that says this at a place, and is otherwise as it was
pub record HasPut (old new : Numbers) (array place : ℕ) (content : List ℕ) (n : ℕ) : Type 0 where
  pub kept_once : AreNumbers new
  pub keeps : Grow old new
  pub is_array : IsArray new.arrays n
  pub at : content_at new n place ≡ Some content
  pub others : (i : ℕ) → i ≢ place → slice_get (elements new.arrays n) i ≡ slice_get (elements old.arrays array) i
