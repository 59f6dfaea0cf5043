-- How the lists of an extent hang together.
use Rattle.std.specs.Prelude.{◌≡◌, ℕ, ◌<◌, ◌≤◌, ◌^◌, ◌++◌, ◌-◌, List, None, length, replicate, vec_capacity}
use Rattle.dbtg_cells.specs.declared.extent.Number.{Number}
use Rattle.dbtg_cells.specs.declared.extent.NumberLists.{NumberLists}
use Rattle.dbtg_cells.specs.Inside.ByCalc.{IsByCalc}
use Rattle.dbtg_cells.specs.Numbers.{numbers_where, is_used, is_free}

-- the live and the free numbers that have an entry are listed
pub record IsNumbered (numbers : List Number) (live free : List ℕ) : Type 0 where
  pub live_is : live ≡ numbers_where is_used numbers
  pub free_is : free ≡ numbers_where is_free numbers

-- no number above the capacity has an entry, and each list has room for all numbers
pub record HasRoom (capacity entries numbers_room live_room free_room by_calc_room : ℕ) : Type 0 where
  pub few : capacity < 2 ^ 16
  pub within : entries ≤ capacity
  pub of_numbers : capacity ≤ numbers_room
  pub of_live : capacity ≤ live_room
  pub of_free : capacity ≤ free_room
  pub of_by_calc : capacity ≤ by_calc_room

-- all of this holds of the lists of an extent
abbrev pub AreListed : NumberLists → Type 0
AreListed l =
    IsNumbered l.numbers.items l.live.items l.free.items × IsByCalc l.numbers.items l.by_calc.items
    × HasRoom l.capacity (length l.numbers.items) (vec_capacity l.numbers) (vec_capacity l.live) (vec_capacity l.free) (vec_capacity l.by_calc)

-- every number up to the capacity; those without an entry were never used
abbrev pub all_numbers : NumberLists → List Number
all_numbers l = l.numbers.items ++ replicate (l.capacity - length l.numbers.items) (record { last = 0; calc = None })
