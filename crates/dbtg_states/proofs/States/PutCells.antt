-- Cells that are put into the array of a state, one after another.
-- d is a database, c the name of a cell, ns are names, n and array are numbers of arrays, i is a place among the names.
use Rattle.std.proofs.Common.{◌≡◌, ◌∙◌, ap, subst, ℕ, suc, ◌+◌, ◌<◌, Bool, true, List, ◌∷◌, drop, Some, arith, slice_get}
use Rattle.std.proofs.lemmas.Option.{slice_get_within}
use Rattle.dbtg_schema.proofs.Public.{some_is}
use Rattle.dbtg_cells.specs.CellNumbers.{cell_count, cell_number, cells_in_order, is_cell}
use Rattle.dbtg_cells.specs.declared.name.CellName.{CellName}
use Rattle.dbtg_cells.proofs.Public.{has_number, stands_at}
use Rattle.dbtg_step.specs.Core.Whole.{Making}
use Rattle.dbtg_states.specs.Parts.{part_in, parts_in}
use Rattle.dbtg_states.specs.Numbers.{Grow, HasPut, IsNumberBut, Numbers}
use Rattle.dbtg_states.proofs.States.Numbers.{cell_put, grow_more, grow_none, left_from}

module _ (d : Making) where
  -- the number of a cell is below their count
  pub number_low : (c : CellName) (k : ℕ) → cell_number d.schema d.capacity c ≡ Some k → k < cell_count d.schema d.capacity
  number_low c k e = slice_get_within (cells_in_order d.schema d.capacity) k c (stands_at c (cells_in_order d.schema d.capacity) k e)

  module _ (versions : Bool) (units : ℕ) where
    -- the cells of these names are put, but for those that are left
    pub record ArePut (old new : Numbers) (ns left : List CellName) (array n : ℕ) : Type 0 where
      pub keeps : Grow old new
      pub but : (unit : ℕ → List ℕ) → IsNumberBut (parts_in versions units d unit) old units ns array → IsNumberBut (parts_in versions units d unit) new units left n

    pub none_put : (old : Numbers) (ns : List CellName) (array : ℕ) → ArePut old old ns ns array array
    none_put old ns array = record { keeps = grow_none old; but = λ unit h. h }

    -- one more
    pub one_put : (old mid new : Numbers) (ns : List CellName) (i : ℕ) (c : CellName) (array n k : ℕ) → slice_get ns i ≡ Some c → is_cell d.schema d.capacity c ≡ true
        → ArePut old mid ns (drop i ns) array n → ((j : ℕ) → cell_number d.schema d.capacity c ≡ Some j → HasPut mid new n (units + j) (part_in versions units d c) k) → ArePut old new ns (drop (i + 1) ns) array k
    one_put old mid new ns i c array n k at there so_far put =
        let number = some_is (cell_number d.schema d.capacity c) (has_number d.schema d.capacity c ∙ there) in
        let one = put number.0 number.1 in
        let next : suc i ≡ i + 1 = omega arith in
        let left : drop i ns ≡ c ∷ drop (i + 1) ns = left_from ns i c at ∙ ap (λ j. c ∷ drop j ns) next in
        record {
          keeps = grow_more old mid new so_far.keeps one.keeps;
          but = λ unit h.
              cell_put (parts_in versions units d unit) mid new units c (drop (i + 1) ns) n number.0 k (omega arith) number.1
              (subst (λ (l : List CellName). IsNumberBut (parts_in versions units d unit) mid units l n) left (so_far.but unit h)) one;
        }
