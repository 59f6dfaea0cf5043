-- The lemmas that other crates cite. All others are this crate's own, free to change.

-- a key compares alike with itself
pub use Rattle.dbtg_cells.proofs.KeysAlike.{key_eq_refl}
-- the name of a cell compares alike with itself
pub use Rattle.dbtg_cells.proofs.KeysAlike.{name_eq_refl}
-- an owner compares alike with itself
pub use Rattle.dbtg_cells.proofs.KeysAlike.{owner_eq_refl}
-- the place of an owner compares alike with itself
pub use Rattle.dbtg_cells.proofs.KeysAlike.{place_eq_refl}
-- keys that compare alike are one
pub use Rattle.dbtg_cells.proofs.KeysAlike.{same_key}
-- names of cells that compare alike are one
pub use Rattle.dbtg_cells.proofs.KeysAlike.{same_name}
-- owners that compare alike are one
pub use Rattle.dbtg_cells.proofs.KeysAlike.{same_owner}
-- places of owners that compare alike are one
pub use Rattle.dbtg_cells.proofs.KeysAlike.{same_place}
-- values that compare alike are one
pub use Rattle.dbtg_cells.proofs.KeysAlike.{same_value}
-- a list of values compares alike with itself
pub use Rattle.dbtg_cells.proofs.KeysAlike.{values_eq_refl}
-- lists of values that compare alike are the same
pub use Rattle.dbtg_cells.proofs.KeysAlike.{values_eq_same}
-- a name stands in the order of cells just where it is a cell of the schema at this capacity
pub use Rattle.dbtg_cells.proofs.NumbersOfCells.{cell_in_order}
-- a name has a number just where it is a cell of the schema at this capacity
pub use Rattle.dbtg_cells.proofs.NumbersOfCells.{has_number}
-- the cell that stands at a number in the order of cells has this number
pub use Rattle.dbtg_cells.proofs.NumbersOfCells.{numbered_at}
-- a test or nothing else is the test
pub use Rattle.dbtg_cells.proofs.NumbersOfCells.{or_nothing}
-- the cell whose position in a list of cells is found stands there
pub use Rattle.dbtg_cells.proofs.NumbersOfCells.{stands_at}
-- what a list has at an index stays there when more follows
pub use Rattle.dbtg_cells.proofs.PlaceNumbers.{at_left}
-- the number of an extent: its record type's, after the areas
pub use Rattle.dbtg_cells.proofs.PlaceNumbers.{extent_number}
-- what is made of the numbers from a on, at an index
pub use Rattle.dbtg_cells.proofs.PlaceNumbers.{mapped_in_range}
-- the number of the ring of an owner record: the owner's, after areas, types and the rings of earlier sets
pub use Rattle.dbtg_cells.proofs.PlaceNumbers.{ring_number}
-- the number of a slot: its record's, type by type, after areas, types and rings
pub use Rattle.dbtg_cells.proofs.PlaceNumbers.{slot_number}
-- the number of the ring of a system set: after areas, types and the rings of earlier sets
pub use Rattle.dbtg_cells.proofs.PlaceNumbers.{system_ring_number}
-- the number of the usage cell of an area is the area's
pub use Rattle.dbtg_cells.proofs.PlaceNumbers.{usage_number}
-- some element of a mapped list passes where some element of the list, mapped, does
pub use Rattle.dbtg_cells.proofs.PlainLists.{any_map}
-- where both are the same, the test does not matter
pub use Rattle.dbtg_cells.proofs.PlainLists.{either_way}
-- what follows a list is at the index of its length
pub use Rattle.dbtg_cells.proofs.PlainLists.{get_behind}
-- what stands at another index than was written stays
pub use Rattle.dbtg_cells.proofs.PlainLists.{get_set_other}
-- what was written at an index is there
pub use Rattle.dbtg_cells.proofs.PlainLists.{get_set_same}
-- an index at which a list has something is below its length
pub use Rattle.dbtg_cells.proofs.PlainLists.{index_within}
-- one is put before another: there is one more
pub use Rattle.dbtg_cells.proofs.PlainLists.{length_before}
-- a mapped list turned round
pub use Rattle.dbtg_cells.proofs.PlainLists.{map_reverse}
-- what is made of what is made
pub use Rattle.dbtg_cells.proofs.PlainLists.{map_twice}
-- where all pass, the one at an index does
pub use Rattle.dbtg_cells.proofs.PlainLists.{passes_at}
-- a list with one more at its end, turned round
pub use Rattle.dbtg_cells.proofs.PlainLists.{reverse_more}
-- two tests are the same where each passes with the other
pub use Rattle.dbtg_cells.proofs.PlainLists.{same_truth}
-- a list has something at each index below its length
pub use Rattle.dbtg_cells.proofs.PlainLists.{there_is}
-- anything follows if false is true
pub use Rattle.dbtg_cells.proofs.Rising.{nothing}
