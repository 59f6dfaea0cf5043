-- The effect of a statement on the cells is its edits: statement by statement, then all (`EffectEdits`, `EveryEdit`).
-- May use: `Records`, and who is a member of what after a statement from `Legal`.
-- Promises: the law `effect_is_its_edits`.
pub mod DeleteCells
pub mod EditsInTurn
pub mod EffectEdits
pub mod EveryEdit
pub mod InsertCells
pub mod ManyEdits
pub mod ModifyCells
pub mod OneEntry
pub mod OneMembership
pub mod RangeMaps
pub mod RemoveCells
pub mod SortedPlaces
pub mod StoreCells
