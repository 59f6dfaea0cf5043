-- Plans in general, those of the current record, and those of the statements that change only the unit.
-- May use: the reading of held cells, and edits.
-- Promises: one lemma serves every statement about the current record, and one every plan that changes no cell.
pub mod EffectIsPlan
pub mod GetKeepFree
pub mod IsEffect
pub mod MadeAtOnce
pub mod ModifyHolds
pub mod OpenClose
pub mod PartByPart
pub mod RingEdits
pub mod SamePlan
pub mod StoreHolds
