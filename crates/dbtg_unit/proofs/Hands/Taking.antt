-- The areas and cells of a statement in the order of taking: they ascend, and each cell lies in an area of the statement.
-- May use: `Reading` and `Untouched`.
-- Promises: what a statement needs next is above what it took in turn, and lies in a held area (`NeedsInOrder`).
pub mod AreasOfCells
pub mod AreasOfDelete
pub mod CellsAscend
pub mod FoundKeys
pub mod KnownAreas
pub mod NeedsInOrder
pub mod SoundSchemas
