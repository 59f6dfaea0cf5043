-- The network database is a sequential database for the machine: its statements are local, their areas and cells ascend and exist, and
-- needs come to an end.
-- May use: the lemmas that dbtg_unit passes on.
-- Promises: `NetworkFacts`: all that the machine asks of a sequential database; `TurnsBack`: needs come to an end.
pub mod Ascending
pub mod CellsExist
pub mod NameOrder
pub mod NeededCells
pub mod NeededCellsExist
pub mod NetworkFacts
pub mod NetworkNeeds
pub mod SameCells
pub mod StableCells
pub mod StatementsLocal
pub mod TakingOrder
pub mod TurnsBack
