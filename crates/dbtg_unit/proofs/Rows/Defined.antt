-- The worked rows of definitions that are not runs of statements, with the schemas that all rows use.
-- May use: all definitions; no lemma.
-- Promises: each row is a theorem that computes; the words and schemas here are those of all rows, in the crates above too.
pub mod CellsOfADatabase
pub mod CellsToTake
pub mod Fitting
pub mod GuessesAfter
pub mod Histories
pub mod ModesOfAreas
pub mod NamesOfCells
pub mod Orders
pub mod OwnSchemas
pub mod PlacesOfNewMembers
pub mod Schemas
