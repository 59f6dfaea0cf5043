-- The hands themselves: names beside cells, their index, what is held while edits and room are made, guesses with true owners.
-- May use: `Lists`.
-- Promises: a held cell is found by its name, and what is held shows the same while room is made.
pub mod IndexOfNames
pub mod NamesAndCells
pub mod NumberedNames
pub mod RoomMade
pub mod TrueOwners
pub mod WhileEditing
