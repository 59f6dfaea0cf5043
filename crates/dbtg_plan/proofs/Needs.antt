-- What is needed next: the first cell that is not held, and guesses that are wrong.
-- May use: the names of held cells.
-- Promises: `next_need` names the first cell that is not held, and the owners whose guesses are wrong.
pub mod FoundByName
pub mod MissingCells
pub mod WrongGuesses
