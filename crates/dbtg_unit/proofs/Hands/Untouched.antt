-- A statement changes no cell but those that it needs: statement by statement, then where it is ready (`LocalReady`).
-- May use: `Records` and `Reading`.
-- Promises: the law that a ready statement changes only the cells that it holds, and that a plan that can be finished
-- makes it on every database to which they belong (`MadeOnEach`).
pub mod InTurn
pub mod LocalCells
pub mod LocalDelete
pub mod LocalInsert
pub mod LocalModify
pub mod LocalReady
pub mod LocalRemove
pub mod LocalStatements
pub mod LocalStore
pub mod MadeOnEach
