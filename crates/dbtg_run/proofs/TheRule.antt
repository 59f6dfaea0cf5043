-- The rule of the table is kept by each step on a word, by seats that are cut and joined, and at the start.
-- May use: the machine of dbtg_step, and the table.
-- Promises: what the plays of `src/plays.rt` need: each step is allowed, and what its seat then knows.
pub mod Alone
pub mod Areas
pub mod Base
pub mod CellSteps
pub mod Ends
pub mod Facts
pub mod History
pub mod Machines
pub mod Moves
pub mod Opens
pub mod Rested
pub mod Steps
pub mod Tickets
