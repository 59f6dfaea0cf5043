-- The core: the machine as it lies in memory, its parts, its steps and quits, its image; runs by moves and by turns; a database on which
-- statements are made whole; audits. Each definition is over those of `Machine`.
-- May use: the machine, and the held cells of dbtg_unit.
-- Promises: `Core` is a page that a caller can rely on; `CoreSteps`, `Runs`, `Serial`, `Turns`, `Audit` are what the calls
-- ensure.
pub mod Audit
pub mod Bare
pub mod Core
pub mod CoreSteps
pub mod Courses
pub mod Events
pub mod Newest
pub mod Openings
pub mod Parts
pub mod Positions
pub mod Reversible
pub mod Runs
pub mod Serial
pub mod Turns
pub mod Waiting
pub mod Whole
