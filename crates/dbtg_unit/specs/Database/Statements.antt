-- The statements: which ones a schema has, their checks in their order, what a FIND finds, what a DELETE takes, their effect, their statuses.
-- `Effect` begins with the checks of `Checks`, which ask through a `View`.
-- May use: the state.
-- Promises: every check of every statement is in `Checks`, every status in `Codes`, everything that a statement changes in
-- `Effect`.
pub mod Checks
pub mod Codes
pub mod Conditions
pub mod Doomed
pub mod Effect
pub mod Fits
pub mod Found
pub mod StoredFacts
