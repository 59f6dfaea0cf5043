-- Runs of the machine: what holds after every list of moves, why units are never stuck, one unit after another.
-- May use: `EachEvent`.
-- Promises: `Headlines`, `EveryRun`, `Waiting` and `Serials`, on which the laws of `src/laws.rt` rest.
pub mod Chains
pub mod EveryRun
pub mod GuessesFit
pub mod Headlines
pub mod Histories
pub mod Opening
pub mod Ordered
pub mod Renewed
pub mod Serials
pub mod Waiting
