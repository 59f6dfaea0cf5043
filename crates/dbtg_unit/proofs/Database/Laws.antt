-- The other laws of statements and histories: answers, least sets, what only goes forward, placing, one more entry.
-- May use: `Lists`, `Records` and `Legal`.
-- Promises: a file for each of the other laws.
pub mod Answered
pub mod GoForward
pub mod LastGenerations
pub mod LeastSets
pub mod OneMoreEntry
pub mod PlacingOrder
pub mod UnitCount
