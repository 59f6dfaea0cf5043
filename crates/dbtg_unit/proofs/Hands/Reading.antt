-- What is read from the held cells is true in each database that agrees with them.
-- May use: `Records`.
-- Promises: `InHand` answers as the database does; hands that show the same serve alike; one plan has one outcome.
pub mod AsTheDatabase
pub mod ExtentInHand
pub mod NextVersions
pub mod OnePlan
pub mod ReadingCells
pub mod ReadyParts
pub mod SameHands
