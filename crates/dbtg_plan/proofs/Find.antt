-- FIND: what it finds from the held cells is what it finds in each database that agrees with them.
-- May use: `Needs`, and the reading of held cells.
-- Promises: `FindPlans`, on which the contract of `prepare` rests for FIND.
pub mod ChosenKeys
pub mod FindPlans
pub mod FindsTheSame
pub mod KeysInTurn
pub mod NumberedKeys
