-- Lemmas on the sequential database, the first half of the crate. They cite nothing about held cells.
-- May use: `Lists` and the first half's definitions.
pub mod FindChecks
pub mod Laws
pub mod Legal
pub mod Records
