-- The machine of events over any sequential database: its states, its steps, what holds of every state that is reached, what a run of
-- moves gives; and the network database as one such database. The machine knows nothing of memory, tables or runners.
-- May use: the definitions of dbtg_unit, in `Network` alone.
-- Promises: `Headline` says what a run comes to, `Lawful` what holds of every state, `NeverStuck` why some unit can always go
-- on.
pub mod EventCount
pub mod Headline
pub mod Lawful
pub mod Machine
pub mod NeedOrder
pub mod Network
pub mod NeverStuck
pub mod SequentialDatabase
pub mod Step
pub mod TurningBack
