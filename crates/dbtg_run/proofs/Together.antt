-- Where all units have come together: one history has made them.
-- May use: `TheRule` and `Units`, and the audit of dbtg_step.
-- Promises: settling finds one history, with each unit's journal in it.
pub mod Closed
pub mod Joined
pub mod Merged
