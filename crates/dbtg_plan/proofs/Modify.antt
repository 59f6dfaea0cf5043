-- MODIFY: what it reads, that its plan is its effect, and that it can be made.
-- May use: `Connect` and `Plans`.
-- Promises: `ModifyReady`: its plan is its effect, and can be made.
pub mod ModifyMaking
pub mod ModifyReading
pub mod ModifyReady
pub mod TwoTests
