-- STORE: its plan is its effect, and can be made.
-- May use: `Connect`, for the places in its sets.
-- Promises: `StoreIsEffect`: its plan is its effect; `StoreFinish`: it can be made; `StoreAtOnce`: so it is without the plan.
pub mod NumberSteps
pub mod SetSteps
pub mod StoreAtOnce
pub mod StoreFinish
pub mod StoreIsEffect
pub mod StoreMaking
pub mod StoreSteps
