-- The first half of this crate: what a sequential network database is. Its state, what each statement does to it, and the laws that
-- follow. Nothing here knows of held cells: a reader who wants to judge the behaviour of statements needs this half alone.
-- May use: the crates below.
-- Promises: `Effect.effect` is what a statement does; `Legal.Legal` is what every database satisfies.
pub mod Laws
pub mod State
pub mod Statements
