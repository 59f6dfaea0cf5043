-- A unit at work: what it needs, takes, prepares and draws, what it guesses, and the scripts that units make.
-- May use: `TheRule`, and what a statement needs and prepares.
-- Promises: a unit at work stays one; what it needs has a number; what is kept of its course stays right; the ticket makes its statement's effect.
pub mod Abreast
pub mod Commits
pub mod Courses
pub mod Made
pub mod Needing
pub mod Prepares
pub mod Rings
pub mod Runs
pub mod Uses
