-- The worked rows: what counts of programs, orders, which comes first, who waits, what fails, what breaks a wish.
-- May use: all definitions; no lemma.
-- Promises: each row is a theorem that computes.
pub mod Counted
pub mod Kept
pub mod Orders
pub mod Wishes
