-- The worked rows: lines of an exploration.
-- May use: all definitions; no lemma.
-- Promises: each row is a theorem that computes.
pub mod Lines
