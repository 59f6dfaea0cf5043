-- The worked rows: what is shown of programs.
-- May use: all definitions; no lemma.
-- Promises: each row is a theorem that computes.
pub mod Echoed
