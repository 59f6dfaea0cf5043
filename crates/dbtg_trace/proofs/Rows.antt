-- The worked rows: the parts of lines, their faults and what they say, on the shop with two units.
-- May use: all definitions; no lemma.
-- Promises: each row is a theorem that computes.
pub mod Halves
pub mod Said
pub mod FaultsFound
