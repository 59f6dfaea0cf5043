-- The worked rows: programs by turns on the sequential database.
-- May use: all definitions; no lemma.
-- Promises: each row is a theorem that computes.
pub mod Alternately
pub mod FirstLast
pub mod Printed
