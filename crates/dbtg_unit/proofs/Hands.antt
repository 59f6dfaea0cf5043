-- Lemmas on what a statement holds, the second half of the crate.
-- May use: the lemmas on the first half, and `Lists`.
pub mod Changes
pub mod Holding
pub mod Reading
pub mod Taking
pub mod Untouched
