-- The worked rows: how texts differ, which results are alike, how records are named, what a cell says, who has an area open.
-- May use: all definitions; no lemma.
-- Promises: each row is a theorem that computes.
pub mod Differences
pub mod Likes
pub mod Names
pub mod Said
pub mod Users
