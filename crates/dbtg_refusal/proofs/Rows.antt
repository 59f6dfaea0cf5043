-- Worked rows: statements, and what is in the way of the last one.
pub mod Words
pub mod Refused
pub mod Told
