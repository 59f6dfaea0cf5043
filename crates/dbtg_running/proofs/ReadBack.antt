-- What is printed of a run of programs as a trace is read back.
pub mod Words
pub mod Values
pub mod Sentences
pub mod Lines
pub mod Made
pub mod Runs
