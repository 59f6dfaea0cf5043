pub mod Parts
pub mod Answers
pub mod Faults
pub mod Traces
pub mod Reading
pub mod Printing
pub mod Laws
pub mod Inside
