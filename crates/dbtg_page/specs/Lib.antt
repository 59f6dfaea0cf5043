pub mod Changes
pub mod Inside
pub mod Json
pub mod Rows
