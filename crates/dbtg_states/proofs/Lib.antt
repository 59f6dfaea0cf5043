mod Naming
pub mod Ranges
mod Rows
pub mod States
