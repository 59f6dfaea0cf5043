pub mod Turning
pub mod Together
pub mod FirstAndLast
pub mod Rows
